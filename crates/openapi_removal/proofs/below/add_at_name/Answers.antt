use Rattle.std.proofs.Common.{[], ◌∷◌, ◌++◌, nat_cmp, ap, ◌∙◌}
use Rattle.std.proofs.lemmas.List.{map-append}
use Rattle.std.proofs.lemmas.Map.Text.{btree_map_updates_str}
use Rattle.std.specs.BTreeMap.{get_by}
use Rattle.std.specs.Cmp.Lexicographic.{slice_cmp}
use Rattle.std.specs.Option.{option_map_or}
use Rattle.openapi_removal.specs.Below.{grouped, place_of, places_of}
use Rattle.openapi_removal.proofs.Grouping.{grown_at_name, or_empty}
use Rattle.openapi_removal.proofs.below.add_at_name.Goals as goal

pub returns : goal.returns
returns c =
    let old = c.args.groups.now in
    let less = c.remove.new.self in
    let more = c.insert.new.self in
    let name = c.args.name.now in
    let group = ap grouped c.unwrap_or-group.ensures ∙ or_empty c.remove.result c.new.result c.new.ensures.items
    ∙ ap (λ o. option_map_or grouped o []) c.remove.ensures.value in
    grown_at_name grouped (λ ds. get_by (λ k. slice_cmp nat_cmp ds k.now) old) (λ ds. get_by (λ k. slice_cmp nat_cmp ds k.now) less)
    (λ ds. get_by (λ k. slice_cmp nat_cmp ds k.now) more) name c.push.new.self (place_of c.args.place)
    (btree_map_updates_str name old less _ c.remove.ensures.updates)
    (btree_map_updates_str name less more _ c.in_ok-insert.ensures.updates)
    (ap places_of c.in_ok-push.ensures.items ∙ map-append place_of c.unwrap_or-group.result.items (c.args.place ∷ [])
    ∙ ap (λ qs. qs ++ place_of c.args.place ∷ []) group)

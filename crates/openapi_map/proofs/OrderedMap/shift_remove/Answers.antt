use Rattle.std.proofs.Common.{◌≡◌, sym, ap, subst, ◌∙◌}
use Rattle.std.specs.Str.{bytes_eq}
use Rattle.indexmap.proofs.MapLemmas.{Found-position}
use Rattle.openapi_map.specs.Entries.{get, remove_entry, HasDistinctNames}
use Rattle.openapi_map.specs.Held.{kept}
use Rattle.openapi_map.proofs.EntryLemmas.{found-within, get-missing}
use Rattle.openapi_map.proofs.RemoveLemmas.{entry-gone, distinct-gone, none-gone}
use Rattle.openapi_map.proofs.OrderedMap.shift_remove.Goals as goal

pub returns-in_err-place-clause-old : goal.returns-in_err-place-clause-old
returns-in_err-place-clause-old g c =
    let name = c.args.name.now in
    let es = kept c.self.inside.held in
    c.from_residual.ensures ∙ get-missing name es (sym c.in_err-place.was ∙ c.place_in.ensures)
    ∙ ap (get name) c.self.view_is

pub returns-in_err-place-clause-entries : goal.returns-in_err-place-clause-entries
returns-in_err-place-clause-entries g c =
    let name = c.args.name.now in
    let es = kept c.self.inside.held in
    subst (λ es. es ≡ remove_entry name es) c.self.view_is
    (none-gone name es (get-missing name es (sym c.in_err-place.was ∙ c.place_in.ensures)))

pub remove_kept-requires-clause-within : goal.remove_kept-requires-clause-within
remove_kept-requires-clause-within g c =
    found-within c.args.name.now (kept c.self.inside.held) c.in_ok-place.place (sym c.in_ok-place.was ∙ c.place_in.ensures)

pub invariant_of-self : goal.invariant_of-self
invariant_of-self g c =
    let es = kept c.self.inside.held in
    let at = sym c.in_ok-place.was ∙ c.place_in.ensures in (
      subst HasDistinctNames (sym c.remove_kept.ensures.entries)
          (distinct-gone c.args.name.now es c.in_ok-place.place at c.self.invariant.0),
      c.remove_kept.ensures.consistent,
    )

pub returns-clause-old : goal.returns-clause-old
returns-clause-old g c =
    let es = kept c.self.inside.held in
    let name = c.args.name.now in
    let at = sym c.in_ok-place.was ∙ c.place_in.ensures in
    sym ((Found-position (bytes_eq name) es c.in_ok-place.place (sym at)).value ∙ c.remove_kept.ensures.value)
    ∙ ap (get name) c.self.view_is

pub returns-clause-entries : goal.returns-clause-entries
returns-clause-entries g c =
    let es = kept c.self.inside.held in
    let name = c.args.name.now in
    let at = sym c.in_ok-place.was ∙ c.place_in.ensures in
    c.remove_kept.ensures.entries ∙ entry-gone name es c.in_ok-place.place at ∙ ap (remove_entry name) c.self.view_is

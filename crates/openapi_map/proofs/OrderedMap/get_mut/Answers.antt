use Rattle.std.proofs.Common.{◌≡◌, position, Some, sym, ap, ◌∙◌, refl}
use Rattle.std.specs.Map.{keys_of}
use Rattle.std.specs.Str.{bytes_eq}
use mathlib.Core.Logic.{inl}
use Rattle.indexmap.proofs.MapLemmas.{Found-position}
use Rattle.openapi_map.specs.Entries.{get}
use Rattle.openapi_map.specs.Held.{kept}
use Rattle.openapi_map.proofs.EntryLemmas.{get-missing, insert-found}
use Rattle.openapi_map.proofs.OrderedMap.get_mut.Goals as goal

pub returns-in-Some : goal.returns-in-Some
returns-in-Some g c =
    let m = c.args.self.now in
    let name = c.args.name.now in
    let i = c.in-Some.place in
    let at : Some i ≡ position (bytes_eq name) (keys_of m) =
    c.in-Some.ensures ∙ ap (λ es. position (bytes_eq name) (keys_of es)) c.self.view_is in (
      λ j. inl (c.value_at.result.ghost_name, λ w. insert-found name m i w at j),
      sym ((Found-position (bytes_eq name) m i (sym at)).value ∙ c.value_at.ensures.value),
    )

pub returns-in-None : goal.returns-in-None
returns-in-None g c =
    let name = c.args.name.now in (
      refl,
      get-missing name (kept c.self.inside.held) c.in-None.ensures ∙ ap (get name) c.self.view_is,
    )

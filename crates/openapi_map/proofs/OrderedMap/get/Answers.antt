use Rattle.std.proofs.Common.{◌<◌, Some, slice_index_or, length, sym, ap, ◌∙◌, arith}
use Rattle.std.specs.Map.{values_of}
use Rattle.std.specs.Str.{bytes_eq}
use Rattle.indexmap.proofs.MapLemmas.{Found-position}
use Rattle.openapi_map.specs.Entries.{get}
use Rattle.openapi_map.specs.Held.{kept}
use Rattle.openapi_map.proofs.EntryLemmas.{found-within, get-missing}
use Rattle.openapi_map.proofs.ZipLemmas.{length-values_of, slice_get-at}
use Rattle.openapi_map.proofs.OrderedMap.get.Goals as goal

pub offset_bounds-kept_values-place : goal.offset_bounds-kept_values-place
offset_bounds-kept_values-place g c =
    let es = kept c.self.inside.held in
    omega (
      arith,
      found-within c.args.name.now es c.in-Some.place c.in-Some.ensures,
      ap length c.kept_values.ensures,
      length-values_of es,
    )

pub bounds-kept_values-place : goal.bounds-kept_values-place
bounds-kept_values-place g c =
    let es = kept c.self.inside.held in
    omega (
      arith,
      found-within c.args.name.now es c.in-Some.place c.in-Some.ensures,
      ap length c.kept_values.ensures,
      length-values_of es,
    )

pub returns-in-Some : goal.returns-in-Some
returns-in-Some g c =
    let es = kept c.self.inside.held in
    let name = c.args.name.now in
    let i = c.in-Some.place in
    let v = c.index-kept_values-place.result in
    let within : i < length (values_of es) = omega (arith, found-within name es i c.in-Some.ensures, length-values_of es) in
    ap Some c.index-kept_values-place.is ∙ ap (λ vs. Some (slice_index_or vs i v)) c.kept_values.ensures
    ∙ sym ((Found-position (bytes_eq name) es i (sym c.in-Some.ensures)).value ∙ slice_get-at (values_of es) i v within)
    ∙ ap (get name) c.self.view_is

pub returns-in-None : goal.returns-in-None
returns-in-None g c =
    get-missing c.args.name.now (kept c.self.inside.held) c.in-None.ensures ∙ ap (get c.args.name.now) c.self.view_is

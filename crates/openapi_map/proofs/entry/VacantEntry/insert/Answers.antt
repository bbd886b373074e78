use Rattle.std.proofs.Common.{slice_get, string_bytes, sym, ◌∙◌}
use Rattle.std.proofs.lemmas.Option.{same_Some}
use Rattle.std.specs.Map.{values_of}
use mathlib.Core.Logic.{inl}
use Rattle.indexmap.specs.IndexMap.{set_value_at}
use Rattle.openapi_map.proofs.PlaceLemmas.{value-last, write-last}
use Rattle.openapi_map.proofs.entry.VacantEntry.insert.Goals as goal

pub returns : goal.returns
returns g c =
    let e = c.args.self in
    let m = e.map.now in
    let name = string_bytes e.name in
    let pushed = c.in_ok-push_new.ensures.entries in
    let last = c.len-place.ensures.len in (
      λ j. inl (
        c.value_at.result.ghost_name,
        λ w. ((λ i. set_value_at (pushed i) (last i) w) ∙ write-last m name c.args.value w e.absent) j,
      ),
      record {
        writes_back = tt;
        value = same_Some _ _
            (sym c.value_at.ensures.value ∙ (λ i. slice_get (values_of (pushed i)) (last i)) ∙ value-last m name c.args.value);
      },
    )

use Rattle.std.proofs.Common.{◌<◌, [], slice_get, Some, length, string_bytes, sym, ap, ◌∙◌, arith}
use Rattle.openapi_map.specs.Entries.{names_of}
use Rattle.openapi_map.specs.Former.{length-names_of}
use Rattle.openapi_map.specs.Held.{kept}
use Rattle.openapi_map.proofs.EntryLemmas.{name-get_or, even-columns, entries-columns}
use Rattle.openapi_map.proofs.ZipLemmas.{length-keys_of, slice_get-zip}
use Rattle.openapi_map.proofs.OrderedMap.entry_at.Goals as goal

pub offset_bounds-kept_names-index : goal.offset_bounds-kept_names-index
offset_bounds-kept_names-index g c =
    let names = c.kept_names.result.now in
    let within : c.args.index < length names =
    omega (
      arith,
      c.requires,
      ap length c.self.view_is,
      length-names_of names,
      ap length c.kept_names.ensures,
      length-keys_of (kept c.self.inside.held),
    ) in
    omega (arith, within, c.kept_names.type_inv)

pub bounds-kept_names-index : goal.bounds-kept_names-index
bounds-kept_names-index g c =
    omega (
      arith,
      c.requires,
      ap length c.self.view_is,
      length-names_of c.kept_names.result.now,
      ap length c.kept_names.ensures,
      length-keys_of (kept c.self.inside.held),
    )

pub returns : goal.returns
returns g c =
    let es = kept c.self.inside.held in
    let i = c.args.index in
    let names = c.kept_names.result.now in
    let values = c.kept_values.result.now in
    let n = c.index-kept_names-index.result in
    let v = c.index-kept_values-index.result in
    let even = even-columns names values es c.kept_names.ensures c.kept_values.ensures in
    let within : i < length names =
    omega (
      arith,
      c.requires,
      ap length c.self.view_is,
      length-names_of names,
      ap length c.kept_names.ensures,
      length-keys_of es,
    ) in
    let within_bytes : i < length (names_of names) = omega (arith, within, length-names_of names) in
    let name = name-get_or names i n within ∙ ap string_bytes (sym c.index-kept_names-index.is)
    ∙ sym c.as_str-name.ensures.value in
    ap (λ m. slice_get m i) (sym (entries-columns names values es c.kept_names.ensures c.kept_values.ensures ∙ c.self.view_is))
    ∙ slice_get-zip (names_of names) values i [] v (even ∙ sym (length-names_of names)) within_bytes
    ∙ (λ j. Some (name j, sym c.index-kept_values-index.is j))

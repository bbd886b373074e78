use Rattle.std.proofs.Common.{None, string_bytes, is_some, sym, ap, ◌∙◌}
use Rattle.std.specs.Str.{bytes_eq}
use Rattle.indexmap.proofs.MapLemmas.{some_index}
use Rattle.openapi_map.specs.Held.{kept}
use Rattle.openapi_map.proofs.EntryLemmas.{at_bytes, get-missing}
use Rattle.openapi_map.proofs.OrderedMap.entry.Goals as goal

pub returns-in-Some-clause-occupied : goal.returns-in-Some-clause-occupied
returns-in-Some-clause-occupied g c =
    let m = c.args.self.now in
    let name = string_bytes c.args.name in
    let at = at_bytes (kept c.self.inside.held) m c.self.view_is _ _ name c.in-Some.ensures c.as_str.ensures.value in
    ap is_some at ∙ some_index (bytes_eq name) m

pub invariant_of-result-in-None : goal.invariant_of-result-in-None
invariant_of-result-in-None g c =
    let m = c.args.self.now in
    let name = string_bytes c.args.name in
    let none = at_bytes (kept c.self.inside.held) m c.self.view_is None _ name c.in-None.ensures c.as_str.ensures.value in
    record { absent = sym (get-missing name m none) }

use Rattle.std.proofs.Common.{string_bytes, sym, ap, subst, ◌∙◌}
use Rattle.openapi_map.specs.Entries.{get, HasDistinctNames}
use Rattle.openapi_map.specs.Held.{kept}
use Rattle.openapi_map.proofs.IndexLemmas.{distinct-names}
use Rattle.openapi_map.proofs.OrderedMap.push_new.Goals as goal

pub invariant_of-self-2 : goal.invariant_of-self-2
invariant_of-self-2 g c =
    let es = kept c.self.inside.held in
    let name = string_bytes c.args.name in
    let absent = ap (get name) c.self.view_is ∙ c.requires in (
      subst HasDistinctNames (sym c.in_ok-push_kept.ensures.entries)
          (distinct-names name es c.args.value c.self.invariant.0 absent),
      c.in_ok-push_kept.ensures.consistent,
    )

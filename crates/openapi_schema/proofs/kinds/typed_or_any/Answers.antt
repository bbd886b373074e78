use Rattle.std.proofs.Common.{◌∙◌}
use Rattle.openapi_schema.proofs.KindTests.{entries_held, is_enumeration, passes_by, fails_by}
use Rattle.openapi_schema.proofs.kinds.typed_or_any.Goals as goal

pub kind-requires : goal.kind-requires
kind-requires g c =
    is_enumeration g.T.Entry.tree_in c.in-Some.enumeration c.args.names
    (rw c.in-Some.is at (c.in_ok-enumeration.ensures {u = tt}).reads).1

pub returns-in-Some-clause-reads : goal.returns-in-Some-clause-reads
returns-in-Some-clause-reads g c =
    passes_by g.T.TypedEntry.sort c.args.names c.kind.result
    (λ ms rows. g.met.T.TypedEntry.asks ms
    ∙ entries_held c.args.names ms rows g.T.Entry.test
    ∙ (rw c.in-Some.is at (c.in_ok-enumeration.ensures {u = tt}).reads).0) c.kind.ensures

pub returns-in-None-clause-reads : goal.returns-in-None-clause-reads
returns-in-None-clause-reads g c =
    fails_by g.T.TypedEntry.sort c.args.names c.any_kind.result
    (λ ms rows. g.met.T.TypedEntry.asks ms
    ∙ entries_held c.args.names ms rows g.T.Entry.test
    ∙ (rw c.in-None.is at (c.in_ok-enumeration.ensures {u = tt}).reads)) c.any_kind.ensures.ok

use Rattle.openapi_fields.proofs.Taking.{TakenSoFar}
use Rattle.openapi_fields.proofs.entries.read_entries.Given as goal

abbrev pub invariant-loop-i : goal.invariant-loop-i
invariant-loop-i g l = TakenSoFar g.N.Names.test g.T.FromNode.form_of g.T.FromNode.kind l.members l.initial.steps l.i l.values l.steps

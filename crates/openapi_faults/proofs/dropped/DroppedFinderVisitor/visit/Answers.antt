use Rattle.std.proofs.Common.{is_some, ap, ◌∙◌}
use Rattle.openapi_node.specs.View.{shown}
use Rattle.openapi_faults.specs.Meaning.{kind_of}
use Rattle.openapi_faults.specs.Walk.{reference_text}
use Rattle.openapi_faults.proofs.Dropping.{is_some-copied}
use Rattle.openapi_faults.proofs.dropped.DroppedFinderVisitor.visit.Goals as goal

pub report_all-requires : goal.report_all-requires
report_all-requires c =
    c.is_some.ensures ∙ is_some-copied c.args.reference ∙ ap is_some c.requires
    ∙ ap (λ v. is_some (reference_text (kind_of c.args.kind) (shown v))) c.in-Object.is

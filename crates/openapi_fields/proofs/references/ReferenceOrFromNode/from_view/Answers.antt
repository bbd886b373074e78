use Rattle.std.proofs.Common.{string_bytes, sym}
use Rattle.openapi_node.specs.View.{shown}
use Rattle.openapi_fields.proofs.Referring.{reads_reference, reads_item, fails_item}
use Rattle.openapi_fields.proofs.references.ReferenceOrFromNode.from_view.Goals as goal

pub returns-in-Some-clause-reads : goal.returns-in-Some-clause-reads
returns-in-Some-clause-reads g c =
    reads_reference g.T.FromNode.kind g.T.FromNode.form_of (shown c.args.view.now)
    (string_bytes c.in-Some.reference) (sym (rw c.in-Some.is at c.in-Ok.ensures.reads))

pub returns-in-Ok-from_view-clause-reads : goal.returns-in-Ok-from_view-clause-reads
returns-in-Ok-from_view-clause-reads g c =
    reads_item g.T.FromNode.kind g.T.FromNode.form_of (shown c.args.view.now) c.in-Ok-from_view.item
    (sym (rw c.in-None.is at c.in-Ok.ensures.reads)) c.in-Ok-from_view.ensures.reads

pub returns-in-Err-from_view-clause-reads : goal.returns-in-Err-from_view-clause-reads
returns-in-Err-from_view-clause-reads g c =
    fails_item g.T.FromNode.kind g.T.FromNode.form_of (shown c.args.view.now) c.in-Err-from_view.fault
    (sym (rw c.in-None.is at c.in-Ok.ensures.reads)) c.in-Err-from_view.ensures.reads

use Rattle.openapi_fields.proofs.Below.{copied}
use Rattle.openapi_fields.proofs.scalars.NodeFromNode.from_view.Goals as goal

pub returns-clause-reads : goal.returns-clause-reads
returns-clause-reads c = copied c.args.view.now c.copy_shown.result c.copy_shown.ensures.ok c.copy_shown.ensures.memory

use Rattle.openapi_schema.proofs.WrittenForms.{alone_loses}
use Rattle.openapi_schema.proofs.to_node.SchemaKindToNode.to_node.Goals as goal

pub returns-in-Err : goal.returns-in-Err
returns-in-Err c = record { written = alone_loses c.args.self.now c.in-Err.fault c.in-Err.ensures }

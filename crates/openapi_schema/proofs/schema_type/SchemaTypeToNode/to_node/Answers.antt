use Rattle.openapi_schema.proofs.TypeLaws.{type_loses}
use Rattle.openapi_schema.proofs.schema_type.SchemaTypeToNode.to_node.Goals as goal

pub returns-in-Err : goal.returns-in-Err
returns-in-Err c = record { written = type_loses c.args.self.now c.in-Err.fault c.in-Err.ensures }

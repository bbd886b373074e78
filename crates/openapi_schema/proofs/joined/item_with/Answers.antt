use Rattle.openapi_node.specs.Tree.{members_of, object}
use Rattle.openapi_tables.specs.Kind.{a_schema}
use Rattle.openapi_schema.specs.SchemaForms.{schema_form}
use Rattle.openapi_schema.proofs.joined.item_with.Goals as goal

pub returns-clause-reads : goal.returns-clause-reads
returns-clause-reads c = λ kind none.
    c.as_item.ensures schema_form a_schema (object (members_of c.args.members.now)) none (c.schema_with.ensures.reads kind)

use Rattle.std.proofs.Common.{arith}
use Rattle.openapi_node.specs.Tree.{members_of}
use Rattle.openapi_node.specs.View.{shown}
use Rattle.openapi_node.specs.declared.fault.Expected.TheVariants as words
use Rattle.openapi_tables.specs.Kind.{a_schema}
use Rattle.openapi_fields.proofs.Below.{wrong_view}
use Rattle.openapi_schema.proofs.KindGives.{schema_weight-le}
use Rattle.openapi_schema.proofs.Refusals.{not_schema}
use Rattle.openapi_schema.proofs.from_node.SchemaFromNode.from_view.Goals as goal

pub returns-in-Object-clause-reads : goal.returns-in-Object-clause-reads
returns-in-Object-clause-reads c = rw c.in-Object.is (c.schema_with.ensures.reads c.read_kind.ensures.reads)

pub returns-in-Object-clause-count : goal.returns-in-Object-clause-count
returns-in-Object-clause-count c =
    rw c.in-Object.is ((
      omega (arith, c.read_kind.ensures.count.0, c.schema_with.ensures.count.0),
      omega (
        arith,
        schema_weight-le (members_of c.in-Object.members.now),
        c.read_kind.ensures.count.1,
        c.schema_with.ensures.count.1,
      ),
    ))

pub returns-in_default : goal.returns-in_default
returns-in_default c =
    wrong_view c.new.result words.Object a_schema (shown c.args.view.now) _ c.new.ensures.place
    c.new.ensures.cause (not_schema c.args.view.now c.in_default.not-Object)

use Rattle.std.proofs.Common.{arith}
use Rattle.openapi_node.specs.View.{shown}
use Rattle.openapi_node.specs.declared.fault.Expected.TheVariants as words
use Rattle.openapi_node.specs.Tree.{members_of}
use Rattle.openapi_tables.specs.Kind.{a_schema_kind}
use Rattle.openapi_fields.proofs.Below.{wrong_view}
use Rattle.openapi_schema.proofs.KindGives.{schema_weight-le}
use Rattle.openapi_schema.proofs.Refusals.{not_schema_kind}
use Rattle.openapi_schema.proofs.SchemaReads.{kind_given}
use Rattle.openapi_schema.proofs.from_node.SchemaKindFromNode.from_view.Goals as goal

pub returns-in-Object-clause-reads : goal.returns-in-Object-clause-reads
returns-in-Object-clause-reads c =
    rw c.in-Object.is (kind_given c.read_kind.result (members_of c.in-Object.members.now) c.read_kind.ensures.reads)

pub returns-in-Object-clause-count : goal.returns-in-Object-clause-count
returns-in-Object-clause-count c =
    rw c.in-Object.is ((omega (arith, c.read_kind.ensures.count.0), omega (arith, c.read_kind.ensures.count.1, schema_weight-le (members_of c.in-Object.members.now))))

pub returns-in_default : goal.returns-in_default
returns-in_default c =
    wrong_view c.new.result words.Object a_schema_kind (shown c.args.view.now) _ c.new.ensures.place
    c.new.ensures.cause (not_schema_kind c.args.view.now c.in_default.not-Object)

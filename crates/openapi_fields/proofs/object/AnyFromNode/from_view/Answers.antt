use Rattle.std.proofs.Common.{arith}
use Rattle.openapi_node.specs.Tree.{members_of}
use Rattle.openapi_node.specs.View.{shown}
use Rattle.openapi_node.specs.declared.fault.Expected.TheVariants as words
use Rattle.openapi_tables.specs.Kind.{by}
use Rattle.openapi_fields.proofs.Below.{wrong_view, not_object}
use Rattle.openapi_fields.proofs.Records.{record_gives, record_weight}
use Rattle.openapi_fields.proofs.object.AnyFromNode.from_view.Goals as goal

pub returns-in-Object-clause-reads : goal.returns-in-Object-clause-reads
returns-in-Object-clause-reads g c =
    rw c.in-Object.is (record_gives g.T.Object.rows_of c.from_members.result g.T.Object.table
    (members_of c.in-Object.members.now) c.from_members.ensures.reads)

pub returns-in-Object-clause-count : goal.returns-in-Object-clause-count
returns-in-Object-clause-count g c =
    rw c.in-Object.is ((
      omega (arith, c.from_members.ensures.rises),
      omega (
        arith,
        c.from_members.ensures.count,
        record_weight g.T.Object.table (members_of c.in-Object.members.now),
      ),
    ))

pub returns-in_default : goal.returns-in_default
returns-in_default g c =
    wrong_view c.new.result words.Object (by g.T.Object.table) (shown c.args.view.now) _ c.new.ensures.place
    c.new.ensures.cause (not_object g.T.Object.table c.args.view.now c.in_default.not-Object)

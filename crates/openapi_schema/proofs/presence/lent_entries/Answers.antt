use Rattle.std.proofs.Common.{List, codes, refl, arith}
use Rattle.std.specs.Borrow.{Bor}
use Rattle.openapi_node.specs.Tree.{Tree, members_of}
use Rattle.openapi_node.specs.View.{shown}
use Rattle.openapi_tables.specs.Prelude.{a_schema_kind, any_tree, list_of, optional, row, any_rows, checked_rows}
use Rattle.openapi_tables.specs.Prelude.{row_weight}
use Rattle.openapi_fields.proofs.Below.{size-positive}
use Rattle.openapi_fields.proofs.RowReading.{weight_of_name}
use Rattle.openapi_schema.specs.KindNames.{trees_form}
use Rattle.openapi_fields.proofs.PresentRows.{row_gone, row_read}
use Rattle.openapi_schema.proofs.LentEntries.{entries_left}
use Rattle.openapi_schema.proofs.presence.lent_entries.Goals as goal

pub returns-in-None-clause-reads : goal.returns-in-None-clause-reads
unfolding checked_rows any_rows
returns-in-None-clause-reads c =
    row_gone (λ (nodes : Bor (List Tree)). trees_form nodes.now) a_schema_kind (codes "enum") (list_of any_tree) (members_of c.args.members.now) refl
    c.in-None.ensures.is

pub returns-in-None-clause-count : goal.returns-in-None-clause-count
returns-in-None-clause-count c = (
  c.in-None.ensures.rises,
  omega (
    arith,
    c.in-None.ensures.counted,
    weight_of_name (codes "enum") optional optional (list_of any_tree) any_tree (members_of c.args.members.now),
  ),
)

pub returns-in-None-clause-left : goal.returns-in-None-clause-left
returns-in-None-clause-left c =
    omega (
      arith,
      c.in-None.ensures.counted,
      weight_of_name (codes "enum") optional optional (list_of any_tree) any_tree (members_of c.args.members.now),
    )

pub returns-in-Some-clause-reads : goal.returns-in-Some-clause-reads
unfolding checked_rows any_rows
returns-in-Some-clause-reads c =
    row_read (λ (nodes : Bor (List Tree)). trees_form nodes.now) a_schema_kind (codes "enum") (list_of any_tree) (members_of c.args.members.now) refl
    (shown c.in-Some.view) c.elements.result c.as_member.result c.in-Some.ensures.is c.as_member.ensures
    c.elements.ensures.reads

pub returns-in-Some-clause-count : goal.returns-in-Some-clause-count
returns-in-Some-clause-count c = (
  omega (arith, c.in-Some.ensures.counted),
  omega (
    arith,
    c.in-Some.ensures.counted,
    c.in-Some.ensures.weighs,
    size-positive (shown c.in-Some.view),
    weight_of_name (codes "enum") optional optional (list_of any_tree) any_tree (members_of c.args.members.now),
  ),
)

pub returns-in-Some-clause-left : goal.returns-in-Some-clause-left
returns-in-Some-clause-left c =
    let ms = members_of c.args.members.now in
    entries_left (codes "enum") c.elements.result c.as_member.result (shown c.in-Some.view)
    (row_weight (row (codes "enum") optional (list_of any_tree)) ms) c.args.steps.now c.present_view.new.steps
    c.as_member.ensures c.elements.ensures.within c.in-Some.ensures.counted
    (omega (
      arith,
      c.in-Some.ensures.weighs,
      weight_of_name (codes "enum") optional optional (list_of any_tree) any_tree ms,
    ))

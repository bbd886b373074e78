use Rattle.std.proofs.Common.{arith}
use Rattle.openapi_node.specs.View.{shown}
use Rattle.openapi_node.specs.declared.fault.Expected.TheVariants as words
use Rattle.openapi_tables.specs.Kind.{any_tree, list_of}
use Rattle.openapi_fields.proofs.Below.{wrong_here, not_list}
use Rattle.openapi_schema.proofs.LentEntries.{trees_read}
use Rattle.openapi_schema.proofs.presence.elements.Goals as goal

pub returns-in-List-clause-reads : goal.returns-in-List-clause-reads
returns-in-List-clause-reads c = rw c.in-List.is (trees_read c.in-List.nodes.now)

pub returns-in-List-clause-within : goal.returns-in-List-clause-within
returns-in-List-clause-within c = rw c.in-List.is (omega arith)

pub returns-in_default-clause-reads : goal.returns-in_default-clause-reads
returns-in_default-clause-reads c =
    wrong_here c.new.result words.List (list_of any_tree) (shown c.args.view.now) c.new.ensures.place
    c.new.ensures.cause (not_list any_tree c.args.view.now c.in_default.not-List)

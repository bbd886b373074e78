use Rattle.std.proofs.Common.{sym}
use Rattle.openapi_node.specs.View.{shown}
use Rattle.openapi_node.specs.declared.fault.Expected.TheVariants as expected
use Rattle.openapi_tables.specs.Kind.{one_of}
use Rattle.openapi_fields.proofs.Below.{wrong_here}
use Rattle.openapi_fields.proofs.Leaves.{not_word, no_word}
use Rattle.openapi_fields.proofs.words.read_word.Goals as goal

pub returns-in-None : goal.returns-in-None
returns-in-None g c =
    rw c.in-Text.is (no_word c.new.result g.T.Word.words c.in-Text.text.now c.new.ensures.place c.new.ensures.cause
    (sym (c.in-None.ensures.found)))

pub returns-in_default : goal.returns-in_default
returns-in_default g c =
    wrong_here c.new-in_default.result expected.Text (one_of g.T.Word.words) (shown c.args.view.now)
    c.new-in_default.ensures.place c.new-in_default.ensures.cause
    (not_word g.T.Word.words c.args.view.now c.in_default.not-Text)

use Rattle.std.proofs.Common.{sym, ◌∙◌, subst, arith}
use Rattle.openapi_node.specs.Place.{named}
use Rattle.openapi_node.specs.Tree.{object, members_of}
use Rattle.openapi_node.specs.View.{shown}
use Rattle.openapi_node.specs.declared.fault.Cause.TheVariants.{Missing}
use Rattle.openapi_tables.specs.Prelude.{one_of, tagged, required, words, final_tables}
use Rattle.openapi_tables.proofs.ByRowLaws.{weight-found}
use Rattle.openapi_values.specs.Words.{word_form}
use Rattle.openapi_fields.specs.Returned.{ReadAs, FailsBelow}
use Rattle.openapi_fields.proofs.Below.{step_ok, step_err, fails_here, fails_above, size-positive}
use Rattle.openapi_fields.proofs.Leaves.{word_read}
use Rattle.openapi_fields.proofs.Referring.{held_found}
use Rattle.openapi_fields.proofs.Tagging.{tag_missing, tag_asks}
use Rattle.openapi_fields.proofs.tags.tag.Goals as goal

pub returns-in_default-clause-reads : goal.returns-in_default-clause-reads
returns-in_default-clause-reads g c cs same =
    let ms = members_of c.args.members.now in
    fails_here c.new.result (Missing c.args.name) (tagged c.args.name.now cs) (object ms) c.new.ensures.place
    c.new.ensures.cause (tag_missing c.args.name.now cs ms (sym c.in_default.ensures.found))

pub returns-in-Ok-clause-reads : goal.returns-in-Ok-clause-reads
returns-in-Ok-clause-reads g c =
    let ms = members_of c.args.members.now in
    let u = c.in-Some.node.now in
    let ws = g.T.Word.words in
    let form_of = word_form g.T.Word.word_of in
    held_found c.args.name.now ms u (sym c.in-Some.ensures.found) ∙ sym c.open-view.ensures.shown
    ∙ word_read g.T.Word.word_of ws c.in-Ok.word (shown c.open-view.result)
    (step_ok form_of (named c.args.name.now) (one_of ws) (shown c.open-view.result) c.read_word.result c.in-Ok.word
    c.in-Ok.ensures c.read_word.ensures)

pub returns-in-Err-clause-reads : goal.returns-in-Err-clause-reads
returns-in-Err-clause-reads g c cs same =
    let ms = members_of c.args.members.now in
    let u = c.in-Some.node.now in
    let n = c.args.name.now in
    let ws = g.T.Word.words in
    let form_of = word_form g.T.Word.word_of in
    let read = subst (λ t. ReadAs form_of c.read_word.result (one_of ws) t) c.open-view.ensures.shown
    c.read_word.ensures in
    fails_above (named n) c.in-Err.fault (tagged n cs) (one_of (words cs)) (object ms) u
    (tag_asks n cs ms u (sym c.in-Some.ensures.found))
    (subst (λ l. FailsBelow (named n) c.in-Err.fault (one_of l) u) (sym same)
    (step_err form_of (named n) (one_of ws) u c.read_word.result c.in-Err.fault c.in-Err.ensures read))

pub returns-in-Ok-clause-count : goal.returns-in-Ok-clause-count
returns-in-Ok-clause-count g c =
    let u = c.in-Some.node.now in (
      omega (arith, c.open-view.ensures.counted),
      omega (
        arith,
        c.open-view.ensures.counted,
        size-positive u,
        weight-found final_tables c.args.name.now required
            (one_of g.T.Word.words) (members_of c.args.members.now) u (sym c.in-Some.ensures.found),
      ),
    )

pub returns-in-Err-clause-count : goal.returns-in-Err-clause-count
returns-in-Err-clause-count g c =
    let u = c.in-Some.node.now in (
      omega (arith, c.open-view.ensures.counted),
      omega (
        arith,
        c.open-view.ensures.counted,
        size-positive u,
        weight-found final_tables c.args.name.now required
            (one_of g.T.Word.words) (members_of c.args.members.now) u (sym c.in-Some.ensures.found),
      ),
    )

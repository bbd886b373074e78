use Rattle.std.proofs.Common.{◌∙◌, Ok, Err, sym, ap, inr, arith}
use Rattle.std.proofs.lemmas.List.{take_all}
use Rattle.openapi_node.specs.Place.{named}
use Rattle.openapi_tables.specs.Prelude.{status_names, in_class, every, final_tables, conforms, form}
use Rattle.openapi_fields.specs.Entries.{entries_size}
use Rattle.openapi_fields.proofs.Below.{step_ok, step_err}
use Rattle.openapi_fields.proofs.Chosen.{entry_fails, next_skipped, next_within, next_size, next_holds}
use Rattle.openapi_fields.proofs.Classed.{class_size}
use Rattle.openapi_responses.proofs.CodeReading.{statuses, gathered, no_status, next_is, next_gathered, codes_give}
use Rattle.openapi_responses.proofs.codes.coded_entries.Goals as goal

pub loop-i-preserved-in_default : goal.loop-i-preserved-in_default
loop-i-preserved-in_default g c =
    let n = c.entry_at.result.0.now in
    let t = c.entry_at.result.1.now in
    let skip = next_skipped (in_class status_names) c.args.members.now c.loop-i.i n t c.entry_at.ensures
    (no_status n c.from_str.result c.in_default.not-Ok c.from_str.ensures) in
    record {
      holds = ap (every (λ e. conforms final_tables g.T.FromNode.kind e.1)) skip ∙ c.loop-i.invariant.holds;
      same = ap (gathered (form final_tables g.T.FromNode.kind)) skip ∙ c.loop-i.invariant.same;
      rises = c.loop-i.invariant.rises;
      counted = omega (arith, c.loop-i.invariant.counted, ap entries_size skip);
    }

pub returns-in_err-put_at-in-Ok-at_name-clause-count : goal.returns-in_err-put_at-in-Ok-at_name-clause-count
returns-in_err-put_at-in-Ok-at_name-clause-count g c =
    let n = c.entry_at.result.0.now in
    let t = c.entry_at.result.1.now in
    let ms = c.args.members.now in
    let yes = next_is ms c.loop-i.i n t c.entry_at.ensures c.in-Ok.code (sym c.in-Ok.ensures) in (
      omega (arith, c.loop-i.invariant.rises, c.from_node.ensures.rises),
      omega (
        arith,
        c.loop-i.invariant.counted,
        c.from_node.ensures.count,
        next_within (in_class status_names) ms c.loop-i.i n t c.entry_at.ensures yes,
        class_size status_names g.T.FromNode.kind ms,
      ),
    )

pub returns-in-Err-clause-reads : goal.returns-in-Err-clause-reads
returns-in-Err-clause-reads g c =
    let n = c.entry_at.result.0.now in
    let t = c.entry_at.result.1.now in
    let k = g.T.FromNode.kind in
    let ms = c.args.members.now in
    let yes = next_is ms c.loop-i.i n t c.entry_at.ensures c.in-Ok.code (sym c.in-Ok.ensures) in
    codes_give k g.T.FromNode.form_of (Err c.in-Err.fault) g.R.HasSlots.object ms c.requires.row
    (inr (entry_fails (in_class status_names) ms c.loop-i.i n t k c.in-Err.fault c.entry_at.ensures yes
    (step_err g.T.FromNode.form_of (named n) k t c.from_node.result c.in-Err.fault c.in-Err.ensures
    c.from_node.ensures.reads)))

pub returns-in-Err-clause-count : goal.returns-in-Err-clause-count
returns-in-Err-clause-count g c =
    let n = c.entry_at.result.0.now in
    let t = c.entry_at.result.1.now in
    let ms = c.args.members.now in
    let yes = next_is ms c.loop-i.i n t c.entry_at.ensures c.in-Ok.code (sym c.in-Ok.ensures) in (
      omega (arith, c.loop-i.invariant.rises, c.from_node.ensures.rises),
      omega (
        arith,
        c.loop-i.invariant.counted,
        c.from_node.ensures.count,
        next_within (in_class status_names) ms c.loop-i.i n t c.entry_at.ensures yes,
        class_size status_names g.T.FromNode.kind ms,
      ),
    )

pub loop-i-preserved : goal.loop-i-preserved
loop-i-preserved g c =
    let n = c.entry_at.result.0.now in
    let t = c.entry_at.result.1.now in
    let k = g.T.FromNode.kind in
    let view = g.T.FromNode.form_of in
    let ms = c.args.members.now in
    let i = c.loop-i.i in
    let yes = next_is ms i n t c.entry_at.ensures c.in-Ok.code (sym c.in-Ok.ensures) in
    let read = step_ok view (named n) k t c.from_node.result c.in-Ok-at_name.value c.in-Ok-at_name.ensures
    c.from_node.ensures.reads in
    record {
      holds = next_holds (in_class status_names) ms i n t c.entry_at.ensures yes k c.loop-i.invariant.holds read.0;
      same = next_gathered ms i n t c.entry_at.ensures c.in-Ok.code (sym c.in-Ok.ensures) view k c.loop-i.values.entries
          c.put_at.new.values.entries c.in-Ok-at_name.value c.loop-i.invariant.same read.1
          c.in_ok-put_at-in-Ok-at_name.ensures.ok;
      rises = omega (arith, c.loop-i.invariant.rises, c.from_node.ensures.rises);
      counted = omega (
        arith,
        c.loop-i.invariant.counted,
        c.from_node.ensures.count,
        next_size (in_class status_names) ms i n t c.entry_at.ensures yes,
      );
    }

pub returns-clause-reads : goal.returns-clause-reads
returns-clause-reads g c =
    let ms = c.args.members.now in
    let k = g.T.FromNode.kind in
    let all = take_all c.loop-i.i ms (omega arith) in
    codes_give k g.T.FromNode.form_of (Ok c.loop-i.values) g.R.HasSlots.object ms c.requires.row (
      sym (ap (λ l. every (λ e. conforms final_tables k e.1) (statuses l)) all) ∙ c.loop-i.invariant.holds,
      sym (ap (λ l. gathered (form final_tables k) (statuses l)) all) ∙ c.loop-i.invariant.same,
    )

pub returns-clause-count : goal.returns-clause-count
returns-clause-count g c =
    let ms = c.args.members.now in
    let all = take_all c.loop-i.i ms (omega arith) in (
      omega (arith, c.loop-i.invariant.rises),
      omega (
        arith,
        c.loop-i.invariant.counted,
        ap (λ l. entries_size (statuses l)) all,
        class_size status_names g.T.FromNode.kind ms,
      ),
    )

use Rattle.std.proofs.Common.{sym, ◌∙◌}
use Rattle.openapi_fields.specs.Forms.{is_either}
use Rattle.openapi_fields.proofs.Chosen.{next_first, next_skipped}
use Rattle.openapi_faults.proofs.members.first_of_two.Goals as goal

pub returns-then-is_one_of : goal.returns-then-is_one_of
returns-then-is_one_of c =
    sym (next_first (is_either c.args.first.now c.args.second.now) c.args.members.now c.loop-i.i
    c.entry_at.result.0.now c.entry_at.result.1.now c.entry_at.ensures
    (sym c.is_one_of.ensures ∙ c.if-is_one_of.true) c.loop-i.invariant.none)

pub loop-i-preserved : goal.loop-i-preserved
loop-i-preserved c =
    record {
      none = next_skipped (is_either c.args.first.now c.args.second.now) c.args.members.now c.loop-i.i
          c.entry_at.result.0.now c.entry_at.result.1.now c.entry_at.ensures
          (sym c.is_one_of.ensures ∙ c.if-is_one_of.false) ∙ c.loop-i.invariant.none;
    }

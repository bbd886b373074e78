use Rattle.std.proofs.Common.{length, take, sym, ap, subst, arith, length-drop}
use Rattle.std.specs.Io.KnownBytes.{Appends}
use Rattle.std.proofs.KnownBytes.{Appends-trans}
use Rattle.std.proofs.Math.Seq.{take-add}
use Rattle.std.proofs.lemmas.List.{take_rest}
use Rattle.openapi_text.proofs.pipes.write_bytes.Goals as goal

pub loop-done-preserved : goal.loop-done-preserved
loop-done-preserved g c =
    let line = c.args.text.now in
    let done = c.loop-done.done in
    let count = c.in-Ok.count in
    let before = g.W.Write.contents c.args.writer.now in
    let between = g.W.Write.contents c.loop-done.writer in
    let after = g.W.Write.contents c.write.new.self in
    let rest = take_rest line done in
    record {
      within = omega (arith, c.in-Ok.ensures.bound, ap length rest, length-drop done line);
      written = subst (Appends before after) (sym (take-add done count line))
          (Appends-trans before between after _ _ c.loop-done.invariant.written
          (subst (λ l. Appends between after (take count l)) rest c.in-Ok.ensures.bytes));
    }

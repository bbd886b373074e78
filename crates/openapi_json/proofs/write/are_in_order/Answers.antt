use Rattle.std.proofs.Common.{arith, length}
use Rattle.openapi_json.proofs.Sorted.{AscendsTo, all_ascending}
use Rattle.openapi_json.proofs.write.are_in_order.Goals as goal

pub returns : goal.returns
returns c true_ =
    let ms = c.args.members.now in
    let h : AscendsTo (length ms) ms = λ j a b l p q. c.loop-i.invariant j a b (omega (arith, l)) p q in
    all_ascending ms h

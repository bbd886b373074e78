use Rattle.std.proofs.Common.{arith}
use Rattle.openapi_json.proofs.Numbering.{all_items, all_members}
use Rattle.openapi_json.proofs.first_tokens.+tokens.Goals as goal

pub of_items-returns-clause-first : goal.of_items-returns-clause-first
of_items-returns-clause-first t c =
    let l = c.loop-value in
    all_items c.args.values.now.items c.deref-value-items.result.now c.args.next.now l.next l.value-index l.tokens.items
    c.deref-value-items.ensures.value (omega (arith, c.loop-value-test.false)) l.invariant.first

pub of_members-returns-clause-first : goal.of_members-returns-clause-first
of_members-returns-clause-first t c =
    let l = c.loop-member in
    all_members c.args.members.now.items c.deref-member-items.result.now c.args.next.now l.next l.member-index l.tokens.items
    c.deref-member-items.ensures.value (omega (arith, c.loop-member-test.false)) l.invariant.first

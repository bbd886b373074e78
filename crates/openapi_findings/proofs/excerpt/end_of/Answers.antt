use Rattle.std.proofs.Common.{◌≡◌, ◌-◌, refl, sym, ◌∙◌, arith}
use Rattle.openapi_findings.proofs.Excerpting.{front_at_end, front_at_feed, front_at_limit, front_begins, front_within}
use Rattle.openapi_findings.proofs.excerpt.end_of.Goals as goal
use Rattle.openapi_findings.proofs.excerpt.end_of.Goals.{then-begins_character+else-count-limit, else-begins_character}

pub returns-then-byte-eq10-clause-end : goal.returns-then-byte-eq10-clause-end
returns-then-byte-eq10-clause-end c =
    let l = c.loop-i in
    omega (arith, l.invariant.len, front_at_feed (c.args.limit - l.count) c.args.bytes.now l.i _ c.loop-i-test.true refl c.if-byte-eq10.true)

pub returns-then-count-limit-clause-end : goal.returns-then-count-limit-clause-end
returns-then-count-limit-clause-end c =
    let l = c.loop-i in
    let begins = sym c.begins_character.ensures ∙ c.if-begins_character.true in
    omega (arith, l.invariant.len, front_at_limit (c.args.limit - l.count) c.args.bytes.now l.i _ c.loop-i-test.true refl begins (omega arith))

pub loop-i-preserved : goal.loop-i-preserved
loop-i-preserved c =
    let l = c.loop-i in
    let bs = c.args.bytes.now in
    let n = c.args.limit - l.count in
    elim c.if-begins_character.branch [
      | then-begins_character+else-count-limit w ↦
          let begins = sym c.begins_character.ensures ∙ w.if-begins_character.true in
          let step = front_begins n bs l.i _ c.loop-i-test.true refl c.if-byte-eq10.false begins (omega arith) in
          let less : c.args.limit - c.if-begins_character.count ≡ n - 1 = omega arith in
          record { count = omega arith; len = rw less (omega (arith, l.invariant.len, step)) }
      | else-begins_character w ↦
          let begins = sym c.begins_character.ensures ∙ w.if-begins_character.false in
          let step = front_within n bs l.i _ c.loop-i-test.true refl c.if-byte-eq10.false begins in
          record { count = omega arith; len = rw w.count-is (omega (arith, l.invariant.len, step)) }
    ]

pub returns-clause-end : goal.returns-clause-end
returns-clause-end c =
    let l = c.loop-i in
    omega (arith, l.invariant.len, front_at_end (c.args.limit - l.count) c.args.bytes.now l.i (omega arith))

use Rattle.std.proofs.Common.{◌≡◌, ◌-◌, ◌<◌, length, reverse, take, sym, ◌∙◌, arith}
use Rattle.openapi_findings.proofs.Excerpting.{back_at_feed, back_at_limit, back_begins, back_within, byte_back, length_back}
use Rattle.openapi_findings.proofs.excerpt.start_of.Goals as goal
use Rattle.openapi_findings.proofs.excerpt.start_of.Goals.{then-byte-eq10-via-then-byte-eq10, then-byte-eq10-via-else-byte-eq10+then-count-limit}
use Rattle.openapi_findings.proofs.excerpt.start_of.Goals.{then-begins_character, else-begins_character}

pub returns-then-byte-eq10-clause-start : goal.returns-then-byte-eq10-clause-start
returns-then-byte-eq10-clause-start c =
    let l = c.loop-i in
    let bs = c.args.bytes.now in
    let xs = reverse (take c.args.offset bs) in
    let size = length_back bs c.args.offset c.requires in
    let is = byte_back bs c.args.offset c.requires l.i c.loop-i-test.true in
    elim c.then-byte-eq10.branch [
      | then-byte-eq10-via-then-byte-eq10 w ↦
          omega (arith, l.invariant.start, l.invariant.len, back_at_feed (c.args.limit - l.count) xs l.i _ (omega (arith, size)) is w.if-byte-eq10.true)
      | then-byte-eq10-via-else-byte-eq10+then-count-limit w ↦
          omega (arith, l.invariant.start, l.invariant.len, back_at_limit (c.args.limit - l.count) xs l.i _ (omega (arith, size)) is (omega arith))
    ]

pub loop-i-preserved : goal.loop-i-preserved
loop-i-preserved c =
    let l = c.loop-i in
    let bs = c.args.bytes.now in
    let xs = reverse (take c.args.offset bs) in
    let n = c.args.limit - l.count in
    let size = length_back bs c.args.offset c.requires in
    let is = byte_back bs c.args.offset c.requires l.i c.loop-i-test.true in
    let lt : l.i < length xs = omega (arith, size) in
    elim c.if-begins_character.branch [
      | then-begins_character w ↦
          let begins = sym c.begins_character.ensures ∙ w.if-begins_character.true in
          let step = back_begins n xs l.i _ lt is c.if-byte-eq10.false begins (omega arith) in
          let less : c.args.limit - c.if-begins_character.count ≡ n - 1 = omega arith in
          record { start = omega arith; count = omega arith; len = rw less (omega (arith, l.invariant.len, step)) }
      | else-begins_character w ↦
          let begins = sym c.begins_character.ensures ∙ w.if-begins_character.false in
          let step = back_within n xs l.i _ lt is c.if-byte-eq10.false begins (omega arith) in
          record { start = omega arith; count = omega arith; len = rw w.count-is (omega (arith, l.invariant.len, step)) }
    ]

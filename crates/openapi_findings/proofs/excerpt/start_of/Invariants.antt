use Rattle.std.proofs.Common.{◌≡◌, ◌+◌, ◌-◌, ◌≤◌, drop, reverse, take}
use Rattle.openapi_findings.specs.Excerpts.{back_len}
use Rattle.openapi_findings.proofs.excerpt.start_of.Given as goal

-- the start of the part of the line is the same, counted from the offset and from before the bytes so far
abbrev pub invariant-loop-i : goal.invariant-loop-i
invariant-loop-i l =
    record {
      start : l.start + l.i ≡ l.offset;
      count : l.count ≤ l.limit;
      len : back_len l.limit (reverse (take l.offset l.bytes))
          ≡ l.i + back_len (l.limit - l.count) (drop l.i (reverse (take l.offset l.bytes)));
    }

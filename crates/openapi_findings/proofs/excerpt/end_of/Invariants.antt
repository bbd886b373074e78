use Rattle.std.proofs.Common.{◌≡◌, ◌+◌, ◌-◌, ◌≤◌, drop}
use Rattle.openapi_findings.specs.Excerpts.{front_len}
use Rattle.openapi_findings.proofs.excerpt.end_of.Given as goal

-- the end of the part of the line is the same, counted from the offset and from after the bytes so far
abbrev pub invariant-loop-i : goal.invariant-loop-i
invariant-loop-i l =
    record {
      count : l.count ≤ l.limit;
      len : l.offset + front_len l.limit (drop l.offset l.bytes) ≡ l.i + front_len (l.limit - l.count) (drop l.i l.bytes);
    }

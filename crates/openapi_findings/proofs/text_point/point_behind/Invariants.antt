use Rattle.std.proofs.Common.{◌≡◌, ◌+◌, ◌≤◌, drop}
use Rattle.openapi_json.specs.Positions.{spot_behind, spot_from}
use Rattle.openapi_findings.proofs.text_point.point_behind.Given as goal

abbrev pub invariant-loop-byte : goal.invariant-loop-byte
invariant-loop-byte l =
    record {
      spot : spot_from (l.line, l.column) (drop l.byte-index l.bytes) ≡ spot_behind l.bytes;
      line : l.line ≤ l.byte-index + 1;
      column : l.column ≤ l.byte-index + 1;
    }

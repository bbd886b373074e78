use Rattle.std.proofs.Common.{◌≡◌, ◌+◌, ◌≤◌, ◌++◌, drop}
use Rattle.openapi_json.specs.Points.{points, points_from}
use Rattle.openapi_json.specs.Scanned.{mode_of}
use Rattle.openapi_json.proofs.points.token_points.Given as goal

-- the points so far, followed by those from the byte on, are all
abbrev pub invariant-loop-byte : goal.invariant-loop-byte
invariant-loop-byte l =
    record {
      found : l.points.items ++ points_from (mode_of l.mode) l.point (drop l.byte-index l.text) ≡ points l.text;
      offset : l.point.offset ≤ l.byte-index;
      line : l.point.line ≤ l.byte-index + 1;
      column : l.point.column ≤ l.byte-index + 1;
    }

use Rattle.std.proofs.Common.{◌≡◌, ◌-◌, ◌≤◌, drop}
use Rattle.std.specs.Prelude.{slice_get}
use Rattle.openapi_json.specs.Scanned.{mode_of, starts, starts_from}
use Rattle.openapi_json.proofs.scan.offset_of.Given as goal

abbrev pub invariant-loop-i : goal.invariant-loop-i
invariant-loop-i l =
    record {
      within : l.passed ≤ l.i;
      few : l.passed ≤ l.number;
      left : slice_get (starts_from (mode_of l.mode) l.i (drop l.i l.text)) (l.number - l.passed) ≡ slice_get (starts l.text) l.number;
    }

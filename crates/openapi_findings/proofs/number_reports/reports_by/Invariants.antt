use Rattle.std.proofs.Common.{◌≡◌, ◌++◌, drop, map}
use Rattle.std.specs.List.{flat_map}
use Rattle.openapi_json.specs.Zeros.{replaced_of}
use Rattle.openapi_findings.specs.Numbers.{number_stated, places_in}
use Rattle.openapi_findings.specs.Stated.{statement_of}
use Rattle.openapi_findings.proofs.number_reports.reports_by.Given as goal

-- what was stated so far, with what the numbers that are left state, is what all state
abbrev pub invariant-loop-number : goal.invariant-loop-number
invariant-loop-number l =
    let stated = number_stated (places_in l.limits) (places_in l.wrong) in
    map statement_of l.reports.items ++ flat_map stated (map replaced_of (drop l.number-index l.numbers))
    ≡ flat_map stated (map replaced_of l.numbers)

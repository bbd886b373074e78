use Rattle.std.proofs.Common.{◌≡◌, map, take}
use Rattle.openapi_node.specs.Fault.{step_of}
use Rattle.openapi_findings.specs.Stated.{place_in_report}
use Rattle.openapi_findings.proofs.report.report_places.Given as goal

-- the locations so far
abbrev pub invariant-loop-report : goal.invariant-loop-report
invariant-loop-report l = map (λ p. map step_of p.now) l.places.items ≡ map place_in_report (take l.report-index l.reports)

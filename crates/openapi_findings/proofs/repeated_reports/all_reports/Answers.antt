use Rattle.std.proofs.Common.{map, ap, ◌∙◌}
use Rattle.openapi_findings.specs.Repeated.{of_all, stated_of_entry}
use Rattle.openapi_findings.proofs.Repeating.{entries_end, entries_next}
use Rattle.openapi_findings.proofs.repeated_reports.all_reports.Goals as goal

pub loop-reports-preserved : goal.loop-reports-preserved
loop-reports-preserved c =
    entries_next c.loop-reports.reports-iterator _ c.next.new.self c.loop-reports.all.items c.append.new.self.items _
    c.in-Some.ensures.steps c.in_ok-append.ensures.items c.loop-reports.invariant

pub returns : goal.returns
returns c =
    entries_end c.loop-reports.reports-iterator _ _ c.in-None.ensures.steps.0
    (c.loop-reports.invariant ∙ ap (λ es. of_all (map stated_of_entry es)) c.into_iter-reports-iterator.ensures.into_iter_gives.0)

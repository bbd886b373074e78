use Rattle.std.proofs.Common.{◌≡◌, max, take}
use Rattle.openapi.specs.Statuses.{file_status}
use Rattle.openapi.proofs.tally.Tally.add_file.Given as goal

-- the status after the findings so far
abbrev pub invariant-loop-finding : goal.invariant-loop-finding
invariant-loop-finding l =
    l.self.status ≡ max l.fn.self.status (file_status l.deny_warnings (take l.finding-index l.findings))

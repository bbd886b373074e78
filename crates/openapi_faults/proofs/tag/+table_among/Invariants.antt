use Rattle.std.proofs.Common.{length}
use Rattle.openapi_faults.proofs.tag.+table_among.Given as goal

abbrev pub decreases-table_among : goal.decreases-table_among
decreases-table_among l = length l.cases.now

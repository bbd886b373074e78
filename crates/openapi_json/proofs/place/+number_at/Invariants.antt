use Rattle.std.proofs.Common.{length}
use Rattle.openapi_json.proofs.place.+number_at.Given as goal

abbrev pub decreases-number_at : goal.decreases-number_at
decreases-number_at l = length l.place.now

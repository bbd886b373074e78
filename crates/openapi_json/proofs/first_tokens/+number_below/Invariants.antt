use Rattle.std.proofs.Common.{length}
use Rattle.openapi_json.proofs.first_tokens.+number_below.Given as goal

abbrev pub decreases-number_below : goal.decreases-number_below
decreases-number_below l = length l.place.now

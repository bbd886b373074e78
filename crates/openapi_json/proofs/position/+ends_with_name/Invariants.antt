use Rattle.std.proofs.Common.{length}
use Rattle.openapi_json.proofs.position.+ends_with_name.Given as goal

abbrev pub decreases-ends_with_name : goal.decreases-ends_with_name
decreases-ends_with_name l = length l.place.now

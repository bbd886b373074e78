use Rattle.openapi_json.proofs.Sorted.{stand}
use Rattle.openapi_json.proofs.write.may_stand.Goals as goal

pub returns-in-ByName-clause-yes : goal.returns-in-ByName-clause-yes
returns-in-ByName-clause-yes c is = stand c.args.order c.args.members.now (c.are_in_order.ensures is)

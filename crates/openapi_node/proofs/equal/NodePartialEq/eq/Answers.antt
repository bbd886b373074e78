use Rattle.openapi_node.proofs.SameValue.{told}
use Rattle.openapi_node.proofs.equal.NodePartialEq.eq.Goals as goal

pub returns : goal.returns
returns c = told _ _ _ c.equal_nodes.ensures

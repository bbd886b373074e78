use Rattle.openapi_json.proofs.ReadBack.{compact_again}
use Rattle.openapi_json.proofs.write.json_from_node_in_order.Goals as goal

pub returns-clause-reads_back : goal.returns-clause-reads_back
returns-clause-reads_back c =
    compact_again c.text_of.result c.args.node.now c.names_differ.ensures c.text_of.ensures.text c.text_of.ensures.whole

use Rattle.std.proofs.Common.{length, string_cmp, ap, ◌∙◌}
use Rattle.std.proofs.lemmas.Iterator.Adapters.{YieldsList-from_vec, fact_from_collect}
use Rattle.std.proofs.lemmas.Result.{IfOk-weaker}
use Rattle.std.specs.BTreeMap.{IsFromIterResult}
use Rattle.openapi_node.proofs.PairLemmas.{made_of_pairs}
use Rattle.openapi_node.proofs.write_value.map_of.Goals as goal

pub returns : goal.returns
returns c =
    let pairs = c.args.pairs.items in
    let all = c.into_iter.ensures.rest in
    let road = YieldsList-from_vec pairs all (c.into_iter.result.rest.ok.0 ∙ ap length all) in
    IfOk-weaker c.collect.result (IsFromIterResult string_cmp pairs) _ (made_of_pairs pairs)
    (fact_from_collect (IsFromIterResult string_cmp) c.collect.result c.collect.ensures.ran road)

use Rattle.std.proofs.Common.{refl}
use Rattle.openapi_findings.proofs.Leading.{below_list, below_none}
use Rattle.openapi_findings.proofs.pointer.value_below.Goals as goal

pub returns-in-None-index_of : goal.returns-in-None-index_of
returns-in-None-index_of c =
    below_none c.args.token.now c.in-List.items.now c.args.node.now c.in-List.ensures.shown (c.in-None-index_of.ensures.none refl)

pub returns-in-Some-index_of : goal.returns-in-Some-index_of
returns-in-Some-index_of c =
    let found = c.in-Some-index_of.ensures.some in
    below_list c.args.token.now c.in-List.items.now c.args.node.now c.index-items-index.result c.in-Some-index_of.index c.in-List.ensures.shown
    found.0 found.1 c.index-items-index.is

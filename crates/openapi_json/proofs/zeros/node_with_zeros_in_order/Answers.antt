use Rattle.std.proofs.Common.{map, sym, subst}
use Rattle.openapi_json.specs.Zeros.{IsTreeWithZeros, replaced_of}
use Rattle.openapi_json.proofs.Unheld.{without_zeros}
use Rattle.openapi_json.proofs.zeros.node_with_zeros_in_order.Goals as goal

pub with_zeros-requires : goal.with_zeros-requires
with_zeros-requires c =
    let why = rw c.in-Err-NotWhole.field-0-is at c.in-Err-NotWhole.ensures.err in
    (why.1, why.2)

pub returns-in-Ok-clause-ok : goal.returns-in-Ok-clause-ok
returns-in-Ok-clause-ok c =
    subst (λ ns. IsTreeWithZeros c.args.bytes.now c.in-Ok.node (map replaced_of ns)) (sym c.new.ensures.items)
    (without_zeros c.args.bytes.now c.in-Ok.node c.in-Ok.ensures.ok)

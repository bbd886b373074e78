use Rattle.std.proofs.Common.{◌+◌, ap, ◌∙◌, arith}
use Rattle.openapi_json.proofs.Positions.{array_counts, object_counts}
use Rattle.openapi_json.proofs.place.+count.Goals as goal

pub count-count_items-requires : goal.count-count_items-requires
count-count_items-requires t c =
    let counts = array_counts c.in-Array.values c.as_slice.result.now c.args.value.now c.as_slice.ensures.value c.in-Array.is in
    (omega (arith, counts, c.decreases), omega (arith, counts, c.requires))

pub count-count_members-requires : goal.count-count_members-requires
count-count_members-requires t c =
    let counts = object_counts c.in-Object.members c.as_slice-in-Object.result.now c.args.value.now
    c.as_slice-in-Object.ensures.value c.in-Object.is in
    (omega (arith, counts, c.decreases), omega (arith, counts, c.requires))

pub count-returns-in-Array : goal.count-returns-in-Array
count-returns-in-Array t c =
    ap (λ n. 2 + n) c.count_items.ensures
    ∙ array_counts c.in-Array.values c.as_slice.result.now c.args.value.now c.as_slice.ensures.value c.in-Array.is

pub count-returns-in-Object : goal.count-returns-in-Object
count-returns-in-Object t c =
    ap (λ n. 2 + n) c.count_members.ensures
    ∙ object_counts c.in-Object.members c.as_slice-in-Object.result.now c.args.value.now c.as_slice-in-Object.ensures.value
    c.in-Object.is

pub count-overflow_add-result : goal.count-overflow_add-result
count-overflow_add-result t c = omega (arith, c.requires, count-returns-in-Array t c)

pub count-overflow_add-result-in-Object : goal.count-overflow_add-result-in-Object
count-overflow_add-result-in-Object t c = omega (arith, c.requires, count-returns-in-Object t c)

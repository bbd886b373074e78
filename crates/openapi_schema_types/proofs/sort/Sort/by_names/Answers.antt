use Rattle.std.proofs.Common.{true, false}
use Rattle.openapi_schema_types.specs.Masks.{sort_in}
use Rattle.openapi_schema_types.proofs.MaskLaws.{sort_by_masks}
use Rattle.openapi_schema_types.proofs.sort.Sort.by_names.Goals as goal

pub returns-then-is_within : goal.returns-then-is_within
returns-then-is_within c =
    λ es h n. sort_by_masks es (sort_in c.possible-sort.result) true (c.possible-sort.ensures es h n)
    (rw (h, c.names.ensures) at (c.if-is_within.ensures {u = tt}))

pub returns-else-is_within : goal.returns-else-is_within
returns-else-is_within c =
    λ es h n. sort_by_masks es (sort_in c.possible-sort.result) false (c.possible-sort.ensures es h n)
    (rw (h, c.names.ensures) at (c.if-is_within.ensures {u = tt}))

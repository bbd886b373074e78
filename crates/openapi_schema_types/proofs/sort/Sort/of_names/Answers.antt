use Rattle.std.proofs.Common.{sym}
use Rattle.openapi_schema_types.proofs.SortByNames.{first_of_four-masks}
use Rattle.openapi_schema_types.proofs.sort.Sort.of_names.Goals as goal

pub returns-then-is_within : goal.returns-then-is_within
returns-then-is_within c =
    λ es h. rw (sym (first_of_four-masks es c.args.names.bits h), sym (c.if-is_within.ensures {u = tt}))

pub returns-then-is_within-2 : goal.returns-then-is_within-2
returns-then-is_within-2 c =
    λ es h. rw (
      sym (first_of_four-masks es c.args.names.bits h),
      sym (c.if-is_within.ensures {u = tt}),
      sym (c.if-is_within-2.ensures {u = tt}),
    )

pub returns-then-is_within-3 : goal.returns-then-is_within-3
returns-then-is_within-3 c =
    λ es h. rw (
      sym (first_of_four-masks es c.args.names.bits h),
      sym (c.if-is_within.ensures {u = tt}),
      sym (c.if-is_within-2.ensures {u = tt}),
      sym (c.if-is_within-3.ensures {u = tt}),
    )

pub returns-then-is_within-4 : goal.returns-then-is_within-4
returns-then-is_within-4 c =
    λ es h. rw (
      sym (first_of_four-masks es c.args.names.bits h),
      sym (c.if-is_within.ensures {u = tt}),
      sym (c.if-is_within-2.ensures {u = tt}),
      sym (c.if-is_within-3.ensures {u = tt}),
      sym (c.if-is_within-4.ensures {u = tt}),
    )

pub returns-else-is_within-4 : goal.returns-else-is_within-4
returns-else-is_within-4 c =
    λ es h. rw (
      sym (first_of_four-masks es c.args.names.bits h),
      sym (c.if-is_within.ensures {u = tt}),
      sym (c.if-is_within-2.ensures {u = tt}),
      sym (c.if-is_within-3.ensures {u = tt}),
      sym (c.if-is_within-4.ensures {u = tt}),
    )

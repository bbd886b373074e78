use Rattle.std.proofs.Common.{arith}
use Rattle.openapi_schema_types.proofs.MaskLaws.{mask_of-more}
use Rattle.openapi_schema_types.proofs.mask.Mask.of_flags.Goals as goal

pub loop-place-preserved : goal.loop-place-preserved
loop-place-preserved c =
    mask_of-more c.args.flags.now c.loop-place.place c.loop-place.bits c.from.result (omega arith)
    (omega arith) c.loop-place.invariant c.from.ensures

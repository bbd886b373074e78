use Rattle.std.proofs.Common.{◌≡◌, take}
use Rattle.openapi_schema_types.specs.Masks.{mask_of}
use Rattle.openapi_schema_types.proofs.mask.Mask.of_flags.Given as goal

-- the bits of the flags so far
abbrev pub invariant-loop-place : goal.invariant-loop-place
invariant-loop-place l = l.bits ≡ mask_of (take l.place l.flags)

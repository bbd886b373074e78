use Rattle.std.proofs.Common.{◌≡◌, ◌++◌, drop, map}
use Rattle.openapi_removal.specs.Cut.{cut, gap_of}
use Rattle.openapi_removal.proofs.cut.cut.Given as goal

-- what is kept so far, with the rest of the text without the rest of the ranges, is all that is kept
abbrev pub invariant-loop-gap : goal.invariant-loop-gap
invariant-loop-gap l = l.bytes.items ++ cut (map gap_of (drop l.gap-index l.gaps)) l.rest ≡ cut (map gap_of l.gaps) l.text

use Rattle.std.proofs.Common.{◌≡◌, length, take}
use Rattle.openapi_test_support.proofs.maps.copied.Given as goal

abbrev pub invariant-loop-name : goal.invariant-loop-name
invariant-loop-name l = l.copy ≡ take (length l.yielded) l.map

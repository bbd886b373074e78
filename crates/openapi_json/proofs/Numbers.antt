-- Whole numbers as data.
use Rattle.std.proofs.Common.{◌≡◌, ℤ, pos, negsuc, true, false, refl}
use Rattle.serde_json.specs.Find.{is_float, of_integer}
use Rattle.openapi_node.specs.Json.{number_tree}
use Rattle.openapi_node.specs.Tree.{whole}
use Rattle.openapi_json.specs.Ordered.{is_whole, tree_or_zero}

-- the node of the data of a whole number is the number again
pub whole_tree : (z : ℤ) → number_tree (of_integer z) ≡ whole z
whole_tree (pos n) = refl
whole_tree (negsuc n) = refl

-- `tree_or_zero` does not replace it with 0
pub whole_kept : (z : ℤ) → tree_or_zero (of_integer z) ≡ whole z
whole_kept (pos n) = refl
whole_kept (negsuc n) = refl

-- the number is whole
pub integer_whole : (z : ℤ) → is_whole (of_integer z) ≡ true
integer_whole (pos n) = refl
integer_whole (negsuc n) = refl

-- the data of a whole number is no float
pub no_float : (z : ℤ) → is_float (of_integer z) ≡ false
no_float (pos n) = refl
no_float (negsuc n) = refl

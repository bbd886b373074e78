-- How many accesses a well-made kind adds to those for the values of a node.
use Rattle.std.proofs.Common.{◌≡◌, ◌+◌, ◌≤◌, true, sym, subst, lit≤}
use Rattle.std.proofs.lemmas.Bool.{and_parts}
use Rattle.openapi_tables.specs.Prelude.{Kind, any_text, null_or, by, ref_to, sound, may_be_null, under_ref}
use Rattle.openapi_tables.specs.Prelude.{final_tables}
use Rattle.openapi_fields.specs.Returned.{looks}

looks_at_scalar : (k : Kind) → may_be_null k ≡ true → looks k ≡ 0
looks_at_scalar any_text h = cc
looks_at_scalar k h = cc

looks_at_item : (k : Kind) → under_ref final_tables k ≡ true → looks k ≡ 0
looks_at_item (by i) h = cc
looks_at_item k h = cc

-- they are at most two. A reference adds one, and a flag that may replace a schema adds one
pub few_looks : (k : Kind) → sound final_tables k ≡ true → looks k ≤ 2
few_looks (null_or k) s =
    subst (λ n. n ≤ 2) (sym (looks_at_scalar k (and_parts (may_be_null k) (sound final_tables k) s).0)) (lit≤ tt)
few_looks (ref_to k) s =
    subst (λ n. n + 1 ≤ 2) (sym (looks_at_item k (and_parts (under_ref final_tables k) (sound final_tables k) s).0))
    (lit≤ tt)
few_looks k s = lit≤ tt

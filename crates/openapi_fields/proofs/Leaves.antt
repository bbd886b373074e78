-- Values that contain no other values, and views that are of another kind than such a value.
use Rattle.std.proofs.Common.{◌≡◌, ℕ, ℤ, pos, negsuc, Bool, true, false, List, [], Some, None, refl, sym, ap, subst}
use Rattle.std.proofs.Common.{inl, cond, arith, rules, true≢false}
use Rattle.std.specs.Prelude.{◌≤ℤ◌, FitsSigned, nat_le, ◌&&◌}
use Rattle.std.proofs.lemmas.Bool.{leb-true}
use Rattle.std.specs.Int.{w64}
use Rattle.std.specs.Borrow.{Bor}
use Rattle.openapi_node.specs.Tree.{Tree, null, whole, text}
use Rattle.openapi_node.specs.View.{shown}
use Rattle.openapi_node.specs.declared.fault.Cause.TheVariants.{NotAllowed, UnknownVariant}
use Rattle.openapi_node.specs.declared.fault.Expected.TheVariants as words
use Rattle.openapi_node.specs.declared.fault.Fault.{Fault}
use Rattle.openapi_node.specs.declared.node.View.{View}
use Rattle.openapi_node.specs.declared.node.View.TheVariants as v
use Rattle.openapi_tables.specs.Prelude.{number, one_of, format, status_code, sizes, signed, within, is_code, code_of}
use Rattle.openapi_tables.specs.Prelude.{code, has, final_tables, causes, unless, wrong_kind, Among, Form, leaf}
use Rattle.openapi_tables.specs.Kind.{Limits}
use Rattle.openapi_tables.specs.Faults.{not_allowed, unknown_variant}
use Rattle.openapi_tables.proofs.ByRowLaws.{broken_root}
use Rattle.openapi_values.specs.Words.{word_form}
use Rattle.openapi_values.specs.StatusCode.{code_of_number}
use Rattle.openapi_fields.specs.Returned.{Fails, Reads}
use Rattle.openapi_fields.proofs.Below.{fails_here}

-- a view of anything but a whole number is of the wrong kind, where a whole number is expected
pub not_whole : (l : Limits) (w : View) → ((z : ℤ) → w ≡ v.Whole z → ⊥)
    → Among (wrong_kind words.Whole) (causes final_tables (number l) (shown w))
not_whole l (v.Whole z) h = absurd (h z refl)
not_whole l w h = inl refl

-- a view of anything but a string is of the wrong kind, where one of some words is expected
pub not_word : (ws : List (List ℕ)) (w : View) → ((s : Bor (List ℕ)) → w ≡ v.Text s → ⊥)
    → Among (wrong_kind words.Text) (causes final_tables (one_of ws) (shown w))
not_word ws (v.Text s) h = absurd (h s refl)
not_word ws w h = inl refl

-- a view of anything but a string is of the wrong kind, where a format is expected
pub not_format : (ws : List (List ℕ)) (w : View) → ((s : Bor (List ℕ)) → w ≡ v.Text s → ⊥)
    → Among (wrong_kind words.Text) (causes final_tables (format ws false) (shown w))
not_format ws (v.Text s) h = absurd (h s refl)
not_format ws w h = inl refl

-- the same for a view of anything but a string or null, where null is a format too
pub not_format_or_null : (ws : List (List ℕ)) (w : View) → (w ≡ v.Null → ⊥)
    → ((s : Bor (List ℕ)) → w ≡ v.Text s → ⊥)
    → Among (wrong_kind words.TextOrNull) (causes final_tables (format ws true) (shown w))
not_format_or_null ws v.Null n h = absurd (n refl)
not_format_or_null ws (v.Text s) n h = absurd (h s refl)
not_format_or_null ws w n h = inl refl

-- a view of anything but a string or a whole number is of the wrong kind, where a status code is expected
pub not_code : (w : View) → ((s : Bor (List ℕ)) → w ≡ v.Text s → ⊥) → ((z : ℤ) → w ≡ v.Whole z → ⊥)
    → Among (wrong_kind words.TextOrWhole) (causes final_tables status_code (shown w))
not_code (v.Whole z) h g = absurd (g z refl)
not_code (v.Text s) h g = absurd (h s refl)
not_code w h g = inl refl

-- an error that a whole number is not within the limits
pub outside : (f : Fault) (l : Limits) (z : ℤ) → f.place.items ≡ [] → f.cause ≡ NotAllowed → within l z ≡ false
    → Fails f (number l) (whole z)
outside f l z p e h =
    fails_here f NotAllowed (number l) (whole z) p e
    (broken_root final_tables (number l) (whole z) not_allowed
    (subst (λ b. Among not_allowed (unless b not_allowed)) (sym h) (inl refl)))

-- a number below zero is no size
pub below_sizes : (z : ℤ) → ((pos 0 ≤ℤ z) → ⊥) → within sizes z ≡ false
below_sizes (pos n) h = absurd (h (Prim.search rules))
below_sizes (negsuc n) h = refl

-- an error that a string is none of the words
pub no_word : (f : Fault) (ws : List (List ℕ)) (s : List ℕ) → f.place.items ≡ [] → f.cause ≡ UnknownVariant
    → has ws s ≡ false → Fails f (one_of ws) (text s)
no_word f ws s p e h =
    fails_here f UnknownVariant (one_of ws) (text s) p e
    (broken_root final_tables (one_of ws) (text s) unknown_variant
    (subst (λ b. Among unknown_variant (unless b unknown_variant)) (sym h) (inl refl)))

not_true : (b : Bool) → (b ≡ true → ⊥) → b ≡ false
not_true true h = absurd (h refl)
not_true false h = refl

-- a whole number that is out of range for `i64` is not within the limits `signed`
pub beyond_signed : (z : ℤ) → (FitsSigned w64 z → ⊥) → within signed z ≡ false
beyond_signed (pos n) h =
    not_true (nat_le n 9223372036854775807) (λ e.
    let small = leb-true n 9223372036854775807 e in
    h (record { sfits = omega (arith, small) }))
beyond_signed (negsuc n) h =
    not_true (nat_le n 9223372036854775807) (λ e.
    let small = leb-true n 9223372036854775807 e in
    h (record { sfits = omega (arith, small) }))

-- an error that a string is no status code
pub no_code_text : (f : Fault) (s : List ℕ) → f.place.items ≡ [] → f.cause ≡ NotAllowed → None ≡ code_of s
    → Fails f status_code (text s)
no_code_text f s p e h =
    fails_here f NotAllowed status_code (text s) p e
    (broken_root final_tables status_code (text s) not_allowed
    (subst (λ o. Among not_allowed (unless (is_code o) not_allowed)) h (inl refl)))

-- an error that a whole number is no status code
pub no_code_number : (f : Fault) (z : ℤ) → f.place.items ≡ [] → f.cause ≡ NotAllowed → None ≡ code_of_number z
    → Fails f status_code (whole z)
no_code_number f z p e h =
    fails_here f NotAllowed status_code (whole z) p e
    (broken_root final_tables status_code (whole z) not_allowed (refused z h))
  where
    in_range : (b : Bool) (n : ℕ) → None ≡ cond b (Some (code n)) None → Among not_allowed (unless b not_allowed)
    in_range true n g = cc
    in_range false n g = inl refl

    refused : (z : ℤ) → None ≡ code_of_number z → Among not_allowed (causes final_tables status_code (whole z))
    refused (pos n) g = in_range (nat_le 100 n && nat_le n 999) n g
    refused (negsuc n) g = inl refl

-- the node of a leaf, or null for any other form
abbrev tree_in : Form → Tree
tree_in (leaf t) = t
tree_in f = null

-- a node from which a word was read is the string of that word
pub word_read : {X : Type 0} (word : X → List ℕ) (ws : List (List ℕ)) (x : X) (t : Tree)
    → Reads (word_form word) x (one_of ws) t → t ≡ text (word x)
word_read word ws x (text s) h = ap tree_in h.1
word_read word ws x t h = absurd (true≢false (sym h.0))

-- The sort of the members that a schema of a sort is written as.
use Rattle.openapi_tables.proofs.TreeLaws.{null_tree}
use Rattle.std.proofs.Common.{ℕ, Bool, true, false, not, cond, ◌||◌, List, [], ◌∷◌, ◌≡◌, refl, sym, ap, ◌∙◌, subst}
use Rattle.std.proofs.Common.{codes}
use Rattle.std.proofs.lemmas.Bool.{and_parts, and_from, not_from_false, both_ways}
use Rattle.openapi_tables.specs.Prelude.{join, every, same_text, has, Entry, Kind, list_of, required, Row, row}
use Rattle.openapi_tables.specs.Prelude.{constant, Tables, any_rows, schema_ref, string_rows, object_rows, array_rows}
use Rattle.openapi_tables.specs.Prelude.{boolean_rows, names_fit, untaken, is_null, own, first_tree, held, is_present}
use Rattle.openapi_tables.specs.Prelude.{Sort}
use Rattle.openapi_tables.specs.Prelude.{one_of_sort, all_of_sort, any_of_sort, not_sort, any_sort}
use Rattle.openapi_tables.specs.Prelude.{kind_names, sort_rows, allowed, further, named_sort, possible_sort, meets}
use Rattle.openapi_tables.specs.Prelude.{sort_of, Form, absent, slot_of_own, form, row_print, is_any}
use Rattle.openapi_node.specs.Tree.{Tree, null, text}
use Rattle.openapi_tables.proofs.ListLaws.{Each, every_each, every_from}
use Rattle.openapi_tables.proofs.Taken.{taken}
use Rattle.openapi_tables.proofs.ReadLaws.{reads, slot_in}
use Rattle.openapi_tables.proofs.PrintLaws.{printed, members_for}
use Rattle.openapi_tables.proofs.RowLaws.{OwnWrites}
use Rattle.openapi_tables.proofs.SlotLaws.{not_null}
use Rattle.openapi_tables.proofs.SortLaws.{Rewrites, further_again, names_held, each_name}
use Rattle.openapi_tables.proofs.SortShown.{Others, Shows, chain, possible_shown, sort_from, type_word}

-- if the result of the test is a sort other than `any_sort`, it is the possible sort, and the test passed
sort_parts : (b : Bool) (c s : Sort) → cond b c any_sort ≡ s → is_any s ≡ false → (c ≡ s) × (b ≡ true)
sort_parts true c s h g = (h, refl)
sort_parts false c s h g = absurd (both_ways (is_any s) g (ap is_any (sym h)))

-- if members have a sort other than `any_sort`, it is their possible sort, and they meet it
pub sort_meets : (es : List (Entry Tree)) (s : Sort) → sort_of es ≡ s → is_any s ≡ false
    → (possible_sort (held (codes "type") es) es ≡ s) × (meets s es ≡ true)
sort_meets es s h g =
    let p = sort_parts (meets (possible_sort (held (codes "type") es) es) es)
    (possible_sort (held (codes "type") es) es) s h g in
    (p.0, subst (λ c. meets c es ≡ true) p.0 p.1)

is_named : Sort → Bool
is_named one_of_sort = false
is_named all_of_sort = false
is_named any_of_sort = false
is_named not_sort = false
is_named _ = true

either_named : (b : Bool) (c d : Sort) → is_named c ≡ true → is_named d ≡ true → is_named (cond b c d) ≡ true
either_named true c d h g = h
either_named false c d h g = g

named_is : (s : List ℕ) → is_named (named_sort s) ≡ true
unfolding is_named
named_is s =
    either_named (same_text s (codes "string")) _ _ refl
    (either_named (same_text s (codes "number")) _ _ refl (either_named (same_text s (codes "integer")) _ _ refl
    (either_named (same_text s (codes "boolean")) _ _ refl
    (either_named (same_text s (codes "object")) _ _ refl
    (either_named (same_text s (codes "array")) _ _ refl refl)))))

-- which of `oneOf`, `allOf`, `anyOf` and `not` is present, by the sort
abbrev pub picked : Sort → Bool → Bool → Bool → Bool → Type 0
picked one_of_sort a b c d = a ≡ true
picked all_of_sort a b c d = b ≡ true
picked any_of_sort a b c d = c ≡ true
picked not_sort a b c d = d ≡ true
picked _ a b c d = Unit {0}

chain_picks : (a b c d : Bool) → picked (chain a b c d) a b c d
chain_picks true b c d = refl
chain_picks false true c d = refl
chain_picks false false true d = refl
chain_picks false false false true = refl
chain_picks false false false false = tt

named_picks : (s : Sort) (a b c d : Bool) → is_named s ≡ true → picked s a b c d
unfolding is_named
named_picks one_of_sort a b c d h = cc
named_picks all_of_sort a b c d h = cc
named_picks any_of_sort a b c d h = cc
named_picks not_sort a b c d h = cc
named_picks s a b c d h = tt

-- if the possible sort is that of one of the four names, a member of that name is present
possible_picks : (t : Tree) (es : List (Entry Tree))
    → picked (possible_sort t es) (is_present es (codes "oneOf")) (is_present es (codes "allOf"))
    (is_present es (codes "anyOf")) (is_present es (codes "not"))
possible_picks null es = chain_picks (is_present es (codes "oneOf")) (is_present es (codes "allOf"))
    (is_present es (codes "anyOf")) (is_present es (codes "not"))
possible_picks (text s) es = named_picks (named_sort s) _ _ _ _ (named_is s)
possible_picks t es = tt

-- which of the four names is present among members, given a sort
abbrev pub Picks : Sort → List (Entry Tree) → Type 0
Picks s es = picked s (is_present es (codes "oneOf")) (is_present es (codes "allOf")) (is_present es (codes "anyOf"))
    (is_present es (codes "not"))

-- if members have the sort of one of the four names, a member of that name is present
pub picks_of : (es : List (Entry Tree)) (s : Sort) → is_any s ≡ false → sort_of es ≡ s → Picks s es
picks_of es s a e = subst (λ x. Picks x es) (sort_meets es s e a).0 (possible_picks (held (codes "type") es) es)

-- what a required row writes for a member that is present is present
required_value : (T : Tables) (n : List ℕ) (k : Kind) (t : Tree) (b : Bool) → is_null t ≡ b → not b ≡ true
    → not (is_null (first_tree (row_print (row n required k) (printed T (cond b absent (form T k t)))))) ≡ true
required_value T n k t true h g = cc
required_value T n k t false h g = not_from_false _ (not_null T k t (form T k t) (taken T k t) h)

required_present : (T : Tables) (n : List ℕ) (k : Kind) (es : List (Entry Tree))
    → not (is_null (first_tree es)) ≡ true
    → not (is_null
    (first_tree (row_print (row n required k) (printed T (slot_of_own (row n required k) (reads T es)))))) ≡ true
required_present T n k [] h = cc
required_present T n k (e ∷ es) h = required_value T n k e.value (is_null e.value) refl h

present_again : (T : Tables) (n : List ℕ) (k : Kind) (es l : List (Entry Tree)) → is_present es n ≡ true
    → own (row n required k) l ≡ row_print (row n required k) (printed T (slot_in T es (row n required k)))
    → is_present l n ≡ true
present_again T n k es l h e = ap (λ x. not (is_null (first_tree x))) e
    ∙ required_present T n k (own (row n required k) es) h

type_again : (T : Tables) (w : List ℕ) (es l : List (Entry Tree))
    → own (constant (codes "type") w) l ≡ row_print (constant (codes "type") w)
    (printed T (slot_in T es (constant (codes "type") w))) → held (codes "type") l ≡ text w
type_again T w es l e = ap first_tree e

-- what a schema of a sort is written as shows the sort (`Shows`)
shown_again : (T : Tables) (s : Sort) (es l : List (Entry Tree)) → Rewrites T es l (sort_rows s) → is_any s ≡ false
    → Picks s es → Shows s l
unfolding sort_rows any_rows string_rows object_rows array_rows boolean_rows
shown_again T one_of_sort es l h a p = present_again T (codes "oneOf") (list_of schema_ref) es l p h.0
shown_again T all_of_sort es l h a p = present_again T (codes "allOf") (list_of schema_ref) es l p h.0
shown_again T any_of_sort es l h a p = present_again T (codes "anyOf") (list_of schema_ref) es l p h.0
shown_again T not_sort es l h a p = present_again T (codes "not") schema_ref es l p h.0
shown_again T any_sort es l h a p = cc
shown_again T s es l h a p = type_again T (type_word s) es l h.0

-- what a schema of a sort other than `any_sort` is written as has that sort
pub sort_again : (T : Tables) (pre : List Row) (s : Sort) (es : List (Entry Tree)) (fs : List Form)
    → names_fit pre s ≡ true → OwnWrites T (join pre (sort_rows s)) fs
    → Rewrites T es (members_for T (join pre (sort_rows s)) fs) (sort_rows s) → is_any s ≡ false → sort_of es ≡ s
    → sort_of (members_for T (join pre (sort_rows s)) fs) ≡ s
sort_again T pre s es fs n g h a e =
    sort_from l s (possible_shown s l (shown_again T s es l h a (picks_of es s a e)) a gone)
    (and_from (every (λ m. has (allowed s) m || is_null (held m l)) kind_names) (further s l)
    (every_from (λ m. has (allowed s) m || is_null (held m l)) kind_names gone_names)
    (further_again T s es l h met.1))
  where
    l : List (Entry Tree)
    l = members_for T (join pre (sort_rows s)) fs

    facts : (possible_sort (held (codes "type") es) es ≡ s) × (meets s es ≡ true)
    facts = sort_meets es s e a

    met : (every (λ m. has (allowed s) m || is_null (held m es)) kind_names ≡ true) × (further s es ≡ true)
    met = and_parts (every (λ m. has (allowed s) m || is_null (held m es)) kind_names) (further s es) facts.1

    gone_names : Each
        (λ m. (has (allowed s) m || is_null (held m (members_for T (join pre (sort_rows s)) fs))) ≡ true) kind_names
    gone_names = names_held T s (join pre (sort_rows s)) fs g kind_names
        (every_each (λ m. has (allowed s) m || untaken (join pre (sort_rows s)) m) kind_names n)

    or_right_part : (x y : Bool) → (x || y) ≡ true → x ≡ false → y ≡ true
    or_right_part true y p q = cc
    or_right_part false y p q = p

    gone : Others s l
    gone m p q = null_tree (held m l)
        (or_right_part (has (allowed s) m) (is_null (held m l))
        (each_name (λ u. has (allowed s) u || is_null (held u l)) kind_names m gone_names p) q)

-- Kinds whose nodes are written as they were read, and what a row of such a kind writes for what it reads.
use Rattle.std.proofs.Common.{ℕ, Bool, true, false, cond, List, [], ◌∷◌, Some, ◌≡◌, refl, ap, ◌∙◌, ◌⊎◌, inl, inr}
use Rattle.openapi_tables.specs.Prelude.{each, items_list, members_list, Entry, Kind, any_text, any_flag, number}
use Rattle.openapi_tables.specs.Prelude.{any_tree, one_of, null_or, list_of, Mode, row, Tables, is_null, first_tree}
use Rattle.openapi_tables.specs.Prelude.{Choice, choice, Form, form, default_of, slot_of_own, print, clean, row_print}
use Rattle.openapi_tables.specs.Prelude.{is_silent, one}
use Rattle.openapi_node.specs.Tree.{Tree, null, list, items_of}
use Rattle.openapi_tables.proofs.ListLaws.{each-each, each_same, each_id, each_under}
use Rattle.openapi_tables.proofs.TreeLaws.{Inside, by_trees, items_of-list}
use Rattle.openapi_tables.proofs.Taken.{Taken, as_leaf, as_list, as_fields, as_inner, taken}
use Rattle.openapi_tables.proofs.ReadLaws.{reads}
use Rattle.openapi_tables.proofs.PrintLaws.{printed, print-list, print-null_or}

-- the kinds that are written as they were read
abbrev pub is_plain : Kind → Bool
is_plain any_text = true
is_plain any_flag = true
is_plain (number w) = true
is_plain any_tree = true
is_plain (one_of ws) = true
is_plain (null_or k) = is_plain k
is_plain (list_of k) = is_plain k
is_plain _ = false

-- a plain kind has no choice of rows
pub plain_no_object : (k : Kind) (c : Choice) (es : List (Entry Tree)) → is_plain k ≡ true → choice k es ≡ Some c → ⊥
plain_no_object any_text c es h g = cc
plain_no_object k c es h g = cc

abbrev Same : (T : Tables) → Tree → Type 0
Same T t = (k : Kind) → is_plain k ≡ true → clean T k t ≡ t

plain_taken : (T : Tables) (k : Kind) (t : Tree) (f : Form) → Taken T k t f → Inside (Same T) t → is_plain k ≡ true
    → print T k f ≡ t
plain_taken T k t f (as_leaf j u e) g h = refl
plain_taken T k t f (as_list j ts) g h =
    print-list T j (each (form T j) (items_list ts))
    ∙ ap (λ l. list (items_of l))
    (each-each (print T j) (form T j) (items_list ts)
    ∙ each_same (clean T j) (λ t. t) (items_list ts) (each_under (λ (u : Tree) (x : Same T u). x j h) (items_list ts) g)
    ∙ each_id (items_list ts))
    ∙ ap list (items_of-list ts)
plain_taken T k t f (as_fields j c ms e) g h = absurd (plain_no_object j c (members_list ms) h e)
plain_taken T k t f (as_inner j u x y) g h = print-null_or T j x ∙ plain_taken T j u x y g h
plain_taken T k t f x g h = cc

-- a node that is read and written under a plain kind is unchanged
pub clean-plain : (T : Tables) (t : Tree) → Same T t
clean-plain T t = by_trees (Same T) (λ u g k h. plain_taken T k u (form T k u) (taken T k u) g h) t

-- the first value that a row writes for the form of a node that normalizing leaves unchanged: null if the row writes
-- nothing, and otherwise that node
first_value : (T : Tables) (n : List ℕ) (m : Mode) (k : Kind) (t : Tree) → clean T k t ≡ t → (b : Bool)
    → is_silent m (form T k t) ≡ b
    → (first_tree (row_print (row n m k) (printed T (form T k t))) ≡ null)
    ⊎ (first_tree (row_print (row n m k) (printed T (form T k t))) ≡ t)
first_value T n m k t e true h = inl (ap (λ b. first_tree (cond b [] (one n (clean T k t)))) h)
first_value T n m k t e false h = inr (ap (λ b. first_tree (cond b [] (one n (clean T k t)))) h ∙ e)

-- a node `u` is null, or the node `t`
abbrev pub NullOr : Tree → Tree → Type 0
NullOr u t = (u ≡ null) ⊎ (u ≡ t)

value_again : (T : Tables) (n : List ℕ) (m : Mode) (k : Kind) (t : Tree) → is_plain k ≡ true
    → first_tree (row_print (row n m k) (printed T (default_of m k))) ≡ null → (b : Bool)
    → NullOr (first_tree (row_print (row n m k) (printed T (cond b (default_of m k) (form T k t))))) t
value_again T n m k t h d true = inl d
value_again T n m k t h d false = first_value T n m k t (clean-plain T t k h) (is_silent m (form T k t)) refl

-- the first value that a row of a plain kind writes is null or that of its first member, if its default is written as
-- null or not at all
pub written_again : (T : Tables) (n : List ℕ) (m : Mode) (k : Kind) (es : List (Entry Tree)) → is_plain k ≡ true
    → first_tree (row_print (row n m k) (printed T (default_of m k))) ≡ null
    → NullOr (first_tree (row_print (row n m k) (printed T (slot_of_own (row n m k) (reads T es))))) (first_tree es)
written_again T n m k [] h d = inl d
written_again T n m k (e ∷ es) h d = value_again T n m k e.value h d (is_null e.value)

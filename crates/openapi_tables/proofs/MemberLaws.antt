-- Which members of an object may be swapped, and which have no effect on its form.
use Rattle.openapi_tables.proofs.ListLaws.{every_same}
use Rattle.std.proofs.Common.{ℕ, Bool, true, false, not, cond, ◌&&◌, ◌||◌, List, [], ◌∷◌, Some, ◌≡◌, refl, sym, ap, ◌∙◌}
use Rattle.std.proofs.Common.{subst, codes}
use Rattle.std.proofs.lemmas.Bool.{and_parts, both_ways}
use Rattle.openapi_tables.specs.Prelude.{each, join, only, every, same_text, has, members_of, Entry, Kind, tagged}
use Rattle.openapi_tables.specs.Prelude.{a_schema, a_schema_kind, Row, Tables, any_rows, is_null, own, held, Sort}
use Rattle.openapi_tables.specs.Prelude.{string_sort, number_sort, integer_sort, boolean_sort, one_of_sort, all_of_sort}
use Rattle.openapi_tables.specs.Prelude.{any_of_sort, not_sort, any_sort, sort, kind_names, allowed, entries_pass}
use Rattle.openapi_tables.specs.Prelude.{is_null_or_text, is_null_or_whole, is_null_or_flag, is_null_or_signed, further}
use Rattle.openapi_tables.specs.Prelude.{possible_sort, meets, sort_of, Choice, tag_choice, choice, rows_of, fields}
use Rattle.openapi_tables.specs.Prelude.{forms_of, slot_of_own, form}
use Rattle.openapi_node.specs.Tree.{Tree, null, object}
use Rattle.openapi_tables.specs.Laws.{steers}
use Rattle.openapi_tables.proofs.ListLaws.{Each, every_each, same_text-refl, each_under, same_text_eq}
use Rattle.openapi_tables.proofs.RowLaws.{not_both}
use Rattle.openapi_tables.proofs.ReadLaws.{reads, slot_in, form-fields}

-- two lists of members have the same value at each kind name
abbrev SameKinds : List (Entry Tree) → List (Entry Tree) → Type 0
SameKinds es ds = (n : List ℕ) → has kind_names n ≡ true → held n es ≡ held n ds

-- each kind name is found in the list of kind names
pub kind_names_known : every (has kind_names) kind_names ≡ true
unfolding kind_names any_rows
kind_names_known = refl

-- two lists of members agree in what their sort depends on: which kind names are null or missing, the type, and the
-- values that the further condition of a sort checks
pub record AlikeKinds (es ds : List (Entry Tree)) : Type 0 where
  pub nulls : Each (λ n. is_null (held n es) ≡ is_null (held n ds)) kind_names
  pub type : held (codes "type") es ≡ held (codes "type") ds
  pub enum : held (codes "enum") es ≡ held (codes "enum") ds
  pub multiple_of : held (codes "multipleOf") es ≡ held (codes "multipleOf") ds
  pub minimum : held (codes "minimum") es ≡ held (codes "minimum") ds
  pub maximum : held (codes "maximum") es ≡ held (codes "maximum") ds

further_same : (s : Sort) (es ds : List (Entry Tree)) → AlikeKinds es ds → further s es ≡ further s ds
further_same string_sort es ds h = ap (entries_pass is_null_or_text) h.enum
further_same number_sort es ds h = ap (entries_pass is_null_or_whole) h.enum
further_same integer_sort es ds h =
    λ i. entries_pass is_null_or_signed (h.enum i) && is_null_or_signed (h.multiple_of i) && is_null_or_signed (h.minimum i)
    && is_null_or_signed (h.maximum i)
further_same boolean_sort es ds h = ap (entries_pass is_null_or_flag) h.enum
further_same s es ds h = refl

meets_same : (s : Sort) (es ds : List (Entry Tree)) → AlikeKinds es ds → meets s es ≡ meets s ds
meets_same s es ds h =
    ap (λ b. b && further s es)
    (every_same (λ n. has (allowed s) n || is_null (held n es)) (λ n. has (allowed s) n || is_null (held n ds)) kind_names
    (each_under {P = λ n. is_null (held n es) ≡ is_null (held n ds)}
    (λ n x. ap (λ b. has (allowed s) n || b) x) kind_names h.nulls))
    ∙ ap (λ b. every (λ n. has (allowed s) n || is_null (held n ds)) kind_names && b) (further_same s es ds h)

abbrev chain : Bool → Bool → Bool → Bool → Sort
chain a b c d = cond (not a) one_of_sort
    (cond (not b) all_of_sort (cond (not c) any_of_sort (cond (not d) not_sort any_sort)))

possible_same : (t : Tree) (es ds : List (Entry Tree)) → AlikeKinds es ds → possible_sort t es ≡ possible_sort t ds
unfolding kind_names any_rows
possible_same null es ds h =
    λ i. chain (h.nulls.1.1.1.1.1.1.1.1.1.1.1.1.1.1.1.1.1.1.1.1.0 i) (h.nulls.1.1.1.1.1.1.1.1.1.1.1.1.1.1.1.1.1.1.1.1.1.0 i)
    (h.nulls.1.1.1.1.1.1.1.1.1.1.1.1.1.1.1.1.1.1.1.1.1.1.0 i) (h.nulls.1.1.1.1.1.1.1.1.1.1.1.1.1.1.1.1.1.1.1.1.1.1.1.0 i)
possible_same t es ds h = refl

-- members that agree in what their sort depends on have the same sort
pub same_sort : (es ds : List (Entry Tree)) → AlikeKinds es ds → sort_of es ≡ sort_of ds
same_sort es ds h =
    let p : possible_sort (held (codes "type") es) es ≡ possible_sort (held (codes "type") ds) ds =
    possible_same (held (codes "type") es) es ds h ∙ ap (λ t. possible_sort t ds) h.type in
    ap (λ s. cond (meets s es) s any_sort) p
    ∙ ap (λ b. cond b (possible_sort (held (codes "type") ds) ds) any_sort)
    (meets_same (possible_sort (held (codes "type") ds) ds) es ds h)

-- members that have the same value at each kind name have the same sort
sort_same : (es ds : List (Entry Tree)) → SameKinds es ds → sort_of es ≡ sort_of ds
unfolding kind_names any_rows
sort_same es ds h =
    same_sort es ds (record {
      nulls = each_under (λ n (x : has kind_names n ≡ true). ap is_null (h n x)) kind_names
          (every_each (has kind_names) kind_names kind_names_known);
      type = h (codes "type") refl;
      enum = h (codes "enum") refl;
      multiple_of = h (codes "multipleOf") refl;
      minimum = h (codes "minimum") refl;
      maximum = h (codes "maximum") refl;
    })

-- the rows by which an object is read depend only on the values at the names that steer
pub choice_same : (k : Kind) (es ds : List (Entry Tree)) → ((n : List ℕ) → steers k n ≡ true → held n es ≡ held n ds)
    → choice k es ≡ choice k ds
choice_same (tagged n cs) es ds h = ap (tag_choice cs) (h n (same_text-refl n))
choice_same a_schema es ds h = ap (λ s. Some (sort s)) (sort_same es ds h)
choice_same a_schema_kind es ds h = ap (λ s. Some (sort s)) (sort_same es ds h)
choice_same k es ds h = refl

slots_same : (T : Tables) (ws : List Row) (es ds : List (Entry Tree)) → Each (λ w. own w es ≡ own w ds) ws
    → each (slot_in T es) ws ≡ each (slot_in T ds) ws
slots_same T [] es ds h = refl
slots_same T (w ∷ ws) es ds h =
    ap (λ l. slot_of_own w (reads T l) ∷ each (slot_in T es) ws) h.0
    ∙ ap (λ l. slot_in T ds w ∷ l) (slots_same T ws es ds h.1)

-- two objects are read as the same form if each name that steers has the same value in both, and each row takes the
-- same members
pub form_same : (T : Tables) (k : Kind) (c : Choice) (es ds : List (Entry Tree)) → choice k ds ≡ Some c
    → ((n : List ℕ) → steers k n ≡ true → held n es ≡ held n ds)
    → Each (λ w. own w es ≡ own w ds) (rows_of T k c)
    → form T k (object (members_of es)) ≡ form T k (object (members_of ds))
form_same T k c es ds h g o =
    form-fields T k c es (choice_same k es ds g ∙ h)
    ∙ ap (λ l. fields c (forms_of l)) (slots_same T (rows_of T k c) es ds o) ∙ sym (form-fields T k c ds h)

-- an element that does not pass a test makes no difference to the elements that pass
pub only_skips : {A : Type 0} → (p : A → Bool) (xs ys : List A) (x : A) → p x ≡ false
    → only p (join xs (x ∷ ys)) ≡ only p (join xs ys)
only_skips p [] ys x h = ap (λ b. cond b (x ∷ only p ys) (only p ys)) h
only_skips p (z ∷ xs) ys x h = ap (λ l. cond (p z) (z ∷ l) l) (only_skips p xs ys x h)

swapped : {A : Type 0} → (b c : Bool) (x y : A) (l : List A) → (b && c) ≡ false
    → cond c (y ∷ cond b (x ∷ l) l) (cond b (x ∷ l) l) ≡ cond b (x ∷ cond c (y ∷ l) l) (cond c (y ∷ l) l)
swapped true true x y l h = cc
swapped b false x y l h = refl
swapped b c x y l h = refl

-- the elements that pass a test are the same after two neighbors are swapped that do not both pass it
pub only_swaps : {A : Type 0} → (p : A → Bool) (xs ys : List A) (x y : A) → (p x && p y) ≡ false
    → only p (join xs (y ∷ x ∷ ys)) ≡ only p (join xs (x ∷ y ∷ ys))
only_swaps p [] ys x y h = swapped (p x) (p y) x y (only p ys) h
only_swaps p (z ∷ xs) ys x y h = ap (λ l. cond (p z) (z ∷ l) l) (only_swaps p xs ys x y h)

-- a name that steers differs from a name that does not
pub other_name : (k : Kind) (n m : List ℕ) → steers k n ≡ true → steers k m ≡ false → same_text n m ≡ false
other_name k n m h g = not_both (same_text n m)
    (λ e. both_ways (steers k m) g (subst (λ u. steers k u ≡ true) (same_text_eq n m e) h))

-- a text is not the same as both of two different texts
pub not_two : (n d e : List ℕ) → same_text d e ≡ false → (same_text n d && same_text n e) ≡ false
not_two n d e h =
    not_both (same_text n d && same_text n e) (λ x.
    let p = and_parts (same_text n d) (same_text n e) x in
    both_ways (same_text d e) h
    (subst (λ u. same_text d u ≡ true) (sym (same_text_eq n d p.0) ∙ same_text_eq n e p.1) (same_text-refl d)))

-- Which members of an object may be swapped, and which have no effect, also where a reference is allowed.
use Rattle.std.proofs.Common.{ℕ, Bool, true, false, ◌&&◌, List, [], ◌∷◌, Some, ◌≡◌, refl, sym, ap, ◌∙◌, codes}
use Rattle.std.proofs.Common.{true≢false}
use Rattle.std.proofs.lemmas.Bool.{or_left, or_right}
use Rattle.openapi_tables.specs.Prelude.{each, join, every, same_text, has, members_of, Entry, Seen, Shape, an_object}
use Rattle.openapi_tables.specs.Prelude.{of_members, Kind, by, tagged, ref_to, flag_or_schema, a_schema, a_schema_kind}
use Rattle.openapi_tables.specs.Prelude.{optional, Row, row, either, class, constant, takes, schema_data, Tables}
use Rattle.openapi_tables.specs.Prelude.{any_rows, own, first_tree, held, plain, sort, sort_rows, kind_names, row_name}
use Rattle.openapi_tables.specs.Prelude.{Choice, choice, rows_of, made_optional, checked_rows, text_in, is_reference}
use Rattle.openapi_tables.specs.Prelude.{reference_or, root_conforms, row_holds, chosen_holds, object_holds, conforms}
use Rattle.openapi_tables.specs.Prelude.{reference, reference_or_item, root_form, form}
use Rattle.openapi_node.specs.Tree.{Tree, text, object}
use Rattle.openapi_tables.specs.Members.{tag}
use Rattle.openapi_tables.specs.Laws.{steers, item_kind, Every, ReadAlike, Ignored, Order, References}
use Rattle.openapi_tables.proofs.FaultLaws.{judged, own_judged}
use Rattle.openapi_tables.proofs.ListLaws.{Each, Each-join, same_text-refl}
use Rattle.openapi_tables.proofs.MemberLaws.{choice_same, form_same, only_skips, only_swaps, other_name, not_two}
use Rattle.openapi_tables.proofs.ReadLaws.{form-reference}
use Rattle.openapi_tables.proofs.RowWrites.{row_holds_own, row_holds_lem}
use Rattle.openapi_tables.proofs.Taken.{reference_of}
use Rattle.openapi_tables.proofs.TreeLaws.{members_list-of}
use Rattle.openapi_tables.proofs.Writes.{object_conforms}

-- ---- the rows that must hold
front : {A : Type 0} (P : A → Type 0) (xs ys : List A) → Each P (join xs ys) → Each P xs
front P [] ys h = tt
front P (x ∷ xs) ys h = (h.0, front P xs ys h.1)

is_named : Row → Bool
is_named (row n m k) = true
is_named w = false

all_named : every is_named any_rows ≡ true
unfolding any_rows is_named
all_named = refl

named_rows : (P : Row → Type 0) (ws : List Row) → every is_named ws ≡ true
    → ((n : List ℕ) (k : Kind) → has (each row_name ws) n ≡ true → P (row n optional k))
    → Each P (each made_optional ws)
unfolding is_named
named_rows P [] s f = tt
named_rows P (row n m k ∷ ws) s f = (
  f n k (or_left (same_text n n) (has (each row_name ws) n) (same_text-refl n)),
  named_rows P ws s (λ a j x. f a j (or_right (same_text n a) (has (each row_name ws) a) x)),
)
named_rows P (either a j b k ∷ ws) s f = absurd (true≢false (sym s))
named_rows P (class c k ∷ ws) s f = absurd (true≢false (sym s))
named_rows P (constant n v ∷ ws) s f = absurd (true≢false (sym s))

-- what holds for the rows by which an object is read, and for an optional row of each name that steers, holds for the
-- rows that must hold
checked_from : (P : Row → Type 0) (T : Tables) (k : Kind) (c : Choice)
    → ((n : List ℕ) (j : Kind) → steers k n ≡ true → P (row n optional j)) → Each P (rows_of T k c)
    → Each P (checked_rows T k c)
unfolding rows_of checked_rows kind_names
checked_from P T (by i) c f h = h
checked_from P T (tagged n cs) (tag s) f h = h
checked_from P T a_schema (sort s) f h =
    Each-join P (T schema_data) (each made_optional any_rows) (front P (T schema_data) (sort_rows s) h)
    (named_rows P any_rows all_named f)
checked_from P T a_schema_kind (sort s) f h = named_rows P any_rows all_named f
checked_from P T k plain f h = tt
checked_from P T k c f h = tt

-- ---- objects of which each row takes the same members
holds_same : (T : Tables) (es ds : List (Entry Tree)) (ws : List Row) → Each (λ w. own w es ≡ own w ds) ws
    → every (row_holds (judged T es)) ws ≡ every (row_holds (judged T ds)) ws
holds_same T es ds [] h = refl
holds_same T es ds (w ∷ ws) h =
    let by_own : (ms : List (Entry Tree)) → row_holds (judged T ms) w ≡ row_holds_own w (judged T (own w ms)) =
    λ ms. row_holds_lem w (judged T ms) ∙ ap (row_holds_own w) (own_judged (root_conforms T) w ms) in
    ap (λ b. b && every (row_holds (judged T es)) ws)
    (by_own es ∙ ap (λ l. row_holds_own w (judged T l)) h.0 ∙ sym (by_own ds))
    ∙ ap (λ b. row_holds (judged T ds) w && b) (holds_same T es ds ws h.1)

module _ (T : Tables) (k : Kind) (c : Choice) (es ds : List (Entry Tree)) (h : choice k ds ≡ Some c)
    (g : (n : List ℕ) → steers k n ≡ true → held n es ≡ held n ds) where
  object_same : Each (λ w. own w es ≡ own w ds) (checked_rows T k c)
      → object_holds T k (of_members (root_conforms T) (members_of es))
      ≡ object_holds T k (of_members (root_conforms T) (members_of ds))
  object_same o =
      object_conforms T k es ∙ ap (chosen_holds T k (judged T es)) (choice_same k es ds g ∙ h)
      ∙ holds_same T es ds (checked_rows T k c) o
      ∙ sym (object_conforms T k ds ∙ ap (chosen_holds T k (judged T ds)) h)

conforms_same : (T : Tables) (k : Kind) (c : Choice) (es ds : List (Entry Tree)) → choice k ds ≡ Some c
    → ((n : List ℕ) → steers k n ≡ true → held n es ≡ held n ds)
    → Each (λ w. own w es ≡ own w ds) (checked_rows T k c)
    → conforms T k (object (members_of es)) ≡ conforms T k (object (members_of ds))
conforms_same T (by i) c es ds h g o = object_same T (by i) c es ds h g o
conforms_same T (tagged n cs) c es ds h g o = object_same T (tagged n cs) c es ds h g o
conforms_same T a_schema c es ds h g o = object_same T a_schema c es ds h g o
conforms_same T a_schema_kind c es ds h g o = object_same T a_schema_kind c es ds h g o
conforms_same T k c es ds h g o = cc

alike_object : (T : Tables) (k : Kind) (c : Choice) (es ds : List (Entry Tree)) → choice k ds ≡ Some c
    → ((n : List ℕ) → steers k n ≡ true → held n es ≡ held n ds)
    → Each (λ w. own w es ≡ own w ds) (rows_of T k c) → Each (λ w. own w es ≡ own w ds) (checked_rows T k c)
    → ReadAlike T k es ds
alike_object T k c es ds h g o q = (form_same T k c es ds h g o, conforms_same T k c es ds h g q)

-- ---- references
referred : {X : Type 0} (f : Shape (Seen X) → X) (es : List (Entry Tree))
    → is_reference (an_object (of_members f (members_of es))) ≡ text_in (held (codes "$ref") es)
referred f es = reference_of f (members_of es) ∙ ap (λ l. text_in (held (codes "$ref") l)) (members_list-of es)

referred_same : {X : Type 0} (f : Shape (Seen X) → X) (es ds : List (Entry Tree))
    → held (codes "$ref") es ≡ held (codes "$ref") ds
    → is_reference (an_object (of_members f (members_of es))) ≡ is_reference (an_object (of_members f (members_of ds)))
referred_same f es ds h = referred f es ∙ ap text_in h ∙ sym (referred f ds)

alike_ref : (T : Tables) (k : Kind) (es ds : List (Entry Tree)) → held (codes "$ref") es ≡ held (codes "$ref") ds
    → ReadAlike T k es ds → ReadAlike T (ref_to k) es ds
alike_ref T k es ds h a = (
  λ i. reference_or_item (referred_same (root_form T) es ds h i) (a.0 i),
  λ i. reference_or (referred_same (root_conforms T) es ds h i) (a.1 i),
)

refers : (T : Tables) (k : Kind) (es : List (Entry Tree)) (s : List ℕ) → held (codes "$ref") es ≡ text s
    → (form T (ref_to k) (object (members_of es)) ≡ reference s)
    × (conforms T (ref_to k) (object (members_of es)) ≡ true)
refers T k es s h =
    let is = ap text_in h in (
      form-reference T k (object (members_of es)) s
          (ap (λ l. text_in (held (codes "$ref") l)) (members_list-of es) ∙ is),
      ap (λ o. reference_or o (conforms T k (object (members_of es)))) (referred (root_conforms T) es ∙ is),
    )

-- an object with a string at `$ref` conforms, and is read as that reference: the law `References`
pub references : References
references T (ref_to k) es s m h = refers T k es s h
references T flag_or_schema es s m h = refers T a_schema es s h
references T k es s m h = absurd (true≢false (sym m))

-- ---- objects, also where a reference is allowed
alike : (T : Tables) (k : Kind) (c : Choice) (es ds : List (Entry Tree)) → choice (item_kind k) ds ≡ Some c
    → ((n : List ℕ) → steers k n ≡ true → held n es ≡ held n ds)
    → Each (λ w. own w es ≡ own w ds) (rows_of T (item_kind k) c)
    → Each (λ w. own w es ≡ own w ds) (checked_rows T (item_kind k) c) → ReadAlike T k es ds
alike T (ref_to k) c es ds h g o q =
    alike_ref T k es ds (g (codes "$ref") refl)
    (alike T k c es ds h (λ n x. g n (or_right (same_text (codes "$ref") n) (steers k n) x)) o q)
alike T flag_or_schema c es ds h g o q =
    alike_ref T a_schema es ds (g (codes "$ref") refl)
    (alike_object T a_schema c es ds h
    (λ n x. g n (or_right (same_text (codes "$ref") n) (has kind_names n) x)) o q)
alike T k c es ds h g o q = alike_object T k c es ds h g o q

steers_item : (k : Kind) (n : List ℕ) → steers (item_kind k) n ≡ true → steers k n ≡ true
steers_item (ref_to k) n h = or_right (same_text (codes "$ref") n) (steers k n) (steers_item k n h)
steers_item flag_or_schema n h = or_right (same_text (codes "$ref") n) (has kind_names n) h
steers_item k n h = h

each_of : {A : Type 0} (P : A → Type 0) (xs : List A) → Every P xs → Each P xs
each_of P [] h = tt
each_of P (x ∷ xs) h = (h.0, each_of P xs h.1)

under : {A : Type 0} (P Q : A → Type 0) (xs : List A) → ((x : A) → P x → Q x) → Each P xs → Each Q xs
under P Q [] f h = tt
under P Q (x ∷ xs) f h = (f x h.0, under P Q xs f h.1)

-- a member that no row takes and whose name does not steer has no effect: the law `Ignored`
pub ignored : Ignored
ignored T k c before after e h s g =
    let P : Row → Type 0 = λ w. takes w e.name ≡ false in
    let Q : Row → Type 0 = λ w. own w (join before (e ∷ after)) ≡ own w (join before after) in
    let skips : (w : Row) → P w → Q w = λ w x. only_skips (λ (d : Entry Tree). takes w d.name) before after e x in
    let rows = rows_of T (item_kind k) c in
    let all = each_of P rows g in
    let checked = checked_from P T (item_kind k) c (λ n j x. other_name k n e.name (steers_item k n x) s) all in
    alike T k c (join before (e ∷ after)) (join before after) h
    (λ n x. ap first_tree
    (only_skips (λ (d : Entry Tree). same_text n d.name) before after e (other_name k n e.name x s)))
    (under P Q rows skips all) (under P Q (checked_rows T (item_kind k) c) skips checked)

-- neighbors with different names may be swapped if no row takes both: the law `Order`
pub order : Order
order T k c before after d e h s g =
    let P : Row → Type 0 = λ w. (takes w d.name && takes w e.name) ≡ false in
    let Q : Row → Type 0 = λ w. own w (join before (e ∷ d ∷ after)) ≡ own w (join before (d ∷ e ∷ after)) in
    let swaps : (w : Row) → P w → Q w = λ w x. only_swaps (λ (m : Entry Tree). takes w m.name) before after d e x in
    let rows = rows_of T (item_kind k) c in
    let all = each_of P rows g in
    let checked = checked_from P T (item_kind k) c (λ n j x. not_two n d.name e.name s) all in
    alike T k c (join before (e ∷ d ∷ after)) (join before (d ∷ e ∷ after)) h
    (λ n x. ap first_tree
    (only_swaps (λ (m : Entry Tree). same_text n m.name) before after d e (not_two n d.name e.name s)))
    (under P Q rows swaps all) (under P Q (checked_rows T (item_kind k) c) swaps checked)

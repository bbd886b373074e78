-- If the rows of a sort hold for members that have no other kind name, the members have that sort.
use Rattle.openapi_tables.proofs.TreeLaws.{null_tree}
use Rattle.std.proofs.Common.{ℕ, Bool, true, false, not, ◌&&◌, ◌||◌, List, [], ◌∷◌, ◌≡◌, refl, sym, ap, ◌∙◌}
use Rattle.std.proofs.Common.{codes, ⊎_elim}
use Rattle.std.proofs.lemmas.Bool.{and_parts, and_from, or_left, or_right, or_cases, both_ways}
use Rattle.openapi_tables.specs.Prelude.{Kind, Tables, Row, Mode, any_flag, any_text, constant, list_of, listed}
use Rattle.openapi_tables.specs.Prelude.{format, ref_to, refuses_null, null_or, number, optional, required, row, signed, unlimited, conforms}
use Rattle.openapi_tables.specs.Prelude.{constant_holds, name_holds, root_conforms, row_holds, skips_null, every, has}
use Rattle.openapi_tables.specs.Prelude.{Sort, all_of_sort, allowed, any_of_sort, any_sort, boolean_sort}
use Rattle.openapi_tables.specs.Prelude.{entries_pass, first_tree, further, held, integer_sort, is_null}
use Rattle.openapi_tables.specs.Prelude.{is_null_or_flag, is_null_or_signed, is_null_or_text, is_null_or_whole}
use Rattle.openapi_tables.specs.Prelude.{kind_names, not_sort, number_sort, one_of_sort, own}
use Rattle.openapi_tables.specs.Prelude.{sort_of, sort_rows, string_sort, is_any, any_rows, array_rows}
use Rattle.openapi_tables.specs.Prelude.{boolean_rows, object_rows, schema_ref, string_rows, Entry, Seen, items_list}
use Rattle.openapi_tables.specs.Prelude.{of_items}
use Rattle.openapi_tables.proofs.FaultLaws.{judged, own_judged}
use Rattle.openapi_tables.proofs.ListLaws.{Each, every_each, same_text_eq}
use Rattle.openapi_tables.proofs.MemberLaws.{kind_names_known}
use Rattle.openapi_tables.proofs.RowWrites.{row_holds_lem, row_holds_own}
use Rattle.openapi_tables.proofs.SortShown.{Others, Shows, possible_shown, sort_from, type_word}
use Rattle.openapi_tables.specs.Conforms.{is_text}
use Rattle.openapi_node.specs.Tree.{Items, Tree, flag, item, list, no_items, null, text, whole}

-- if null and each node of a kind pass a test, so does the first member that a row of that kind takes, if the row
-- holds. Without a member, null counts
first_passes : (T : Tables) (q : Tree → Bool) (m : Mode) (k : Kind) (l : List (Entry Tree))
    → name_holds m k (judged T l) ≡ true → q null ≡ true → ((t : Tree) → conforms T k t ≡ true → q t ≡ true)
    → q (first_tree l) ≡ true
first_passes T q m k [] h n g = n
first_passes T q m k (e ∷ l) h n g =
    ⊎_elim (λ (x : (skips_null m && is_null e.value) ≡ true). ap q
    (null_tree e.value (and_parts (skips_null m) (is_null e.value) x).1) ∙ n)
    (λ (x : conforms T k e.value ≡ true). g e.value x)
    (or_cases (skips_null m && is_null e.value) (conforms T k e.value) h)

-- null does not conform to a kind that rejects it (`refuses_null`)
pub null_refused : (T : Tables) (k : Kind) → refuses_null k ≡ true → conforms T k null ≡ false
null_refused T (ref_to k) h = null_refused T k h
null_refused T (format ws true) h = cc
null_refused T k h = cc

-- a node that conforms to a kind to which null does not conform is not null
pub not_null_conforms : (T : Tables) (k : Kind) (t : Tree) → conforms T k null ≡ false → conforms T k t ≡ true
    → not (is_null t) ≡ true
not_null_conforms T k null h g = absurd (both_ways (conforms T k null) h g)
not_null_conforms T k t h g = refl

required_held : (T : Tables) (k : Kind) (l : List (Entry Tree)) → conforms T k null ≡ false
    → name_holds required k (judged T l) ≡ true → not (is_null (first_tree l)) ≡ true
required_held T k [] h g = cc
required_held T k (e ∷ l) h g = not_null_conforms T k e.value h g

-- a node that is a given text by `is_text` is that text
pub text_held : (v : List ℕ) (t : Tree) → is_text v t ≡ true → t ≡ text v
text_held v (text s) h = ap text (sym (same_text_eq v s h))
text_held v t h = cc

constant_held : (T : Tables) (v : List ℕ) (l : List (Entry Tree)) → constant_holds v (judged T l) ≡ true
    → first_tree l ≡ text v
constant_held T v [] h = cc
constant_held T v (e ∷ l) h = text_held v e.value h

entries_of : (T : Tables) (q : Tree → Bool) (k : Kind) → ((t : Tree) → conforms T k t ≡ true → q t ≡ true)
    → (ts : Items) → every (λ (x : Seen (Kind → Bool)). x.answer k) (of_items (root_conforms T) ts) ≡ true
    → every q (items_list ts) ≡ true
entries_of T q k g no_items h = refl
entries_of T q k g (item t ts) h =
    let p = and_parts (conforms T k t)
    (every (λ (x : Seen (Kind → Bool)). x.answer k) (of_items (root_conforms T) ts)) h in
    and_from (q t) (every q (items_list ts)) (g t p.0) (entries_of T q k g ts p.1)

entries_conform : (T : Tables) (q : Tree → Bool) (k : Kind) → ((t : Tree) → conforms T k t ≡ true → q t ≡ true)
    → (t : Tree) → conforms T (list_of k) t ≡ true → entries_pass q t ≡ true
entries_conform T q k g null h = refl
entries_conform T q k g (list ts) h = entries_of T q k g ts h
entries_conform T q k g t h = cc

text_entry : (T : Tables) (t : Tree) → conforms T (null_or any_text) t ≡ true → is_null_or_text t ≡ true
text_entry T null h = refl
text_entry T (text s) h = refl
text_entry T t h = cc

flag_entry : (T : Tables) (t : Tree) → conforms T (null_or any_flag) t ≡ true → is_null_or_flag t ≡ true
flag_entry T null h = refl
flag_entry T (flag b) h = refl
flag_entry T t h = cc

whole_entry : (T : Tables) (t : Tree) → conforms T (null_or (number unlimited)) t ≡ true → is_null_or_whole t ≡ true
whole_entry T null h = refl
whole_entry T (whole z) h = refl
whole_entry T t h = cc

signed_entry : (T : Tables) (t : Tree) → conforms T (null_or (number signed)) t ≡ true → is_null_or_signed t ≡ true
signed_entry T null h = refl
signed_entry T (whole z) h = h
signed_entry T t h = cc

signed_tree : (T : Tables) (t : Tree) → conforms T (number signed) t ≡ true → is_null_or_signed t ≡ true
signed_tree T (whole z) h = h
signed_tree T t h = cc

-- each row holds for the members that it takes from a list
abbrev pub AllHold : (T : Tables) → List (Entry Tree) → List Row → Type 0
AllHold T es ws = Each (λ w. row_holds_own w (judged T (own w es)) ≡ true) ws

-- if the check of all rows for members passes, each row holds for those that it takes
pub all_hold : (T : Tables) (es : List (Entry Tree)) (ws : List Row) → every (row_holds (judged T es)) ws ≡ true
    → AllHold T es ws
all_hold T es [] h = tt
all_hold T es (w ∷ ws) h =
    let p = and_parts (row_holds (judged T es) w) (every (row_holds (judged T es)) ws) h in (
      sym (row_holds_lem w (judged T es) ∙ ap (row_holds_own w) (own_judged (root_conforms T) w es))
          ∙ p.0,
      all_hold T es ws p.1,
    )

-- if each row holds for the members that it takes, the check of all rows passes
pub from_all_hold : (T : Tables) (es : List (Entry Tree)) (ws : List Row) → AllHold T es ws
    → every (row_holds (judged T es)) ws ≡ true
from_all_hold T es [] h = refl
from_all_hold T es (w ∷ ws) h =
    and_from (row_holds (judged T es) w) (every (row_holds (judged T es)) ws)
    (row_holds_lem w (judged T es) ∙ ap (row_holds_own w) (own_judged (root_conforms T) w es) ∙ h.0)
    (from_all_hold T es ws h.1)

further_holds : (T : Tables) (s : Sort) (es : List (Entry Tree)) → AllHold T es (sort_rows s) → further s es ≡ true
unfolding any_rows sort_rows string_rows object_rows array_rows boolean_rows
further_holds T string_sort es h =
    first_passes T (entries_pass is_null_or_text) listed (list_of (null_or any_text))
    (own (row (codes "enum") listed (list_of (null_or any_text))) es) h.1.1.1.0 refl
    (entries_conform T is_null_or_text (null_or any_text) (text_entry T))
further_holds T number_sort es h =
    first_passes T (entries_pass is_null_or_whole) listed (list_of (null_or (number unlimited)))
    (own (row (codes "enum") listed (list_of (null_or (number unlimited)))) es) h.1.1.1.1.1.1.1.0 refl
    (entries_conform T is_null_or_whole (null_or (number unlimited)) (whole_entry T))
further_holds T integer_sort es h =
    and_from (entries_pass is_null_or_signed (held (codes "enum") es)
    && is_null_or_signed (held (codes "multipleOf") es) && is_null_or_signed (held (codes "minimum") es))
    (is_null_or_signed (held (codes "maximum") es))
    (and_from (entries_pass is_null_or_signed (held (codes "enum") es)
    && is_null_or_signed (held (codes "multipleOf") es)) (is_null_or_signed (held (codes "minimum") es))
    (and_from (entries_pass is_null_or_signed (held (codes "enum") es))
    (is_null_or_signed (held (codes "multipleOf") es))
    (first_passes T (entries_pass is_null_or_signed) listed (list_of (null_or (number signed)))
    (own (row (codes "enum") listed (list_of (null_or (number signed)))) es) h.1.1.1.1.1.1.1.0 refl
    (entries_conform T is_null_or_signed (null_or (number signed)) (signed_entry T)))
    (first_passes T is_null_or_signed optional (number signed)
    (own (row (codes "multipleOf") optional (number signed)) es) h.1.1.0 refl (signed_tree T)))
    (first_passes T is_null_or_signed optional (number signed)
    (own (row (codes "minimum") optional (number signed)) es) h.1.1.1.1.1.0 refl (signed_tree T)))
    (first_passes T is_null_or_signed optional (number signed)
    (own (row (codes "maximum") optional (number signed)) es) h.1.1.1.1.1.1.0 refl (signed_tree T))
further_holds T boolean_sort es h =
    first_passes T (entries_pass is_null_or_flag) listed (list_of (null_or any_flag))
    (own (row (codes "enum") listed (list_of (null_or any_flag))) es) h.1.0 refl
    (entries_conform T is_null_or_flag (null_or any_flag) (flag_entry T))
further_holds T s es h = refl

-- if the rows of a sort other than `any_sort` hold for members, the members show the sort (`Shows`)
shown_held : (T : Tables) (s : Sort) (es : List (Entry Tree)) → AllHold T es (sort_rows s) → is_any s ≡ false → Shows s es
unfolding any_rows sort_rows string_rows object_rows array_rows boolean_rows
shown_held T one_of_sort es h a =
    required_held T (list_of schema_ref) (own (row (codes "oneOf") required (list_of schema_ref)) es) refl h.0
shown_held T all_of_sort es h a =
    required_held T (list_of schema_ref) (own (row (codes "allOf") required (list_of schema_ref)) es) refl h.0
shown_held T any_of_sort es h a =
    required_held T (list_of schema_ref) (own (row (codes "anyOf") required (list_of schema_ref)) es) refl h.0
shown_held T not_sort es h a = required_held T schema_ref (own (row (codes "not") required schema_ref) es) refl h.0
shown_held T any_sort es h a = cc
shown_held T s es h a = constant_held T (type_word s) (own (constant (codes "type") (type_word s)) es) h.0

-- members have a sort other than `any_sort`, if its rows hold for them and they have no other kind name
pub sort_holds : (T : Tables) (s : Sort) (es : List (Entry Tree)) → is_any s ≡ false → AllHold T es (sort_rows s)
    → Others s es → sort_of es ≡ s
sort_holds T s es a h n =
    sort_from es s (possible_shown s es (shown_held T s es h a) a n)
    (and_from (every (λ m. has (allowed s) m || is_null (held m es)) kind_names) (further s es)
    (names kind_names (every_each (has kind_names) kind_names kind_names_known)) (further_holds T s es h))
  where
    one_name : (m : List ℕ) (b : Bool) → has (allowed s) m ≡ b → has kind_names m ≡ true
        → (has (allowed s) m || is_null (held m es)) ≡ true
    one_name m true e x = or_left (has (allowed s) m) (is_null (held m es)) e
    one_name m false e x = or_right (has (allowed s) m) (is_null (held m es)) (ap is_null (n m x e))

    names : (ms : List (List ℕ)) → Each (λ m. has kind_names m ≡ true) ms
        → every (λ m. has (allowed s) m || is_null (held m es)) ms ≡ true
    names [] x = refl
    names (m ∷ ms) x = and_from (has (allowed s) m || is_null (held m es)) _
        (one_name m (has (allowed s) m) refl x.0) (names ms x.1)

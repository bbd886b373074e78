-- The rows of a sort find what they must, if the 24 names of the kind of a schema hold as optional rows.
use Prim.Native.String.{String}
use Rattle.std.proofs.Common.{ℕ, Bool, true, false, cond, ◌||◌, List, [], ◌∷◌, Option, Some, None, ◌≡◌, refl, subst}
use Rattle.std.proofs.Common.{codes}
use Rattle.std.proofs.lemmas.Bool.{and_parts, and_from}
use Rattle.openapi_tables.specs.Prelude.{Kind, Tables, Row, any_flag, any_text, class, constant, either, format}
use Rattle.openapi_tables.specs.Prelude.{list_of, null_or, number, optional, required, row, signed, unlimited, conforms}
use Rattle.openapi_tables.specs.Prelude.{name_holds, root_conforms, each, every, has, same_text, Sort, all_of_sort}
use Rattle.openapi_tables.specs.Prelude.{allowed, any_of_sort, any_sort, array_sort, boolean_sort, entries_pass}
use Rattle.openapi_tables.specs.Prelude.{first_tree, further, held, integer_sort, is_null, is_null_or_flag}
use Rattle.openapi_tables.specs.Prelude.{is_null_or_signed, is_null_or_text, is_null_or_whole, kind_names}
use Rattle.openapi_tables.specs.Prelude.{made_optional, not_sort, number_sort, object_sort, one_of_sort, own, sort_of}
use Rattle.openapi_tables.specs.Prelude.{sort_rows, string_sort, is_any, any_rows, array_rows, boolean_rows}
use Rattle.openapi_tables.specs.Prelude.{object_rows, string_rows, Entry, Seen, items_list, of_items, never_misses}
use Rattle.openapi_tables.specs.Prelude.{row_name}
use Rattle.openapi_tables.proofs.FaultLaws.{judged}
use Rattle.openapi_tables.proofs.RowWrites.{row_holds_own}
use Rattle.openapi_tables.proofs.again.SortsBack.{picks_of, sort_meets}
use Rattle.openapi_tables.proofs.SortHolds.{AllHold}
use Rattle.openapi_tables.specs.Tables.{integer_formats, number_formats}
use Rattle.openapi_tables.specs.Tables.{string_formats}
use Rattle.openapi_node.specs.Tree.{Items, Tree, flag, item, list, no_items, null, text, whole}
use Rattle.openapi_tables.specs.Tables.{list_row, format_row}
use Rattle.openapi_tables.specs.Rows.{optional_row}
use Rattle.openapi_tables.proofs.ReadProper.{AllRead, RowReads}

text_format : (T : Tables) (ws : List (List ℕ)) (l : List (Entry Tree))
    → name_holds optional any_text (judged T l) ≡ true → name_holds optional (format ws true) (judged T l) ≡ true
text_format T ws [] h = refl
text_format T ws (e ∷ l) h = at e.value h
  where
    at : (t : Tree) → (is_null t || conforms T any_text t) ≡ true → (is_null t || conforms T (format ws true) t) ≡ true
    at null h = refl
    at (text s) h = refl
    at t h = cc

conform_items : (T : Tables) (q : Tree → Bool) (k : Kind) → ((u : Tree) → q u ≡ true → conforms T k u ≡ true)
    → (ts : Items) → every q (items_list ts) ≡ true
    → every (λ (x : Seen (Kind → Bool)). x.answer k) (of_items (root_conforms T) ts) ≡ true
conform_items T q k g no_items h = refl
conform_items T q k g (item t ts) h = let p = and_parts (q t) (every q (items_list ts)) h in
    and_from (conforms T k t) _ (g t p.0) (conform_items T q k g ts p.1)

conform_entries : (T : Tables) (q : Tree → Bool) (k : Kind) → ((u : Tree) → q u ≡ true → conforms T k u ≡ true)
    → (l : List (Entry Tree)) → entries_pass q (first_tree l) ≡ true
    → name_holds optional (list_of k) (judged T l) ≡ true
conform_entries T q k g [] h = refl
conform_entries T q k g (e ∷ l) h = at e.value h
  where
    at : (t : Tree) → entries_pass q t ≡ true → (is_null t || conforms T (list_of k) t) ≡ true
    at null h = refl
    at (list ts) h = conform_items T q k g ts h
    at t h = cc

conform_signed : (T : Tables) (l : List (Entry Tree)) → is_null_or_signed (first_tree l) ≡ true
    → name_holds optional (number signed) (judged T l) ≡ true
conform_signed T [] h = refl
conform_signed T (e ∷ l) h = at e.value h
  where
    at : (t : Tree) → is_null_or_signed t ≡ true → (is_null t || conforms T (number signed) t) ≡ true
    at null h = refl
    at (whole z) h = h
    at t h = cc

text_conforms : (T : Tables) (u : Tree) → is_null_or_text u ≡ true → conforms T (null_or any_text) u ≡ true
text_conforms T null h = refl
text_conforms T (text s) h = refl
text_conforms T u h = cc

flag_conforms : (T : Tables) (u : Tree) → is_null_or_flag u ≡ true → conforms T (null_or any_flag) u ≡ true
flag_conforms T null h = refl
flag_conforms T (flag b) h = refl
flag_conforms T u h = cc

whole_conforms : (T : Tables) (u : Tree) → is_null_or_whole u ≡ true → conforms T (null_or (number unlimited)) u ≡ true
whole_conforms T null h = refl
whole_conforms T (whole z) h = refl
whole_conforms T u h = cc

signed_conforms : (T : Tables) (u : Tree) → is_null_or_signed u ≡ true → conforms T (null_or (number signed)) u ≡ true
signed_conforms T null h = refl
signed_conforms T (whole z) h = h
signed_conforms T u h = cc

further_of : (es : List (Entry Tree)) (s : Sort) → is_any s ≡ false → sort_of es ≡ s → further s es ≡ true
further_of es s a e =
    (and_parts (every (λ n. has (allowed s) n || is_null (held n es)) kind_names) (further s es)
    (sort_meets es s e a).1).1

-- a pair, as an infix operator
infixr 30 ◌⨾◌
abbrev ◌⨾◌ : {A B : Type 0} → A → B → A × B
h ⨾ g = (h, g)

-- the first row of a name
abbrev row_named : List ℕ → List Row → Option Row
row_named n [] = None
row_named n (w ∷ ws) = cond (same_text n (row_name w)) (Some w) (row_named n ws)

abbrev OptionalHolds : (T : Tables) → List (Entry Tree) → Row → Type 0
OptionalHolds T es w = row_holds_own (made_optional w) (judged T (own (made_optional w) es)) ≡ true

named_holds : (T : Tables) (es : List (Entry Tree)) (n : List ℕ) (ws : List Row) (w : Row) → row_named n ws ≡ Some w
    → AllHold T es (each made_optional ws) → OptionalHolds T es w
named_holds T es n [] w e h = cc
named_holds T es n (v ∷ ws) w e h = at (same_text n (row_name v)) (λ q. named_holds T es n ws w q h.1) e
  where
    at : (b : Bool) → (row_named n ws ≡ Some w → OptionalHolds T es w) → cond b (Some v) (row_named n ws) ≡ Some w
        → OptionalHolds T es w
    at true g q = let p : v ≡ w = cc in subst (λ x. OptionalHolds T es x) p h.0
    at false g q = g q

-- a row that requires no member finds what it must, if it holds as an optional row
optional_reads : (T : Tables) (w : Row) (es : List (Entry Tree)) → never_misses w ≡ true → OptionalHolds T es w
    → RowReads T (own w es) w
optional_reads T (row n required k) es m h = cc
optional_reads T (either a j b k) es m h = cc
optional_reads T (class c k) es m h = h
optional_reads T (constant n v) es m h = cc
optional_reads T (row n optional k) es m h = (h, refl)
optional_reads T w es m h = (h, refl)

all_optional_read : (T : Tables) (ws : List Row) (es : List (Entry Tree)) → every never_misses ws ≡ true
    → AllHold T es (each made_optional ws) → AllRead T es ws
all_optional_read T [] es m h = tt
all_optional_read T (w ∷ ws) es m h =
    let p = and_parts (never_misses w) (every never_misses ws) m in
    optional_reads T w es p.0 h.0 ⨾ all_optional_read T ws es p.1 h.1

-- the rows of the sort of members find what they must, if the 24 kind names hold as optional rows
pub sort_reads : (T : Tables) (s : Sort) (es : List (Entry Tree)) → AllHold T es (each made_optional any_rows)
    → sort_of es ≡ s → AllRead T es (sort_rows s)
unfolding any_rows sort_rows string_rows object_rows array_rows boolean_rows
sort_reads T s es h e = at s e
  where
    -- the row of one of the 24 kind names holds as an optional row
    holds : (n : String) (w : Row) → row_named (codes n) any_rows ≡ Some w → OptionalHolds T es w
    holds n w q = named_holds T es (codes n) any_rows w q h

    reads_row : (n : String) (w : Row) → row_named (codes n) any_rows ≡ Some w → never_misses w ≡ true
        → RowReads T (own w es) w
    reads_row n w q m = optional_reads T w es m (holds n w q)

    formats : (ws : List (List ℕ)) → RowReads T (own (format_row "format" ws) es) (format_row "format" ws)
    formats ws = (text_format T ws (own (optional_row "format" any_text) es) (holds "format" _ refl), refl)

    entries : (p : Tree → Bool) (k : Kind) → ((u : Tree) → p u ≡ true → conforms T k u ≡ true)
        → entries_pass p (held (codes "enum") es) ≡ true
        → RowReads T (own (list_row "enum" (list_of k)) es) (list_row "enum" (list_of k))
    entries p k f x = (conform_entries T p k f (own (list_row "enum" (list_of k)) es) x, refl)

    signed_row : (n : String) → is_null_or_signed (held (codes n) es) ≡ true
        → RowReads T (own (optional_row n (number signed)) es) (optional_row n (number signed))
    signed_row n x = (conform_signed T (own (optional_row n (number signed)) es) x, refl)

    at : (s : Sort) → sort_of es ≡ s → AllRead T es (sort_rows s)
    at any_sort e = all_optional_read T any_rows es refl h
    at string_sort e =
        tt ⨾ formats string_formats
        ⨾ reads_row "pattern" _ refl refl
        ⨾ entries is_null_or_text (null_or any_text) (text_conforms T) (further_of es string_sort refl e)
        ⨾ reads_row "minLength" _ refl refl
        ⨾ reads_row "maxLength" _ refl refl ⨾ tt
    at number_sort e =
        tt ⨾ formats number_formats
        ⨾ reads_row "multipleOf" _ refl refl
        ⨾ (holds "exclusiveMinimum" _ refl, refl)
        ⨾ (holds "exclusiveMaximum" _ refl, refl)
        ⨾ reads_row "minimum" _ refl refl
        ⨾ reads_row "maximum" _ refl refl
        ⨾ entries is_null_or_whole (null_or (number unlimited)) (whole_conforms T)
        (further_of es number_sort refl e) ⨾ tt
    at integer_sort e =
        let p = and_parts _ (is_null_or_signed (held (codes "maximum") es)) (further_of es integer_sort refl e) in
        let q = and_parts _ (is_null_or_signed (held (codes "minimum") es)) p.0 in
        let r = and_parts (entries_pass is_null_or_signed (held (codes "enum") es))
        (is_null_or_signed (held (codes "multipleOf") es)) q.0 in
        tt ⨾ formats integer_formats
        ⨾ signed_row "multipleOf" r.1
        ⨾ (holds "exclusiveMinimum" _ refl, refl)
        ⨾ (holds "exclusiveMaximum" _ refl, refl)
        ⨾ signed_row "minimum" q.1
        ⨾ signed_row "maximum" p.1
        ⨾ entries is_null_or_signed (null_or (number signed)) (signed_conforms T) r.0 ⨾ tt
    at boolean_sort e = tt ⨾ entries is_null_or_flag (null_or any_flag) (flag_conforms T)
        (further_of es boolean_sort refl e) ⨾ tt
    at object_sort e =
        tt ⨾ reads_row "properties" _ refl refl
        ⨾ reads_row "required" _ refl refl
        ⨾ reads_row "additionalProperties" _ refl refl
        ⨾ reads_row "minProperties" _ refl refl
        ⨾ reads_row "maxProperties" _ refl refl ⨾ tt
    at array_sort e =
        tt ⨾ reads_row "items" _ refl refl
        ⨾ reads_row "minItems" _ refl refl
        ⨾ reads_row "maxItems" _ refl refl
        ⨾ (holds "uniqueItems" _ refl, refl) ⨾ tt
    at one_of_sort e = (holds "oneOf" _ refl, picks_of es one_of_sort refl e) ⨾ tt
    at all_of_sort e = (holds "allOf" _ refl, picks_of es all_of_sort refl e) ⨾ tt
    at any_of_sort e = (holds "anyOf" _ refl, picks_of es any_of_sort refl e) ⨾ tt
    at not_sort e = (holds "not" _ refl, picks_of es not_sort refl e) ⨾ tt

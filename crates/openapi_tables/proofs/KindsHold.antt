-- If the rows of a sort hold, and no other kind name is present, the rows of all kind names hold.
use Rattle.openapi_tables.proofs.TreeLaws.{null_tree}
use Rattle.std.proofs.Common.{ℕ, Bool, true, false, not, ◌&&◌, ◌||◌, List, [], ◌∷◌, ◌≡◌, refl, sym, ap, ◌∙◌, subst}
use Rattle.std.proofs.Common.{⊎_elim}
use Rattle.std.proofs.lemmas.Bool.{and_parts, and_from, or_left, or_right, or_cases}
use Rattle.openapi_tables.specs.Prelude.{Kind, Tables, Row, Mode, a_schema, any_flag, any_text, any_tree, class}
use Rattle.openapi_tables.specs.Prelude.{constant, either, flag_or_schema, format, list_of, map_of, number, optional}
use Rattle.openapi_tables.specs.Prelude.{ref_to, row, signed, sizes, unlimited, conforms, constant_holds, name_holds}
use Rattle.openapi_tables.specs.Prelude.{root_conforms, skips_null, Form, each, every, has, join, same_text, Sort}
use Rattle.openapi_tables.specs.Prelude.{allowed, first_tree, held, is_null, kind_names, made_optional, own, sort_rows}
use Rattle.openapi_tables.specs.Prelude.{names_fit, sorts, untaken, any_rows, array_rows, boolean_rows, object_rows}
use Rattle.openapi_tables.specs.Prelude.{string_rows, Entry, Seen, of_items, of_members}
use Rattle.openapi_tables.proofs.FaultLaws.{judged}
use Rattle.openapi_tables.proofs.ListLaws.{Each, every_each, same_text_eq}
use Rattle.openapi_tables.proofs.PrintLaws.{members_for}
use Rattle.openapi_tables.proofs.again.ReadAgain.{sort_in}
use Rattle.openapi_tables.proofs.RowLaws.{OwnWrites}
use Rattle.openapi_tables.proofs.RowWrites.{row_holds_own}
use Rattle.openapi_tables.proofs.SortLaws.{each_name, names_held}
use Rattle.openapi_node.specs.Tree.{Items, Members, Tree, item, list, member, no_items, no_members, null, object}
use Rattle.openapi_tables.proofs.SortShown.{Others}
use Rattle.openapi_tables.proofs.SortHolds.{AllHold, text_held}

-- kinds of which every node that conforms to the first conforms to the second
abbrev pub always : Kind → Kind → Bool
always j any_tree = true
always any_text any_text = true
always (ref_to a_schema) (ref_to a_schema) = true
always j k = false

abbrev pub fits : Kind → Kind → Bool
fits any_text any_text = true
fits any_flag any_flag = true
fits (number unlimited) (number unlimited) = true
fits (number signed) (number unlimited) = true
fits (number sizes) (number sizes) = true
fits (format ws b) any_text = true
fits (list_of j) (list_of k) = always j k
fits (map_of j) (map_of k) = always j k
fits (ref_to a_schema) (ref_to a_schema) = true
fits flag_or_schema flag_or_schema = true
fits j k = false

-- every node conforms to `any_tree`
pub any_conforms : (T : Tables) (t : Tree) → conforms T any_tree t ≡ true
any_conforms T null = refl
any_conforms T t = refl

pub always_conforms : (T : Tables) (j k : Kind) (t : Tree) → always j k ≡ true → conforms T j t ≡ true
    → conforms T k t ≡ true
always_conforms T j any_tree t h g = any_conforms T t
always_conforms T any_text any_text t h g = g
always_conforms T (ref_to a_schema) (ref_to a_schema) t h g = g
always_conforms T j k t h g = cc

pub items_conform : (T : Tables) (j k : Kind) (ts : Items) → always j k ≡ true
    → every (λ (x : Seen (Kind → Bool)). x.answer j) (of_items (root_conforms T) ts) ≡ true
    → every (λ (x : Seen (Kind → Bool)). x.answer k) (of_items (root_conforms T) ts) ≡ true
items_conform T j k no_items h g = refl
items_conform T j k (item t ts) h g =
    let p = and_parts (conforms T j t)
    (every (λ (x : Seen (Kind → Bool)). x.answer j) (of_items (root_conforms T) ts)) g in
    and_from (conforms T k t) _ (always_conforms T j k t h p.0) (items_conform T j k ts h p.1)

pub members_conform : (T : Tables) (j k : Kind) (ms : Members) → always j k ≡ true
    → every (λ (e : Entry (Seen (Kind → Bool))). e.value.answer j) (of_members (root_conforms T) ms) ≡ true
    → every (λ (e : Entry (Seen (Kind → Bool))). e.value.answer k) (of_members (root_conforms T) ms) ≡ true
members_conform T j k no_members h g = refl
members_conform T j k (member n t ms) h g =
    let p = and_parts (conforms T j t)
    (every (λ (e : Entry (Seen (Kind → Bool))). e.value.answer j) (of_members (root_conforms T) ms)) g in
    and_from (conforms T k t) _ (always_conforms T j k t h p.0) (members_conform T j k ms h p.1)

pub fits_conforms : (T : Tables) (j k : Kind) (t : Tree) → fits j k ≡ true → conforms T j t ≡ true
    → (is_null t || conforms T k t) ≡ true
fits_conforms T any_text any_text t h g = or_right (is_null t) (conforms T any_text t) g
fits_conforms T any_flag any_flag t h g = or_right (is_null t) (conforms T any_flag t) g
fits_conforms T (number unlimited) (number unlimited) t h g = or_right (is_null t) (conforms T (number unlimited) t) g
fits_conforms T (number signed) (number unlimited) null h g = refl
fits_conforms T (number signed) (number unlimited) t h g = cc
fits_conforms T (number sizes) (number sizes) t h g = or_right (is_null t) (conforms T (number sizes) t) g
fits_conforms T (format ws b) any_text null h g = refl
fits_conforms T (format ws b) any_text t h g = cc
fits_conforms T (list_of j) (list_of k) (list ts) h g = items_conform T j k ts h g
fits_conforms T (list_of j) (list_of k) t h g = cc
fits_conforms T (map_of j) (map_of k) (object ms) h g = members_conform T j k ms h g
fits_conforms T (map_of j) (map_of k) t h g = cc
fits_conforms T (ref_to a_schema) (ref_to a_schema) t h g = or_right (is_null t) (conforms T (ref_to a_schema) t) g
fits_conforms T flag_or_schema flag_or_schema t h g = or_right (is_null t) (conforms T flag_or_schema t) g
fits_conforms T j k t h g = cc

pub optional_holds : (T : Tables) (m : Mode) (j k : Kind) (l : List (Entry Tree)) → fits j k ≡ true
    → name_holds m j (judged T l) ≡ true → name_holds optional k (judged T l) ≡ true
optional_holds T m j k [] f h = refl
optional_holds T m j k (e ∷ l) f h =
    ⊎_elim (λ (x : (skips_null m && is_null e.value) ≡ true). or_left (is_null e.value) (conforms T k e.value)
    (and_parts (skips_null m) (is_null e.value) x).1)
    (λ (x : conforms T j e.value ≡ true). fits_conforms T j k e.value f x)
    (or_cases (skips_null m && is_null e.value) (conforms T j e.value) h)

pub null_holds : (T : Tables) (k : Kind) (l : List (Entry Tree)) → first_tree l ≡ null
    → name_holds optional k (judged T l) ≡ true
null_holds T k [] h = refl
null_holds T k (e ∷ l) h = or_left (is_null e.value) (conforms T k e.value) (ap is_null h)

pub text_fits : Kind → Bool
text_fits any_text = true
text_fits k = false

-- whether a row has the name, and what it holds for fits the kind
pub row_fits : Row → List ℕ → Kind → Bool
row_fits (row a m j) n k = same_text a n && fits j k
row_fits (constant a v) n k = same_text a n && text_fits k
row_fits w n k = false

pub some_fits : List Row → List ℕ → Kind → Bool
some_fits [] n k = false
some_fits (w ∷ ws) n k = row_fits w n k || some_fits ws n k

pub constant_fits : (T : Tables) (v : List ℕ) (k : Kind) (l : List (Entry Tree)) → text_fits k ≡ true
    → constant_holds v (judged T l) ≡ true → name_holds optional k (judged T l) ≡ true
unfolding text_fits
constant_fits T v any_text [] f h = refl
constant_fits T v any_text (e ∷ l) f h = ap (λ t. is_null t || conforms T any_text t) (text_held v e.value h)
constant_fits T v k l f h = cc

pub row_fits_holds : (T : Tables) (w : Row) (n : List ℕ) (k : Kind) (es : List (Entry Tree)) → row_fits w n k ≡ true
    → row_holds_own w (judged T (own w es)) ≡ true → name_holds optional k (judged T (own (row n optional k) es)) ≡ true
unfolding row_fits
row_fits_holds T (row a m j) n k es f h =
    let p = and_parts (same_text a n) (fits j k) f in
    subst (λ x. name_holds optional k (judged T (own (row x optional k) es)) ≡ true) (same_text_eq a n p.0)
    (optional_holds T m j k (own (row a m j) es) p.1 h)
row_fits_holds T (constant a v) n k es f h =
    let p = and_parts (same_text a n) (text_fits k) f in
    subst (λ x. name_holds optional k (judged T (own (row x optional k) es)) ≡ true) (same_text_eq a n p.0)
    (constant_fits T v k (own (constant a v) es) p.1 h)
row_fits_holds T (either a j b i) n k es f h = cc
row_fits_holds T (class c i) n k es f h = cc

pub some_fits_holds : (T : Tables) (ws : List Row) (n : List ℕ) (k : Kind) (es : List (Entry Tree))
    → some_fits ws n k ≡ true → AllHold T es ws → name_holds optional k (judged T (own (row n optional k) es)) ≡ true
unfolding some_fits
some_fits_holds T [] n k es f h = cc
some_fits_holds T (w ∷ ws) n k es f h =
    ⊎_elim (λ (x : row_fits w n k ≡ true). row_fits_holds T w n k es x h.0)
    (λ (x : some_fits ws n k ≡ true). some_fits_holds T ws n k es x h.1)
    (or_cases (row_fits w n k) (some_fits ws n k) f)

pub covered : Sort → Row → Bool
covered s (row n m k) = has kind_names n && (not (has (allowed s) n) || some_fits (sort_rows s) n k)
covered s w = false

pub all_covered : every (λ s. every (covered s) any_rows) sorts ≡ true
unfolding covered some_fits row_fits text_fits any_rows sort_rows string_rows object_rows array_rows boolean_rows
    kind_names allowed
all_covered = refl

pub covered_holds : (T : Tables) (s : Sort) (w : Row) (es : List (Entry Tree)) → covered s w ≡ true
    → AllHold T es (sort_rows s) → Others s es
    → row_holds_own (made_optional w) (judged T (own (made_optional w) es)) ≡ true
unfolding covered
covered_holds T s (row n m k) es c h o = at (has (allowed s) n) refl
  where
    p : (has kind_names n ≡ true) × ((not (has (allowed s) n) || some_fits (sort_rows s) n k) ≡ true)
    p = and_parts (has kind_names n) (not (has (allowed s) n) || some_fits (sort_rows s) n k) c

    at : (b : Bool) → has (allowed s) n ≡ b → name_holds optional k (judged T (own (row n optional k) es)) ≡ true
    at true e = some_fits_holds T (sort_rows s) n k es (sym (ap (λ b. not b || some_fits (sort_rows s) n k) e) ∙ p.1) h
    at false e = null_holds T k (own (row n optional k) es) (o n p.0 e)
covered_holds T s (either a j b k) es c h o = cc
covered_holds T s (class d k) es c h o = cc
covered_holds T s (constant n v) es c h o = cc

pub each_covered : (T : Tables) (s : Sort) (ws : List Row) (es : List (Entry Tree)) → every (covered s) ws ≡ true
    → AllHold T es (sort_rows s) → Others s es → AllHold T es (each made_optional ws)
each_covered T s [] es c h o = tt
each_covered T s (w ∷ ws) es c h o = let p = and_parts (covered s w) (every (covered s) ws) c in
    (covered_holds T s w es p.0 h o, each_covered T s ws es p.1 h o)

-- if the rows of a sort hold, and no other kind name is present, the rows of all kind names hold as optional rows
pub kinds_hold : (T : Tables) (s : Sort) (es : List (Entry Tree)) → AllHold T es (sort_rows s) → Others s es
    → AllHold T es (each made_optional any_rows)
kinds_hold T s es h o = each_covered T s any_rows es (sort_in (λ x. every (covered x) any_rows) all_covered s) h o

-- in what the rows of a sort and others before them write, the kind names that the sort does not allow are absent
pub others_written : (T : Tables) (pre : List Row) (s : Sort) (fs : List Form) → names_fit pre s ≡ true
    → OwnWrites T (join pre (sort_rows s)) fs → Others s (members_for T (join pre (sort_rows s)) fs)
others_written T pre s fs n g m p q =
    null_tree (held m l)
    (or_right_part (has (allowed s) m) (is_null (held m l))
    (each_name (λ u. has (allowed s) u || is_null (held u l)) kind_names m gone p) q)
  where
    l : List (Entry Tree)
    l = members_for T (join pre (sort_rows s)) fs

    gone : Each (λ m. (has (allowed s) m || is_null (held m (members_for T (join pre (sort_rows s)) fs))) ≡ true)
        kind_names
    gone = names_held T s (join pre (sort_rows s)) fs g kind_names
        (every_each (λ m. has (allowed s) m || untaken (join pre (sort_rows s)) m) kind_names n)

    or_right_part : (x y : Bool) → (x || y) ≡ true → x ≡ false → y ≡ true
    or_right_part true y a b = cc
    or_right_part false y a b = a

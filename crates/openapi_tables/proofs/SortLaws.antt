-- A schema of a sort other than `any_sort` is written as a schema of that sort: the names that it may have, and the
-- further condition of the sort.
use Rattle.std.proofs.Common.{ℕ, Bool, true, not, ◌&&◌, ◌||◌, List, [], ◌∷◌, ◌≡◌, refl, ap, ◌∙◌, subst, codes, inl, inr}
use Rattle.std.proofs.Common.{⊎_elim}
use Rattle.std.proofs.lemmas.Bool.{and_parts, and_from, or_cases, or_left, or_right, not-true}
use Rattle.openapi_tables.specs.Prelude.{each, join, every, same_text, has, Entry, Kind, any_text, any_flag, number}
use Rattle.openapi_tables.specs.Prelude.{unlimited, signed, null_or, list_of, Mode, optional, listed, Row, row, takes}
use Rattle.openapi_tables.specs.Prelude.{Tables, any_rows, string_rows, object_rows, array_rows, boolean_rows, is_null}
use Rattle.openapi_tables.specs.Prelude.{own, first_tree, held, Sort, string_sort, number_sort, integer_sort}
use Rattle.openapi_tables.specs.Prelude.{boolean_sort, kind_names, sort_rows, allowed, entries_pass, is_null_or_text}
use Rattle.openapi_tables.specs.Prelude.{is_null_or_whole, is_null_or_signed, is_null_or_flag, further, Form, row_print}
use Rattle.openapi_tables.specs.Prelude.{sorts, untaken, names_fit}
use Rattle.openapi_node.specs.Tree.{Tree, null}
use Rattle.openapi_tables.proofs.ListLaws.{Each, every_each, each_under, same_text_eq}
use Rattle.openapi_tables.proofs.ReadLaws.{slot_in}
use Rattle.openapi_tables.proofs.PrintLaws.{printed, members_for}
use Rattle.openapi_tables.proofs.RowLaws.{OwnWrites, Found, no_name}
use Rattle.openapi_tables.proofs.PlainLaws.{NullOr, written_again}

-- the members that each row takes from `l` are those that it writes for what it reads from `es`
abbrev pub Rewrites : (T : Tables) → List (Entry Tree) → List (Entry Tree) → List Row → Type 0
Rewrites T es l ws = Each (λ w. own w l ≡ row_print w (printed T (slot_in T es w))) ws

-- if rows find in `l` what they write for what they read from `es`, each row by itself takes that from `l`
pub rewrites : (T : Tables) (es l : List (Entry Tree)) (ws : List Row) → Found T l ws (each (slot_in T es) ws)
    → Rewrites T es l ws
rewrites T es l [] h = tt
rewrites T es l (w ∷ ws) h = (h.0, rewrites T es l ws h.1)

-- what holds for each element of a concatenation holds for each element of the second list
pub Each_behind : {A : Type 0} → (P : A → Type 0) (xs ys : List A) → Each P (join xs ys) → Each P ys
Each_behind P [] ys h = h
Each_behind P (x ∷ xs) ys h = Each_behind P xs ys h.1

pub held_nothing : (T : Tables) (n : List ℕ) (ws : List Row) (fs : List Form) → untaken ws n ≡ true
    → OwnWrites T ws fs → held n (members_for T ws fs) ≡ null
held_nothing T n ws fs h g =
    ap first_tree
    (no_name T n ws fs
    (each_under (λ w (x : not (takes w n) ≡ true). not-true (takes w n) x) ws
    (every_each (λ w. not (takes w n)) ws h)) g)

-- no row of a sort takes a kind name that the sort does not allow, by computation
pub names_fit_none : every (names_fit []) sorts ≡ true
unfolding any_rows sort_rows allowed kind_names string_rows object_rows array_rows boolean_rows
names_fit_none = refl

-- a test that each name of a list passes is passed by a name that is found in it
pub each_name : (p : List ℕ → Bool) (ns : List (List ℕ)) (n : List ℕ) → Each (λ m. p m ≡ true) ns → has ns n ≡ true
    → p n ≡ true
each_name p [] n h g = cc
each_name p (m ∷ ns) n h g =
    ⊎_elim (λ (x : same_text m n ≡ true). subst (λ u. p u ≡ true) (same_text_eq m n x) h.0)
    (λ (x : has ns n ≡ true). each_name p ns n h.1 x) (or_cases (same_text m n) (has ns n) g)

-- each name of a list is allowed in the sort or null in what rows write, if it is allowed or taken by no row
pub names_held : (T : Tables) (s : Sort) (ws : List Row) (fs : List Form) → OwnWrites T ws fs → (ns : List (List ℕ))
    → Each (λ n. (has (allowed s) n || untaken ws n) ≡ true) ns
    → Each (λ n. (has (allowed s) n || is_null (held n (members_for T ws fs))) ≡ true) ns
names_held T s ws fs g [] h = tt
names_held T s ws fs g (n ∷ ns) h = (
  ⊎_elim (λ (x : has (allowed s) n ≡ true). or_left (has (allowed s) n) (is_null (held n (members_for T ws fs))) x)
      (λ (x : untaken ws n ≡ true). or_right (has (allowed s) n) (is_null (held n (members_for T ws fs)))
      (ap is_null (held_nothing T n ws fs x g)))
      (or_cases (has (allowed s) n) (untaken ws n) h.0),
  names_held T s ws fs g ns h.1,
)

passes : (q : Tree → Bool) (u t : Tree) → q null ≡ true → q t ≡ true → NullOr u t → q u ≡ true
passes q u t h g (inl e) = ap q e ∙ h
passes q u t h g (inr e) = ap q e ∙ g

-- a test that null passes, and that the member of a name passed, is passed by what the row of the name writes for that
-- member
held_passes : (T : Tables) (q : Tree → Bool) (n : List ℕ) (m : Mode) (k : Kind) (es l : List (Entry Tree))
    → q null ≡ true → q (held n es) ≡ true
    → NullOr (first_tree (row_print (row n m k) (printed T (slot_in T es (row n m k))))) (held n es)
    → own (row n m k) l ≡ row_print (row n m k) (printed T (slot_in T es (row n m k))) → q (held n l) ≡ true
held_passes T q n m k es l h g o e = ap (λ x. q (first_tree x)) e ∙ passes q _ (held n es) h g o

-- if the further condition of a sort holds for members, it holds for what the rows of the sort write for them
pub further_again : (T : Tables) (s : Sort) (es l : List (Entry Tree)) → Rewrites T es l (sort_rows s)
    → further s es ≡ true → further s l ≡ true
unfolding any_rows sort_rows string_rows object_rows array_rows boolean_rows
further_again T string_sort es l h f =
    held_passes T (entries_pass is_null_or_text) (codes "enum") listed (list_of (null_or any_text)) es l refl f
    (written_again T (codes "enum") listed (list_of (null_or any_text))
    (own (row (codes "enum") listed (list_of (null_or any_text))) es) refl refl) h.1.1.1.0
further_again T number_sort es l h f =
    held_passes T (entries_pass is_null_or_whole) (codes "enum") listed
    (list_of (null_or (number unlimited))) es l refl f
    (written_again T (codes "enum") listed (list_of (null_or (number unlimited)))
    (own (row (codes "enum") listed (list_of (null_or (number unlimited)))) es) refl refl) h.1.1.1.1.1.1.1.0
further_again T integer_sort es l h f =
    let p = and_parts
    (entries_pass is_null_or_signed (held (codes "enum") es) && is_null_or_signed (held (codes "multipleOf") es)
    && is_null_or_signed (held (codes "minimum") es)) (is_null_or_signed (held (codes "maximum") es)) f in
    let q = and_parts
    (entries_pass is_null_or_signed (held (codes "enum") es) && is_null_or_signed (held (codes "multipleOf") es))
    (is_null_or_signed (held (codes "minimum") es)) p.0 in
    let r = and_parts (entries_pass is_null_or_signed (held (codes "enum") es))
    (is_null_or_signed (held (codes "multipleOf") es)) q.0 in
    and_from (entries_pass is_null_or_signed (held (codes "enum") l)
    && is_null_or_signed (held (codes "multipleOf") l) && is_null_or_signed (held (codes "minimum") l))
    (is_null_or_signed (held (codes "maximum") l))
    (and_from (entries_pass is_null_or_signed (held (codes "enum") l)
    && is_null_or_signed (held (codes "multipleOf") l)) (is_null_or_signed (held (codes "minimum") l))
    (and_from (entries_pass is_null_or_signed (held (codes "enum") l)) (is_null_or_signed (held (codes "multipleOf") l))
    (held_passes T (entries_pass is_null_or_signed) (codes "enum") listed
    (list_of (null_or (number signed))) es l refl r.0
    (written_again T (codes "enum") listed (list_of (null_or (number signed)))
    (own (row (codes "enum") listed (list_of (null_or (number signed)))) es) refl refl) h.1.1.1.1.1.1.1.0)
    (held_passes T is_null_or_signed (codes "multipleOf") optional (number signed) es l refl r.1
    (written_again T (codes "multipleOf") optional (number signed)
    (own (row (codes "multipleOf") optional (number signed)) es) refl refl) h.1.1.0))
    (held_passes T is_null_or_signed (codes "minimum") optional (number signed) es l refl q.1
    (written_again T (codes "minimum") optional (number signed)
    (own (row (codes "minimum") optional (number signed)) es) refl refl) h.1.1.1.1.1.0))
    (held_passes T is_null_or_signed (codes "maximum") optional (number signed) es l refl p.1
    (written_again T (codes "maximum") optional (number signed)
    (own (row (codes "maximum") optional (number signed)) es) refl refl) h.1.1.1.1.1.1.0)
further_again T boolean_sort es l h f =
    held_passes T (entries_pass is_null_or_flag) (codes "enum") listed (list_of (null_or any_flag)) es l refl f
    (written_again T (codes "enum") listed (list_of (null_or any_flag))
    (own (row (codes "enum") listed (list_of (null_or any_flag))) es) refl refl) h.1.0
further_again T s es l h f = refl

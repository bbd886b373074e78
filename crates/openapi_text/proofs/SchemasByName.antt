-- The normalized node of a schema is `Same`, also if normalizing makes it a schema of another sort.
use Rattle.std.proofs.Common.{◌≡◌, ℕ, List, [], ◌∷◌, Bool, true, false, cond, Option, Some, None, MatchOption, codes}
use Rattle.std.proofs.Common.{◌⊎◌, inl, inr, refl, sym, ap, subst, ◌∙◌}
use Rattle.std.proofs.lemmas.Bool.{both_ways}
use Rattle.openapi_node.specs.Named.{members_named}
use Rattle.openapi_node.specs.Tree.{Tree, object}
use Rattle.openapi_json.specs.Writing.{tree_by_name}
use Rattle.openapi_tables.specs.Prelude.{Kind, Row, Sort, any_text, by, a_schema, a_schema_kind, class, constant, either, row}
use Rattle.openapi_tables.specs.Prelude.{takes, clean, own, rows_of, checked_rows, each, flag_or_schema, list_of, map_of, ref_to}
use Rattle.openapi_tables.specs.Prelude.{first_tree, held, is_null, join, kind_names, made_optional, only, row_print, row_sound}
use Rattle.openapi_tables.specs.Prelude.{same_text, schema_data, sort, sort_of, sort_rows, Entry, members_of}
use Rattle.openapi_tables.specs.Prelude.{any_rows, array_rows, boolean_rows, object_rows, string_rows, final_tables, tables_with}
use Rattle.openapi_tables.specs.Prelude.{all_of_sort, any_of_sort, any_sort, array_sort, boolean_sort, integer_sort, not_sort}
use Rattle.openapi_tables.specs.Prelude.{number_sort, object_sort, one_of_sort, string_sort}
use Rattle.openapi_tables.specs.Kind.{discriminator, external_documentation, xml_object}
use Rattle.openapi_tables.proofs.AllReadProper.{ReadBy}
use Rattle.openapi_tables.proofs.ListLaws.{Each, Each-join, each_all, each_under, same_text_eq}
use Rattle.openapi_tables.proofs.MemberLaws.{same_sort}
use Rattle.openapi_tables.proofs.PrintLaws.{members_for, printed}
use Rattle.openapi_tables.proofs.ReadLaws.{slot_in}
use Rattle.openapi_tables.proofs.RowLaws.{OwnWrites, TakesAll}
use Rattle.openapi_tables.proofs.WellMade.{final_sound}
use Rattle.openapi_tables.proofs.again.RowsStay.{writes_own}
use Rattle.openapi_tables.proofs.again.SchemasSettle.{front}
use Rattle.openapi_text.proofs.ObjectsByName.{AreReady, RowMade, cleaned_object, found_of, made_fine, rows_made, written_by}
use Rattle.openapi_text.proofs.RowsByName.{AllMade, Made, Ready, is_flat, row_made}
use Rattle.openapi_text.proofs.SameByName.{RowFine, Same, fixed_same, kind_in, null_same, object_same}
use Rattle.openapi_text.proofs.Sorting.{Ascends, held_sorted, inserted, lone}
use Rattle.openapi_tables.proofs.ReadProper.{RowReads}
use Rattle.openapi_tables.proofs.ListLaws.{Each_within-only}

-- the kind of the member of a name in a schema, if its value may contain an object that is written by the rows of a table
abbrev pub core : List ℕ → Option Kind
core n =
    cond (same_text n (codes "properties")) (Some (map_of (ref_to a_schema)))
    (cond (same_text n (codes "additionalProperties")) (Some flag_or_schema)
    (cond (same_text n (codes "items")) (Some (ref_to a_schema))
    (cond (same_text n (codes "not")) (Some (ref_to a_schema))
    (cond (same_text n (codes "oneOf")) (Some (list_of (ref_to a_schema)))
    (cond (same_text n (codes "allOf")) (Some (list_of (ref_to a_schema)))
    (cond (same_text n (codes "anyOf")) (Some (list_of (ref_to a_schema)))
    (cond (same_text n (codes "externalDocs")) (Some (by external_documentation))
    (cond (same_text n (codes "discriminator")) (Some (by discriminator))
    (cond (same_text n (codes "xml")) (Some (by xml_object)) None)))))))))

-- the kind of a row of one name is what `core` gives for the name, or flat if that is `None`
abbrev Suited : Row → Type 0
Suited (row n m j) = MatchOption (core n) (is_flat j ≡ true) (λ c. j ≡ c)
Suited (constant n v) = core n ≡ None
Suited (either a i b j) = ⊥
Suited (class c j) = ⊥

-- the same for a row of what all schemas may have
abbrev Suits : Row → Type 0
Suits (class c j) = is_flat j ≡ true
Suits w = Suited w

suited_any : Each Suited any_rows
unfolding any_rows
suited_any = (
  refl,
  (
    refl,
    (
      refl,
      (
        refl,
        (
          refl,
          (
            refl,
            (
              refl,
              (
                refl,
                (
                  refl,
                  (
                    refl,
                    (
                      refl,
                      (
                        refl,
                        (
                          refl,
                          (
                            refl,
                            (
                              refl,
                              (
                                refl,
                                (refl, (refl, (refl, (refl, (refl, (refl, (refl, (refl, tt)))))))),
                              ),
                            ),
                          ),
                        ),
                      ),
                    ),
                  ),
                ),
              ),
            ),
          ),
        ),
      ),
    ),
  ),
)

suited_sort : (s : Sort) → Each Suited (sort_rows s)
unfolding sort_rows string_rows object_rows array_rows boolean_rows
suited_sort string_sort = (refl, (refl, (refl, (refl, (refl, (refl, tt))))))
suited_sort number_sort = (refl, (refl, (refl, (refl, (refl, (refl, (refl, (refl, tt))))))))
suited_sort integer_sort = (refl, (refl, (refl, (refl, (refl, (refl, (refl, (refl, tt))))))))
suited_sort object_sort = (refl, (refl, (refl, (refl, (refl, (refl, tt))))))
suited_sort array_sort = (refl, (refl, (refl, (refl, (refl, tt)))))
suited_sort boolean_sort = (refl, (refl, tt))
suited_sort one_of_sort = (refl, tt)
suited_sort all_of_sort = (refl, tt)
suited_sort any_of_sort = (refl, tt)
suited_sort not_sort = (refl, tt)
suited_sort any_sort = suited_any

suits_data : Each Suits (final_tables schema_data)
unfolding final_tables tables_with
suits_data = (refl, (refl, (refl, (refl, (refl, (refl, (refl, (refl, (refl, (refl, (refl, (refl, tt))))))))))))

suited_suits : (w : Row) → Suited w → Suits w
suited_suits (row n m j) h = h
suited_suits (constant n v) h = h
suited_suits (either a i b j) h = h
suited_suits (class c j) h = absurd h

optional_suited : (w : Row) → Suited w → Suited (made_optional w)
optional_suited (row n m j) h = h
optional_suited (constant n v) h = h
optional_suited (either a i b j) h = h
optional_suited (class c j) h = h

all_optional : (ws : List Row) → Each Suited ws → Each Suited (each made_optional ws)
all_optional [] h = tt
all_optional (w ∷ ws) h = (optional_suited w h.0, all_optional ws h.1)

-- ---- the members of a normalized schema
-- a value that is sorted by name, or is `Same` under the kind that `core` gives for the name of its member
abbrev pub IsGood : Entry Tree → Type 0
IsGood e = (tree_by_name e.value ≡ e.value) ⊎ ((c : Kind) × (core e.name ≡ Some c) × Same final_tables c e.value)

row_good : (n : List ℕ) (j : Kind) (e : Entry Tree) (o : Option Kind) → core n ≡ o → MatchOption o (is_flat j ≡ true) (λ c. j ≡ c)
    → n ≡ e.name → is_flat j ≡ false → Same final_tables j e.value → IsGood e
row_good n j e None is h same f s = absurd (both_ways (is_flat j) f h)
row_good n j e (Some c) is h same f s =
    inr (c, ap core (sym same) ∙ is, subst (λ k. Same final_tables k e.value) h s)

good_of : (w : Row) (e : Entry Tree) → Suits w → takes w e.name ≡ true → Made final_tables (kind_in w e.name) e.value → IsGood e
good_of w e h t (inl fixed) = inl fixed
good_of (row n m j) e h t (inr p) = row_good n j e (core n) refl h (same_text_eq n e.name t) p.0 p.1
good_of (class c j) e h t (inr p) = absurd (both_ways (is_flat j) p.0 h)
good_of (constant n v) e h t (inr p) = cc
good_of (either a i b j) e h t (inr p) = absurd h

goods_of : (w : Row) (xs : List (Entry Tree)) → Suits w → TakesAll w xs → AllMade final_tables w xs → Each IsGood xs
goods_of w [] h t m = tt
goods_of w (e ∷ xs) h t m = (good_of w e h t.0 m.0, goods_of w xs h t.1 m.1)

all_good : (es : List (Entry Tree)) (ws : List Row) → Each Suits ws → OwnWrites final_tables ws (each (slot_in final_tables es) ws)
    → Each (λ w. row_sound final_tables w ≡ true) ws → Each (λ w. RowReads final_tables (own w es) w) ws → AreReady final_tables es
    → Each IsGood (members_for final_tables ws (each (slot_in final_tables es) ws))
all_good es [] h g s r d = tt
all_good es (w ∷ ws) h g s r d =
    let xs = row_print w (printed final_tables (slot_in final_tables es w)) in
    Each-join IsGood xs (members_for final_tables ws (each (slot_in final_tables es) ws))
    (goods_of w xs h.0 g.0 (row_made final_tables w (own w es) s.0
    (Each_within-only (λ (e : Entry Tree). Ready final_tables e.value) (λ (e : Entry Tree). takes w e.name) es d) r.0))
    (all_good es ws h.1 g.1 s.1 r.1 d)

-- ---- what another row reads from them
name_same : (n : List ℕ) (j : Kind) (e : Entry Tree) → MatchOption (core n) (is_flat j ≡ true) (λ c. j ≡ c) → n ≡ e.name
    → IsGood e → Same final_tables j e.value
name_same n j e h same (inl fixed) = fixed_same final_tables j e.value fixed
name_same n j e h same (inr p) =
    let is : core n ≡ Some p.0 = ap core same ∙ p.1 in
    let k : j ≡ p.0 = subst (λ o. MatchOption o (is_flat j ≡ true) (λ c. j ≡ c)) is h in
    subst (λ c. Same final_tables c e.value) (sym k) p.2

none_same : (n : List ℕ) (e : Entry Tree) → core n ≡ None → n ≡ e.name → IsGood e → tree_by_name e.value ≡ e.value
none_same n e h same (inl fixed) = fixed
none_same n e h same (inr p) = let never : None ≡ Some p.0 = sym h ∙ ap core same ∙ p.1 in cc

names_same : (n : List ℕ) (j : Kind) (l : List (Entry Tree)) → MatchOption (core n) (is_flat j ≡ true) (λ c. j ≡ c) → Each IsGood l
    → Each (λ (e : Entry Tree). Same final_tables j e.value) (only (λ (e : Entry Tree). same_text n e.name) l)
names_same n j [] h g = tt
names_same n j (e ∷ l) h g = at (same_text n e.name) refl (names_same n j l h g.1)
  where
    at : (b : Bool) → same_text n e.name ≡ b
        → Each (λ (x : Entry Tree). Same final_tables j x.value) (only (λ (x : Entry Tree). same_text n x.name) l)
        → Each (λ (x : Entry Tree). Same final_tables j x.value)
        (cond b (e ∷ only (λ (x : Entry Tree). same_text n x.name) l) (only (λ (x : Entry Tree). same_text n x.name) l))
    at true is r = (name_same n j e h (same_text_eq n e.name is) g.0, r)
    at false is r = r

nones_fixed : (n : List ℕ) (l : List (Entry Tree)) → core n ≡ None → Each IsGood l
    → Each (λ (e : Entry Tree). tree_by_name e.value ≡ e.value) (only (λ (e : Entry Tree). same_text n e.name) l)
nones_fixed n [] h g = tt
nones_fixed n (e ∷ l) h g = at (same_text n e.name) refl (nones_fixed n l h g.1)
  where
    at : (b : Bool) → same_text n e.name ≡ b
        → Each (λ (x : Entry Tree). tree_by_name x.value ≡ x.value) (only (λ (x : Entry Tree). same_text n x.name) l)
        → Each (λ (x : Entry Tree). tree_by_name x.value ≡ x.value)
        (cond b (e ∷ only (λ (x : Entry Tree). same_text n x.name) l) (only (λ (x : Entry Tree). same_text n x.name) l))
    at true is r = (none_same n e h (same_text_eq n e.name is) g.0, r)
    at false is r = r

first_fixed : (xs : List (Entry Tree)) → Each (λ (e : Entry Tree). tree_by_name e.value ≡ e.value) xs
    → tree_by_name (first_tree xs) ≡ first_tree xs
first_fixed [] h = refl
first_fixed (x ∷ xs) h = h.0

suited_fine : (l : List (Entry Tree)) (w : Row) → members_named (members_of l) ≡ true → Each IsGood l → Suited w
    → RowFine final_tables l w
suited_fine l (row n m j) d g h = (lone n l d, names_same n j l h g)
suited_fine l (constant n v) d g h = (
  lone n l d,
  each_under (λ (e : Entry Tree) x. fixed_same final_tables any_text e.value x)
      (only (λ (e : Entry Tree). same_text n e.name) l) (nones_fixed n l h g),
)
suited_fine l (either a i b j) d g h = absurd h
suited_fine l (class c j) d g h = absurd h

all_fine : (l : List (Entry Tree)) (ws : List Row) → members_named (members_of l) ≡ true → Each IsGood l → Each Suited ws
    → Each (RowFine final_tables l) ws
all_fine l [] d g h = tt
all_fine l (w ∷ ws) d g h = (suited_fine l w d g h.0, all_fine l ws d g h.1)

-- for a name without a kind in `core`, the value is the same after sorting by name; so the sort of the schema is too
held_fixed : (n : List ℕ) (l : List (Entry Tree)) → members_named (members_of l) ≡ true → Each IsGood l → core n ≡ None
    → held n (inserted l []) ≡ held n l
held_fixed n l d g h =
    held_sorted n l d ∙ first_fixed (only (λ (e : Entry Tree). same_text n e.name) l) (nones_fixed n l h g)

sort_kept : (l : List (Entry Tree)) → members_named (members_of l) ≡ true → Each IsGood l → sort_of (inserted l []) ≡ sort_of l
sort_kept l d g =
    same_sort (inserted l []) l (record {
      nulls = each_all (λ n. ap is_null (held_sorted n l d) ∙ null_same (held n l)) kind_names;
      type = held_fixed (codes "type") l d g refl;
      enum = held_fixed (codes "enum") l d g refl;
      multiple_of = held_fixed (codes "multipleOf") l d g refl;
      minimum = held_fixed (codes "minimum") l d g refl;
      maximum = held_fixed (codes "maximum") l d g refl;
    })

suits_schema : (s : Sort) → Each Suits (join (final_tables schema_data) (sort_rows s))
suits_schema s =
    Each-join Suits (final_tables schema_data) (sort_rows s) suits_data
    (each_under suited_suits (sort_rows s) (suited_sort s))

-- ---- schemas
abbrev pub made_schema : Sort → List (Entry Tree) → List (Entry Tree)
made_schema s es = written_by final_tables a_schema (sort s) es

pub schema_by_sort : (es : List (Entry Tree)) (s : Sort) → Each (RowMade final_tables (made_schema s es)) (join (final_tables schema_data) (sort_rows s))
    → Each IsGood (made_schema s es) → members_named (members_of (made_schema s es)) ≡ true
    → Same final_tables a_schema (object (members_of (made_schema s es)))
unfolding rows_of checked_rows
schema_by_sort es s m g d =
    let l = made_schema s es in
    let shared = each_under (made_fine final_tables l) (final_tables schema_data)
    (front (RowMade final_tables l) (final_tables schema_data) (sort_rows s) m) in
    object_same final_tables a_schema (sort (sort_of l)) l refl (ap (λ x. Some (sort x)) (sort_kept l d g))
    (Each-join (RowFine final_tables l) (final_tables schema_data) (sort_rows (sort_of l)) shared
    (all_fine l (sort_rows (sort_of l)) d g (suited_sort (sort_of l))))
    (Each-join (RowFine final_tables l) (final_tables schema_data) (each made_optional any_rows) shared
    (all_fine l (each made_optional any_rows) d g (all_optional any_rows suited_any)))

pub schema_same : (es : List (Entry Tree)) → ReadBy final_tables a_schema es → Ascends es → AreReady final_tables es
    → members_named (members_of (made_schema (sort_of es) es)) ≡ true
    → Same final_tables a_schema (clean final_tables a_schema (object (members_of es)))
unfolding rows_of
schema_same es r o d named =
    let q = r.chosen in
    let p : sort (sort_of es) ≡ r.by_choice = cc in
    let ws = join (final_tables schema_data) (sort_rows (sort_of es)) in
    let sounds : Each (λ w. row_sound final_tables w ≡ true) ws =
    subst (λ c. Each (λ w. row_sound final_tables w ≡ true) (rows_of final_tables a_schema c)) (sym p) r.sound_rows in
    let taken : Each (λ w. RowReads final_tables (own w es) w) ws =
    subst (λ c. Each (λ w. RowReads final_tables (own w es) w) (rows_of final_tables a_schema c)) (sym p) r.reads in
    subst (Same final_tables a_schema) (sym (cleaned_object final_tables a_schema (sort (sort_of es)) es refl))
    (schema_by_sort es (sort_of es)
    (rows_made final_tables (made_schema (sort_of es) es) es ws
    (found_of final_tables final_sound a_schema (sort (sort_of es)) es refl refl) sounds taken o d)
    (all_good es ws (suits_schema (sort_of es)) (writes_own final_tables ws es) sounds taken d) named)

-- ---- schemas without what all schemas may have
pub kind_same : (es : List (Entry Tree)) → ReadBy final_tables a_schema_kind es → AreReady final_tables es
    → members_named (members_of (written_by final_tables a_schema_kind (sort (sort_of es)) es)) ≡ true
    → Same final_tables a_schema_kind (clean final_tables a_schema_kind (object (members_of es)))
unfolding rows_of checked_rows
kind_same es r d named =
    let q = r.chosen in
    let p : sort (sort_of es) ≡ r.by_choice = cc in
    let ws = sort_rows (sort_of es) in
    let l = written_by final_tables a_schema_kind (sort (sort_of es)) es in
    let sounds : Each (λ w. row_sound final_tables w ≡ true) ws =
    subst (λ c. Each (λ w. row_sound final_tables w ≡ true) (rows_of final_tables a_schema_kind c)) (sym p) r.sound_rows in
    let taken : Each (λ w. RowReads final_tables (own w es) w) ws =
    subst (λ c. Each (λ w. RowReads final_tables (own w es) w) (rows_of final_tables a_schema_kind c)) (sym p) r.reads in
    let g = all_good es ws (each_under suited_suits ws (suited_sort (sort_of es))) (writes_own final_tables ws es) sounds taken d in
    subst (Same final_tables a_schema_kind) (sym (cleaned_object final_tables a_schema_kind (sort (sort_of es)) es refl))
    (object_same final_tables a_schema_kind (sort (sort_of l)) l refl (ap (λ x. Some (sort x)) (sort_kept l named g))
    (all_fine l (sort_rows (sort_of l)) named g (suited_sort (sort_of l)))
    (all_fine l (each made_optional any_rows) named g (all_optional any_rows suited_any)))

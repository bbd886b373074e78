-- A schema that the rows of `any_sort` write, and that they read and write again, keeps its sort.
use Rattle.std.proofs.Common.{ℕ, Bool, true, false, cond, List, [], ◌∷◌, ◌≡◌, refl, sym, ap, ◌∙◌}
use Rattle.std.proofs.Common.{subst}
use Rattle.std.proofs.lemmas.Bool.{and_parts}
use Rattle.openapi_tables.specs.Prelude.{Kind, Tables, Row, a_schema, class, constant, either, list_of, listed, map_of}
use Rattle.openapi_tables.specs.Prelude.{optional, ref_to, required, row, Form, absent, leaf, more, named, no_forms}
use Rattle.openapi_tables.specs.Prelude.{no_named, sequence, under, each, every, join}
use Rattle.openapi_tables.specs.Prelude.{first_tree, held}
use Rattle.openapi_tables.specs.Prelude.{is_null}
use Rattle.openapi_tables.specs.Prelude.{kind_names, own}
use Rattle.openapi_tables.specs.Prelude.{row_name, sort_of, clean, is_silent, one, print}
use Rattle.openapi_tables.specs.Prelude.{row_print, face_proper, proper, row_proper, form, slot_of_own, mode_fits}
use Rattle.openapi_tables.specs.Prelude.{row_sound, rows_apart, sound, any_rows, Entry}
use Rattle.openapi_tables.proofs.again.RowsStay.{writes_own}
use Rattle.openapi_tables.proofs.FormLaws.{show}
use Rattle.openapi_tables.proofs.MemberLaws.{same_sort}
use Rattle.openapi_tables.proofs.ListLaws.{Each, each_under, every_each}
use Rattle.openapi_tables.proofs.PlainLaws.{clean-plain, is_plain}
use Rattle.openapi_tables.proofs.PrintLaws.{members_for, printed}
use Rattle.openapi_tables.proofs.ReadLaws.{reads, slot_in}
use Rattle.openapi_tables.proofs.RowLaws.{Found, found}
use Rattle.openapi_tables.proofs.RowWrites.{SlotsProper}
use Rattle.openapi_tables.proofs.SlotLaws.{not_null}
use Rattle.openapi_tables.proofs.TreeLaws.{null_tree}
use Rattle.openapi_tables.proofs.SortLaws.{Each_behind, Rewrites, rewrites}
use Rattle.openapi_tables.proofs.Taken.{Taken, as_inner, as_schema, taken}
use Rattle.openapi_node.specs.Tree.{Tree, null}

never_absent : (T : Tables) (k : Kind) (t : Tree) (f : Form) → Taken T k t f → is_silent optional f ≡ false
never_absent T k t f (as_schema u x e y) = never_absent T (ref_to a_schema) u x y
never_absent T k t f (as_inner j u x y) = never_absent T j u x y
never_absent T k t f x = refl

-- both nodes are null or neither is, and they are equal if the kind is plain (`is_plain`)
abbrev Alike : Kind → Tree → Tree → Type 0
Alike k u t = (is_null u ≡ is_null t) × (is_plain k ≡ true → u ≡ t)

-- what a row writes for the slot that it reads from the members `l`
abbrev rewritten : (T : Tables) → Row → List (Entry Tree) → List (Entry Tree)
rewritten T w l = row_print w (printed T (slot_of_own w (reads T l)))

optional_value : (T : Tables) (n : List ℕ) (k : Kind) (t : Tree) (b : Bool) → is_null t ≡ b
    → Alike k (first_tree (rewritten T (row n optional k) (one n t))) t
optional_value T n k t true e =
    let p : rewritten T (row n optional k) (one n t) ≡ [] =
    ap (λ b. row_print (row n optional k) (printed T (cond b absent (form T k t)))) e in
    (ap (λ l. is_null (first_tree l)) p ∙ sym e, λ x. ap first_tree p ∙ sym (null_tree t e))
optional_value T n k t false e =
    let p : rewritten T (row n optional k) (one n t) ≡ one n (clean T k t) =
    ap (λ b. row_print (row n optional k) (printed T (cond b absent (form T k t)))) e
    ∙ ap (λ b. cond b [] (one n (clean T k t))) (never_absent T k t (form T k t) (taken T k t)) in (
      ap (λ l. is_null (first_tree l)) p ∙ not_null T k t (form T k t) (taken T k t) e ∙ sym e,
      λ x. ap first_tree p
          ∙ clean-plain T t k x,
    )

optional_row : (T : Tables) (n : List ℕ) (k : Kind) (f : Form) (b : Bool) → is_silent optional f ≡ b
    → Alike k (first_tree (rewritten T (row n optional k) (cond b [] (one n (print T k f)))))
    (first_tree (cond b [] (one n (print T k f))))
optional_row T n k f true e = (refl, λ x. refl)
optional_row T n k f false e = optional_value T n k (print T k f) (is_null (print T k f)) refl

listed_row : (T : Tables) (n : List ℕ) (k : Kind) (f : Form) → mode_fits listed k ≡ true → proper T k f ≡ true
    → Alike k (first_tree (rewritten T (row n listed k) (row_print (row n listed k) (printed T f))))
    (first_tree (row_print (row n listed k) (printed T f)))
listed_row T n (list_of j) (sequence no_forms) s h = (refl, λ x. refl)
listed_row T n (list_of j) (sequence (more f fs)) s h =
    (refl, λ x. clean-plain T (print T (list_of j) (sequence (more f fs))) (list_of j) x)
listed_row T n (map_of j) (named no_named) s h = (refl, λ x. refl)
listed_row T n (map_of j) (named (under m f es)) s h = (refl, λ x. cc)
listed_row T n k (leaf null) s h = cc
listed_row T n k f s h = cc

is_open : Row → Bool
is_open (row n optional k) = true
is_open (row n listed k) = true
is_open w = false

all_open : every is_open any_rows ≡ true
unfolding any_rows is_open
all_open = refl

-- in both lists, the values at the name of a row are alike. This is false for rows that are not of one name
abbrev RowAlike : List (Entry Tree) → List (Entry Tree) → Row → Type 0
RowAlike l' l (row n m k) = Alike k (held n l') (held n l)
RowAlike l' l (either a j b k) = ⊥
RowAlike l' l (class c k) = ⊥
RowAlike l' l (constant n v) = ⊥

row_alike : (T : Tables) (l' l : List (Entry Tree)) (w : Row) (f : Form) → is_open w ≡ true → row_sound T w ≡ true
    → row_proper w (show (face_proper T) f) ≡ true → own w l ≡ row_print w (printed T f)
    → own w l' ≡ rewritten T w (own w l) → RowAlike l' l w
unfolding is_open
row_alike T l' l (row n optional k) f o s h e r =
    subst (λ x. Alike k (first_tree x) (held n l)) (sym r)
    (subst (λ x. Alike k (first_tree (rewritten T (row n optional k) x)) (first_tree x)) (sym e)
    (optional_row T n k f (is_silent optional f) refl))
row_alike T l' l (row n listed k) f o s h e r =
    subst (λ x. Alike k (first_tree x) (held n l)) (sym r)
    (subst (λ x. Alike k (first_tree (rewritten T (row n listed k) x)) (first_tree x)) (sym e)
    (listed_row T n k f (and_parts (mode_fits listed k) (sound T k) s).0 h))
row_alike T l' l (row n required k) f o s h e r = cc
row_alike T l' l w f o s h e r = cc

rows_alike : (T : Tables) (l' l : List (Entry Tree)) (ws : List Row) (fs : List Form)
    → Each (λ w. is_open w ≡ true) ws → Each (λ w. row_sound T w ≡ true) ws → SlotsProper T ws fs → Found T l ws fs
    → Rewrites T l l' ws → Each (RowAlike l' l) ws
rows_alike T l' l [] fs o s h e r = tt
rows_alike T l' l (w ∷ ws) [] o s h e r = absurd h
rows_alike T l' l (w ∷ ws) (f ∷ fs) o s h e r =
    (row_alike T l' l w f o.0 s.0 h.0 e.0 r.0, rows_alike T l' l ws fs o.1 s.1 h.1 e.1 r.1)

abbrev NullAlike : List (Entry Tree) → List (Entry Tree) → Row → Type 0
NullAlike l' l w = is_null (held (row_name w) l') ≡ is_null (held (row_name w) l)

null_alike : (l' l : List (Entry Tree)) (w : Row) → RowAlike l' l w → NullAlike l' l w
null_alike l' l (row n m k) h = h.0
null_alike l' l w h = absurd h

sort_alike : (l' l : List (Entry Tree)) → Each (RowAlike l' l) any_rows → sort_of l' ≡ sort_of l
unfolding any_rows kind_names
sort_alike l' l h =
    same_sort l' l (record {
      nulls = each_under (λ w x. null_alike l' l w x) any_rows h;
      type = h.0.1 refl;
      enum = h.1.1.1.1.1.1.1.1.1.1.1.1.1.1.1.1.0.1 refl;
      multiple_of = h.1.1.0.1 refl;
      minimum = h.1.1.1.1.1.0.1 refl;
      maximum = h.1.1.1.1.1.1.0.1 refl;
    })

-- if the rows of `any_sort` find in `l` what they write for proper slots, the members that are read from `l` and
-- written again have the sort of `l`
pub any_again : (T : Tables) (pre : List Row) (fs : List Form) (l : List (Entry Tree))
    → rows_apart (join pre any_rows) ≡ true → Each (λ w. row_sound T w ≡ true) any_rows → SlotsProper T any_rows fs
    → Found T l any_rows fs
    → sort_of (members_for T (join pre any_rows) (each (slot_in T l) (join pre any_rows))) ≡ sort_of l
any_again T pre fs l a s h e =
    sort_alike l' l (rows_alike T l' l any_rows fs (every_each is_open any_rows all_open) s h e
    (Each_behind (λ w. own w l' ≡ row_print w (printed T (slot_in T l w))) pre any_rows
    (rewrites T l l' ws (found T ws (each (slot_in T l) ws) a (writes_own T ws l)))))
  where
    ws : List Row
    ws = join pre any_rows

    l' : List (Entry Tree)
    l' = members_for T (join pre any_rows) (each (slot_in T l) (join pre any_rows))

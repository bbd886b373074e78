-- What is read for the fields of a sort is what is read for the optional fields of the kind names.
use Rattle.std.proofs.Common.{◌≡◌, ℕ, Bool, true, false, cond, ◌&&◌, ◌||◌, List, [], ◌∷◌, Option, Some, None, refl, sym}
use Rattle.std.proofs.Common.{ap, ◌∙◌, subst}
use Rattle.std.proofs.lemmas.Bool.{and_parts}
use Rattle.openapi_node.specs.Tree.{Tree, null, flag, whole, text, list, object, Items, no_items, item, Members}
use Rattle.openapi_node.specs.Tree.{no_members, member}
use Rattle.openapi_tables.specs.Prelude.{each, every, same_text, Seen, Shape, a_null, a_flag, a_whole, a_text, a_list}
use Rattle.openapi_tables.specs.Prelude.{an_object, of_items, of_members, members_list, Kind, any_text, any_flag}
use Rattle.openapi_tables.specs.Prelude.{number, any_tree, format, null_or, list_of, map_of, ref_to, flag_or_schema}
use Rattle.openapi_tables.specs.Prelude.{a_schema, Mode, required, optional, listed, flagged, formatted, Row, row}
use Rattle.openapi_tables.specs.Prelude.{either, class, constant, Tables, any_rows, string_rows, object_rows}
use Rattle.openapi_tables.specs.Prelude.{array_rows, boolean_rows, Sort, sort_rows, kind_names, row_name, held, is_null}
use Rattle.openapi_tables.specs.Prelude.{conforms, Form, absent, unset, leaf, sequence, named, forms_of, named_of, name}
use Rattle.openapi_tables.specs.Prelude.{form, root_form, tree_of_root, default_of, pairs_as, is_absent, sorts}
use Rattle.openapi_tables.specs.Prelude.{is_named, row_where, row_form, RowGives, AreRows}
use Rattle.openapi_tables.specs.Read.{empty_of}
use Rattle.openapi_tables.proofs.ListLaws.{same_text_eq}
use Rattle.openapi_tables.proofs.again.ReadAgain.{sort_in}
use Rattle.openapi_tables.proofs.TreeLaws.{tree_of_root-seen}
use Rattle.openapi_schema.specs.RawSlots.{optional_rows, or_else, as_format, slot_as, slot_of, sort_slots}
use Rattle.openapi_schema_types.proofs.HeldRows.{form_there, conforms_held, form_held}

-- kinds whose form is the node itself
is_bare : Kind → Bool
is_bare any_text = true
is_bare any_flag = true
is_bare (number w) = true
is_bare any_tree = true
is_bare (null_or k) = is_bare k
is_bare k = false

bare_root : (T : Tables) (s : Shape (Seen (Kind → Form))) (k : Kind) → is_bare k ≡ true → root_form T s k
    ≡ leaf (tree_of_root s)
unfolding is_bare
bare_root T a_null (null_or k) h = bare_root T a_null k h
bare_root T (a_flag b) (null_or k) h = bare_root T (a_flag b) k h
bare_root T (a_whole z) (null_or k) h = bare_root T (a_whole z) k h
bare_root T (a_text s) (null_or k) h = bare_root T (a_text s) k h
bare_root T (a_list xs) (null_or k) h = bare_root T (a_list xs) k h
bare_root T (an_object es) (null_or k) h = bare_root T (an_object es) k h
bare_root T s any_text h = cc
bare_root T s k h = cc

bare_form : (T : Tables) (k : Kind) (t : Tree) → is_bare k ≡ true → form T k t ≡ leaf t
bare_form T k null h = bare_root T a_null k h
bare_form T k (flag b) h = bare_root T (a_flag b) k h
bare_form T k (whole z) h = bare_root T (a_whole z) k h
bare_form T k (text s) h = bare_root T (a_text s) k h
bare_form T k (list ts) h =
    bare_root T (a_list (of_items (root_form T) ts)) k h ∙ ap leaf (tree_of_root-seen (root_form T) (list ts))
bare_form T k (object ms) h =
    bare_root T (an_object (of_members (root_form T) ms)) k h ∙ ap leaf (tree_of_root-seen (root_form T) (object ms))

-- kinds for which the same form is read from each node
alike_inside : Kind → Kind → Bool
alike_inside (ref_to a_schema) (ref_to a_schema) = true
alike_inside j k = is_bare j && is_bare k

alike : Kind → Kind → Bool
alike (list_of j) (list_of k) = alike_inside j k
alike (map_of j) (map_of k) = alike_inside j k
alike flag_or_schema flag_or_schema = true
alike j k = alike_inside j k

inside_form : (T : Tables) (j k : Kind) (t : Tree) → alike_inside j k ≡ true → form T j t ≡ form T k t
unfolding alike_inside
inside_form T (ref_to a_schema) (ref_to a_schema) t h = refl
inside_form T j k t h =
    let p = and_parts (is_bare j) (is_bare k) h in bare_form T j t p.0 ∙ sym (bare_form T k t p.1)

items_form : (T : Tables) (j k : Kind) (ts : Items) → alike_inside j k ≡ true
    → each (λ (x : Seen (Kind → Form)). x.answer j) (of_items (root_form T) ts) ≡ each (λ (x : Seen (Kind
    → Form)). x.answer k) (of_items (root_form T) ts)
items_form T j k no_items h = refl
items_form T j k (item t ts) h = λ i. inside_form T j k t h i ∷ items_form T j k ts h i

members_form : (T : Tables) (j k : Kind) (ms : Members) → alike_inside j k ≡ true
    → pairs_as name j (of_members (root_form T) ms) ≡ pairs_as name k (of_members (root_form T) ms)
members_form T j k no_members h = refl
members_form T j k (member n t ms) h = λ i. record { key = name n; value = inside_form T j k t h i }
    ∷ members_form T j k ms h i

list_form : (T : Tables) (j k : Kind) (t : Tree) → alike_inside j k ≡ true → form T (list_of j) t ≡ form T (list_of k) t
list_form T j k (list ts) h = ap (λ fs. sequence (forms_of fs)) (items_form T j k ts h)
list_form T j k t h = refl

map_form : (T : Tables) (j k : Kind) (t : Tree) → alike_inside j k ≡ true → form T (map_of j) t ≡ form T (map_of k) t
map_form T j k (object ms) h = ap (λ es. named (named_of es)) (members_form T j k ms h)
map_form T j k t h = refl

alike_form : (T : Tables) (j k : Kind) (t : Tree) → alike j k ≡ true → form T j t ≡ form T k t
unfolding alike
alike_form T (list_of j) (list_of k) t h = list_form T j k t h
alike_form T (map_of j) (map_of k) t h = map_form T j k t h
alike_form T flag_or_schema flag_or_schema t h = refl
alike_form T j k t h = inside_form T j k t h

or_else_there : (d f : Form) → is_absent f ≡ false → or_else d f ≡ f
or_else_there d absent h = cc
or_else_there d f h = refl

-- whether the form of a field is that of an optional field of a kind, apart from its default
slot_fits : Row → Kind → Bool
slot_fits (row n required j) k = alike j k
slot_fits (row n optional j) k = alike j k
slot_fits (row n listed j) k = alike j k
slot_fits (row n flagged j) k = alike j k
slot_fits (row n formatted (format ws true)) any_text = true
slot_fits w k = false

module _ (T : Tables) (n : List ℕ) (k : Kind) (ms : Members) (f : Form) (r : RowGives T (row n optional k) ms f) where
  abbrev value : Tree
  value = held n (members_list ms)

  slot_is : f ≡ cond (is_null value) absent (form T k value)
  slot_is = sym r.1 ∙ form_held T n k ms optional

  -- the slot under another mode and a kind of the same forms
  module _ (m : Mode) (j : Kind) (same : alike j k ≡ true) (s : Form → Form) (default : s absent ≡ default_of m j)
      (kept : (g : Form) → is_absent g ≡ false → s g ≡ g) where
    by_default : row_form T (row n m j) ms ≡ s f
    by_default = go (is_null value) refl
      where
        go : (b : Bool) → is_null value ≡ b → row_form T (row n m j) ms ≡ s f
        go true e =
            form_held T n j ms m ∙ ap (λ b. cond b (default_of m j) (form T j value)) e ∙ sym default
            ∙ ap s (sym (slot_is ∙ ap (λ b. cond b absent (form T k value)) e))
        go false e =
            form_held T n j ms m ∙ ap (λ b. cond b (default_of m j) (form T j value)) e ∙ alike_form T j k value same
            ∙ sym (kept (form T k value) (form_there T k value))
            ∙ ap s (sym (slot_is ∙ ap (λ b. cond b absent (form T k value)) e))

format_value : (T : Tables) (ws : List (List ℕ)) (t : Tree) → (is_null t || conforms T any_text t) ≡ true
    → cond (is_null t) unset (form T (format ws true) t) ≡ as_format ws (cond (is_null t) absent (form T any_text t))
format_value T ws null h = refl
format_value T ws (text s) h = refl
format_value T ws t h = cc

at : (T : Tables) (a n : List ℕ) (k : Kind) (ms : Members) (f : Form) → a ≡ n → RowGives T (row n optional k) ms f
    → RowGives T (row a optional k) ms f
at T a n k ms f e r = let P : List ℕ → Type 0 = λ x. RowGives T (row x optional k) ms f in subst P (sym e) r

-- the form of a field whose kind fits that of the optional field of its name
row_slot : (T : Tables) (w : Row) (n : List ℕ) (k : Kind) (ms : Members) (f : Form) → row_name w ≡ n
    → slot_fits w k ≡ true → RowGives T (row n optional k) ms f → row_form T w ms ≡ slot_as w f
unfolding slot_fits
row_slot T (row a required j) n k ms f e h r =
    by_default T a k ms f (at T a n k ms f e r) required j h (λ g. g) refl (λ g x. refl)
row_slot T (row a optional j) n k ms f e h r =
    by_default T a k ms f (at T a n k ms f e r) optional j h (λ g. g) refl (λ g x. refl)
row_slot T (row a listed j) n k ms f e h r =
    by_default T a k ms f (at T a n k ms f e r) listed j h (or_else (empty_of j)) refl (or_else_there (empty_of j))
row_slot T (row a flagged j) n k ms f e h r =
    by_default T a k ms f (at T a n k ms f e r) flagged j h (or_else (leaf (flag false))) refl (or_else_there (leaf
    (flag false)))
row_slot T (row a formatted (format ws true)) n any_text ms f e h r =
    let g = at T a n any_text ms f e r in
    form_held T a (format ws true) ms formatted
    ∙ format_value T ws (held a (members_list ms)) (sym (conforms_held T a any_text ms) ∙ g.0)
    ∙ ap (as_format ws) (sym (slot_is T a any_text ms f g))
row_slot T w n k ms f e h r = cc

-- the row that is named in rows of names, and its form
is_plain : Row → Bool
is_plain (row n m k) = true
is_plain w = false

rows_at : (T : Tables) (ms : Members) (ws : List Row) (fs : List Form) (n : List ℕ) (w : Row) → every is_plain ws ≡ true
    → AreRows T ws fs ms → row_where (is_named n) ws ≡ Some w → RowGives T w ms (slot_of (each row_name ws) fs n)
unfolding is_plain
rows_at T ms (row a m k ∷ ws) [] n w p r h = absurd r
rows_at T ms (row a m k ∷ ws) (f ∷ fs) n w p r h = go (rows_at T ms ws fs n w p r.1) (same_text a n) refl
  where
    go : (row_where (is_named n) ws ≡ Some w → RowGives T w ms (slot_of (each row_name ws) fs n)) → (b : Bool)
        → same_text a n ≡ b → RowGives T w ms (cond (same_text a n) f (slot_of (each row_name ws) fs n))
    go more true e =
        let here : row a m k ≡ w = cc in
        let P : Row → Type 0 = λ x. RowGives T x ms (cond (same_text a n) f (slot_of (each row_name ws) fs n)) in
        subst P here (rw e r.0)
    go more false e = rw e (more (ap (λ b. cond b (Some (row a m k)) (row_where (is_named n) ws)) (sym e) ∙ h))
rows_at T ms [] fs n w p r h = cc
rows_at T ms ws fs n w p r h = cc

-- whether the optional field of a field's name has a kind that fits
found_fits : Row → Option Row → Bool
found_fits w None = false
found_fits w (Some (row a optional k)) = same_text (row_name w) a && slot_fits w k
found_fits w (Some v) = false

row_covered : Row → Bool
row_covered (constant n v) = true
row_covered w = found_fits w (row_where (is_named (row_name w)) optional_rows)

all_covered : every (λ s. every row_covered (sort_rows s)) sorts ≡ true
unfolding row_covered found_fits slot_fits alike alike_inside is_bare optional_rows any_rows sort_rows string_rows
    object_rows array_rows boolean_rows
all_covered = refl

plain_rows : every is_plain optional_rows ≡ true
unfolding is_plain optional_rows any_rows
plain_rows = refl

names_same : each row_name optional_rows ≡ kind_names
unfolding optional_rows any_rows kind_names
names_same = refl

constant_slot : (T : Tables) (n v : List ℕ) (ms : Members) → row_form T (constant n v) ms ≡ absent
unfolding row_form
constant_slot T n v ms = refl

module _ (T : Tables) (ms : Members) (fs : List Form) (rows : AreRows T optional_rows fs ms) where
  fitting : (w : Row) (o : Option Row) → row_where (is_named (row_name w)) optional_rows ≡ o → found_fits w o ≡ true
      → row_form T w ms ≡ slot_as w (slot_of kind_names fs (row_name w))
  unfolding found_fits
  fitting w None e h = cc
  fitting w (Some (row a optional k)) e h =
      let p = and_parts (same_text (row_name w) a) (slot_fits w k) h in
      row_slot T w a k ms (slot_of kind_names fs (row_name w)) (same_text_eq (row_name w) a p.0) p.1
      (let P : List (List ℕ) → Type 0 = λ ns. RowGives T (row a optional k) ms (slot_of ns fs (row_name w)) in
      subst P names_same (rows_at T ms optional_rows fs (row_name w) (row a optional k) plain_rows rows e))
  fitting w (Some v) e h = cc

  covered_slot : (w : Row) → row_covered w ≡ true → row_form T w ms ≡ slot_as w (slot_of kind_names fs (row_name w))
  unfolding row_covered
  covered_slot (constant n v) h = constant_slot T n v ms
  covered_slot (row n m k) h = fitting (row n m k) (row_where (is_named n) optional_rows) refl h
  covered_slot (either a j b k) h = fitting (either a j b k) (row_where (is_named a) optional_rows) refl h
  covered_slot (class c k) h = fitting (class c k) (row_where (is_named []) optional_rows) refl h

  each_slot : (ws : List Row) → every row_covered ws ≡ true
      → each (λ w. row_form T w ms) ws ≡ each (λ w. slot_as w (slot_of kind_names fs (row_name w))) ws
  each_slot [] h = refl
  each_slot (w ∷ ws) h =
      let p = and_parts (row_covered w) (every row_covered ws) h in
      λ i. covered_slot w p.0 i ∷ each_slot ws p.1 i

  -- what is read for the fields of a sort
  pub sort_slots-read : (s : Sort) → each (λ w. row_form T w ms) (sort_rows s) ≡ sort_slots s fs
  unfolding sort_slots
  sort_slots-read s = each_slot (sort_rows s) (sort_in (λ x. every row_covered (sort_rows x)) all_covered s)

-- A form that is read from a node and stays is unchanged when it is written and read again: for all kinds.
use Rattle.std.proofs.Common.{true, false, cond, List, [], ◌∷◌, Some, None, ◌≡◌, refl, sym, ap, ◌∙◌, subst}
use Rattle.std.proofs.lemmas.Bool.{and_parts}
use Rattle.openapi_tables.specs.Prelude.{each, every, items_list, members_list, of_members, Entry, Kind, map_of}
use Rattle.openapi_tables.specs.Prelude.{list_of, ref_to, a_schema, flag_or_schema, null_or, Row, code, text_of, Tables}
use Rattle.openapi_tables.specs.Prelude.{Choice, choice, rows_of, Form, deciding, known, other, an_item, sequence}
use Rattle.openapi_tables.specs.Prelude.{named, fields, name, named_of, forms_of, Pair, root_form, map_form, slot}
use Rattle.openapi_tables.specs.Prelude.{code_form, form, text_of_key, print, again, may_be_null, sound, row_sound}
use Rattle.openapi_tables.specs.Prelude.{rows_apart, under_ref, tables_sound, stays, face_stays, choice_stays}
use Rattle.openapi_tables.specs.Prelude.{rows_stay, Checks}
use Rattle.openapi_node.specs.Tree.{Tree, text}
use Rattle.openapi_tables.proofs.ListLaws.{Each, each-each, each_same, each_under, every_each}
use Rattle.openapi_tables.proofs.TreeLaws.{Inside, of_members_lem}
use Rattle.openapi_tables.proofs.FormLaws.{show, of_forms-of}
use Rattle.openapi_tables.proofs.CodeLaws.{code_of-text_of, writable-code_of}
use Rattle.openapi_tables.proofs.Taken.{Taken, as_leaf, as_known, as_other, as_unset, as_text_code, as_number_code}
use Rattle.openapi_tables.proofs.Taken.{as_list, as_map, as_fields, as_reference, as_item, as_schema, as_inner, is_flag}
use Rattle.openapi_tables.proofs.Taken.{ref_text}
use Rattle.openapi_tables.proofs.ReadLaws.{slot_in, slots-reads, form-list, form-map, map_form-reads, form-fields}
use Rattle.openapi_tables.proofs.ReadLaws.{form-item, form-null_or, form-flag_or_schema, pair_of}
use Rattle.openapi_tables.proofs.PrintLaws.{members_for, print-list, print-map, print-fields, print-null_or}
use Rattle.openapi_tables.proofs.PrintLaws.{print-flag_or_schema, entry_of}
use Rattle.openapi_tables.proofs.RowLaws.{OwnWrites, found}
use Rattle.openapi_tables.proofs.SlotLaws.{Good}
use Rattle.openapi_tables.proofs.again.RowsBack.{Back, around_same, stays-map}
use Rattle.openapi_tables.proofs.again.RowsStay.{writes_own}
use Rattle.openapi_tables.proofs.again.ObjectsBack.{stays-fields, slots_of-found, slots_back, rows_of_sound}

-- a form stays under `null_or k` if and only if it does under `k`
pub stays-null_or : (T : Tables) (k : Kind) (f : Form) → stays T (null_or k) f ≡ stays T k f
stays-null_or T k (deciding n f) = stays-null_or T k f
stays-null_or T k f = refl

-- a form stays under `flag_or_schema` if and only if it does under `ref_to a_schema`
pub stays-flag_or_schema : (T : Tables) (f : Form) → stays T flag_or_schema f ≡ stays T (ref_to a_schema) f
stays-flag_or_schema T (deciding n f) = stays-flag_or_schema T f
stays-flag_or_schema T f = refl

stays_list : (T : Tables) (k : Kind) (fs : List Form)
    → every (λ (p : Checks). p.answer k) (each (show (face_stays T)) fs) ≡ true
    → Each (λ (f : Form). stays T k f ≡ true) fs
stays_list T k [] h = tt
stays_list T k (f ∷ fs) h = let p = and_parts _ _ h in (p.0, stays_list T k fs p.1)

pub stays-list : (T : Tables) (k : Kind) (fs : List Form) → stays T (list_of k) (sequence (forms_of fs)) ≡ true
    → Each (λ (f : Form). stays T k f ≡ true) fs
stays-list T k fs h =
    stays_list T k fs
    (subst (λ (l : List Checks). every (λ (p : Checks). p.answer k) l ≡ true) (of_forms-of (face_stays T) fs) h)

again_each : (T : Tables) (k : Kind) (ts : List Tree) → sound T k ≡ true → Each (Good T) ts
    → Each (λ (f : Form). stays T k f ≡ true) (each (form T k) ts)
    → Each (λ (t : Tree). again T k (form T k t) ≡ form T k t) ts
again_each T k [] s g st = tt
again_each T k (t ∷ ts) s g st = (g.0 k s st.0, again_each T k ts s g.1 st.1)

list_back : (T : Tables) (k : Kind) (ts : List Tree) → sound T k ≡ true → Each (Good T) ts
    → stays T (list_of k) (sequence (forms_of (each (form T k) ts))) ≡ true
    → again T (list_of k) (sequence (forms_of (each (form T k) ts))) ≡ sequence (forms_of (each (form T k) ts))
list_back T k ts s g st =
    ap (form T (list_of k)) (print-list T k (each (form T k) ts))
    ∙ form-list T k (each (print T k) (each (form T k) ts))
    ∙ ap (λ l. sequence (forms_of l))
    (each-each (form T k) (print T k) (each (form T k) ts) ∙ each-each (again T k) (form T k) ts
    ∙ each_same (λ t. again T k (form T k t)) (form T k) ts
    (again_each T k ts s g (stays-list T k (each (form T k) ts) st)))

values_good : (T : Tables) (k : Kind) (es : List (Entry Tree)) → sound T k ≡ true
    → Each (λ (e : Entry Tree). Good T e.value) es → Each (λ (e : Entry Tree). Back T k (form T k e.value)) es
values_good T k es s h = each_under (λ (e : Entry Tree) (x : Good T e.value). x k s) es h

same_values : (T : Tables) (k : Kind) (es : List (Entry Tree))
    → Each (λ (e : Entry Tree). Back T k (form T k e.value)) es
    → Each (λ (e : Pair Form). stays T k e.value ≡ true) (each (pair_of T name k) es)
    → Each (λ (e : Pair Form). again T k e.value ≡ e.value) (each (pair_of T name k) es)
same_values T k [] g st = tt
same_values T k (e ∷ es) g st = (g.0 st.0, same_values T k es g.1 st.1)

pub plain_keys : (T : Tables) (k : Kind) (es : List (Entry Tree))
    → Each (λ (e : Pair Form). name (text_of_key e.key) ≡ e.key) (each (pair_of T name k) es)
plain_keys T k [] = tt
plain_keys T k (e ∷ es) = (refl, plain_keys T k es)

map_again : (T : Tables) (k : Kind) (es : List (Entry Tree)) → sound T k ≡ true
    → Each (λ (e : Entry Tree). Good T e.value) es
    → stays T (map_of k) (named (named_of (each (pair_of T name k) es))) ≡ true
    → again T (map_of k) (named (named_of (each (pair_of T name k) es))) ≡ named (named_of (each (pair_of T name k) es))
map_again T k es s g st =
    let m = each (pair_of T name k) es in
    ap (form T (map_of k)) (print-map T k m)
    ∙ form-map T k (each (entry_of T k) m)
    ∙ ap (λ l. named (named_of l))
    (around_same T name k m (plain_keys T k es) (same_values T k es (values_good T k es s g) (stays-map T k m st)))

-- for what the rows of an object kind write for what they read, the same rows are chosen again, if the choice stays
abbrev pub ChosenAgain : (T : Tables) → Type 0
ChosenAgain T = (k : Kind) (c : Choice) (es : List (Entry Tree)) → sound T k ≡ true → choice k es ≡ Some c
    → Each (λ (e : Entry Tree). Good T e.value) es
    → OwnWrites T (rows_of T k c) (each (slot_in T es) (rows_of T k c))
    → choice_stays T k c (each (slot_in T es) (rows_of T k c)) ≡ true
    → choice k (members_for T (rows_of T k c) (each (slot_in T es) (rows_of T k c))) ≡ Some c

fields_back : (T : Tables) (W : tables_sound T ≡ true) → ChosenAgain T
    → (k : Kind) (c : Choice) (es : List (Entry Tree)) → sound T k ≡ true → choice k es ≡ Some c
    → Each (λ (e : Entry Tree). Good T e.value) es
    → stays T k (fields c (forms_of (each (slot_in T es) (rows_of T k c)))) ≡ true
    → again T k (fields c (forms_of (each (slot_in T es) (rows_of T k c))))
    ≡ fields c (forms_of (each (slot_in T es) (rows_of T k c)))
fields_back T W chosen k c es s h g st =
    ap (form T k) (print-fields T k c es fs h)
    ∙ form-fields T k c (members_for T ws fs) (chosen k c es s h g writes parts.0)
    ∙ ap (λ l. fields c (forms_of l))
    (slots_of-found T (members_for T ws fs) ws fs (found T ws fs sound_rows.0 writes)
    (slots_back T ws es rows g parts.1))
  where
    ws : List Row
    ws = rows_of T k c

    fs : List Form
    fs = each (slot_in T es) (rows_of T k c)

    sound_rows : (rows_apart (rows_of T k c) ≡ true) × (every (row_sound T) (rows_of T k c) ≡ true)
    sound_rows = and_parts (rows_apart (rows_of T k c)) (every (row_sound T) (rows_of T k c))
        (rows_of_sound T W k c es s h)

    rows : Each (λ w. row_sound T w ≡ true) (rows_of T k c)
    rows = every_each (row_sound T) (rows_of T k c) sound_rows.1

    parts : (choice_stays T k c (each (slot_in T es) (rows_of T k c)) ≡ true)
        × (rows_stay (rows_of T k c) (each (show (face_stays T)) (each (slot_in T es) (rows_of T k c))) ≡ true)
    parts = and_parts _ _ (sym (stays-fields T k c es (each (slot_in T es) (rows_of T k c)) h) ∙ st)

    writes : OwnWrites T (rows_of T k c) (each (slot_in T es) (rows_of T k c))
    writes = writes_own T (rows_of T k c) es

-- a node that is not a reference is not written as a reference, under a kind that may be used in `ref_to` (`under_ref`)
abbrev pub NoReference : (T : Tables) → Type 0
NoReference T = (k : Kind) (t : Tree) (f : Form) → Taken T k t f → Inside (Good T) t → sound T k ≡ true
    → stays T k f ≡ true → under_ref T k ≡ true → ref_text t ≡ None → ref_text (print T k f) ≡ None

-- a form that is read from a node other than a boolean is not written as a boolean
pub not_flag : (T : Tables) (k : Kind) (t : Tree) (f : Form) → Taken T k t f → is_flag t ≡ false
    → is_flag (print T k f) ≡ false
not_flag T k t f (as_leaf j u e) h = h
not_flag T k t f (as_fields j c ms e) h =
    ap is_flag (print-fields T j c (members_list ms) (each (slot (of_members (root_form T) ms)) (rows_of T j c)) e)
not_flag T k t f (as_item j u g e x) h = not_flag T j u g x h
not_flag T k t f (as_schema u g e x) h = ap is_flag (print-flag_or_schema T g) ∙ not_flag T (ref_to a_schema) u g x h
not_flag T k t f (as_inner j u g x) h = ap is_flag (print-null_or T j g) ∙ not_flag T j u g x h
not_flag T k t f x h = refl

-- a form that was read and stays is read again from what it is written as, if the same rows are chosen again and no
-- item becomes a reference
pub taken_back : (T : Tables) (W : tables_sound T ≡ true) → ChosenAgain T → NoReference T
    → (k : Kind) (t : Tree) (f : Form) → Taken T k t f → Inside (Good T) t → sound T k ≡ true → stays T k f ≡ true
    → again T k f ≡ f
taken_back T W chosen no_ref k t f (as_leaf j u e) g s st = e
taken_back T W chosen no_ref k t f (as_known ws b u e) g s st = ap (λ c. cond c (known u) (other u)) e
taken_back T W chosen no_ref k t f (as_other ws b u e) g s st = ap (λ c. cond c (known u) (other u)) e
taken_back T W chosen no_ref k t f (as_unset ws b) g s st = refl
taken_back T W chosen no_ref k t f (as_text_code u c e) g s st =
    ap (code_form (text (text_of c))) (code_of-text_of c (writable-code_of u c e))
taken_back T W chosen no_ref k t f (as_number_code n e) g s st =
    ap (code_form (text (text_of (code n)))) (code_of-text_of (code n) e)
taken_back T W chosen no_ref k t f (as_list j ts) g s st = list_back T j (items_list ts) s g st
taken_back T W chosen no_ref k t f (as_map j ms) g s st =
    let p : map_form j (of_members (root_form T) ms) ≡ named (named_of (each (pair_of T name j) (members_list ms))) =
    ap (map_form j) (of_members_lem (root_form T) ms) ∙ map_form-reads T j (members_list ms) in
    subst (λ x. again T (map_of j) x ≡ x) (sym p)
    (map_again T j (members_list ms) s g (subst (λ x. stays T (map_of j) x ≡ true) p st))
taken_back T W chosen no_ref k t f (as_fields j c ms e) g s st =
    let p : fields c (forms_of (each (slot (of_members (root_form T) ms)) (rows_of T j c)))
    ≡ fields c (forms_of (each (slot_in T (members_list ms)) (rows_of T j c))) =
    ap (λ l. fields c (forms_of (each (slot l) (rows_of T j c)))) (of_members_lem (root_form T) ms)
    ∙ ap (λ l. fields c (forms_of l)) (slots-reads T (rows_of T j c) (members_list ms)) in
    subst (λ x. again T j x ≡ x) (sym p)
    (fields_back T W chosen j c (members_list ms) s e g (subst (λ x. stays T j x ≡ true) p st))
taken_back T W chosen no_ref k t f (as_reference j u v e) g s st = refl
taken_back T W chosen no_ref k t f (as_item j u h e x) g s st =
    let p = and_parts (under_ref T j) (sound T j) s in
    form-item T j (print T j h) (no_ref j u h x g p.1 st p.0 e)
    ∙ ap an_item (taken_back T W chosen no_ref j u h x g p.1 st)
taken_back T W chosen no_ref k t f (as_schema u h e x) g s st =
    ap (form T flag_or_schema) (print-flag_or_schema T h)
    ∙ form-flag_or_schema T (print T (ref_to a_schema) h) (not_flag T (ref_to a_schema) u h x e)
    ∙ taken_back T W chosen no_ref (ref_to a_schema) u h x g refl (sym (stays-flag_or_schema T h) ∙ st)
taken_back T W chosen no_ref k t f (as_inner j u h x) g s st =
    ap (form T (null_or j)) (print-null_or T j h) ∙ form-null_or T j (print T j h)
    ∙ taken_back T W chosen no_ref j u h x g (and_parts (may_be_null j) (sound T j) s).1
    (sym (stays-null_or T j h) ∙ st)

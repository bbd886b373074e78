-- The sort of a schema, given what is read for the optional fields of the kind names.
use Rattle.std.proofs.Common.{◌≡◌, ℕ, ℤ, Bool, true, false, not, cond, ◌&&◌, ◌||◌, List, [], ◌∷◌, Option, Some, None}
use Rattle.std.proofs.Common.{codes, refl, sym, ap, ◌∙◌, String, string_bytes}
use Rattle.std.specs.Option.{option_map}
use Rattle.std.specs.declared.alloc.Global.{Global}
use Rattle.openapi_node.specs.Tree.{Tree, null, whole, text, list, Items, no_items, item, Members}
use Rattle.openapi_tables.specs.Prelude.{each, every, has, Entry, Seen, items_list, members_list, of_items, Kind}
use Rattle.openapi_tables.specs.Prelude.{any_text, any_tree, number, unlimited, list_of, optional, Row, row, Tables}
use Rattle.openapi_tables.specs.Prelude.{any_rows, Sort, any_sort, sort_of, possible_sort, further, held, is_null}
use Rattle.openapi_tables.specs.Prelude.{is_present, is_null_or_signed, entries_pass, allowed, kind_names, row_name}
use Rattle.openapi_tables.specs.Prelude.{made_optional, conforms, Form, absent, leaf, forms_of, form, root_form}
use Rattle.openapi_tables.specs.Prelude.{is_absent, RowGives, AreRows}
use Rattle.openapi_tables.proofs.ByRowLaws.{any_form}
use Rattle.openapi_fields.specs.Forms.{optional_form, text_form}
use Rattle.openapi_schema_types.specs.Masks.{presence, IsType, sort_by_names}
use Rattle.openapi_schema.specs.RawSlots.{optional_rows}
use Rattle.openapi_schema.specs.SchemaForms.{number_form}
use Rattle.openapi_schema.specs.KindNames.{trees_form}
use Rattle.openapi_schema.specs.Kinds.{entries_test, limit_test}
use Rattle.openapi_schema_types.proofs.HeldRows.{conforms_held, form_held, absent_held}

-- rows of names that are all optional
is_optional : Row → Bool
is_optional (row n optional k) = true
is_optional w = false

presence_read : (T : Tables) (ms : Members) (ws : List Row) (fs : List Form) → every is_optional ws ≡ true
    → AreRows T ws fs ms → each (is_present (members_list ms)) (each row_name ws) ≡ each (λ f. not (is_absent f)) fs
unfolding is_optional
presence_read T ms [] [] h r = refl
presence_read T ms [] (f ∷ fs) h r = absurd r
presence_read T ms (row n optional k ∷ ws) [] h r = absurd r
presence_read T ms (row n optional k ∷ ws) (f ∷ fs) h r =
    λ i. not (absent_held T n k ms f r.0 i) ∷ presence_read T ms ws fs h r.1 i
presence_read T ms (w ∷ ws) fs h r = cc

-- which of the kind names are present, given what is read for them
pub presence-read : (T : Tables) (ms : Members) (fs : List Form) → AreRows T optional_rows fs ms
    → presence (members_list ms) ≡ each (λ f. not (is_absent f)) fs
unfolding presence kind_names optional_rows any_rows is_optional
presence-read T ms fs r = presence_read T ms (each made_optional any_rows) fs refl r

-- what is read for a field whose value is a text
text_read : (T : Tables) (t : Tree) (o : Option (String Global)) → (is_null t || conforms T any_text t) ≡ true
    → cond (is_null t) absent (form T any_text t) ≡ optional_form text_form o → (n : List (Entry Tree))
    → held (codes "type") n ≡ t
    → IsType (option_map string_bytes o) n
text_read T null None h e n u = u
text_read T (text x) (Some s) h e n u = let same : x ≡ string_bytes s = cc in u ∙ ap text same
text_read T t (Some s) h e n u = cc
text_read T t o h e n u = cc

-- what is read for the field `type` is the value of that name
pub type_read : (T : Tables) (ms : Members) (o : Option (String Global))
    → RowGives T (row (codes "type") optional any_text) ms (optional_form text_form o)
    → IsType (option_map string_bytes o) (members_list ms)
type_read T ms o r =
    text_read T (held (codes "type") (members_list ms)) o (sym (conforms_held T (codes "type") any_text ms) ∙ r.0)
    (sym (form_held T (codes "type") any_text ms optional) ∙ r.1) (members_list ms) refl

-- the sort is the one that the names allow, under its further condition
pub sort_of-names : (es : List (Entry Tree)) → sort_of es ≡ cond (further (sort_by_names es) es)
    (sort_by_names es) any_sort
unfolding sort_by_names
sort_of-names es = go (possible_sort (held (codes "type") es) es)
  where
    by : (b c : Bool) (s : Sort) (F : Sort → Bool) → c ≡ F s → F any_sort ≡ true
        → cond (b && c) s any_sort ≡ cond (F (cond b s any_sort)) (cond b s any_sort) any_sort
    by true c s F e a = ap (λ x. cond x s any_sort) e
    by false c s F e a = ap (λ x. cond x any_sort any_sort) (sym a)

    go : (s : Sort) → cond (every (λ n. has (allowed s) n || is_null (held n es)) kind_names && further s es) s any_sort
        ≡ cond (further (cond (every (λ n. has (allowed s) n || is_null (held n es)) kind_names) s any_sort) es)
        (cond (every (λ n. has (allowed s) n || is_null (held n es)) kind_names) s any_sort) any_sort
    go s = by (every (λ n. has (allowed s) n || is_null (held n es)) kind_names) (further s es) s
        (λ x. further x es) refl refl

-- the entries of an enumeration
forms_inj : (fs gs : List Form) → forms_of fs ≡ forms_of gs → fs ≡ gs
forms_inj [] [] h = refl
forms_inj (f ∷ fs) (g ∷ gs) h =
    let first : f ≡ g = cc in
    let rest : forms_of fs ≡ forms_of gs = cc in
    λ i. first i ∷ forms_inj fs gs rest i
forms_inj fs gs h = cc

items_leaves : (T : Tables) (ts : Items) → each (λ (x : Seen (Kind → Form)). x.answer any_tree) (of_items
    (root_form T) ts) ≡ each leaf (items_list ts)
items_leaves T no_items = refl
items_leaves T (item t ts) = λ i. any_form T t i ∷ items_leaves T ts i

leaves_inj : (xs ys : List Tree) → each leaf xs ≡ each leaf ys → xs ≡ ys
leaves_inj [] [] h = refl
leaves_inj (x ∷ xs) (y ∷ ys) h =
    let first : x ≡ y = cc in
    let rest : each leaf xs ≡ each leaf ys = cc in
    λ i. first i ∷ leaves_inj xs ys rest i
leaves_inj xs ys h = cc

entries_read : (T : Tables) (p : Tree → Bool) (t : Tree) (o : Option (List Tree))
    → (is_null t || conforms T (list_of any_tree) t) ≡ true
    → cond (is_null t) absent (form T (list_of any_tree) t) ≡ optional_form trees_form o → entries_pass p t
    ≡ entries_test p o
entries_read T p null None h e = refl
entries_read T p (list xs) (Some ts) h e =
    let inside : forms_of (each (λ (x : Seen (Kind → Form)). x.answer any_tree) (of_items (root_form T) xs))
    ≡ forms_of (each leaf ts) = cc in
    ap (every p) (leaves_inj (items_list xs) ts (sym (items_leaves T xs) ∙ forms_inj _ (each leaf ts) inside))
entries_read T p t (Some ts) h e = cc
entries_read T p t o h e = cc

-- the entries of `enum` pass a test if and only if those that are read for its field do
pub enumeration_read : (T : Tables) (ms : Members) (p : Tree → Bool) (o : Option (List Tree))
    → RowGives T (row (codes "enum") optional (list_of any_tree)) ms (optional_form trees_form o)
    → entries_pass p (held (codes "enum") (members_list ms)) ≡ entries_test p o
enumeration_read T ms p o r =
    entries_read T p (held (codes "enum") (members_list ms)) o
    (sym (conforms_held T (codes "enum") (list_of any_tree) ms) ∙ r.0)
    (sym (form_held T (codes "enum") (list_of any_tree) ms optional) ∙ r.1)

-- the limits of a number
number_read : (T : Tables) (t : Tree) (o : Option ℤ) → (is_null t || conforms T (number unlimited) t) ≡ true
    → cond (is_null t) absent (form T (number unlimited) t) ≡ optional_form number_form o → is_null_or_signed t
    ≡ limit_test o
number_read T null None h e = refl
number_read T (whole y) (Some z) h e = let same : y ≡ z = cc in ap (λ x. is_null_or_signed (whole x)) same
number_read T t (Some z) h e = cc
number_read T t o h e = cc

-- the value of a name is null or in the range of `i64` if and only if the limit that is read for it passes `limit_test`
pub limit_read : (T : Tables) (ms : Members) (n : List ℕ) (o : Option ℤ)
    → RowGives T (row n optional (number unlimited)) ms (optional_form number_form o)
    → is_null_or_signed (held n (members_list ms)) ≡ limit_test o
limit_read T ms n o r =
    number_read T (held n (members_list ms)) o (sym (conforms_held T n (number unlimited) ms) ∙ r.0)
    (sym (form_held T n (number unlimited) ms optional) ∙ r.1)

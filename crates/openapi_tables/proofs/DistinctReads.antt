-- The form that is read from a well named node has distinct keys.
use Rattle.std.proofs.Common.{ℕ, Bool, true, false, cond, List, [], ◌∷◌, ◌≡◌, refl, ap, ◌∙◌}
use Rattle.openapi_tables.specs.Prelude.{each, same_text, items_list, members_list, Entry, Kind, map_of, Mode, required}
use Rattle.openapi_tables.specs.Prelude.{Row, row, either, class, constant, Class, status_names, Tables, takes, ref_to}
use Rattle.openapi_tables.specs.Prelude.{a_schema, is_null, own, rows_of, Form, forms_of, fields, Key, name, Pair}
use Rattle.openapi_tables.specs.Prelude.{default_of, slot_of_own, slot, key_in, root_form, form, same_key, map_form}
use Rattle.openapi_node.specs.Tree.{Tree}
use Rattle.openapi_node.specs.Named.{well_named}
use Rattle.openapi_tables.specs.Distinct.{distinct}
use Rattle.openapi_tables.proofs.ListLaws.{Each, Each_within-only, each_under}
use Rattle.openapi_tables.proofs.TreeLaws.{Inside, by_trees, of_members_lem}
use Rattle.openapi_tables.proofs.KeyLaws.{Distinct, Distinct-put_all, Both-gather}
use Rattle.openapi_tables.proofs.Taken.{Taken, as_leaf, as_list, as_map, as_fields, as_item, as_schema, as_inner, taken}
use Rattle.openapi_tables.proofs.ReadLaws.{reads, pair_of, map_form-reads, class_form-reads, slots-reads, slot_in}
use Rattle.openapi_tables.proofs.again.RowsBack.{class_read}
use Rattle.openapi_tables.proofs.AllReadProper.{from_list}
use Rattle.openapi_tables.proofs.DistinctLaws.{Differ, Differ-only, of_object, of_list_named, distinct-sequence}
use Rattle.openapi_tables.proofs.DistinctLaws.{distinct-fields, distinct-named}

-- if a node is well named, the form that is read from it under any kind has distinct keys
abbrev Clear : (T : Tables) → Tree → Type 0
Clear T t = (k : Kind) → well_named t ≡ true → distinct (form T k t) ≡ true

abbrev Values : (T : Tables) → List (Entry Tree) → Type 0
Values T es = Each (λ (e : Entry Tree). (k : Kind) → distinct (form T k e.value) ≡ true) es

values : (T : Tables) (es : List (Entry Tree)) → Each (λ (e : Entry Tree). Clear T e.value) es
    → Each (λ (e : Entry Tree). well_named e.value ≡ true) es → Values T es
values T [] g h = tt
values T (e ∷ es) g h = ((λ k. g.0 k h.0), values T es g.1 h.1)

items_clear : (T : Tables) (k : Kind) (ts : List Tree) → Each (Clear T) ts → Each (λ t. well_named t ≡ true) ts
    → Each (λ f. distinct f ≡ true) (each (form T k) ts)
items_clear T k [] g h = tt
items_clear T k (t ∷ ts) g h = (g.0 k h.0, items_clear T k ts g.1 h.1)

-- different names are different keys, if each key is a name
keys_of_names : (T : Tables) (k : Kind) (es : List (Entry Tree)) → Differ es → Distinct (each (pair_of T name k) es)
keys_of_names T k [] h = tt
keys_of_names T k (e ∷ es) h = (apart es h.0, keys_of_names T k es h.1)
  where
    apart : (ds : List (Entry Tree)) → Each (λ (d : Entry Tree). same_text e.name d.name ≡ false) ds
        → Each (λ (d : Pair Form). same_key (name e.name) d.key ≡ false) (each (pair_of T name k) ds)
    apart [] g = tt
    apart (d ∷ ds) g = (g.0, apart ds g.1)

class_keys : (T : Tables) (c : Class) (k : Kind) (es : List (Entry Tree)) → Differ es → Distinct (class_read T c k es)
class_keys T status_names k es h = Distinct-put_all [] (each (pair_of T (key_in status_names) k) es) tt
class_keys T c k es h = keys_of_names T k es h

pair_values : (T : Tables) (g : List ℕ → Key) (k : Kind) (es : List (Entry Tree)) → Values T es
    → Each (λ (e : Pair Form). Unit {0} × (distinct e.value ≡ true)) (each (pair_of T g k) es)
pair_values T g k [] h = tt
pair_values T g k (e ∷ es) h = ((tt, h.0 k), pair_values T g k es h.1)

default_clear : (m : Mode) (k : Kind) → distinct (default_of m k) ≡ true
default_clear required k = refl
default_clear m (map_of k) = refl
default_clear m k = refl

value_clear : (m : Mode) (k : Kind) (f : Form) (b : Bool) → distinct f ≡ true
    → distinct (cond b (default_of m k) f) ≡ true
value_clear m k f true h = default_clear m k
value_clear m k f false h = h

row_clear : (T : Tables) (w : Row) (es : List (Entry Tree)) → Differ es → Values T es
    → distinct (slot_of_own w (reads T es)) ≡ true
row_clear T (row n m k) [] d h = default_clear m k
row_clear T (row n m k) (e ∷ es) d h = value_clear m k (form T k e.value) (is_null e.value) (h.0 k)
row_clear T (either a j b k) [] d h = refl
row_clear T (either a j b k) (e ∷ es) d h = h.0 (cond (same_text a e.name) j k)
row_clear T (class c k) es d h =
    ap distinct (class_form-reads T c k es)
    ∙ distinct-named (class_read T c k es) (class_keys T c k es d)
    (each_under (λ (e : Pair Form) (x : Unit {0} × (distinct e.value ≡ true)). x.1) (class_read T c k es)
    (Both-gather (λ n. Unit {0}) (λ f. distinct f ≡ true) c (each (pair_of T (key_in c) k) es)
    (pair_values T (key_in c) k es h)))
row_clear T (constant n v) es d h = refl

rows_clear : (T : Tables) (ws : List Row) (es : List (Entry Tree)) → Differ es → Values T es
    → Each (λ f. distinct f ≡ true) (each (slot_in T es) ws)
rows_clear T [] es d h = tt
rows_clear T (w ∷ ws) es d h = (
  row_clear T w (own w es) (Differ-only (λ (e : Entry Tree). takes w e.name) es d)
      (Each_within-only (λ (e : Entry Tree). (k : Kind) → distinct (form T k e.value) ≡ true)
      (λ (e : Entry Tree). takes w e.name) es h),
  rows_clear T ws es d h,
)

taken_clear : (T : Tables) (k : Kind) (t : Tree) (f : Form) → Taken T k t f → Inside (Clear T) t
    → well_named t ≡ true → distinct f ≡ true
taken_clear T k t f (as_leaf j u e) g h = h
taken_clear T k t f (as_list j ts) g h =
    distinct-sequence (each (form T j) (items_list ts)) (items_clear T j (items_list ts) g (of_list_named ts h))
taken_clear T k t f (as_map j ms) g h =
    let es = members_list ms in
    let w = of_object es (from_list (λ t. well_named t ≡ true) ms h) in
    ap (λ l. distinct (map_form j l)) (of_members_lem (root_form T) ms)
    ∙ ap distinct (map_form-reads T j es)
    ∙ distinct-named (each (pair_of T name j) es) (keys_of_names T j es w.0)
    (each_under (λ (e : Pair Form) (x : Unit {0} × (distinct e.value ≡ true)). x.1) (each (pair_of T name j) es)
    (pair_values T name j es (values T es g w.1)))
taken_clear T k t f (as_fields j c ms e) g h =
    let es = members_list ms in
    let w = of_object es (from_list (λ t. well_named t ≡ true) ms h) in
    ap (λ l. distinct (fields c (forms_of (each (slot l) (rows_of T j c))))) (of_members_lem (root_form T) ms)
    ∙ ap (λ l. distinct (fields c (forms_of l))) (slots-reads T (rows_of T j c) es)
    ∙ distinct-fields c (each (slot_in T es) (rows_of T j c)) (rows_clear T (rows_of T j c) es w.0 (values T es g w.1))
taken_clear T k t f (as_item j u x e y) g h = taken_clear T j u x y g h
taken_clear T k t f (as_schema u x e y) g h = taken_clear T (ref_to a_schema) u x y g h
taken_clear T k t f (as_inner j u x y) g h = taken_clear T j u x y g h
taken_clear T k t f x g h = refl

-- the form that is read from a well named node, under any kind, is distinct
pub reads_distinct : (T : Tables) (t : Tree) → Clear T t
reads_distinct T t = by_trees (Clear T) (λ u g k h. taken_clear T k u (form T k u) (taken T k u) g h) t

-- A normalized node nests no deeper than the node that it is made from, and its numbers are whole if those of that node are.
use Rattle.std.proofs.Common.{ℕ, Bool, true, false, cond, List, [], ◌∷◌, Some, ◌≡◌, ◌≤◌, sym, ap, ◌∙◌, subst, codes, arith}
use Rattle.openapi_node.specs.Tree as tree
use Rattle.openapi_node.specs.Tree.{Tree, Items, Members, null, text, list, object, items_of}
use Rattle.openapi_json.specs.Writing.{AreWhole, ItemsAreWhole, items_nesting, MembersAreWhole, members_nesting, nesting}
use Rattle.openapi_tables.specs.Prelude.{Kind, Tables, Row, Class, Mode, class, constant, either, flagged, formatted}
use Rattle.openapi_tables.specs.Prelude.{listed, map_of, nullable, optional, ref_to, a_schema, required, row, status_names, styled}
use Rattle.openapi_tables.specs.Prelude.{takes, Form, Key, Pair, name, fields, forms_of, each, join, only, same_text, same_key}
use Rattle.openapi_tables.specs.Prelude.{Choice, choice, is_null, own, rows_of, clean, is_silent, members_in, one, print}
use Rattle.openapi_tables.specs.Prelude.{row_print, class_form, map_form, default_of, form, gather, key_in, put, put_all, slot}
use Rattle.openapi_tables.specs.Prelude.{slot_of_own, root_form, Entry, of_members, items_list, members_list, members_of}
use Rattle.openapi_tables.proofs.ListLaws.{Each, Each_within-only}
use Rattle.openapi_tables.proofs.PrintLaws.{entry_of, members_for, print-fields, print-flag_or_schema, print-list, print-map}
use Rattle.openapi_tables.proofs.PrintLaws.{print-null_or, printed}
use Rattle.openapi_tables.proofs.ReadLaws.{class_form-reads, map_form-reads, pair_of, reads, slot_in, slots-reads}
use Rattle.openapi_tables.proofs.Taken.{Taken, as_fields, as_inner, as_item, as_known, as_leaf, as_list, as_map, as_number_code}
use Rattle.openapi_tables.proofs.Taken.{as_other, as_reference, as_schema, as_text_code, as_unset, ref_text, taken}
use Rattle.openapi_tables.proofs.TreeLaws.{Inside, by_trees, members_list-of, members_of-list, of_members_lem}

-- one node nests no deeper than another, and its numbers are whole if those of the other are
abbrev pub Kept : Tree → Tree → Type 0
Kept u t = (nesting u ≤ nesting t) × (AreWhole t → AreWhole u)

-- the same for the normalized node beside the node itself, under each kind
abbrev pub Keeps : (T : Tables) → Tree → Type 0
Keeps T t = (k : Kind) → Kept (clean T k t) t

-- ---- members
-- `Kept` for two lists of members
abbrev Within : List (Entry Tree) → List (Entry Tree) → Type 0
Within xs ys =
    (members_nesting (members_of xs) ≤ members_nesting (members_of ys))
    × (MembersAreWhole (members_of ys) → MembersAreWhole (members_of xs))

-- the same for a node beside a list of members
abbrev Fits : Tree → List (Entry Tree) → Type 0
Fits u ys = (nesting u ≤ members_nesting (members_of ys)) × (MembersAreWhole (members_of ys) → AreWhole u)

none_within : (ys : List (Entry Tree)) → Within [] ys
none_within ys = (omega arith, λ w. tt)

within-trans : (xs ys zs : List (Entry Tree)) → Within xs ys → Within ys zs → Within xs zs
within-trans xs ys zs a b = (omega (arith, a.0, b.0), λ w. a.1 (b.1 w))

join_within : (xs ys zs : List (Entry Tree)) → Within xs zs → Within ys zs → Within (join xs ys) zs
join_within [] ys zs a b = b
join_within (x ∷ xs) ys zs a b =
    let r = join_within xs ys zs (omega (arith, a.0), λ w. (a.1 w).1) b in
    (omega (arith, a.0, r.0), λ w. ((a.1 w).0, r.1 w))

one_within : (n : List ℕ) (u : Tree) (ys : List (Entry Tree)) → Fits u ys → Within (one n u) ys
one_within n u ys h = (omega (arith, h.0), λ w. (h.1 w, tt))

first_fits : (u : Tree) (e : Entry Tree) (l : List (Entry Tree)) → Kept u e.value → Fits u (e ∷ l)
first_fits u e l h = (omega (arith, h.0), λ w. h.1 w.0)

null_fits : (ys : List (Entry Tree)) → Fits null ys
null_fits ys = (omega arith, λ w. tt)

text_fits : (s : List ℕ) (ys : List (Entry Tree)) → Fits (text s) ys
text_fits s ys = (omega arith, λ w. tt)

only_within : (p : Entry Tree → Bool) (es : List (Entry Tree)) → Within (only p es) es
only_within p [] = (omega arith, λ w. w)
only_within p (e ∷ es) = by (p e) (only_within p es)
  where
    by : (b : Bool) → Within (only p es) es → Within (cond b (e ∷ only p es) (only p es)) (e ∷ es)
    by true r = (omega (arith, r.0), λ w. (w.0, r.1 w.1))
    by false r = (omega (arith, r.0), λ w. r.1 w.1)

-- ---- what a row writes
default_within : (T : Tables) (n : List ℕ) (m : Mode) (k : Kind) (ys : List (Entry Tree))
    → Within (row_print (row n m k) (printed T (default_of m k))) ys
default_within T n required k ys = one_within n null ys (null_fits ys)
default_within T n optional k ys = none_within ys
default_within T n nullable k ys = one_within n null ys (null_fits ys)
default_within T n listed (map_of k) ys = none_within ys
default_within T n listed k ys = none_within ys
default_within T n flagged k ys = none_within ys
default_within T n (styled s) k ys = one_within n (text s) ys (text_fits s ys)
default_within T n formatted k ys = none_within ys

unless_silent : (b : Bool) (n : List ℕ) (u : Tree) (ys : List (Entry Tree)) → Fits u ys → Within (cond b [] (one n u)) ys
unless_silent true n u ys h = none_within ys
unless_silent false n u ys h = one_within n u ys h

value_within : (T : Tables) (n : List ℕ) (m : Mode) (k : Kind) (e : Entry Tree) (l : List (Entry Tree))
    → Kept (clean T k e.value) e.value → (b : Bool)
    → Within (row_print (row n m k) (printed T (cond b (default_of m k) (form T k e.value)))) (e ∷ l)
value_within T n m k e l h true = default_within T n m k (e ∷ l)
value_within T n m k e l h false =
    unless_silent (is_silent m (form T k e.value)) n (clean T k e.value) (e ∷ l) (first_fits (clean T k e.value) e l h)

module _ (T : Tables) (k : Kind) (zs : List (Entry Tree)) where
  put_within : (n : Key) (x : Form) (m : List (Pair Form)) → Fits (print T k x) zs → Within (each (entry_of T k) m) zs
      → Within (each (entry_of T k) (put n x m)) zs
  put_within n x [] a b = (omega (arith, a.0), λ w. (a.1 w, tt))
  put_within n x (e ∷ m) a b = at (same_key e.key n) (put_within n x m a (omega (arith, b.0), λ w. (b.1 w).1))
    where
      at : (c : Bool) → Within (each (entry_of T k) (put n x m)) zs
          → Within (each (entry_of T k) (cond c (record { key = e.key; value = x } ∷ m) (e ∷ put n x m))) zs
      at true r = (omega (arith, a.0, b.0), λ w. (a.1 w, (b.1 w).1))
      at false r = (omega (arith, b.0, r.0), λ w. ((b.1 w).0, r.1 w))

  put_all_within : (m es : List (Pair Form)) → Within (each (entry_of T k) m) zs → Within (each (entry_of T k) es) zs
      → Within (each (entry_of T k) (put_all m es)) zs
  put_all_within m [] a b = a
  put_all_within m (e ∷ es) a b =
      put_all_within (put e.key e.value m) es
      (put_within e.key e.value m (omega (arith, b.0), λ w. (b.1 w).0) a) (omega (arith, b.0), λ w. (b.1 w).1)

  gather_within : (c : Class) (es : List (Pair Form)) → Within (each (entry_of T k) es) zs
      → Within (each (entry_of T k) (gather c es)) zs
  gather_within status_names es b = put_all_within [] es (none_within zs) b
  gather_within c es b = b

pairs_within : (T : Tables) (g : List ℕ → Key) (k : Kind) (l : List (Entry Tree))
    → Each (λ (e : Entry Tree). Keeps T e.value) l → Within (each (entry_of T k) (each (pair_of T g k) l)) l
pairs_within T g k [] d = (omega arith, λ w. w)
pairs_within T g k (e ∷ l) d =
    let h : Kept (clean T k e.value) e.value = d.0 k in
    let r = pairs_within T g k l d.1 in
    (omega (arith, h.0, r.0), λ w. (h.1 w.0, r.1 w.1))

row_within : (T : Tables) (w : Row) (l : List (Entry Tree)) → Each (λ (e : Entry Tree). Keeps T e.value) l
    → Within (row_print w (printed T (slot_of_own w (reads T l)))) l
row_within T (row n m k) [] d = default_within T n m k []
row_within T (row n m k) (e ∷ l) d = value_within T n m k e l (d.0 k) (is_null e.value)
row_within T (either a j b k) [] d = none_within []
row_within T (either a j b k) (e ∷ l) d =
    let c = cond (same_text a e.name) j k in
    one_within e.name (clean T c e.value) (e ∷ l) (first_fits (clean T c e.value) e l (d.0 c))
row_within T (class c k) l d =
    let m = each (pair_of T (key_in c) k) l in
    let p : row_print (class c k) (printed T (class_form c k (reads T l))) ≡ each (entry_of T k) (gather c m) =
    ap (λ f. row_print (class c k) (printed T f)) (class_form-reads T c k l)
    ∙ ap members_in (print-map T k (gather c m)) ∙ members_list-of (each (entry_of T k) (gather c m)) in
    subst (λ x. Within x l) (sym p) (gather_within T k l c m (pairs_within T (key_in c) k l d))
row_within T (constant n v) l d = one_within n (text v) l (text_fits v l)

rows_within : (T : Tables) (es : List (Entry Tree)) (ws : List Row) → Each (λ (e : Entry Tree). Keeps T e.value) es
    → Within (members_for T ws (each (slot_in T es) ws)) es
rows_within T es [] d = none_within es
rows_within T es (w ∷ ws) d =
    let test = λ (e : Entry Tree). takes w e.name in
    let ours = row_print w (printed T (slot_in T es w)) in
    join_within ours (members_for T ws (each (slot_in T es) ws)) es
    (within-trans ours (own w es) es
    (row_within T w (own w es) (Each_within-only (λ (e : Entry Tree). Keeps T e.value) test es d)) (only_within test es))
    (rows_within T es ws d)

-- ---- lists and objects
items_kept : (T : Tables) (k : Kind) (ts : Items) → Each (Keeps T) (items_list ts)
    → (items_nesting (items_of (each (print T k) (each (form T k) (items_list ts)))) ≤ items_nesting ts)
    × (ItemsAreWhole ts → ItemsAreWhole (items_of (each (print T k) (each (form T k) (items_list ts)))))
items_kept T k tree.no_items d = (omega arith, λ w. w)
items_kept T k (tree.item t ts) d =
    let h : Kept (clean T k t) t = d.0 k in
    let r = items_kept T k ts d.1 in
    (omega (arith, h.0, r.0), λ w. (h.1 w.0, r.1 w.1))

list_kept : (T : Tables) (k : Kind) (ts : Items) → Each (Keeps T) (items_list ts)
    → Kept (list (items_of (each (print T k) (each (form T k) (items_list ts))))) (list ts)
list_kept T k ts d = let r = items_kept T k ts d in (omega (arith, r.0), r.1)

object_kept : (l : List (Entry Tree)) (ms : Members) → Within l (members_list ms) → Kept (object (members_of l)) (object ms)
object_kept l ms a =
    let same = members_of-list ms in
    let p : members_nesting (members_of l) ≤ members_nesting ms =
    subst (λ x. members_nesting (members_of l) ≤ members_nesting x) same a.0 in
    (omega (arith, p), λ w. a.1 (subst MembersAreWhole (sym same) w))

reference_kept : (t : Tree) (s : List ℕ) → ref_text t ≡ Some s → Kept (object (members_of (one (codes "$ref") (text s)))) t
reference_kept (object ms) s e = (omega arith, λ w. (tt, tt))
reference_kept t s e = cc

fields_kept : (T : Tables) (k : Kind) (c : Choice) (ms : Members) → choice k (members_list ms) ≡ Some c
    → Each (λ (e : Entry Tree). Keeps T e.value) (members_list ms)
    → Kept (print T k (fields c (forms_of (each (slot (of_members (root_form T) ms)) (rows_of T k c))))) (object ms)
fields_kept T k c ms e d =
    let es = members_list ms in
    let ws = rows_of T k c in
    let p = ap (λ l. print T k (fields c (forms_of (each (slot l) ws)))) (of_members_lem (root_form T) ms)
    ∙ ap (λ l. print T k (fields c (forms_of l))) (slots-reads T ws es)
    ∙ print-fields T k c es (each (slot_in T es) ws) e in
    subst (λ u. Kept u (object ms)) (sym p)
    (object_kept (members_for T ws (each (slot_in T es) ws)) ms (rows_within T es ws d))

map_kept : (T : Tables) (k : Kind) (ms : Members) → Each (λ (e : Entry Tree). Keeps T e.value) (members_list ms)
    → Kept (print T (map_of k) (map_form k (of_members (root_form T) ms))) (object ms)
map_kept T k ms d =
    let es = members_list ms in
    let m = each (pair_of T name k) es in
    let p = ap (λ l. print T (map_of k) (map_form k l)) (of_members_lem (root_form T) ms)
    ∙ ap (print T (map_of k)) (map_form-reads T k es) ∙ print-map T k m in
    subst (λ u. Kept u (object ms)) (sym p) (object_kept (each (entry_of T k) m) ms (pairs_within T name k es d))

-- ---- all nodes
taken_kept : (T : Tables) (k : Kind) (t : Tree) (f : Form) → Taken T k t f → Inside (Keeps T) t → Kept (print T k f) t
taken_kept T k t f (as_leaf j u e) g = (omega arith, λ w. w)
taken_kept T k t f (as_known ws b s e) g = (omega arith, λ w. tt)
taken_kept T k t f (as_other ws b s e) g = (omega arith, λ w. tt)
taken_kept T k t f (as_unset ws b) g = (omega arith, λ w. tt)
taken_kept T k t f (as_text_code s c e) g = (omega arith, λ w. tt)
taken_kept T k t f (as_number_code n e) g = (omega arith, λ w. tt)
taken_kept T k t f (as_list j ts) g =
    subst (λ u. Kept u (list ts)) (sym (print-list T j (each (form T j) (items_list ts)))) (list_kept T j ts g)
taken_kept T k t f (as_map j ms) g = map_kept T j ms g
taken_kept T k t f (as_fields j c ms e) g = fields_kept T j c ms e g
taken_kept T k t f (as_reference j u s e) g = reference_kept u s e
taken_kept T k t f (as_item j u x e y) g = taken_kept T j u x y g
taken_kept T k t f (as_schema u x e y) g =
    subst (λ v. Kept v u) (sym (print-flag_or_schema T x)) (taken_kept T (ref_to a_schema) u x y g)
taken_kept T k t f (as_inner j u x y) g = subst (λ v. Kept v u) (sym (print-null_or T j x)) (taken_kept T j u x y g)

-- `Keeps` holds for every node
pub keeps : (T : Tables) (t : Tree) → Keeps T t
keeps T t = by_trees (Keeps T) (λ u g k. taken_kept T k u (form T k u) (taken T k u) g) t

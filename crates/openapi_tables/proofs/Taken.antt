-- The form that is read from a node under a kind, with one rule for each case.
use Rattle.std.proofs.Common.{ℕ, pos, Bool, true, false, cond, ◌&&◌, nat_le, List, Option, Some, None, ◌≡◌, refl, sym}
use Rattle.std.proofs.Common.{ap, ◌∙◌, subst, codes}
use Rattle.openapi_tables.specs.Prelude.{each, has, items_list, members_list, on_entry, Seen, Shape, of_items}
use Rattle.openapi_tables.specs.Prelude.{of_members, Kind, format, null_or, list_of, map_of, by, tagged, ref_to}
use Rattle.openapi_tables.specs.Prelude.{flag_or_schema, a_schema, a_schema_kind, status_code, Code, code, code_of}
use Rattle.openapi_tables.specs.Prelude.{Tables, trees, held, Choice, choice, rows_of, text_in, Form, leaf, of_code}
use Rattle.openapi_tables.specs.Prelude.{known, other, unset, reference, an_item, sequence, fields, forms_of}
use Rattle.openapi_tables.specs.Prelude.{tree_of_root, map_form, slot, root_form, form, chosen_form, reference_or_item}
use Rattle.openapi_tables.specs.Prelude.{an_object, code_form, is_reference}
use Rattle.openapi_node.specs.Tree.{Tree, null, flag, whole, text, list, object, Items, Members}
use Rattle.openapi_tables.specs.Read.{object_form}
use Rattle.openapi_tables.proofs.ListLaws.{each-each, each_id}
use Rattle.openapi_tables.proofs.TreeLaws.{see, of_items_lem, of_members_lem, seen_root, tree_of_root-seen}

-- the text of a reference, if the node is one
abbrev pub ref_text : Tree → Option (List ℕ)
ref_text (object ms) = text_in (held (codes "$ref") (members_list ms))
ref_text _ = None

-- whether a node is a boolean
abbrev pub is_flag : Tree → Bool
is_flag (flag b) = true
is_flag _ = false

-- the cases of reading a node under a kind, each with the form that is read
pub data Taken (T : Tables) : Kind → Tree → Form → Type 0 where
  as_leaf : (k : Kind) (t : Tree) → form T k t ≡ leaf t → Taken T k t (leaf t)
  as_known : (ws : List (List ℕ)) (b : Bool) (s : List ℕ) → has ws s ≡ true → Taken T (format ws b) (text s) (known s)
  as_other : (ws : List (List ℕ)) (b : Bool) (s : List ℕ) → has ws s ≡ false → Taken T (format ws b) (text s) (other s)
  as_unset : (ws : List (List ℕ)) (b : Bool) → Taken T (format ws b) null unset
  as_text_code : (s : List ℕ) (c : Code) → code_of s ≡ Some c → Taken T status_code (text s) (of_code c)
  as_number_code : (n : ℕ) → (nat_le 100 n && nat_le n 999) ≡ true
      → Taken T status_code (whole (pos n)) (of_code (code n))
  as_list : (k : Kind) (ts : Items)
      → Taken T (list_of k) (list ts) (sequence (forms_of (each (form T k) (items_list ts))))
  as_map : (k : Kind) (ms : Members) → Taken T (map_of k) (object ms) (map_form k (of_members (root_form T) ms))
  as_fields : (k : Kind) (c : Choice) (ms : Members) → choice k (members_list ms) ≡ Some c
      → Taken T k (object ms) (fields c (forms_of (each (slot (of_members (root_form T) ms)) (rows_of T k c))))
  as_reference : (k : Kind) (t : Tree) (s : List ℕ) → ref_text t ≡ Some s → Taken T (ref_to k) t (reference s)
  as_item : (k : Kind) (t : Tree) (f : Form) → ref_text t ≡ None → Taken T k t f → Taken T (ref_to k) t (an_item f)
  as_schema : (t : Tree) (f : Form) → is_flag t ≡ false → Taken T (ref_to a_schema) t f → Taken T flag_or_schema t f
  as_inner : (k : Kind) (t : Tree) (f : Form) → Taken T k t f → Taken T (null_or k) t f

leaf_at : (T : Tables) (k : Kind) (t : Tree) → form T k t ≡ leaf (tree_of_root (seen_root (root_form T) t))
    → Taken T k t (form T k t)
leaf_at T k t e =
    let q : form T k t ≡ leaf t = e ∙ ap leaf (tree_of_root-seen (root_form T) t) in
    subst (λ f. Taken T k t f) (sym q) (as_leaf k t q)

-- members with the results of a function beside them, without these results, are the members
pub trees_of-members : {X : Type 0} → (f : Shape (Seen X) → X) (ms : Members)
    → trees (of_members f ms) ≡ members_list ms
trees_of-members f ms =
    ap trees (of_members_lem f ms) ∙ each-each (on_entry (λ x. x.tree)) (on_entry (see f)) (members_list ms)
    ∙ each_id (members_list ms)

-- the text of a reference is the same with the results of a function beside the members of an object
pub reference_of : {X : Type 0} → (f : Shape (Seen X) → X) (ms : Members)
    → is_reference (an_object (of_members f ms)) ≡ ref_text (object ms)
reference_of f ms = ap (λ l. text_in (held (codes "$ref") l)) (trees_of-members f ms)

taken_format : (T : Tables) (ws : List (List ℕ)) (b : Bool) (s : List ℕ) (c : Bool) → has ws s ≡ c
    → Taken T (format ws b) (text s) (cond c (known s) (other s))
taken_format T ws b s true e = as_known ws b s e
taken_format T ws b s false e = as_other ws b s e

taken_code : (T : Tables) (s : List ℕ) (c : Option Code) → code_of s ≡ c
    → Taken T status_code (text s) (code_form (text s) c)
taken_code T s None e = as_leaf status_code (text s) (ap (code_form (text s)) e)
taken_code T s (Some c) e = as_text_code s c e

taken_number : (T : Tables) (n : ℕ) (c : Bool) → (nat_le 100 n && nat_le n 999) ≡ c
    → Taken T status_code (whole (pos n)) (cond c (of_code (code n)) (leaf (whole (pos n))))
taken_number T n true e = as_number_code n e
taken_number T n false e = as_leaf status_code (whole (pos n))
    (ap (λ c. cond c (of_code (code n)) (leaf (whole (pos n)))) e)

taken_list : (T : Tables) (k : Kind) (ts : Items)
    → Taken T (list_of k) (list ts) (sequence (forms_of (each (λ x. x.answer k) (of_items (root_form T) ts))))
taken_list T k ts =
    subst (λ (fs : List Form). Taken T (list_of k) (list ts) (sequence (forms_of fs)))
    (sym (ap (λ l. each (λ x. x.answer k) l) (of_items_lem (root_form T) ts)
    ∙ each-each (λ (x : Seen (Kind → Form)). x.answer k) (see (root_form T)) (items_list ts))) (as_list k ts)

taken_chosen : (T : Tables) (k : Kind) (ms : Members) (c : Option Choice)
    → form T k (object ms) ≡ chosen_form T k (of_members (root_form T) ms) c → choice k (members_list ms) ≡ c
    → Taken T k (object ms) (chosen_form T k (of_members (root_form T) ms) c)
taken_chosen T k ms None h e =
    subst (λ t. Taken T k (object ms) (leaf t)) (sym (tree_of_root-seen (root_form T) (object ms)))
    (as_leaf k (object ms) (h ∙ ap leaf (tree_of_root-seen (root_form T) (object ms))))
taken_chosen T k ms (Some c) h e = as_fields k c ms e

taken_object : (T : Tables) (k : Kind) (ms : Members)
    → form T k (object ms) ≡ object_form T k (of_members (root_form T) ms)
    → Taken T k (object ms) (object_form T k (of_members (root_form T) ms))
taken_object T k ms h =
    taken_chosen T k ms (choice k (trees (of_members (root_form T) ms))) h
    (ap (choice k) (sym (trees_of-members (root_form T) ms)))

taken_ref : (T : Tables) (k : Kind) (t : Tree) (f : Form) (r : Option (List ℕ)) → ref_text t ≡ r → Taken T k t f
    → Taken T (ref_to k) t (reference_or_item r f)
taken_ref T k t f None e h = as_item k t f e h
taken_ref T k t f (Some s) e h = as_reference k t s e

taken_ref_object : (T : Tables) (k : Kind) (ms : Members) (f : Form) → Taken T k (object ms) f
    → Taken T (ref_to k) (object ms)
    (reference_or_item (text_in (held (codes "$ref") (trees (of_members (root_form T) ms)))) f)
taken_ref_object T k ms f h =
    taken_ref T k (object ms) f (text_in (held (codes "$ref") (trees (of_members (root_form T) ms))))
    (ap (λ es. text_in (held (codes "$ref") es)) (sym (trees_of-members (root_form T) ms))) h

-- every node is read under every kind by one of these cases
pub taken : (T : Tables) (k : Kind) (t : Tree) → Taken T k t (form T k t)
taken T (format ws b) null = as_unset ws b
taken T (format ws b) (text s) = taken_format T ws b s (has ws s) refl
taken T (null_or k) null = as_inner k null (form T k null) (taken T k null)
taken T (null_or k) t = as_inner k t (form T k t) (taken T k t)
taken T (list_of k) (list ts) = taken_list T k ts
taken T (map_of k) (object ms) = as_map k ms
taken T (by i) (object ms) = taken_object T (by i) ms refl
taken T (tagged n cs) (object ms) = taken_object T (tagged n cs) ms refl
taken T (ref_to k) (object ms) = taken_ref_object T k ms (form T k (object ms)) (taken T k (object ms))
taken T (ref_to k) t = as_item k t (form T k t) refl (taken T k t)
taken T flag_or_schema (flag v) = leaf_at T flag_or_schema (flag v) refl
taken T flag_or_schema (object ms) =
    as_schema (object ms) (form T flag_or_schema (object ms)) refl
    (taken_ref_object T a_schema ms (form T a_schema (object ms)) (taken_object T a_schema ms refl))
taken T flag_or_schema t =
    as_schema t (form T flag_or_schema t) refl
    (as_item a_schema t (form T a_schema t) refl (leaf_at T a_schema t refl))
taken T a_schema (object ms) = taken_object T a_schema ms refl
taken T a_schema_kind (object ms) = taken_object T a_schema_kind ms refl
taken T status_code (whole (pos n)) = taken_number T n (nat_le 100 n && nat_le n 999) refl
taken T status_code (text s) = taken_code T s (code_of s) refl
taken T k null = leaf_at T k null refl
taken T k t = leaf_at T k t refl

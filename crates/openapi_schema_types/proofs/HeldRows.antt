-- What the row of a name reads, given the value of the name.
use Rattle.std.proofs.Common.{◌≡◌, ℕ, Bool, true, false, cond, ◌&&◌, ◌||◌, List, Option, Some, None, refl, sym, ap, ◌∙◌}
use Rattle.std.proofs.Common.{nat_le, pos}
use Rattle.openapi_node.specs.Tree.{Tree, null, flag, whole, text, list, object, Members, find}
use Rattle.openapi_tables.specs.Prelude.{has, Seen, Entry, Shape, a_null, a_flag, a_whole, a_text, a_list, an_object}
use Rattle.openapi_tables.specs.Prelude.{members_list, of_members, of_items, Kind, format, null_or, by, tagged, ref_to}
use Rattle.openapi_tables.specs.Prelude.{flag_or_schema, a_schema, a_schema_kind, status_code, Mode, optional, row}
use Rattle.openapi_tables.specs.Prelude.{Code, code_of, code, Tables, held, is_null, first_tree, trees, Choice, choice}
use Rattle.openapi_tables.specs.Prelude.{conforms, is_reference, Form, absent, leaf, of_code, known, other, form}
use Rattle.openapi_tables.specs.Prelude.{root_form, default_of, chosen_form, code_form, reference_or_item, is_absent}
use Rattle.openapi_tables.specs.Prelude.{row_conforms, row_form, RowGives}
use Rattle.openapi_tables.specs.Read.{schema_form}
use Rattle.openapi_tables.proofs.ByRowLaws.{own-found, own-missing, conforms-found, conforms-missing, form-found}
use Rattle.openapi_tables.proofs.ByRowLaws.{form-missing}

-- the form that is read for a choice, or for none, is never absent
chosen_there : (T : Tables) (k : Kind) (es : List (Entry (Seen (Kind → Form)))) (o : Option Choice)
    → is_absent (chosen_form T k es o) ≡ false
chosen_there T k es None = refl
chosen_there T k es (Some c) = refl

code_there : (t : Tree) (o : Option Code) → is_absent (code_form t o) ≡ false
code_there t None = refl
code_there t (Some c) = refl

item_there : (o : Option (List ℕ)) (f : Form) → is_absent (reference_or_item o f) ≡ false
item_there None f = refl
item_there (Some s) f = refl

format_there : (b : Bool) (s : List ℕ) → is_absent (cond b (known s) (other s)) ≡ false
format_there true s = refl
format_there false s = refl

number_there : (b : Bool) (c : Code) (t : Tree) → is_absent (cond b (of_code c) (leaf t)) ≡ false
number_there true c t = refl
number_there false c t = refl

root_there : (T : Tables) (s : Shape (Seen (Kind → Form))) (k : Kind) → is_absent (root_form T s k) ≡ false
root_there T a_null (null_or k) = root_there T a_null k
root_there T (a_flag b) (null_or k) = root_there T (a_flag b) k
root_there T (a_whole z) (null_or k) = root_there T (a_whole z) k
root_there T (a_whole (pos n)) status_code = number_there (nat_le 100 n && nat_le n 999) (code n) (whole (pos n))
root_there T (a_text s) (null_or k) = root_there T (a_text s) k
root_there T (a_text s) (format ws b) = format_there (has ws s) s
root_there T (a_text s) status_code = code_there (text s) (code_of s)
root_there T (a_list xs) (null_or k) = root_there T (a_list xs) k
root_there T (an_object es) (null_or k) = root_there T (an_object es) k
root_there T (an_object es) (by i) = chosen_there T (by i) es (choice (by i) (trees es))
root_there T (an_object es) (tagged n cs) = chosen_there T (tagged n cs) es (choice (tagged n cs) (trees es))
root_there T (an_object es) a_schema = chosen_there T a_schema es (choice a_schema (trees es))
root_there T (an_object es) a_schema_kind = chosen_there T a_schema_kind es (choice a_schema_kind (trees es))
root_there T (an_object es) (ref_to k) = item_there (is_reference (an_object es)) (root_form T (an_object es) k)
root_there T (an_object es) flag_or_schema = item_there (is_reference (an_object es)) (schema_form T (an_object es))
root_there T a_null k = refl
root_there T s k = refl

-- the form that is read from a node is never absent
pub form_there : (T : Tables) (k : Kind) (t : Tree) → is_absent (form T k t) ≡ false
form_there T k null = root_there T a_null k
form_there T k (flag b) = root_there T (a_flag b) k
form_there T k (whole z) = root_there T (a_whole z) k
form_there T k (text s) = root_there T (a_text s) k
form_there T k (list ts) = root_there T (a_list (of_items (root_form T) ts)) k
form_there T k (object ms) = root_there T (an_object (of_members (root_form T) ms)) k

module _ (T : Tables) (n : List ℕ) (k : Kind) (ms : Members) where
  abbrev pub under_name : Tree
  under_name = held n (members_list ms)

  pub under_found : (t : Tree) → find n ms ≡ Some t → held n (members_list ms) ≡ t
  under_found t e = ap first_tree (own-found n optional k ms t e).is

  pub under_missing : find n ms ≡ None → held n (members_list ms) ≡ null
  under_missing e = ap first_tree (own-missing n optional k ms e)

  -- an optional row conforms if and only if the value of the name is null or missing, or conforms
  pub conforms_held : row_conforms T (row n optional k) ms ≡ (is_null (held n (members_list ms)) || conforms T k
      (held n (members_list ms)))
  conforms_held = go (find n ms) refl
    where
      go : (o : Option Tree) → find n ms ≡ o
          → row_conforms T (row n optional k) ms ≡ (is_null under_name || conforms T k under_name)
      go None e = conforms-missing T n optional k ms e ∙ ap (λ t. is_null t || conforms T k t) (sym (under_missing e))
      go (Some t) e = conforms-found T n optional k ms t e ∙ ap (λ u. is_null u || conforms T k u) (sym
          (under_found t e))

  -- the slot of a row: its default if the value of the name is null or missing, and else the form of the value
  pub form_held : (m : Mode) → row_form T (row n m k) ms ≡ cond (is_null (held n (members_list ms)))
      (default_of m k) (form T k (held n (members_list ms)))
  form_held m = go (find n ms) refl
    where
      go : (o : Option Tree) → find n ms ≡ o
          → row_form T (row n m k) ms ≡ cond (is_null under_name) (default_of m k) (form T k under_name)
      go None e = form-missing T n m k ms e ∙ ap (λ t. cond (is_null t) (default_of m k) (form T k t)) (sym
          (under_missing e))
      go (Some t) e = form-found T n m k ms t e ∙ ap (λ t. cond (is_null t) (default_of m k) (form T k t)) (sym
          (under_found t e))

  -- the slot of an optional row is absent if and only if the value of the name is null or missing
  pub absent_held : (f : Form) → RowGives T (row n optional k) ms f → is_null (held n (members_list ms)) ≡ is_absent f
  absent_held f r = go (is_null under_name) refl
    where
      go : (b : Bool) → is_null under_name ≡ b → is_null under_name ≡ is_absent f
      go true e = e ∙ ap is_absent (ap (λ b. cond b absent (form T k under_name)) (sym e)
          ∙ sym (form_held optional) ∙ r.1)
      go false e =
          e ∙ sym (form_there T k under_name)
          ∙ ap is_absent (ap (λ b. cond b absent (form T k under_name)) (sym e) ∙ sym (form_held optional) ∙ r.1)

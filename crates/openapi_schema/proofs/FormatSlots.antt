-- The slot of a format, and other slots of what may be missing.
use Rattle.std.proofs.Common.{◌≡◌, ℕ, Bool, false, cond, List, [], ◌∷◌, Option, Some, None, Result, Ok, Err, refl, sym}
use Rattle.std.proofs.Common.{ap, ◌∙◌, String, string_bytes, unwrap_or}
use Rattle.std.specs.Global.{Vec}
use Rattle.std.specs.declared.alloc.Global.{Global}
use Rattle.openapi_map.specs.Entries.{Entries}
use Rattle.openapi_node.specs.Tree.{flag}
use Rattle.std.specs.Borrow.{Bor}
use Rattle.openapi_node.specs.Tree.{Tree, null}
use Rattle.openapi_node.specs.declared.node.Node.{Node}
use Rattle.openapi_node.specs.declared.fault.Fault.{Fault}
use Rattle.openapi_tables.specs.Prelude.{each, Form, leaf, known, other, sequence, named, no_forms, no_named, forms_of}
use Rattle.openapi_schema_types.specs.Enumerations.{entry_tree, EntriesReadAs}
use Rattle.openapi_schema.specs.KindNames.{trees_form}
use Rattle.openapi_schema.specs.Kinds.{EnumerationReadAs, trees_in, trees_or_none}
use Rattle.openapi_fields.specs.Forms.{optional_form, text_form, map_form}
use Rattle.openapi_values.specs.VariantOr.{IsVariantOrEmptyOf, variant_or_empty_form}
use Rattle.openapi_values.specs.Words.{IsWordRead}
use Rattle.openapi_values.specs.declared.variant_or.VariantOrUnknownOrEmpty.{VariantOrUnknownOrEmpty}
use Rattle.openapi_values.specs.declared.variant_or.VariantOrUnknownOrEmpty.TheVariants as o
use Rattle.openapi_schema.specs.RawSlots.{or_else, as_format}
use Rattle.openapi_schema.specs.SchemaForms.{flag_form, list_form, entry_form}

-- what is made of a text that may be missing is the slot of a format
pub format_slot : {X : Type 0} → (E : Type 0) (word : X → List ℕ) (words : List (List ℕ)) (text : Option
    (String Global)) (x : VariantOrUnknownOrEmpty X)
    → IsVariantOrEmptyOf (IsWordRead {X = X} {E = E} word words) text x
    → variant_or_empty_form word x ≡ as_format words (optional_form text_form text)
format_slot E word words (Some s) (o.Item x) h =
    ap known h.value ∙ sym (ap (λ b. cond b (known (string_bytes s)) (other (string_bytes s))) (sym h.found))
format_slot E word words (Some s) (o.Unknown u) h =
    ap other h.0 ∙ sym (ap (λ b. cond b (known (string_bytes s)) (other (string_bytes s))) (sym h.1.1.found))
format_slot E word words (Some s) o.Empty h = cc
format_slot E word words None (o.Item x) h = absurd h
format_slot E word words None (o.Unknown u) h = absurd h
format_slot E word words None o.Empty h = refl

-- what is missing is no entries, no elements, or false
pub map_slot : {X : Type 0} → (view : X → Form) (m : Option (Entries X))
    → map_form view (unwrap_or m []) ≡ or_else (named no_named) (optional_form (map_form view) m)
map_slot view None = refl
map_slot view (Some m) = refl

-- a list, empty where it is missing, has the form of the slot of a list
pub list_slot : {X : Type 0} → (view : X → Form) (v : Option (Vec X)) (d : Vec X) → d.items ≡ []
    → list_form view (unwrap_or v d) ≡ or_else (sequence no_forms) (optional_form (list_form view) v)
list_slot view None d h = rw h refl
list_slot view (Some v) d h = refl

-- a flag, false where it is missing, has the form of the slot of a flag
pub flag_slot : (b : Option Bool) → flag_form (unwrap_or b false) ≡ or_else (leaf (flag false))
    (optional_form flag_form b)
flag_slot None = refl
flag_slot (Some b) = refl

-- the slot of an enumeration
pub kept_slot : (o : Option (Bor (List Tree))) (v : Vec Node) → v.items ≡ trees_or_none (trees_in o)
    → list_form leaf v ≡ or_else (sequence no_forms) (optional_form (λ nodes. trees_form nodes.now) o)
kept_slot None v h = ap (λ ts. sequence (forms_of (each leaf ts))) h
kept_slot (Some nodes) v h = ap (λ ts. sequence (forms_of (each leaf ts))) h

-- the form of an entry is its node
entry_forms : {X : Type 0} → (tree_in : X → Tree) (os : List (Option X))
    → each (entry_form tree_in) os ≡ each leaf (each (entry_tree tree_in) os)
entry_forms tree_in [] = refl
entry_forms tree_in (None ∷ os) = ap (λ fs. leaf null ∷ fs) (entry_forms tree_in os)
entry_forms tree_in (Some x ∷ os) = ap (λ fs. leaf (tree_in x) ∷ fs) (entry_forms tree_in os)

-- what was read from the entries one by one is what is read from an enumeration that is present
pub entries_given : {X : Type 0} → (test : Tree → Bool) (tree_in : X → Tree) (r : Result (Option (Vec
    (Option X))) Fault) (ts : List Tree)
    → EntriesReadAs test tree_in r ts → EnumerationReadAs test tree_in r (Some ts)
entries_given test tree_in (Ok None) ts h = h
entries_given test tree_in (Ok (Some v)) ts h = (
  h.0,
  ap (λ fs. sequence (forms_of fs)) (entry_forms tree_in v.items ∙ ap (λ us. each leaf us) h.1),
)
entries_given test tree_in (Err f) ts h = h

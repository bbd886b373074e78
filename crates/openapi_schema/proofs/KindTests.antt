-- The further conditions of the sorts, given the values under the kind names.
use Rattle.std.proofs.Common.{◌≡◌, Bool, true, false, ◌&&◌, List, Option, Some, None, Result, Ok, Err, IfOk, codes}
use Rattle.std.proofs.Common.{refl, sym, ap, ◌∙◌, subst}
use Rattle.std.specs.Borrow.{Bor}
use Rattle.std.specs.Global.{Vec}
use Rattle.openapi_node.specs.Tree.{Tree, Members}
use Rattle.openapi_tables.specs.Prelude.{members_list, any_tree, list_of, optional, row, final_tables, any_rows, Sort}
use Rattle.openapi_tables.specs.Prelude.{any_sort, further, integer_sort, held, entries_pass, is_null_or_signed, Form}
use Rattle.openapi_tables.specs.Prelude.{sequence, no_forms, AreRows, RowGives}
use Rattle.openapi_fields.specs.Forms.{optional_form}
use Rattle.openapi_schema_types.specs.Masks.{sort_by_names}
use Rattle.openapi_schema.specs.RawSlots.{optional_rows, or_else}
use Rattle.openapi_schema.specs.SchemaForms.{list_form, entry_form}
use Rattle.openapi_schema.specs.KindNames.{kind_forms, trees_form}
use Rattle.openapi_schema.specs.Kinds.{IsEnumeration, enumeration_slot, IsKindOf, IsKindBy, entries_test, trees_in}
use Rattle.openapi_schema.specs.Kinds.{limit_test, IsKind}
use Rattle.openapi_schema.specs.declared.kind_names.KindNames.{KindNames}
use Rattle.openapi_node.specs.declared.fault.Fault.{Fault}
use Rattle.openapi_schema.specs.declared.schema.SchemaKind.{SchemaKind}
use Rattle.openapi_schema.proofs.KindSorts.{sort_passes, sort_fails}
use Rattle.openapi_schema.proofs.RawSort.{enumeration_read, limit_read}

-- the form of the nodes that an optional borrow refers to
lent_form : (o : Option (Bor (List Tree))) → optional_form (λ nodes. trees_form nodes.now) o
    ≡ optional_form trees_form (trees_in o)
lent_form None = refl
lent_form (Some nodes) = refl

-- the form of an enumeration, given the value of `enum`
pub is_enumeration : {X : Type 0} → (tree_in : X → Tree) (v : Vec (Option X)) (a : KindNames)
    → list_form (entry_form tree_in) v ≡ enumeration_slot (trees_in a.enumeration) → IsEnumeration tree_in v a
is_enumeration tree_in v a h = h ∙ ap (or_else (sequence no_forms)) (sym (lent_form a.enumeration))

module _ (a : KindNames) (ms : Members) (rows : AreRows final_tables optional_rows (kind_forms a) ms) where
  -- the value of `enum` passes a test if and only if its entries do
  pub entries_held : (p : Tree → Bool) → entries_pass p (held (codes "enum") (members_list ms))
      ≡ entries_test p (trees_in a.enumeration)
  unfolding optional_rows any_rows
  entries_held p =
      let P : Form → Type 0 = λ f. RowGives final_tables (row (codes "enum") optional (list_of any_tree)) ms f in
      enumeration_read final_tables ms p (trees_in a.enumeration)
      (subst P (lent_form a.enumeration) rows.1.1.1.1.1.1.1.1.1.1.1.1.1.1.1.1.0)

  -- what an integer requires further: the entries of its enumeration and its limits are in the range
  -- of `i64`, if they are not null
  pub integer_further : further integer_sort (members_list ms)
      ≡ (entries_test is_null_or_signed (trees_in a.enumeration) && limit_test a.plain.multiple_of && limit_test a.plain.minimum
      && limit_test a.plain.maximum)
  unfolding optional_rows any_rows
  integer_further =
      λ i. entries_held is_null_or_signed i
      && limit_read final_tables ms (codes "multipleOf") a.plain.multiple_of rows.1.1.0 i
      && limit_read final_tables ms (codes "minimum") a.plain.minimum rows.1.1.1.1.1.0 i
      && limit_read final_tables ms (codes "maximum") a.plain.maximum rows.1.1.1.1.1.1.0 i

-- a kind of a sort, where its further condition holds; and of no sort in particular, where it does not
pub passes_by : (s : Sort) (a : KindNames) (k : SchemaKind)
    → ((ms : Members) → AreRows final_tables optional_rows (kind_forms a) ms → further s (members_list ms) ≡ true)
    → IsKindOf s k a → IsKindBy s k a
passes_by s a k h g = λ ms rows e.
    let P : Sort → Type 0 = λ x. IsKindOf x k a in
    subst P (sym (sort_passes (members_list ms) s e (h ms rows))) g

-- a kind of no sort in particular, where the further condition of the sort that the names allow fails
pub fails_by : (s : Sort) (a : KindNames) (r : Result SchemaKind Fault)
    → ((ms : Members) → AreRows final_tables optional_rows (kind_forms a) ms → further s (members_list ms)
    ≡ false)
    → IfOk r (λ k. IsKindOf any_sort k a) → IfOk r (λ k. IsKindBy s k a)
fails_by s a (Ok k) h g = λ ms rows e.
    let P : Sort → Type 0 = λ x. IsKindOf x k a in
    subst P (sym (sort_fails (members_list ms) s e (h ms rows))) g
fails_by s a (Err f) h g = g

-- a kind of the sort that the names allow
pub chosen_kind : (s : Sort) (a : KindNames) (k : SchemaKind)
    → ((ms : Members) → AreRows final_tables optional_rows (kind_forms a) ms → s ≡ sort_by_names (members_list ms))
    → IsKindBy s k a → IsKind k a
chosen_kind s a k h g = λ ms rows. g ms rows (h ms rows)

-- a kind of no sort in particular, where the names allow no other
pub chosen_any : (a : KindNames) (r : Result SchemaKind Fault)
    → ((ms : Members) → AreRows final_tables optional_rows (kind_forms a) ms → any_sort ≡ sort_by_names
    (members_list ms))
    → IfOk r (λ k. IsKindOf any_sort k a) → IfOk r (λ k. IsKind k a)
chosen_any a (Ok k) h g = chosen_kind any_sort a k h (passes_by any_sort a k (λ ms rows. refl) g)
chosen_any a (Err f) h g = g

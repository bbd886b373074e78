-- A schema by its fields: what is read for them, the errors of reading them, and how many values they contain.
use Rattle.std.proofs.Common.{◌≡◌, ◌+◌, ◌≤◌, true, List, [], refl, ap, ◌∙◌, subst, arith, inl, inr}
use Rattle.openapi_node.specs.Place.{Place}
use Rattle.openapi_node.specs.Tree.{Tree, object, Members, members_size}
use Rattle.openapi_node.specs.declared.fault.Fault.{Fault}
use Rattle.openapi_tables.specs.Prelude.{each, join, of_members, members_list, a_schema, a_schema_kind, schema_data}
use Rattle.openapi_tables.specs.Prelude.{Tables, final_tables, tables_with, any_rows, sort, sort_of, sort_rows}
use Rattle.openapi_tables.specs.Prelude.{made_optional, checked_rows, rows_of, conforms, Form, fields, forms_of, form}
use Rattle.openapi_tables.specs.Prelude.{root_form, slot, Asking, Cause, asked, causes, root_asks, Among, rows_apart}
use Rattle.openapi_tables.specs.Prelude.{row_form, AreRows, rows_weight, asking, Broken}
use Rattle.openapi_tables.proofs.ListLaws.{each-join}
use Rattle.openapi_tables.proofs.Taken.{trees_of-members}
use Rattle.openapi_tables.proofs.ByRowLaws.{rows_hold, rows_weight-le}
use Rattle.openapi_fields.specs.Returned.{Fails}
use Rattle.openapi_fields.proofs.Referring.{fails_moved}
use Rattle.openapi_fields.proofs.JoinedRows.{among_rows, rows_join, rows_weight-join}
use Rattle.openapi_schema.specs.RawSlots.{optional_rows, sort_slots}
use Rattle.openapi_schema.proofs.SortSlots.{sort_slots-read}

-- what is read for the kind names is what is read as the kind of a schema
pub kind_gives : (T : Tables) (fs : List Form) (ms : Members) → AreRows T optional_rows fs ms
    → (conforms T a_schema_kind (object ms) ≡ true)
    × (form T a_schema_kind (object ms) ≡ fields (sort (sort_of (members_list ms))) (forms_of (sort_slots (sort_of
    (members_list ms)) fs)))
unfolding checked_rows rows_of optional_rows row_form
kind_gives T fs ms h =
    let s = sort_of (members_list ms) in (
      (rows_hold T optional_rows fs ms h).0,
      ap (λ l. fields (sort (sort_of l)) (forms_of (each (slot (of_members (root_form T) ms)) (sort_rows
          (sort_of l))))) (trees_of-members (root_form T) ms)
          ∙ ap (λ gs. fields (sort s) (forms_of gs)) (sort_slots-read T ms fs h s),
    )

-- the same for a schema, with the fields that every kind has
pub schema_gives : (T : Tables) (ds fs : List Form) (ms : Members) → AreRows T (T schema_data) ds ms
    → AreRows T optional_rows fs ms
    → (conforms T a_schema (object ms) ≡ true)
    × (form T a_schema (object ms) ≡ fields (sort (sort_of (members_list ms))) (forms_of (join ds (sort_slots
    (sort_of (members_list ms)) fs))))
unfolding checked_rows rows_of optional_rows row_form
schema_gives T ds fs ms d h =
    let s = sort_of (members_list ms) in
    let es = of_members (root_form T) ms in (
      (rows_hold T (join (T schema_data) optional_rows) (join ds fs) ms (rows_join T
          (T schema_data) optional_rows ds fs ms d h)).0,
      ap (λ l. fields (sort (sort_of l)) (forms_of (each (slot es) (join (T schema_data) (sort_rows (sort_of l))))))
          (trees_of-members (root_form T) ms)
          ∙ ap (λ gs. fields (sort s) (forms_of gs))
          (each-join (slot es) (T schema_data) (sort_rows s)
          ∙ (λ i. join ((rows_hold T (T schema_data) ds ms d).1 i) (sort_slots-read T ms fs h s i))),
    )

-- what is broken of the kind of a schema is broken of the schema
pub none_broken : (T : Tables) (c : Cause) (a : Asking) (t : Tree) (ms : Members) → t ≡ object ms → a
    ≡ asking [] a_schema_kind t
    → Among c (causes T a.kind a.tree) → ⊥
none_broken T c a t ms e h b =
    let P : Asking → Type 0 = λ x. Among c (causes T x.kind x.tree) in
    let Q : Tree → Type 0 = λ u. Among c (causes T a_schema_kind u) in
    subst Q e (subst P h b)

kind_broken : (T : Tables) (ms : Members) (p : Place) (c : Cause) → Broken T a_schema_kind (object ms) p c
    → Broken T a_schema (object ms) p c
unfolding checked_rows
kind_broken T ms p c b = record { kind = b.kind; tree = b.tree; is_asked = go b.is_asked; breaks = b.breaks }
  where
    go : Among (asking p b.kind b.tree) (asked T a_schema_kind (object ms))
        → Among (asking p b.kind b.tree) (asked T a_schema (object ms))
    go (inl e) = absurd (none_broken T c (asking p b.kind b.tree) _ _ refl e b.breaks)
    go (inr h) = inr (among_rows (asking p b.kind b.tree) (of_members (root_asks T) ms) (T schema_data)
        (each made_optional any_rows) h)

-- an error of reading an object as the kind of a schema is an error of reading it as a schema
pub kind_fails : (f : Fault) (ms : Members) → Fails f a_schema_kind (object ms) → Fails f a_schema (object ms)
kind_fails f ms h = fails_moved f a_schema_kind a_schema (object ms) (object ms) (kind_broken final_tables ms) h

-- no name is taken by two rows of a schema
schema_apart : rows_apart (join (final_tables schema_data) optional_rows) ≡ true
unfolding final_tables tables_with optional_rows any_rows
schema_apart = refl

-- the fields that every schema has and those of the kind names contain at most as many values as the members
pub schema_weight-le : (ms : Members) → rows_weight (final_tables schema_data) ms + rows_weight optional_rows ms ≤
    members_size ms
schema_weight-le ms =
    omega (
      arith,
      rows_weight-join (final_tables schema_data) optional_rows ms,
      rows_weight-le (join (final_tables schema_data) optional_rows) ms schema_apart,
    )

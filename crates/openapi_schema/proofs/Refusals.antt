-- The errors of reading a value as a schema, as the kind of one, as a schema or a reference to one, or as a flag or
-- either of these.
use Rattle.std.proofs.Common.{◌≡◌, Bool, [], refl, sym, ap, ◌∙◌, subst, inl, inr}
use Rattle.std.specs.Borrow.{Bor}
use Rattle.openapi_map.specs.declared.OrderedMap.{OrderedMap}
use Rattle.openapi_node.specs.Place.{Place}
use Rattle.openapi_node.specs.Tree.{object, Members}
use Rattle.openapi_node.specs.View.{shown}
use Rattle.openapi_node.specs.declared.fault.Cause.TheVariants.{WrongKind}
use Rattle.openapi_node.specs.declared.fault.Expected.TheVariants as words
use Rattle.openapi_node.specs.declared.fault.Fault.{Fault}
use Rattle.openapi_node.specs.declared.node.Node.{Node}
use Rattle.openapi_node.specs.declared.node.View.{View}
use Rattle.openapi_node.specs.declared.node.View.TheVariants as v
use Rattle.openapi_tables.specs.Prelude.{by, ref_to, flag_or_schema, a_schema, a_schema_kind, schema_data, final_tables}
use Rattle.openapi_tables.specs.Prelude.{tables_with, any_rows, of_members, an_object, each, checked_rows}
use Rattle.openapi_tables.specs.Prelude.{made_optional, tree_of_root, Asking, Cause, asked, causes, root_asks}
use Rattle.openapi_tables.specs.Prelude.{asks_rows, wrong_kind, Among, asking, Broken}
use Rattle.openapi_tables.proofs.ByRowLaws.{among_left}
use Rattle.openapi_tables.proofs.TreeLaws.{tree_of_root-seen}
use Rattle.openapi_fields.specs.Returned.{Fails}
use Rattle.openapi_fields.proofs.Below.{wrong_here}
use Rattle.openapi_fields.proofs.Referring.{fails_item, fails_moved, fails_wider, no_reference}
use Rattle.openapi_fields.proofs.JoinedRows.{asks_join}
use Rattle.openapi_schema.specs.SchemaForms.{schema_form}

-- an error of reading an object as a reference or a schema is also one where a flag is allowed
pub other_fails : (f : Fault) (ms : Members) → Fails f (ref_to a_schema) (object ms) → Fails f flag_or_schema (object ms)
other_fails f ms h = fails_wider f (ref_to a_schema) flag_or_schema (object ms) (λ a x. inr x) h

-- a rule that is broken in the fields that every schema has is broken in the schema
nothing_missing : (c : Cause) (a : Asking) (ms : Members) → a ≡ asking [] (by schema_data) (object ms)
    → Among c (causes final_tables a.kind a.tree) → ⊥
unfolding final_tables tables_with checked_rows
nothing_missing c a ms e b =
    let P : Asking → Type 0 = λ x. Among c (causes final_tables x.kind x.tree) in
    let h : Among c (causes final_tables (by schema_data) (object ms)) = subst P e b in
    h

data_broken : (ms : Members) (p : Place) (c : Cause) → Broken final_tables (by schema_data) (object ms) p c
    → Broken final_tables a_schema (object ms) p c
unfolding checked_rows
data_broken ms p c b = record { kind = b.kind; tree = b.tree; is_asked = go b.is_asked; breaks = b.breaks }
  where
    go : Among (asking p b.kind b.tree) (asked final_tables (by schema_data) (object ms))
        → Among (asking p b.kind b.tree) (asked final_tables a_schema (object ms))
    go (inl e) =
        let same : tree_of_root (an_object (of_members (root_asks final_tables) ms)) ≡ object ms =
        tree_of_root-seen (root_asks final_tables) (object ms) in
        absurd (nothing_missing c (asking p b.kind b.tree) ms (e ∙ ap (asking [] (by schema_data)) same) b.breaks)
    go (inr h) =
        inr (subst (λ l. Among (asking p b.kind b.tree) l) (sym (asks_join (of_members (root_asks final_tables) ms)
        (final_tables schema_data) (each made_optional any_rows)))
        (among_left (asking p b.kind b.tree) (asks_rows (of_members (root_asks final_tables) ms)
        (final_tables schema_data)) _ h))

-- an error of reading the fields that every schema has is an error of reading the schema
pub data_fails : (f : Fault) (ms : Members) → Fails f (by schema_data) (object ms) → Fails f a_schema (object ms)
data_fails f ms h = fails_moved f (by schema_data) a_schema (object ms) (object ms) (data_broken ms) h

-- a view of a value that is neither a flag nor an object
pub not_flag_or_object : (w : View) → ((b : Bool) → w ≡ v.Flag b → ⊥)
    → ((m : Bor (OrderedMap Node)) → w ≡ v.Object m → ⊥)
    → Among (wrong_kind words.FlagOrObject) (causes final_tables flag_or_schema (shown w))
not_flag_or_object (v.Flag b) g h = absurd (g b refl)
not_flag_or_object (v.Object m) g h = absurd (h m refl)
not_flag_or_object w g h = inl refl

-- a view of a value that is no object, where a schema is required
pub not_schema : (w : View) → ((m : Bor (OrderedMap Node)) → w ≡ v.Object m → ⊥)
    → Among (wrong_kind words.Object) (causes final_tables a_schema (shown w))
not_schema (v.Object m) h = absurd (h m refl)
not_schema w h = inl refl

-- a view of a value that is no object, where the kind of a schema is required
pub not_schema_kind : (w : View) → ((m : Bor (OrderedMap Node)) → w ≡ v.Object m → ⊥)
    → Among (wrong_kind words.Object) (causes final_tables a_schema_kind (shown w))
not_schema_kind (v.Object m) h = absurd (h m refl)
not_schema_kind w h = inl refl

-- a view of a value that is no object, where a schema or a reference to one is required
pub not_object_fails : (f : Fault) (w : View) → ((m : Bor (OrderedMap Node)) → w ≡ v.Object m → ⊥)
    → f.place.items ≡ [] → f.cause ≡ WrongKind words.Object → Fails f (ref_to a_schema) (shown w)
not_object_fails f w h p e =
    fails_item a_schema schema_form (shown w) f (no_reference w h)
    (wrong_here f words.Object a_schema (shown w) p e (not_schema w h))

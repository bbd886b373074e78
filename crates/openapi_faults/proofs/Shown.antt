-- What is required inside a value that a view shows, by the kind and by what is shown.
use Rattle.std.proofs.Common.{◌≡◌, ◌↔◌, ℕ, ◌+◌, ◌≤◌, Bool, true, false, cond, IsTrue, is_some, List, [], ◌∷◌, Ok, Err, Result, OnOk, Option, None, Some, refl, sym, ap, ◌∙◌, map, arith}
use Rattle.std.specs.Borrow.{Bor}
use Rattle.std.specs.Option.{option_copied}
use Rattle.openapi_map.specs.declared.OrderedMap.{OrderedMap}
use Rattle.openapi_node.specs.Tree.{Tree, Members, null, find, members_of, members_size, object, text_in}
use Rattle.openapi_node.specs.Place.{named}
use Rattle.openapi_node.specs.View.{shown}
use Rattle.openapi_node.specs.declared.node.Node.{Node}
use Rattle.openapi_node.specs.declared.node.View.{View}
use Rattle.openapi_node.specs.declared.node.View.TheVariants as view
use Rattle.openapi_tables.specs.Prelude.{Kind, Row, TableName, a_schema, a_schema_kind, any_rows, by, each, join, list_of}
use Rattle.openapi_tables.specs.Prelude.{Asking, asked, final_tables, made_optional, map_of, ref_to, rows_apart, rows_weight}
use Rattle.openapi_tables.specs.Prelude.{asking, below, is_case, is_null, one_of, schema_data, tag_table, tagged, words}
use Rattle.openapi_tables.specs.Kind.{any_schema}
use Rattle.openapi_tables.specs.Tables.{tables_with}
use Rattle.openapi_tables.proofs.WeightLaws.{rows_weight-le, table_weight-le}
use Rattle.openapi_tables.proofs.WellMade.{final_sound}
use Rattle.openapi_fields.proofs.JoinedRows.{rows_weight-join}
use Rattle.openapi_faults.specs.Meaning.{cases_of, row_of, tag_name, tagged_of}
use Rattle.openapi_faults.specs.declared.tag.Tag.{Tag}
use Rattle.openapi_faults.specs.declared.tag.Tag.TheVariants as g
use Rattle.openapi_faults.specs.Walk.{asked_below, asked_not_null, asked_optional}
use Rattle.openapi_faults.specs.Walk.{asked_entries, asked_inside, asked_items, asked_rows, is_chosen, reference_text, rows_as}
use Rattle.openapi_faults.specs.declared.row.Row as declared
use Rattle.openapi_faults.proofs.Inside.{asked_here, inside_known, inside_no_text, inside_reference, inside_unknown}
use Rattle.openapi_faults.proofs.Inside.{inside_untagged}
use Rattle.openapi_faults.proofs.Inside.{inside_item, inside_items, inside_members, inside_rows, inside_schema, inside_type, open_rows}

-- what holds on success implies on success whatever follows from it
pub on_ok : {X E A B : Type 0} → (r : Result X E) → (A → B) → OnOk r A → OnOk r B
on_ok (Ok x) f h = f h
on_ok (Err e) f h = tt

pub item_asked : (k j : Kind) (t : Tree) → k ≡ ref_to j → reference_text k t ≡ None → asked final_tables j t ≡ asked_inside k t
item_asked k j t e h =
    sym (ap (λ x. asked_inside x t) e ∙ inside_item j t (sym (ap (λ x. reference_text x t) e) ∙ h))

pub items_asked : (k j : Kind) (v : View) (ts : Bor (List Node)) → k ≡ list_of j → v ≡ view.List ts
    → asked_items j 0 ts.now ≡ asked_inside k (shown v)
items_asked k j v ts e is =
    sym (ap (λ x. asked_inside x (shown v)) e ∙ ap (λ w. asked_inside (list_of j) (shown w)) is ∙ inside_items j ts.now)

-- ---- rows

any_schema_rows : final_tables any_schema ≡ any_rows
unfolding final_tables tables_with
any_schema_rows = refl

-- the rows that distinguish the types of schemas, each made optional
optional_rows_are : (rs : List declared.Row) → map row_of rs ≡ final_tables any_schema
    → rows_as true rs ≡ each made_optional any_rows
optional_rows_are rs h = open_rows rs ∙ ap (each made_optional) (h ∙ any_schema_rows)

-- the rows of a table hold no more values than all members do
pub table_weight : (i : TableName) (ws : List Row) (ms : Members) → ws ≡ final_tables i → rows_weight ws ms ≤ members_size ms
table_weight i ws ms h = omega (arith, ap (λ l. rows_weight l ms) h, table_weight-le final_tables final_sound i ms)

schema_apart : rows_apart (join (final_tables schema_data) (each made_optional any_rows)) ≡ true
unfolding final_tables tables_with any_rows
schema_apart = refl

-- nor do the rows of a schema
pub schema_weight : (vs : List Row) (rs : List declared.Row) (ms : Members) → vs ≡ final_tables schema_data
    → map row_of rs ≡ final_tables any_schema
    → rows_weight vs ms + rows_weight (rows_as true rs) ms ≤ members_size ms
schema_weight vs rs ms h f =
    omega (
      arith,
      ap (λ l. rows_weight l ms) h,
      ap (λ l. rows_weight l ms) (optional_rows_are rs f),
      rows_weight-join (final_tables schema_data) (each made_optional any_rows) ms,
      rows_weight-le (join (final_tables schema_data) (each made_optional any_rows)) ms schema_apart,
    )

-- ---- members of an object

module _ (k : Kind) (v : View) (ms : Bor (OrderedMap Node)) (is : v ≡ view.Object ms) where
  as_object : (j : Kind) → k ≡ j → asked_inside k (shown v) ≡ asked_inside j (object (members_of ms.now))
  as_object j e = ap (λ x. asked_inside x (shown v)) e ∙ ap (λ w. asked_inside j (shown w)) is

  pub members_asked : (j : Kind) → k ≡ map_of j → asked_entries (is_chosen None) j ms.now ≡ asked_inside k (shown v)
  members_asked j e = sym (as_object (map_of j) e ∙ inside_members j ms.now)

  pub rows_asked_by : (i : TableName) (ws : List Row) → k ≡ by i → ws ≡ final_tables i
      → asked_rows ws (members_of ms.now) ≡ asked_inside k (shown v)
  rows_asked_by i ws e h =
      ap (λ l. asked_rows l (members_of ms.now)) h ∙ sym (as_object (by i) e ∙ inside_rows i (members_of ms.now))

  pub schema_asked : (vs : List Row) (rs : List declared.Row) → k ≡ a_schema → vs ≡ final_tables schema_data
      → map row_of rs ≡ final_tables any_schema
      → join (asked_rows vs (members_of ms.now)) (asked_rows (rows_as true rs) (members_of ms.now)) ≡ asked_inside k (shown v)
  schema_asked vs rs e h f =
      (λ x. join (asked_rows (h x) (members_of ms.now)) (asked_rows (optional_rows_are rs f x) (members_of ms.now)))
      ∙ sym (as_object a_schema e ∙ inside_schema (members_of ms.now))

  pub type_asked : (rs : List declared.Row) → k ≡ a_schema_kind → map row_of rs ≡ final_tables any_schema
      → asked_rows (rows_as true rs) (members_of ms.now) ≡ asked_inside k (shown v)
  type_asked rs e f =
      ap (λ l. asked_rows l (members_of ms.now)) (optional_rows_are rs f)
      ∙ sym (as_object a_schema_kind e ∙ inside_type (members_of ms.now))

-- ---- a member that is not null

pub not_null : (b : Bool) (t : Tree) → IsTrue b ↔ (t ≡ null) → b ≡ false → is_null t ≡ false
not_null b null h f = let yes : b ≡ true = h.1 refl in cc
not_null b t h f = refl

pub optional_asked : (n : List ℕ) (k : Kind) (ms : Members) (t u : Tree) → Some t ≡ find n ms → u ≡ t → is_null u ≡ false
    → asked_below (named n) k u ≡ asked_optional n k ms
optional_asked n k ms t u h e z =
    sym (ap (asked_not_null n k) (sym h) ∙ ap (λ x. cond (is_null x) [] (asked_below (named n) k x)) (sym e)
    ∙ ap (λ b. cond b [] (asked_below (named n) k u)) z)

-- ---- references, and other values

pub reference_asked : (k : Kind) (t : Tree) (r : Option (Bor (List ℕ))) → option_copied r ≡ reference_text k t → is_some r ≡ true
    → asked final_tables k t ≡ asking [] k t ∷ []
reference_asked k t None h e = cc
reference_asked k t (Some s) h e =
    asked_here k t ∙ ap (λ l. asking [] k t ∷ l) (inside_reference k t s.now (sym h))

-- ---- tags

tag_is : (g : Tag) → tagged_of g ≡ tagged (tag_name g) (cases_of g)
tag_is g.Parameter = refl
tag_is g.SecurityScheme = refl
tag_is g.SchemaType = refl

module _ (g : Tag) (ms : Members) where
  abbrev of_tag : List Asking → Type 0
  of_tag l = l ≡ asked_inside (tagged_of g) (object ms)

  by_its_name : (l : List Asking) → asked_inside (tagged (tag_name g) (cases_of g)) (object ms) ≡ l → of_tag l
  by_its_name l h = sym (ap (λ k. asked_inside k (object ms)) (tag_is g) ∙ h)

  pub untagged_asked : None ≡ find (tag_name g) ms → [] ≡ asked_inside (tagged_of g) (object ms)
  untagged_asked h = by_its_name [] (inside_untagged (tag_name g) (cases_of g) ms (sym h))

  -- the tag that an object has, and its text
  module _ (t u : Tree) (there : Some t ≡ find (tag_name g) ms) (same : u ≡ t) where
    abbrev pub tag_asked : List Asking
    tag_asked = below (named (tag_name g)) (asking [] (one_of (words (cases_of g))) u ∷ [])

    at : find (tag_name g) ms ≡ Some u
    at = sym there ∙ ap Some (sym same)

    pub no_text_asked : None ≡ text_in u → tag_asked ≡ asked_inside (tagged_of g) (object ms)
    no_text_asked h = by_its_name tag_asked (inside_no_text (tag_name g) (cases_of g) ms u at (sym h))

    pub unknown_asked : (s : List ℕ) → Some s ≡ text_in u → is_case (cases_of g) s ≡ false
        → tag_asked ≡ asked_inside (tagged_of g) (object ms)
    unknown_asked s h e = by_its_name tag_asked (inside_unknown (tag_name g) (cases_of g) ms u at s (sym h) e)

    pub known_asked : (s : List ℕ) (i : TableName) → Some s ≡ text_in u → is_case (cases_of g) s ≡ true
        → i ≡ tag_table (cases_of g) s
        → join tag_asked (asked final_tables (by i) (object ms)) ≡ asked_inside (tagged_of g) (object ms)
    known_asked s i h e f =
        ap (λ j. join tag_asked (asked final_tables (by j) (object ms))) f
        ∙ by_its_name (join tag_asked (asked final_tables (by (tag_table (cases_of g) s)) (object ms)))
        (inside_known (tag_name g) (cases_of g) ms u at s (sym h) e)

-- Dropped members do not count: objects of a table.
use Rattle.std.proofs.Common.{◌≡◌, ℕ, true, cond, List, [], ◌∷◌, Some, None}
use Rattle.std.proofs.Common.{refl, sym, ap, ◌∙◌}
use Rattle.std.proofs.lemmas.Bool.{and_parts}
use Rattle.std.specs.List.{list_any}
use Rattle.openapi_node.specs.Place.{Place}
use Rattle.openapi_node.specs.Tree.{Tree, object, Members}
use Rattle.openapi_tables.specs.Faults.{asks_rows, root_asks}
use Rattle.openapi_tables.specs.Form.{fields, forms_of}
use Rattle.openapi_tables.specs.Kind.{Row, TableName, by}
use Rattle.openapi_tables.specs.Lists.{every, join}
use Rattle.openapi_tables.specs.Members.{checked_rows}
use Rattle.openapi_tables.specs.Members.{own, plain, rows_of}
use Rattle.openapi_tables.specs.Sound.{has_members, row_sound, rows_apart, table_names}
use Rattle.openapi_tables.specs.Tables.{any_rows, array_rows, boolean_rows, final_tables, object_rows}
use Rattle.openapi_tables.specs.Tables.{string_rows, tables_with}
use Rattle.openapi_tables.specs.Tree.{Entry, members_list, members_of, of_members}
use Rattle.openapi_tables.proofs.DistinctLaws.{Differ}
use Rattle.openapi_tables.proofs.ListLaws.{Each, each_under}
use Rattle.openapi_tables.proofs.ReadLaws.{form-fields}
use Rattle.openapi_tables.proofs.TreeLaws.{tree_of_root-seen}
use Rattle.openapi_tables.proofs.WellMade.{final_sound}
use Rattle.openapi_tables.proofs.Writes.{object_conforms}
use Rattle.openapi_tables.proofs.again.ObjectsBack.{checked, every_table, table_sound}
use Rattle.openapi_faults.specs.Dropped.{dropped_in, drops, is_tag, is_taken, tag_of_table}
use Rattle.openapi_faults.specs.Dropped.{takes_second, why_lost}
use Rattle.openapi_faults.specs.Laws.{dropped_places}
use Rattle.openapi_faults.specs.declared.dropped.DropReason.TheVariants.{SecondOfTwo, UnknownMember}
use Rattle.openapi_faults.proofs.DropPlaces.{lost}
use Rattle.openapi_faults.proofs.Locations.{left}
use Rattle.openapi_faults.proofs.Picked.{dropping}
use Rattle.openapi_faults.proofs.Trimmed.{Alike, Fine, rows_fine}
use Rattle.openapi_faults.proofs.Trimmed.{seconds_fine, slots_fine}
use Rattle.openapi_faults.proofs.IgnoredRows.{GoodRow, NotLost, Takes, ValuesIgnore, nothing_left, object_fine, row_known}

pub tables_known : every (λ i. every row_known (final_tables i)) table_names ≡ true
unfolding final_tables tables_with string_rows object_rows array_rows boolean_rows any_rows table_names
tables_known = refl

pub both_good : (ws : List Row) → every (row_sound final_tables) ws ≡ true → every row_known ws ≡ true → Each GoodRow ws
both_good [] s r = tt
both_good (w ∷ ws) s r =
    let p = and_parts (row_sound final_tables w) (every (row_sound final_tables) ws) s in
    let q = and_parts (row_known w) (every row_known ws) r in
    ((p.0, q.0), both_good ws p.1 q.1)

module _ (i : TableName) where
  pub table_parts : (rows_apart (final_tables i) ≡ true) × (every (row_sound final_tables) (final_tables i) ≡ true)
  table_parts = and_parts (rows_apart (final_tables i)) (every (row_sound final_tables) (final_tables i)) (table_sound final_tables final_sound i)

  pub table_good : Each GoodRow (final_tables i)
  table_good = both_good (final_tables i) table_parts.1 (every_table (λ n. every row_known (final_tables n)) tables_known i)

  pub table_members : every has_members (final_tables i) ≡ true
  table_members = every_table (λ n. every has_members (final_tables n)) (checked final_tables final_sound).3 i

  pub table_seen : (ms : Members) → dropped_in (by i) (object ms)
      ≡ join (lost [] (why_lost i (members_list ms)) (members_list ms))
      (dropping (asks_rows (of_members (root_asks final_tables) ms) (final_tables i)))
  unfolding checked_rows
  table_seen ms =
      ap (λ t. join (drops [] (by i) t) (dropping (asks_rows (of_members (root_asks final_tables) ms) (final_tables i))))
      (tree_of_root-seen (root_asks final_tables) (object ms))

  pub table_keeps : (es : List (Entry Tree)) → Each (Takes es (final_tables i)) (final_tables i)
      → Each (NotLost (why_lost i es) es) (final_tables i)
  table_keeps es h =
      each_under {Q = NotLost (why_lost i es) es} (λ w (x : Takes es (final_tables i) w) n t f. let r = x n t f in
      ap (λ b. cond b (cond (list_any (takes_second es n) (final_tables i)) (Some SecondOfTwo) None)
      (cond (is_tag (tag_of_table i) n) None (Some UnknownMember))) r.0
      ∙ ap (λ b. cond b (Some SecondOfTwo) None) r.1) (final_tables i) h

  pub table_still : (ps : List Place) (es : List (Entry Tree)) → Each (λ w. Fine ps w (own w es)) (final_tables i) → (n : List ℕ)
      → why_lost i (left ps es) n ≡ why_lost i es n
  table_still ps es h n =
      ap (λ b. cond (is_taken (final_tables i) n) (cond b (Some SecondOfTwo) None)
      (cond (is_tag (tag_of_table i) n) None (Some UnknownMember))) (seconds_fine ps es (final_tables i) n h)

  module _ (es : List (Entry Tree)) (d : Differ es) (v : ValuesIgnore es) where
    pub table_fine : Each (λ w. Fine (dropped_places (by i) (object (members_of es))) w (own w es)) (final_tables i)
    table_fine = object_fine (by i) (final_tables i) (why_lost i) table_seen table_parts.0 table_good table_keeps table_still es d v

    pub table_rest : dropped_in (by i) (object (members_of (left (dropped_places (by i) (object (members_of es))) es))) ≡ []
    table_rest = nothing_left (by i) (final_tables i) (why_lost i) table_seen table_parts.0 table_good table_keeps table_still es d v

    pub table_alike : Alike (by i) (object (members_of es))
        (object (members_of (left (dropped_places (by i) (object (members_of es))) es)))
    unfolding rows_of checked_rows
    table_alike =
        let ps = dropped_places (by i) (object (members_of es)) in
        record {
          read = form-fields final_tables (by i) plain (left ps es) refl
              ∙ ap (λ l. fields plain (forms_of l)) (slots_fine ps es (final_tables i) table_fine)
              ∙ sym (form-fields final_tables (by i) plain es refl);
          verdict = object_conforms final_tables (by i) (left ps es)
              ∙ rows_fine ps es (final_tables i) table_members table_fine
              ∙ sym (object_conforms final_tables (by i) es);
          rest = table_rest;
          plain = λ h. cc;
        }

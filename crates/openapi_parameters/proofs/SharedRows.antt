-- The rows that all parameters have, at the head of the table for each value of `in`.
use Rattle.std.proofs.Common.{◌≡◌, ℕ, ◌*◌, List, [], ◌∷◌, drop, Err, refl, sym, ap, ◌∙◌, subst, inl, inr}
use Rattle.openapi_node.specs.Place.{Place}
use Rattle.openapi_node.specs.Tree.{object, Members}
use Rattle.openapi_node.specs.declared.fault.Fault.{Fault}
use Rattle.openapi_tables.specs.Prelude.{Row, TableName, by, parameter_data, each, flat, join, an_object, members_list}
use Rattle.openapi_tables.specs.Prelude.{of_members, final_tables, checked_rows, Form, tree_of_root, Asking, Cause}
use Rattle.openapi_tables.specs.Prelude.{asked, asks_rows, causes, root_asks, row_misses, Among, AreRows, Broken}
use Rattle.openapi_tables.specs.Prelude.{asking}
use Rattle.openapi_tables.specs.ByRow.{rows_weight}
use Rattle.openapi_tables.proofs.ByRowLaws.{among_left, broken_root}
use Rattle.openapi_tables.proofs.ListLaws.{join_assoc}
use Rattle.openapi_tables.proofs.TreeLaws.{tree_of_root-seen}
use Rattle.openapi_fields.specs.Reading.{IsCaseRead}
use Rattle.openapi_fields.specs.Returned.{Fails, RisesBy}
use Rattle.openapi_fields.proofs.Referring.{fails_moved}
use Rattle.openapi_fields.proofs.JoinedRows.{asks_join, rows_join}
use Rattle.openapi_parameters.specs.Parameters.{parameter_data_rows, parameter_rows, parameter_word}
use Rattle.openapi_parameters.specs.declared.parameter_data.ParameterData.{ParameterData}

-- what a function gives for two lists of rows, joined, is what it gives for each of them, joined
flat_join : {A : Type 0} (f : Row → List A) (ws vs : List Row)
    → flat (each f (join ws vs)) ≡ join (flat (each f ws)) (flat (each f vs))
flat_join f [] vs = refl
flat_join f (w ∷ ws) vs =
    ap (join (f w)) (flat_join f ws vs) ∙ sym (join_assoc (f w) (flat (each f ws)) (flat (each f vs)))

-- a table that begins with the rows of another one
module _ (i j : TableName) (ws : List Row) (begins : final_tables i ≡ join (final_tables j) ws) (ms : Members) where
  misses_more : (c : Cause) → Among c (causes final_tables (by j) (object ms))
      → Among c (causes final_tables (by i) (object ms))
  unfolding checked_rows
  misses_more c h =
      let f = row_misses (members_list ms) in
      subst (λ vs. Among c (flat (each f vs))) (sym begins)
      (subst (λ l. Among c l) (sym (flat_join f (final_tables j) ws))
      (among_left c (flat (each f (final_tables j))) (flat (each f ws)) h))

  asks_more : (a : Asking) → Among a (asks_rows (of_members (root_asks final_tables) ms) (final_tables j))
      → Among a (asks_rows (of_members (root_asks final_tables) ms) (final_tables i))
  asks_more a h =
      let es = of_members (root_asks final_tables) ms in
      subst (λ vs. Among a (asks_rows es vs)) (sym begins)
      (subst (λ l. Among a l) (sym (asks_join es (final_tables j) ws))
      (among_left a (asks_rows es (final_tables j)) (asks_rows es ws) h))

  broken_more : (p : Place) (c : Cause) → Broken final_tables (by j) (object ms) p c
      → Broken final_tables (by i) (object ms) p c
  unfolding checked_rows
  broken_more p c b = go b.is_asked
    where
      go : Among (asking p b.kind b.tree) (asked final_tables (by j) (object ms))
          → Broken final_tables (by i) (object ms) p c
      go (inl e) =
          let root : tree_of_root (an_object (of_members (root_asks final_tables) ms)) ≡ object ms =
          tree_of_root-seen (root_asks final_tables) (object ms) in
          let at : asking p b.kind b.tree ≡ asking [] (by j) (object ms) = e ∙ ap (asking [] (by j)) root in
          subst (λ q. Broken final_tables (by i) (object ms) q c) (sym (ap (λ (a : Asking). a.place) at))
          (broken_root final_tables (by i) (object ms) c
          (misses_more c (subst (λ (a : Asking). Among c (causes final_tables a.kind a.tree)) at b.breaks)))
      go (inr h) =
          record {
            kind = b.kind;
            tree = b.tree;
            is_asked = inr (asks_more (asking p b.kind b.tree) h);
            breaks = b.breaks;
          }

  -- an error of reading an object by its head is an error of reading it by the whole table
  head_fails : (f : Fault) → Fails f (by j) (object ms) → Fails f (by i) (object ms)
  head_fails f h = fails_moved f (by j) (by i) (object ms) (object ms) broken_more h

-- the table for a value of `in`
module _ (i : TableName) (begins : final_tables i ≡ join (final_tables parameter_data) (drop 9 (final_tables i)))
    (ms : Members) where
  -- an error of reading the rows that all parameters have is an error of reading the whole table
  pub data_refused : (f : Fault) {tag : List ℕ} {old new : ℕ} → Fails f (by parameter_data) (object ms)
      → RisesBy old new (3 * rows_weight (final_tables i) ms)
      → IsCaseRead parameter_word parameter_rows (Err f) tag i ms old new
  data_refused f h rises =
      let refused = head_fails i parameter_data (drop 9 (final_tables i)) begins ms f h in
      record { reads = refused; word = tt; count = rises }

  -- what is read for those rows, followed by what is read for the others, is what is read for the whole table
  pub data_reads : (d : ParameterData) (fs : List Form)
      → AreRows final_tables (final_tables parameter_data) (parameter_data_rows d) ms
      → AreRows final_tables (drop 9 (final_tables i)) fs ms
      → AreRows final_tables (final_tables i) (join (parameter_data_rows d) fs) ms
  data_reads d fs h own =
      subst (λ ws. AreRows final_tables ws (join (parameter_data_rows d) fs) ms) (sym begins)
      (rows_join final_tables (final_tables parameter_data) (drop 9 (final_tables i)) (parameter_data_rows d) fs ms h
      own)

-- What is required of a node: its kind, and then what its kind requires inside.
use Rattle.std.proofs.Common.{◌≡◌, ℕ, suc, Bool, true, false, cond, List, [], ◌∷◌, Option, None, Some, ◌≤◌, refl, sym, ap, ◌∙◌, map, arith}
use Rattle.openapi_map.specs.Entries.{Entries}
use Rattle.openapi_node.specs.Place.{indexed, named}
use Rattle.openapi_node.specs.Tree.{Tree, Members, null, flag, whole, text, find, items_of, list, members_of, object, text_in}
use Rattle.openapi_tables.specs.Prelude.{a_flag, a_list, a_null, a_text, a_whole, tagged}
use Rattle.openapi_tables.specs.Prelude.{Kind, Row, Shape, TableName, a_schema, a_schema_kind, an_object, any_rows, by, each}
use Rattle.openapi_tables.specs.Prelude.{checked_rows, final_tables, flag_or_schema, flat, join, list_of}
use Rattle.openapi_tables.specs.Prelude.{made_optional, map_of, of_items, of_members, ref_to, schema_data}
use Rattle.openapi_tables.specs.Prelude.{Asking, Asks, asked, asking, asks_items, asks_members, asks_row}
use Rattle.openapi_tables.specs.Prelude.{below, here, root_asks, unless_reference}
use Rattle.openapi_tables.specs.Tree.{members_list}
use Rattle.openapi_tables.proofs.ListLaws.{each-join, join_assoc}
use Rattle.openapi_tables.specs.Prelude.{Case, Choice, asks_tag, held, is_case, required, one_of, row, tag_choice, tag_table, words}
use Rattle.openapi_tables.specs.Members.{tag}
use Rattle.openapi_tables.proofs.Taken.{reference_of, trees_of-members}
use Rattle.openapi_fields.proofs.Referring.{held_found, held_missing}
use Rattle.openapi_faults.proofs.Rows.{row_found, row_missing}
use Rattle.openapi_tables.proofs.TreeLaws.{of_tree_lem, seen_root, tree_of_root-seen}
use Rattle.openapi_faults.specs.Meaning.{is_leaf, row_of}
use Rattle.openapi_faults.specs.Walk.{asked_entries, asked_inside, asked_items, asked_rows, behind_first, is_chosen}
use Rattle.openapi_faults.specs.Walk.{accesses, accesses_inside, asked_row, reference_text, rows_as}
use Rattle.openapi_faults.specs.declared.row.Row as declared

-- what is required first is the kind of the node itself
root_first : (s : Shape Asks) (k : Kind) → root_asks final_tables s k ≡ here k s ∷ behind_first (root_asks final_tables s k)
root_first s (ref_to k) = refl
root_first (a_list xs) (list_of k) = refl
root_first (an_object es) (map_of k) = refl
root_first (an_object es) (by i) = refl
root_first (an_object es) (tagged n cs) = refl
root_first (an_object es) a_schema = refl
root_first (an_object es) a_schema_kind = refl
root_first (an_object es) flag_or_schema = refl
root_first a_null k = refl
root_first (a_flag b) k = refl
root_first (a_whole z) k = refl
root_first (a_text s) k = refl
root_first (a_list xs) k = refl
root_first (an_object es) k = refl

pub asked_here : (k : Kind) (t : Tree) → asked final_tables k t ≡ asking [] k t ∷ asked_inside k t
asked_here k t =
    let s = seen_root (root_asks final_tables) t in
    let p : asked final_tables k t ≡ root_asks final_tables s k = ap (λ g. g k) (of_tree_lem (root_asks final_tables) t) in
    p ∙ root_first s k
    ∙ ap (λ u. asking [] k u ∷ behind_first (root_asks final_tables s k)) (tree_of_root-seen (root_asks final_tables) t)
    ∙ ap (λ l. asking [] k t ∷ behind_first l) (sym p)

-- ---- lists and maps

items_from : (k : Kind) (i : ℕ) (ts : List Tree)
    → asks_items k i (of_items (root_asks final_tables) (items_of ts)) ≡ asked_items k i ts
items_from k i [] = refl
items_from k i (t ∷ ts) = ap (λ l. join (below (indexed i) (asked final_tables k t)) l) (items_from k (suc i) ts)

pub inside_items : (k : Kind) (ts : List Tree) → asked_inside (list_of k) (list (items_of ts)) ≡ asked_items k 0 ts
inside_items k ts = items_from k 0 ts

members_from : (k : Kind) (es : Entries Tree)
    → asks_members k (of_members (root_asks final_tables) (members_of es)) ≡ asked_entries (is_chosen None) k es
members_from k [] = refl
members_from k (e ∷ es) = ap (λ l. join (below (named e.0) (asked final_tables k e.1)) l) (members_from k es)

pub inside_members : (k : Kind) (es : Entries Tree)
    → asked_inside (map_of k) (object (members_of es)) ≡ asked_entries (is_chosen None) k es
inside_members k es = members_from k es

-- ---- rows

pub inside_rows : (i : TableName) (ms : Members) → asked_inside (by i) (object ms) ≡ asked_rows (final_tables i) ms
unfolding checked_rows
inside_rows i ms = refl

flat_join : {A : Type 0} → (xs ys : List (List A)) → flat (join xs ys) ≡ join (flat xs) (flat ys)
flat_join [] ys = refl
flat_join (x ∷ xs) ys = ap (join x) (flat_join xs ys) ∙ sym (join_assoc x (flat xs) (flat ys))

pub rows_joined : (vs ws : List Row) (ms : Members) → asked_rows (join vs ws) ms ≡ join (asked_rows vs ms) (asked_rows ws ms)
rows_joined vs ws ms =
    let f = asks_row (of_members (root_asks final_tables) ms) in
    ap flat (each-join f vs ws) ∙ flat_join (each f vs) (each f ws)

pub inside_schema : (ms : Members)
    → asked_inside a_schema (object ms) ≡ join (asked_rows (final_tables schema_data) ms) (asked_rows (each made_optional any_rows) ms)
unfolding checked_rows
inside_schema ms = rows_joined (final_tables schema_data) (each made_optional any_rows) ms

pub inside_type : (ms : Members) → asked_inside a_schema_kind (object ms) ≡ asked_rows (each made_optional any_rows) ms
unfolding checked_rows
inside_type ms = refl

pub open_rows : (rs : List declared.Row) → rows_as true rs ≡ each made_optional (map row_of rs)
open_rows [] = refl
open_rows (r ∷ rs) = ap (λ l. made_optional (row_of r) ∷ l) (open_rows rs)

-- ---- references

pub inside_item : (k : Kind) (t : Tree) → reference_text (ref_to k) t ≡ None → asked_inside (ref_to k) t ≡ asked final_tables k t
inside_item k (object ms) h =
    ap (λ r. unless_reference r (asked final_tables k (object ms))) (reference_of (root_asks final_tables) ms ∙ h)
inside_item k t h = refl

pub inside_reference : (k : Kind) (t : Tree) (s : List ℕ) → reference_text k t ≡ Some s → asked_inside k t ≡ []
inside_reference (ref_to k) (object ms) s h =
    ap (λ r. unless_reference r (asked final_tables k (object ms))) (reference_of (root_asks final_tables) ms ∙ h)
inside_reference k t s h = cc

-- inside, the node access for `$ref` is not counted again
pub accesses-le : (k : Kind) → accesses_inside k ≤ accesses k
accesses-le (ref_to k) = omega arith
accesses-le k = omega arith

pub inside_flag_or_schema : (ms : Members)
    → asked_inside flag_or_schema (object ms) ≡ asked final_tables (ref_to a_schema) (object ms)
inside_flag_or_schema ms = refl

-- ---- kinds that require nothing inside, and values that fit no kind

pub inside_leaf : (k : Kind) (t : Tree) → is_leaf k → asked_inside k t ≡ []
inside_leaf (list_of k) t h = absurd h
inside_leaf (map_of k) t h = absurd h
inside_leaf (by i) t h = absurd h
inside_leaf (tagged n cs) t h = absurd h
inside_leaf (ref_to k) t h = absurd h
inside_leaf flag_or_schema t h = absurd h
inside_leaf a_schema t h = absurd h
inside_leaf a_schema_kind t h = absurd h
inside_leaf k null h = refl
inside_leaf k (flag b) h = refl
inside_leaf k (whole z) h = refl
inside_leaf k (text s) h = refl
inside_leaf k (list ts) h = refl
inside_leaf k (object ms) h = refl

-- ---- tags

no_choice : (cs : List Case) (t : Tree) → text_in t ≡ None → tag_choice cs t ≡ None
no_choice cs (text s) h = cc
no_choice cs t h = refl

text_choice : (cs : List Case) (t : Tree) (s : List ℕ) → text_in t ≡ Some s
    → tag_choice cs t ≡ cond (is_case cs s) (Some (tag s)) None
text_choice cs (text r) s h = let same : r ≡ s = cc in ap (λ x. cond (is_case cs x) (Some (tag x)) None) same
text_choice cs t s h = cc

-- what is required inside an object with a tag of a given name
module _ (n : List ℕ) (cs : List Case) (ms : Members) where
  abbrev tag_row : Row
  tag_row = row n required (one_of (words cs))

  abbrev by_tag : Option Choice → List Asking
  by_tag c = asks_tag final_tables n cs (of_members (root_asks final_tables) ms) c

  inside_tagged : asked_inside (tagged n cs) (object ms)
      ≡ join (asked_row tag_row ms) (by_tag (tag_choice cs (held n (members_list ms))))
  inside_tagged =
      ap (λ l. join (asked_row tag_row ms) (by_tag (tag_choice cs (held n l)))) (trees_of-members (root_asks final_tables) ms)

  -- nothing, if the tag is missing
  pub inside_untagged : find n ms ≡ None → asked_inside (tagged n cs) (object ms) ≡ []
  inside_untagged none =
      inside_tagged ∙ ap (λ l. join l (by_tag (tag_choice cs (held n (members_list ms))))) (row_missing n required (one_of (words cs)) ms none)
      ∙ ap (λ t. by_tag (tag_choice cs t)) (held_missing n ms none)

  module _ (t : Tree) (there : find n ms ≡ Some t) where
    -- what is required of the tag
    abbrev pub asked_tag : List Asking
    asked_tag = below (named n) (asking [] (one_of (words cs)) t ∷ [])

    tag_asked : asked_row tag_row ms ≡ asked_tag
    tag_asked =
        row_found n required (one_of (words cs)) ms t there
        ∙ ap (below (named n)) (asked_here (one_of (words cs)) t ∙ ap (λ l. asking [] (one_of (words cs)) t ∷ l) (inside_leaf (one_of (words cs)) t tt))

    inside_there : asked_inside (tagged n cs) (object ms) ≡ join asked_tag (by_tag (tag_choice cs t))
    inside_there =
        inside_tagged ∙ (λ i. join (tag_asked i) (by_tag (tag_choice cs (held_found n ms t there i))))

    -- only this, if the tag is no text
    pub inside_no_text : text_in t ≡ None → asked_inside (tagged n cs) (object ms) ≡ asked_tag
    inside_no_text h = inside_there ∙ ap (λ c. join asked_tag (by_tag c)) (no_choice cs t h)

    module _ (s : List ℕ) (is : text_in t ≡ Some s) where
      inside_text : (b : Bool) → is_case cs s ≡ b
          → asked_inside (tagged n cs) (object ms) ≡ join asked_tag (by_tag (cond b (Some (tag s)) None))
      inside_text b h =
          inside_there
          ∙ ap (λ c. join asked_tag (by_tag c)) (text_choice cs t s is ∙ ap (λ c. cond c (Some (tag s)) None) h)

      -- only this, if the text of the tag selects no table
      pub inside_unknown : is_case cs s ≡ false → asked_inside (tagged n cs) (object ms) ≡ asked_tag
      inside_unknown h = inside_text false h

      -- this and what the table requires, if it selects one
      pub inside_known : is_case cs s ≡ true
          → asked_inside (tagged n cs) (object ms) ≡ join asked_tag (asked final_tables (by (tag_table cs s)) (object ms))
      inside_known h = inside_text true h

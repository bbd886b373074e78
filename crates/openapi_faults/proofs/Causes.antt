-- The causes for members that an object lacks: its tag, and what a row of a table requires.
use Rattle.std.proofs.Common.{◌≡◌, ℕ, List, [], ◌∷◌, Some, None, slice_get, refl, sym, ap, ◌∙◌, codes}
use Rattle.std.specs.Borrow.{Bor}
use Rattle.openapi_map.specs.Entries.{Entries}
use Rattle.openapi_map.specs.declared.OrderedMap.{OrderedMap}
use Rattle.openapi_node.specs.Tree.{Tree, Members, find, members_of, object}
use Rattle.openapi_node.specs.View.{shown}
use Rattle.openapi_node.specs.declared.node.Node.{Node}
use Rattle.openapi_node.specs.declared.node.View.{View}
use Rattle.openapi_node.specs.declared.node.View.TheVariants.{Object}
use Rattle.openapi_tables.specs.Faults.{causes, misses, missing, missing_either, row_misses, tag_misses}
use Rattle.openapi_tables.specs.Kind.{Row, any_text, either, required, row, takes}
use Rattle.openapi_tables.specs.Lists.{each}
use Rattle.openapi_tables.specs.Members.{own}
use Rattle.openapi_tables.specs.Tables.{final_tables}
use Rattle.openapi_tables.specs.Tree.{Entry, members_list}
use Rattle.openapi_tables.proofs.ByRowLaws.{entry, own-found, own-missing}
use Rattle.openapi_tables.proofs.ListLaws.{only-each}
use Rattle.openapi_fields.specs.Entries.{chosen}
use Rattle.openapi_fields.specs.Forms.{is_either}
use Rattle.openapi_faults.specs.Meaning.{kind_of, row_of, tag_name, tagged_of}
use Rattle.openapi_faults.specs.declared.kind.Kind as declared_kind
use Rattle.openapi_faults.specs.declared.row.Row as declared
use Rattle.openapi_faults.specs.declared.row.Row.TheVariants as r
use Rattle.openapi_faults.specs.declared.tag.Tag.{Tag}
use Rattle.openapi_faults.specs.declared.tag.Tag.TheVariants as g

found_here : (tag : Tag) (ms : Members) (u : Tree) → find (tag_name tag) ms ≡ Some u → causes final_tables (tagged_of tag) (object ms) ≡ []
found_here g.Parameter ms u h = ap (tag_misses (codes "in")) (own-found (codes "in") required any_text ms u h).is
found_here g.SecurityScheme ms u h = ap (tag_misses (codes "type")) (own-found (codes "type") required any_text ms u h).is
found_here g.SchemaType ms u h = ap (tag_misses (codes "type")) (own-found (codes "type") required any_text ms u h).is

missing_here : (tag : Tag) (ms : Members) → find (tag_name tag) ms ≡ None
    → causes final_tables (tagged_of tag) (object ms) ≡ missing (tag_name tag) ∷ []
missing_here g.Parameter ms h = ap (tag_misses (codes "in")) (own-missing (codes "in") required any_text ms h)
missing_here g.SecurityScheme ms h = ap (tag_misses (codes "type")) (own-missing (codes "type") required any_text ms h)
missing_here g.SchemaType ms h = ap (tag_misses (codes "type")) (own-missing (codes "type") required any_text ms h)

-- the tag of an object that a view shows
module _ (tag : Tag) (n : List ℕ) (name : n ≡ tag_name tag) (v : View) (m : Bor (OrderedMap Node)) (is : v ≡ Object m) where
  pub tag_there : (u : Tree) → Some u ≡ find n (members_of m.now) → causes final_tables (tagged_of tag) (shown v) ≡ []
  tag_there u h =
      ap (λ w. causes final_tables (tagged_of tag) (shown w)) is
      ∙ found_here tag (members_of m.now) u (ap (λ x. find x (members_of m.now)) (sym name) ∙ sym h)

  pub tag_gone : None ≡ find n (members_of m.now) → causes final_tables (tagged_of tag) (shown v) ≡ missing n ∷ []
  tag_gone h =
      ap (λ w. causes final_tables (tagged_of tag) (shown w)) is
      ∙ missing_here tag (members_of m.now) (ap (λ x. find x (members_of m.now)) (sym name) ∙ sym h)
      ∙ ap (λ x. missing x ∷ []) (sym name)

-- ---- the causes of a row

listed : (es : Entries Tree) → members_list (members_of es) ≡ each (λ e. entry e.0 e.1) es
listed [] = refl
listed (e ∷ es) = ap (λ l. entry e.0 e.1 ∷ l) (listed es)

-- the members that a row takes are the entries whose names it takes
pub own_chosen : (w : Row) (es : Entries Tree)
    → own w (members_list (members_of es)) ≡ each (λ e. entry e.0 e.1) (chosen (takes w) es)
own_chosen w es =
    ap (own w) (listed es) ∙ only-each (λ (e : Entry Tree). takes w e.name) (λ (e : List ℕ × Tree). entry e.0 e.1) es

module _ (w : declared.Row) (n : Bor (List ℕ)) (k : declared_kind.Kind) (is : w ≡ r.Required n k) (ms : Members) where
  pub required_there : (u : Tree) → Some u ≡ find n.now ms → row_misses (members_list ms) (row_of w) ≡ []
  required_there u h =
      ap (λ v. row_misses (members_list ms) (row_of v)) is
      ∙ ap (misses (row n.now required (kind_of k))) (own-found n.now required (kind_of k) ms u (sym h)).is

  pub required_gone : None ≡ find n.now ms → row_misses (members_list ms) (row_of w) ≡ missing n.now ∷ []
  required_gone h =
      ap (λ v. row_misses (members_list ms) (row_of v)) is
      ∙ ap (misses (row n.now required (kind_of k))) (own-missing n.now required (kind_of k) ms (sym h))

module _ (w : declared.Row) (a b : Bor (List ℕ)) (j k : declared_kind.Kind) (is : w ≡ r.Either a j b k) (es : Entries Tree) where
  abbrev pair_row : Row
  pair_row = either a.now (kind_of j) b.now (kind_of k)

  abbrev the_chosen : Entries Tree
  the_chosen = chosen (is_either a.now b.now) es

  either_as : row_misses (members_list (members_of es)) (row_of w) ≡ misses pair_row (each (λ e. entry e.0 e.1) the_chosen)
  either_as =
      ap (λ v. row_misses (members_list (members_of es)) (row_of v)) is ∙ ap (misses pair_row) (own_chosen pair_row es)

  pub either_there : (e : List ℕ × Tree) → Some e ≡ slice_get (chosen (is_either a.now b.now) es) 0
      → row_misses (members_list (members_of es)) (row_of w) ≡ []
  either_there e h = either_as ∙ go the_chosen h
    where
      go : (cs : Entries Tree) → Some e ≡ slice_get cs 0 → misses pair_row (each (λ d. entry d.0 d.1) cs) ≡ []
      go [] q = cc
      go (d ∷ cs) q = refl

  pub either_gone : None ≡ slice_get (chosen (is_either a.now b.now) es) 0
      → row_misses (members_list (members_of es)) (row_of w) ≡ missing_either a.now b.now ∷ []
  either_gone h = either_as ∙ go the_chosen h
    where
      go : (cs : Entries Tree) → None ≡ slice_get cs 0 → misses pair_row (each (λ d. entry d.0 d.1) cs) ≡ missing_either a.now b.now ∷ []
      go [] q = refl
      go (d ∷ cs) q = cc

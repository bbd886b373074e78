-- Dropped members do not count: references.
use Rattle.std.proofs.Common.{◌≡◌, ℕ, Bool, true, false, cond, List, [], ◌∷◌, Option, Some, None}
use Rattle.std.proofs.Common.{refl, sym, ap, ◌∙◌, subst, codes}
use Rattle.std.proofs.lemmas.Bool.{both_ways}
use Rattle.openapi_node.specs.Place.{Place, named}
use Rattle.openapi_node.specs.Tree.{Tree, object, text_in, Members}
use Rattle.openapi_tables.specs.Conforms.{conforms, is_reference, reference_or, root_conforms}
use Rattle.openapi_tables.specs.Faults.{asked, root_asks}
use Rattle.openapi_tables.specs.Faults.{unless_reference}
use Rattle.openapi_tables.specs.Form.{an_item}
use Rattle.openapi_tables.specs.Kind.{Kind, constant}
use Rattle.openapi_tables.specs.Kind.{ref_to}
use Rattle.openapi_tables.specs.Kind.{takes}
use Rattle.openapi_tables.specs.Lists.{each, join, same_text}
use Rattle.openapi_tables.specs.Members.{first_tree, held}
use Rattle.openapi_tables.specs.Members.{own}
use Rattle.openapi_tables.specs.Tables.{final_tables}
use Rattle.openapi_tables.specs.Tree.{Entry, an_object, members_list, members_of, of_members}
use Rattle.openapi_tables.proofs.DistinctLaws.{Differ, Differ-only}
use Rattle.openapi_tables.proofs.ListLaws.{Each-only}
use Rattle.openapi_tables.proofs.ListLaws.{join-nil, same_text-refl, same_text_eq}
use Rattle.openapi_tables.proofs.ReadLaws.{form-item, form-reference}
use Rattle.openapi_tables.proofs.RowLaws.{TakesAll}
use Rattle.openapi_tables.proofs.Taken.{ref_text, reference_of}
use Rattle.openapi_tables.proofs.TreeLaws.{members_list-of, tree_of_root-seen}
use Rattle.openapi_faults.specs.Dropped.{dropped_in, drops}
use Rattle.openapi_faults.specs.Dropped.{why_beside}
use Rattle.openapi_faults.specs.Laws.{dropped_places}
use Rattle.openapi_faults.specs.Without.{inside}
use Rattle.openapi_faults.specs.declared.dropped.DropReason.TheVariants.{BesideReference}
use Rattle.openapi_faults.proofs.DropPlaces.{lost, none_lost, of_left, places, stays_named}
use Rattle.openapi_faults.proofs.Locations.{left, left_first, own_left, stays, text_same}
use Rattle.openapi_faults.proofs.Locations.{trimmed}
use Rattle.openapi_faults.proofs.Picked.{dropping}
use Rattle.openapi_faults.proofs.Trimmed.{Alike}
use Rattle.openapi_faults.proofs.IgnoredRows.{inside_is, stays_at}
use Rattle.openapi_faults.proofs.IgnoredValues.{no_reason}

module _ (k : Kind) where
  pub ref_drops : (ms : Members) (r : Option (List ℕ)) → ref_text (object ms) ≡ r → dropped_in (ref_to k) (object ms)
      ≡ join (lost [] (why_beside r) (members_list ms)) (dropping (unless_reference r (asked final_tables k (object ms))))
  ref_drops ms r q =
      ap (λ t. join (drops [] (ref_to k) t)
      (dropping (unless_reference (is_reference (an_object (of_members (root_asks final_tables) ms))) (asked final_tables k (object ms)))))
      (tree_of_root-seen (root_asks final_tables) (object ms))
      ∙ ap (λ x. join (lost [] (why_beside (ref_text (object ms))) (members_list ms))
      (dropping (unless_reference x (asked final_tables k (object ms))))) (reference_of (root_asks final_tables) ms)
      ∙ ap (λ x. join (lost [] (why_beside x) (members_list ms)) (dropping (unless_reference x (asked final_tables k (object ms))))) q

  pub item_drops : (ms : Members) → ref_text (object ms) ≡ None → dropped_in (ref_to k) (object ms) ≡ dropped_in k (object ms)
  item_drops ms q = ref_drops ms None q ∙ ap (λ l. join l (dropped_in k (object ms))) (no_reason (members_list ms))

  pub item_verdict : (ms : Members) → ref_text (object ms) ≡ None
      → conforms final_tables (ref_to k) (object ms) ≡ conforms final_tables k (object ms)
  item_verdict ms q = ap (λ x. reference_or x (conforms final_tables k (object ms))) (reference_of (root_conforms final_tables) ms ∙ q)

  pub ref_verdict : (ms : Members) (s : List ℕ) → ref_text (object ms) ≡ Some s → conforms final_tables (ref_to k) (object ms) ≡ true
  ref_verdict ms s q = ap (λ x. reference_or x (conforms final_tables k (object ms))) (reference_of (root_conforms final_tables) ms ∙ q)

  -- two objects without a reference are alike under a kind with references if they are alike under the kind itself
  pub no_reference : (ms : Members) (u : Members) → ref_text (object ms) ≡ None → ref_text (object u) ≡ None
      → Alike k (object ms) (object u) → Alike (ref_to k) (object ms) (object u)
  no_reference ms u q r a =
      record {
        read = form-item final_tables k (object u) r ∙ ap an_item a.read ∙ sym (form-item final_tables k (object ms) q);
        verdict = item_verdict u r ∙ a.verdict ∙ sym (item_verdict ms q);
        rest = item_drops u r ∙ a.rest;
        plain = λ h. cc;
      }

-- if there is no text under `$ref`, there is none in what is left
pub ref_left : (n : List ℕ) (ps : List Place) (l : List (Entry Tree)) → TakesAll (constant n []) l → Differ l
    → text_in (first_tree l) ≡ None → text_in (first_tree (left ps l)) ≡ None
ref_left n ps [] t d h = refl
ref_left n ps (e ∷ []) t d h = go (stays ps e)
  where
    go : (b : Bool) → text_in (first_tree (each (trimmed ps) (cond b (e ∷ []) []))) ≡ None
    go true = text_same (inside (named e.name) ps) e.value ∙ h
    go false = refl
ref_left n ps (e ∷ c ∷ l) t d h =
    let a : n ≡ e.name = same_text_eq n e.name t.0 in
    let b : n ≡ c.name = same_text_eq n c.name t.1.0 in
    absurd (both_ways (same_text e.name c.name) d.0.0 (subst (λ x. same_text e.name x ≡ true) (sym a ∙ b) (same_text-refl e.name)))

-- an object that is no reference is none without its dropped members
pub still_none : (ps : List Place) (es : List (Entry Tree)) → Differ es → ref_text (object (members_of es)) ≡ None
    → ref_text (object (members_of (left ps es))) ≡ None
still_none ps es d q =
    ap (λ l. text_in (held (codes "$ref") l)) (members_list-of (left ps es))
    ∙ ap (λ l. text_in (first_tree l)) (own_left ps (constant (codes "$ref") []) es)
    ∙ ref_left (codes "$ref") ps (own (constant (codes "$ref") []) es) (Each-only (λ (e : Entry Tree). takes (constant (codes "$ref") []) e.name) es)
    (Differ-only (λ (e : Entry Tree). takes (constant (codes "$ref") []) e.name) es d)
    (sym (ap (λ l. text_in (held (codes "$ref") l)) (members_list-of es)) ∙ q)

-- a reference without what is beside `$ref`
module _ (k : Kind) (es : List (Entry Tree)) (s : List ℕ) (q : ref_text (object (members_of es)) ≡ Some s) where
  abbrev pub ref_gone : List Place
  ref_gone = dropped_places (ref_to k) (object (members_of es))

  pub ref_gone_is : dropped_places (ref_to k) (object (members_of es)) ≡ join (places (lost [] (why_beside (Some s)) es)) (places (dropping []))
  ref_gone_is =
      ap places (ref_drops k (members_of es) (Some s) q)
      ∙ ap places (join-nil (lost [] (why_beside (Some s)) (members_list (members_of es))))
      ∙ ap (λ l. places (lost [] (why_beside (Some s)) l)) (members_list-of es)
      ∙ sym (join-nil (places (lost [] (why_beside (Some s)) es)))

  pub ref_stays : (e : Entry Tree) → same_text (codes "$ref") e.name ≡ true → stays (dropped_places (ref_to k) (object (members_of es))) e ≡ true
  ref_stays e h =
      stays_at (why_beside (Some s)) es [] ref_gone ref_gone_is e []
      (inside_is (why_beside (Some s)) es [] ref_gone ref_gone_is e (ap (λ b. cond b None (Some BesideReference)) h)) refl

  pub ref_first : (l : List (Entry Tree)) → TakesAll (constant (codes "$ref") []) l → text_in (first_tree l) ≡ Some s
      → text_in (first_tree (left (dropped_places (ref_to k) (object (members_of es))) l)) ≡ Some s
  ref_first [] t h = cc
  ref_first (e ∷ l) t h =
      ap (λ x. text_in (first_tree x)) (left_first ref_gone e l (ref_stays e t.0)) ∙ text_same (inside (named e.name) ref_gone) e.value ∙ h

  pub still_some : ref_text (object (members_of (left (dropped_places (ref_to k) (object (members_of es))) es))) ≡ Some s
  still_some =
      ap (λ l. text_in (held (codes "$ref") l)) (members_list-of (left ref_gone es))
      ∙ ap (λ l. text_in (first_tree l)) (own_left ref_gone (constant (codes "$ref") []) es)
      ∙ ref_first (own (constant (codes "$ref") []) es) (Each-only (λ (e : Entry Tree). takes (constant (codes "$ref") []) e.name) es)
      (sym (ap (λ l. text_in (held (codes "$ref") l)) (members_list-of es)) ∙ q)

  pub ref_rest : dropped_in (ref_to k) (object (members_of (left (dropped_places (ref_to k) (object (members_of es))) es))) ≡ []
  ref_rest =
      ref_drops k (members_of (left ref_gone es)) (Some s) still_some
      ∙ join-nil (lost [] (why_beside (Some s)) (members_list (members_of (left ref_gone es))))
      ∙ ap (λ l. lost [] (why_beside (Some s)) l) (members_list-of (left ref_gone es))
      ∙ none_lost [] (why_beside (Some s)) (left ref_gone es)
      (of_left (λ n. why_beside (Some s) n ≡ None) ref_gone es
      (stays_named (why_beside (Some s)) es ref_gone (places (dropping [])) ref_gone_is))

  pub reference_alike : Alike (ref_to k) (object (members_of es))
      (object (members_of (left (dropped_places (ref_to k) (object (members_of es))) es)))
  reference_alike =
      record {
        read = form-reference final_tables k (object (members_of (left ref_gone es))) s still_some
            ∙ sym (form-reference final_tables k (object (members_of es)) s q);
        verdict = ref_verdict k (members_of (left ref_gone es)) s still_some ∙ sym (ref_verdict k (members_of es) s q);
        rest = ref_rest;
        plain = λ h. cc;
      }

pub object_ref : (k : Kind) (es : List (Entry Tree)) → Differ es
    → Alike k (object (members_of es)) (object (members_of (left (dropped_places k (object (members_of es))) es)))
    → (r : Option (List ℕ)) → ref_text (object (members_of es)) ≡ r
    → Alike (ref_to k) (object (members_of es)) (object (members_of (left (dropped_places (ref_to k) (object (members_of es))) es)))
object_ref k es d a (Some s) q = reference_alike k es s q
object_ref k es d a None q =
    subst (λ l. Alike (ref_to k) (object (members_of es)) (object (members_of (left (places l) es)))) (sym (item_drops k (members_of es) q))
    (no_reference k (members_of es) (members_of (left (dropped_places k (object (members_of es))) es)) q
    (still_none (dropped_places k (object (members_of es))) es d q) a)

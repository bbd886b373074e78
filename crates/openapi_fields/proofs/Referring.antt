-- What is read from a node that a reference may replace: the reference, or what is read from the node itself.
use Rattle.std.proofs.Common.{◌≡◌, ℕ, true, List, Some, None, refl, sym, ap, ◌∙◌, subst, inr}
use Rattle.std.specs.Borrow.{Bor}
use Rattle.openapi_map.specs.declared.OrderedMap.{OrderedMap}
use Rattle.openapi_node.specs.Fault.{place_of}
use Rattle.openapi_node.specs.Place.{Place}
use Rattle.openapi_node.specs.Tree.{Tree, null, flag, whole, text, list, object, Members, find}
use Rattle.openapi_node.specs.View.{shown}
use Rattle.openapi_node.specs.declared.fault.Cause.{Cause}
use Rattle.openapi_node.specs.declared.fault.Cause.TheVariants.{Missing, MissingEither, WrongKind, NotAllowed}
use Rattle.openapi_node.specs.declared.fault.Cause.TheVariants.{UnknownVariant, NameNotWritable, NotWhole, Memory}
use Rattle.openapi_node.specs.declared.fault.Fault.{Fault}
use Rattle.openapi_node.specs.declared.node.Node.{Node}
use Rattle.openapi_node.specs.declared.node.View.{View}
use Rattle.openapi_node.specs.declared.node.View.TheVariants as view
use Rattle.openapi_tables.specs.Prelude.{Kind, any_tree, ref_to, required, final_tables, members_list, held, first_tree}
use Rattle.openapi_tables.specs.Prelude.{conforms, reference_or, root_conforms, text_in, Form, reference, form}
use Rattle.openapi_tables.specs.Prelude.{reference_or_item, root_form, Asking, asked, root_asks, unless_reference}
use Rattle.openapi_tables.specs.Prelude.{Among, Broken, asking}
use Rattle.openapi_tables.specs.Faults as faults
use Rattle.openapi_tables.proofs.ByRowLaws.{own-found, own-missing}
use Rattle.openapi_tables.proofs.Taken.{reference_of}
use Rattle.openapi_values.specs.Reference.{reference_form}
use Rattle.openapi_values.specs.declared.reference.ReferenceOr.TheVariants as v
use Rattle.openapi_fields.specs.Returned.{FailsBy, Fails, Reads}
use Rattle.openapi_fields.specs.References.{reference_in}

-- if each cause at a location in `t` under `k` is also at that location in `u` under `l`, an error about `t` under `k` is
-- one about `u` under `l`
pub fails_moved : (f : Fault) (k l : Kind) (t u : Tree)
    → ((p : Place) (c : faults.Cause) → Broken final_tables k t p c → Broken final_tables l u p c) → Fails f k t
    → Fails f l u
fails_moved f k l t u move h = go f.cause h
  where
    go : (c : Cause) → FailsBy c (place_of f) k t → FailsBy c (place_of f) l u
    go (Missing n) b = move (place_of f) (faults.missing n.now) b
    go (MissingEither n m) b = move (place_of f) (faults.missing_either n.now m.now) b
    go (WrongKind w) b = move (place_of f) (faults.wrong_kind w) b
    go NotAllowed b = move (place_of f) faults.not_allowed b
    go UnknownVariant b = move (place_of f) faults.unknown_variant b
    go NameNotWritable b = b
    go NotWhole b = b
    go Memory b = b

-- if each requirement of `k` for a node is also a requirement of `l`, an error about the node under `k` is one under `l`
pub fails_wider : (f : Fault) (k l : Kind) (t : Tree)
    → ((a : Asking) → Among a (asked final_tables k t) → Among a (asked final_tables l t)) → Fails f k t → Fails f l t
fails_wider f k l t leads h =
    fails_moved f k l t t (λ p c b. record {
      kind = b.kind;
      tree = b.tree;
      is_asked = leads (asking p b.kind b.tree) b.is_asked;
      breaks = b.breaks;
    }) h

module _ (k : Kind) where
  conforms_or : (t : Tree)
      → conforms final_tables (ref_to k) t ≡ reference_or (reference_in t) (conforms final_tables k t)
  conforms_or null = refl
  conforms_or (flag b) = refl
  conforms_or (whole z) = refl
  conforms_or (text s) = refl
  conforms_or (list ts) = refl
  conforms_or (object ms) =
      ap (λ r. reference_or r (conforms final_tables k (object ms))) (reference_of (root_conforms final_tables) ms)

  form_or : (t : Tree) → form final_tables (ref_to k) t ≡ reference_or_item (reference_in t) (form final_tables k t)
  form_or (object ms) =
      ap (λ r. reference_or_item r (form final_tables k (object ms))) (reference_of (root_form final_tables) ms)
  form_or t = refl

  asked_or : (t : Tree) → reference_in t ≡ None → (a : Asking) → Among a (asked final_tables k t)
      → Among a (asked final_tables (ref_to k) t)
  asked_or (object ms) n a h =
      inr (subst (λ r. Among a (unless_reference r (asked final_tables k (object ms))))
      (sym (reference_of (root_asks final_tables) ms ∙ n)) h)
  asked_or t n a h = inr h

  module _ {X : Type 0} (form_of : X → Form) (t : Tree) where
    -- a node that is a reference conforms, and its form is that reference
    pub reads_reference : (s : List ℕ) → reference_in t ≡ Some s
        → (conforms final_tables (ref_to k) t ≡ true) × (form final_tables (ref_to k) t ≡ reference s)
    reads_reference s e = (
      conforms_or t ∙ ap (λ r. reference_or r (conforms final_tables k t)) e,
      form_or t ∙ ap (λ r. reference_or_item r (form final_tables k t)) e,
    )

    -- if the node is no reference, what was read from it as an item is what is read from it
    pub reads_item : (x : X) → reference_in t ≡ None → Reads form_of x k t
        → Reads (reference_form form_of) (v.Item x) (ref_to k) t
    reads_item x e h = (
      conforms_or t ∙ (λ i. reference_or (e i) (h.0 i)),
      form_or t ∙ (λ i. reference_or_item (e i) (h.1 i)),
    )

    -- if the node is no reference, an error about it under the kind of the item is an error under the kind `ref_to`
    pub fails_item : (f : Fault) → reference_in t ≡ None → Fails f k t → Fails f (ref_to k) t
    fails_item f e h = fails_wider f k (ref_to k) t (asked_or t e) h

-- a view of anything but an object is not of a reference
pub no_reference : (w : View) → ((m : Bor (OrderedMap Node)) → w ≡ view.Object m → ⊥) → reference_in (shown w) ≡ None
no_reference (view.Object m) h = absurd (h m refl)
no_reference w h = refl

-- `held` returns the value of a member that exists
pub held_found : (n : List ℕ) (ms : Members) (u : Tree) → find n ms ≡ Some u → held n (members_list ms) ≡ u
held_found n ms u e = ap first_tree (own-found n required any_tree ms u e).is

-- `held` returns null for a name that is missing
pub held_missing : (n : List ℕ) (ms : Members) → find n ms ≡ None → held n (members_list ms) ≡ null
held_missing n ms e = ap first_tree (own-missing n required any_tree ms e)

-- a view of anything but a string has no text
pub no_text_in : (w : View) → ((s : Bor (List ℕ)) → w ≡ view.Text s → ⊥) → text_in (shown w) ≡ None
no_text_in (view.Text s) h = absurd (h s refl)
no_text_in w h = refl

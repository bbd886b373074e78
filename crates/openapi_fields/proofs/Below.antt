-- What was read one step below, as seen from here, and errors whose location is empty.
use Rattle.std.proofs.Common.{◌≡◌, ℕ, ◌+◌, ◌*◌, Bool, true, ◌≤◌, List, [], ◌∷◌, Result, Ok, Err, IfOk, IfErr, map, refl, sym, ap}
use Rattle.std.proofs.Common.{◌∙◌, subst, inl, inr, arith}
use Rattle.std.specs.Borrow.{Bor}
use Rattle.openapi_map.specs.declared.OrderedMap.{OrderedMap}
use Rattle.openapi_node.specs.Fault.{IsMemory, GoesUp, place_of, step_of}
use Rattle.openapi_node.specs.Place.{Step, Place}
use Rattle.openapi_node.specs.Tree.{Tree, null, size_of}
use Rattle.openapi_node.specs.View.{shown}
use Rattle.openapi_node.specs.declared.fault.Cause.{Cause}
use Rattle.openapi_node.specs.declared.fault.Cause.TheVariants.{Missing, MissingEither, WrongKind, NotAllowed}
use Rattle.openapi_node.specs.declared.fault.Cause.TheVariants.{UnknownVariant, NameNotWritable, NotWhole, Memory}
use Rattle.openapi_node.specs.declared.fault.Expected.TheVariants as words
use Rattle.openapi_node.specs.declared.fault.PlaceStep.{PlaceStep}
use Rattle.openapi_node.specs.declared.fault.Fault.{Fault}
use Rattle.openapi_node.specs.declared.node.Node.{Node}
use Rattle.openapi_node.specs.declared.node.View.{View}
use Rattle.openapi_node.specs.declared.node.View.TheVariants as v
use Rattle.openapi_tables.specs.Prelude.{Kind, any_text, any_flag, any_tree, list_of, map_of, by, final_tables, Form}
use Rattle.openapi_tables.specs.Prelude.{leaf, sound, causes, wrong_kind, Among, Broken, StepsTo}
use Rattle.openapi_tables.specs.Faults as faults
use Rattle.openapi_tables.proofs.ByRowLaws.{broken_root, broken_below, broken_refuses, any_conforms, any_form}
use Rattle.openapi_tables.proofs.WellMade.{final_sound}
use Rattle.openapi_fields.specs.Returned.{FailsBy, Fails, FailsBelow, Reads, ReadAs, RefusesBy, Refuses, AtStep}
use Rattle.openapi_fields.specs.Returned.{RisesBelow, looks}

-- a failed allocation is an error about any node under any kind
pub memory_fails : (f : Fault) (k : Kind) (t : Tree) → IsMemory f → Fails f k t
memory_fails f k t m = subst (λ c. FailsBy c (place_of f) k t) (sym m.cause) (ap (map step_of) m.place)

-- a list of steps that represents the empty location is empty
pub no_steps : (xs : List PlaceStep) → map step_of xs ≡ [] → xs ≡ []
no_steps [] h = refl
no_steps (x ∷ xs) h = cc

-- an error about the value below is, as seen from above, an error about the value above
module _ (s : Step) (e f : Fault) (k l : Kind) (t u : Tree) (up : GoesUp s e f) (leads : StepsTo final_tables k t s l
    u) where
  here : (c : faults.Cause) → place_of f ≡ s ∷ place_of e → Broken final_tables l u (place_of e) c
      → Broken final_tables k t (place_of f) c
  here c p h =
      subst (λ q. Broken final_tables k t q c) (sym p) (broken_below final_tables k l t u s (place_of e) c leads h)

  moved : (c : Cause) → e.cause ≡ c → place_of f ≡ s ∷ place_of e → FailsBy c (place_of e) l u
      → FailsBy c (place_of f) k t
  moved (Missing n) q p h = here (faults.missing n.now) p h
  moved (MissingEither n m) q p h = here (faults.missing_either n.now m.now) p h
  moved (WrongKind w) q p h = here (faults.wrong_kind w) p h
  moved NotAllowed q p h = here faults.not_allowed p h
  moved UnknownVariant q p h = here faults.unknown_variant p h
  moved NameNotWritable q p h = h
  moved NotWhole q p h = h
  moved Memory q p h = ap (map step_of) (up.keeps_memory (record { cause = q; place = no_steps e.place.items h })).place

  goes_up : Fails e l u → Fails f k t
  goes_up h =
      elim up.otherwise [
        | inl m ↦ memory_fails f k t m
        | inr q ↦ subst (λ c. FailsBy c (place_of f) k t) (sym q.0) (moved e.cause refl q.1 h)
      ]

-- if each requirement of `l` in `u` is one of `k` in `t`, one step further, an error about `u` is, as seen from `t`, an
-- error about `t`
pub fails_above : (s : Step) (f : Fault) (k l : Kind) (t u : Tree) → StepsTo final_tables k t s l u → FailsBelow s f l u
    → Fails f k t
fails_above s f k l t u leads h = goes_up s h.0 f k l t u h.1 leads h.2

module _ {X : Type 0} (view : X → Form) (s : Step) (l : Kind) (u : Tree) where
  -- if a value is returned here, it is what was read from the node one step below
  pub step_ok : (r : Result X Fault) (y : X) → AtStep s r (Ok y) → ReadAs view r l u → Reads view y l u
  step_ok (Ok x) y e h = (h.0, h.1 ∙ ap view e)
  step_ok (Err d) y e h = absurd e

  -- if an error is returned here, it is an error about the node one step below, as seen from here
  pub step_err : (r : Result X Fault) (f : Fault) → AtStep s r (Err f) → ReadAs view r l u → FailsBelow s f l u
  step_err (Ok x) f e h = absurd e
  step_err (Err d) f e h = (d, e, h)

-- if there is an error about a node with another cause than `Memory`, the node does not conform
module _ (k : Kind) (t : Tree) (well : sound final_tables k ≡ true) where
  refuses_by : (c : Cause) (p : Place) → FailsBy c p k t → RefusesBy c k t
  refuses_by (Missing n) p h = broken_refuses final_tables final_sound k t p (faults.missing n.now) well h
  refuses_by (MissingEither n m) p h =
      broken_refuses final_tables final_sound k t p (faults.missing_either n.now m.now) well h
  refuses_by (WrongKind w) p h = broken_refuses final_tables final_sound k t p (faults.wrong_kind w) well h
  refuses_by NotAllowed p h = broken_refuses final_tables final_sound k t p faults.not_allowed well h
  refuses_by UnknownVariant p h = broken_refuses final_tables final_sound k t p faults.unknown_variant well h
  refuses_by NameNotWritable p h = absurd h
  refuses_by NotWhole p h = absurd h
  refuses_by Memory p h = tt

  -- a node that a reader rejects with another cause than `Memory` does not conform
  pub refuses : {X : Type 0} (view : X → Form) (r : Result X Fault) → ReadAs view r k t → Refuses r k t
  refuses view (Ok x) h = tt
  refuses view (Err f) h = refuses_by f.cause (place_of f) h

-- an error whose location is empty
pub fails_here : (f : Fault) (c : Cause) (k : Kind) (t : Tree) → f.place.items ≡ [] → f.cause ≡ c → FailsBy c [] k t
    → Fails f k t
fails_here f c k t p e h =
    subst (λ d. FailsBy d (place_of f) k t) (sym e) (subst (λ q. FailsBy c q k t) (sym (ap (map step_of) p)) h)

-- an error that the value itself is of another kind than the one that is expected
pub wrong_here : (f : Fault) (w : _) (k : Kind) (t : Tree) → f.place.items ≡ [] → f.cause ≡ WrongKind w
    → Among (wrong_kind w) (causes final_tables k t) → Fails f k t
wrong_here f w k t p e h = fails_here f (WrongKind w) k t p e (broken_root final_tables k t (wrong_kind w) h)

-- a view of anything but a string is of the wrong kind, where a string is expected
pub not_text : (w : View) → ((s : Bor (List ℕ)) → w ≡ v.Text s → ⊥)
    → Among (wrong_kind words.Text) (causes final_tables any_text (shown w))
not_text (v.Text s) h = absurd (h s refl)
not_text w h = inl refl

-- a view of anything but a flag is of the wrong kind, where a flag is expected
pub not_flag : (w : View) → ((b : Bool) → w ≡ v.Flag b → ⊥)
    → Among (wrong_kind words.Flag) (causes final_tables any_flag (shown w))
not_flag (v.Flag b) h = absurd (h b refl)
not_flag w h = inl refl

-- a view of anything but a list is of the wrong kind, where a list is expected
pub not_list : (k : Kind) (w : View) → ((ns : Bor (List Tree)) → w ≡ v.List ns → ⊥)
    → Among (wrong_kind words.List) (causes final_tables (list_of k) (shown w))
not_list k (v.List ts) h = absurd (h ts refl)
not_list k w h = inl refl

-- a view of anything but an object is of the wrong kind, where a map is expected
pub not_map : (k : Kind) (w : View) → ((m : Bor (OrderedMap Node)) → w ≡ v.Object m → ⊥)
    → Among (wrong_kind words.Object) (causes final_tables (map_of k) (shown w))
not_map k (v.Object m) h = absurd (h m refl)
not_map k w h = inl refl

-- a view of anything but an object is of the wrong kind, where an object of a field table is expected
pub not_object : (i : _) (w : View) → ((m : Bor (OrderedMap Node)) → w ≡ v.Object m → ⊥)
    → Among (wrong_kind words.Object) (causes final_tables (by i) (shown w))
not_object i (v.Object m) h = absurd (h m refl)
not_object i w h = inl refl

-- a node holds at least one value, itself
pub size-positive : (t : Tree) → 1 ≤ size_of t
size-positive null = omega arith
size-positive t = omega arith

-- if a value is of another kind than the one that is expected, that is an error, and the access count stays as it is
pub wrong_view : (f : Fault) (w : _) (k : Kind) (t : Tree) (steps : ℕ) → f.place.items ≡ [] → f.cause ≡ WrongKind w
    → Among (wrong_kind w) (causes final_tables k t)
    → record { reads : Fails f k t; count : RisesBelow steps steps (looks k + 3 * size_of t) }
wrong_view f w k t steps p e h =
    record { reads = wrong_here f w k t p e h; count = (omega arith, omega (arith, size-positive t)) }

-- a copy of a node is what is read from it under the kind `any_tree`
pub copied : (w : View) (r : Result Node Fault) → IfOk r (λ n. n ≡ shown w) → IfErr r IsMemory
    → ReadAs leaf r any_tree (shown w)
copied w (Ok n) h g = (any_conforms final_tables (shown w), any_form final_tables (shown w) ∙ ap leaf (sym h))
copied w (Err f) h g = memory_fails f any_tree (shown w) g

-- What was read can be written, and what was written can be read again.
use Rattle.std.proofs.Common.{◌≡◌, ℕ, ◌+◌, ◌*◌, ◌≤◌, true, false, [], Result, Ok, Err, sym, ap, ◌∙◌, subst, arith}
use Rattle.openapi_node.specs.Fault.{place_of}
use Rattle.openapi_node.specs.Place.{Place}
use Rattle.openapi_node.specs.Tree.{Tree, size_of}
use Rattle.openapi_node.specs.declared.fault.Cause.{Cause}
use Rattle.openapi_node.specs.declared.fault.Cause.TheVariants.{Missing, MissingEither, WrongKind, NotAllowed}
use Rattle.openapi_node.specs.declared.fault.Cause.TheVariants.{UnknownVariant, NameNotWritable, NotWhole, Memory}
use Rattle.openapi_node.specs.declared.fault.Fault.{Fault}
use Rattle.openapi_node.specs.declared.node.Node.{Node}
use Rattle.openapi_tables.specs.Prelude.{conforms, Form, Kind, print, clean, form, sound, final_tables, unwritable}
use Rattle.openapi_tables.proofs.AllReadProper.{read_proper}
use Rattle.openapi_tables.proofs.Size.{small}
use Rattle.openapi_tables.proofs.WellMade.{final_small, final_sound}
use Rattle.openapi_tables.proofs.WritableLaws.{writable}
use Rattle.openapi_tables.proofs.Writes.{writes_all}
use Rattle.openapi_fields.specs.Returned.{FailsBy, NotWritable, NotWritableBy, Reads, Refuses, RefusesBy, WrittenAs}
use Rattle.openapi_fields.specs.Settled.{CleanedAs, SettledAs, IsCounted}

-- nothing in the form of a node that conforms is unwritable
nothing_lost : (k : Kind) (t : Tree) → sound final_tables k ≡ true → conforms final_tables k t ≡ true
    → unwritable final_tables k (form final_tables k t) ≡ []
nothing_lost k t s h =
    ((writable.0 final_tables k (form final_tables k t)).0 (read_proper final_tables final_sound t k s h)).1

-- a node that conforms is normalized to one that conforms
pub clean_conforms : (k : Kind) (t : Tree) → sound final_tables k ≡ true → conforms final_tables k t ≡ true
    → conforms final_tables k (clean final_tables k t) ≡ true
clean_conforms k t s h =
    writes_all final_tables final_sound (form final_tables k t) k s (read_proper final_tables final_sound t k s h)

-- a node that conforms is normalized to one that holds at most twice as many values
pub clean_small : (k : Kind) (t : Tree) → sound final_tables k ≡ true → conforms final_tables k t ≡ true
    → size_of (clean final_tables k t) ≤ 2 * size_of t
clean_small k t s h = small final_tables final_sound final_small t k s h

-- if nothing is unwritable, the only error of a writer is a failed allocation, which is an error about any node
only_memory : (c : Cause) (p : Place) (k : Kind) (t : Tree) → NotWritableBy c p [] → FailsBy c p k t
only_memory (Missing n) p k t h = absurd h
only_memory (MissingEither n m) p k t h = absurd h
only_memory (WrongKind e) p k t h = absurd h
only_memory NotAllowed p k t h = absurd h
only_memory UnknownVariant p k t h = absurd h
only_memory NameNotWritable p k t h = absurd h
only_memory NotWhole p k t h = absurd h
only_memory Memory p k t h = h

memory_refuses : (c : Cause) (p : Place) (k : Kind) (t : Tree) → NotWritableBy c p [] → RefusesBy c k t
memory_refuses (Missing n) p k t h = absurd h
memory_refuses (MissingEither n m) p k t h = absurd h
memory_refuses (WrongKind e) p k t h = absurd h
memory_refuses NotAllowed p k t h = absurd h
memory_refuses UnknownVariant p k t h = absurd h
memory_refuses NameNotWritable p k t h = absurd h
memory_refuses NotWhole p k t h = absurd h
memory_refuses Memory p k t h = tt

-- what was read from a node, written
module _ {X : Type 0} (view : X → Form) (x : X) (k : Kind) (t : Tree) (s : sound final_tables k ≡ true)
    (read : Reads view x k t) where
  kept : unwritable final_tables k (view x) ≡ []
  kept = subst (λ f. unwritable final_tables k f ≡ []) read.1 (nothing_lost k t s read.0)

  -- it is written as the normalized node, or an allocation failed
  pub cleans : (r : Result Node Fault) → WrittenAs k (view x) r → CleanedAs r k t
  cleans (Ok n) w = (read.0, w.0 ∙ ap (print final_tables k) (sym read.1))
  cleans (Err f) w = only_memory f.cause (place_of f) k t (subst (NotWritable f) kept w)

  -- if writing it fails, the cause is `Memory`
  pub cleans_refuses : (r : Result Node Fault) → WrittenAs k (view x) r → Refuses r k t
  cleans_refuses (Ok n) w = tt
  cleans_refuses (Err f) w = memory_refuses f.cause (place_of f) k t (subst (NotWritable f) kept w)

-- an error about a node that conforms has the cause `Memory`, so it is an error about every node
module _ (k : Kind) (t u : Tree) (h : conforms final_tables k u ≡ true) where
  never : conforms final_tables k u ≡ false → ⊥
  never g = cc

  no_fault : {A : Type 0} → conforms final_tables k u ≡ false → A
  no_fault g = absurd (never g)

  moved : (c : Cause) (p : Place) → RefusesBy c k u → FailsBy c p k u → FailsBy c p k t
  moved (Missing n) p g f = no_fault g
  moved (MissingEither n m) p g f = no_fault g
  moved (WrongKind e) p g f = no_fault g
  moved NotAllowed p g f = no_fault g
  moved UnknownVariant p g f = no_fault g
  moved NameNotWritable p g f = no_fault g
  moved NotWhole p g f = no_fault g
  moved Memory p g f = f

  moved_refuses : (c : Cause) → RefusesBy c k u → RefusesBy c k t
  moved_refuses (Missing n) g = no_fault g
  moved_refuses (MissingEither n m) g = no_fault g
  moved_refuses (WrongKind e) g = no_fault g
  moved_refuses NotAllowed g = no_fault g
  moved_refuses UnknownVariant g = no_fault g
  moved_refuses NameNotWritable g = no_fault g
  moved_refuses NotWhole g = no_fault g
  moved_refuses Memory g = tt

-- a normalized node, normalized once more
module _ (k : Kind) (t : Tree) (once : Node) (s : sound final_tables k ≡ true)
    (first : CleanedAs (Ok once) k t) where
  again_conforms : conforms final_tables k once ≡ true
  again_conforms = subst (λ u. conforms final_tables k u ≡ true) (sym first.1) (clean_conforms k t s first.0)

  -- normalizing it once more gives the stable form of the first node, or an allocation failed
  pub settles : (r : Result Node Fault) → CleanedAs r k once → Refuses r k once → SettledAs r k t
  settles (Ok n) g h = (first.0, g.1 ∙ ap (clean final_tables k) first.1)
  settles (Err f) g h = moved k t once again_conforms f.cause (place_of f) h g

  -- if normalizing it once more fails, the cause is `Memory`
  pub settles_refuses : (r : Result Node Fault) → Refuses r k once → Refuses r k t
  settles_refuses (Ok n) h = tt
  settles_refuses (Err f) h = moved_refuses k t once again_conforms f.cause h

  size_once : size_of once ≤ 2 * size_of t
  size_once = subst (λ u. size_of u ≤ 2 * size_of t) (sym first.1) (clean_small k t s first.0)

  -- normalizing twice, each time with at most three node accesses for each value, keeps to the bound on the access count
  pub counted : (a b c : ℕ) → b ≤ a + 3 * size_of t → c ≤ b + 3 * size_of once → IsCounted k t a c
  counted a b c f g = (
    omega (arith, f, g, ap size_of first.1),
    omega (arith, f, g, size_once),
    (λ h. absurd (never h)),
  )
    where
      never : conforms final_tables k t ≡ false → ⊥
      never h = let h' = first.0 in cc

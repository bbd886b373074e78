-- Faults, from the causes of each value.
use Rattle.std.proofs.Common.{◌≡◌, ℕ, ◌+◌, ◌<◌, List, [], ◌∷◌, ◌++◌, Option, Some, None, Result, Ok, Err, OnOk, get_or, length, map, take, refl, sym, ap, ◌∙◌, subst}
use Rattle.std.proofs.lemmas.List.{map_more}
use Rattle.openapi_node.specs.Place.{Place}
use Rattle.openapi_node.specs.Tree.{Tree, object}
use Rattle.openapi_node.specs.declared.fault.Cause as declared
use Rattle.openapi_node.specs.declared.fault.Fault.{Fault}
use Rattle.openapi_tables.specs.Faults.{Asking, Cause, causes, row_misses}
use Rattle.openapi_tables.specs.Kind.{Kind, by}
use Rattle.openapi_tables.specs.Lists.{each, flat, join}
use Rattle.openapi_tables.specs.Members.{checked_rows}
use Rattle.openapi_tables.specs.Tables.{final_tables}
use Rattle.openapi_tables.specs.Tree.{Entry}
use Rattle.openapi_tables.proofs.ListLaws.{each-each, each-join, join-nil}
use Rattle.openapi_faults.specs.Adds.{Adds}
use Rattle.openapi_faults.specs.Meaning.{row_of}
use Rattle.openapi_faults.specs.Told.{Gives, at, fault_in, given, known, own_causes, row_causes, told_at}
use Rattle.openapi_faults.specs.declared.row.Row as declared_row
use Rattle.openapi_faults.proofs.Adding.{adds_then, flat-push, join_append}

-- the causes of each value, as faults give them, are those of `told_at`
pub known_each : (as' : List Asking)
    → flat (each (λ a. at a.place (causes final_tables a.kind a.tree)) as') ≡ each known (flat (each (told_at final_tables) as'))
known_each [] = refl
known_each (a ∷ as') =
    let here : at a.place (causes final_tables a.kind a.tree) ≡ each known (told_at final_tables a) =
    sym (each-each known (λ (c : Cause). (a.place, c)) (causes final_tables a.kind a.tree)) in
    ap (λ l. join l (flat (each (λ (b : Asking). at b.place (causes final_tables b.kind b.tree)) as'))) here
    ∙ ap (λ l. join (each known (told_at final_tables a)) l) (known_each as')
    ∙ sym (each-join known (told_at final_tables a) (flat (each (told_at final_tables) as')))

-- the causes of a value are those that it breaks by itself, and those for members that it lacks by rows
pub own_and_rows : (k : Kind) (t : Tree) → causes final_tables k t ≡ join (own_causes k t) (row_causes k t)
unfolding checked_rows
own_and_rows (by i) (object ms) = refl
own_and_rows k t = sym (join-nil (causes final_tables k t))

pub at-join : (p : Place) (cs ds : List Cause) → at p (join cs ds) ≡ at p cs ++ at p ds
at-join p cs ds = each-join (λ (c : Cause). (p, Some c)) cs ds ∙ join_append (at p cs) (at p ds)

-- a declared cause, or none, gives the causes that it represents, at a location
pub given_at : (p : Place) (o : Option declared.Cause) (cs : List Cause) → Gives o cs → given p o ≡ at p cs
given_at p None cs h = ap (each (λ (c : Option Cause). (p, c))) h ∙ each-each (λ (c : Option Cause). (p, c)) Some cs
given_at p (Some d) cs h = ap (each (λ (c : Option Cause). (p, c))) h ∙ each-each (λ (c : Option Cause). (p, c)) Some cs

-- a fault of a value itself, and those of its rows after it
module _ (p : Place) (k : Kind) (t : Tree) (xs ys zs : List Fault) (o : Option declared.Cause) (own : Gives o (own_causes k t))
    (first : Adds fault_in xs ys (given p o)) where
  both : Adds fault_in ys zs (at p (row_causes k t)) → Adds fault_in xs zs (at p (causes final_tables k t))
  both then =
      subst (λ l. Adds fault_in xs zs l) (sym (ap (at p) (own_and_rows k t) ∙ at-join p (own_causes k t) (row_causes k t)))
      (adds_then fault_in xs ys zs (at p (own_causes k t)) (at p (row_causes k t))
      (subst (λ l. Adds fault_in xs ys l) (given_at p o (own_causes k t) own) first) then)

  pub found_both : {A E : Type 0} → (r : Result A E) → OnOk r (Adds fault_in ys zs (at p (row_causes k t)))
      → OnOk r (Adds fault_in xs zs (at p (causes final_tables k t)))
  found_both (Ok x) h = both h
  found_both (Err e) h = tt

-- the faults of rows, and those of the next row after them
module _ (es : List (Entry Tree)) (p : Place) (rows : List declared_row.Row) (i : ℕ) (d : declared_row.Row)
    (within : i < length rows) where
  abbrev so_far : ℕ → List Cause
  so_far n = flat (each (row_misses es) (map row_of (take n rows)))

  abbrev here : List Cause
  here = row_misses es (row_of (get_or rows i d))

  next : so_far (i + 1) ≡ join (so_far i) here
  next =
      ap (λ l. flat (each (row_misses es) l)) (map_more row_of rows i d within)
      ∙ flat-push (row_misses es) (map row_of (take i rows)) (row_of (get_or rows i d))

  pub found_next : (xs ys zs : List Fault) (o : Option declared.Cause) → Adds fault_in xs ys (at p (so_far i)) → Gives o here
      → Adds fault_in ys zs (given p o) → Adds fault_in xs zs (at p (so_far (i + 1)))
  found_next xs ys zs o before gives now =
      subst (λ l. Adds fault_in xs zs l) (sym (ap (at p) next ∙ at-join p (so_far i) here))
      (adds_then fault_in xs ys zs (at p (so_far i)) (at p here) before
      (subst (λ l. Adds fault_in ys zs l) (given_at p o here gives) now))

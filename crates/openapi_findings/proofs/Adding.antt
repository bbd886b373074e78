-- What a loop appends to a list of reports.
use Rattle.std.proofs.Common.{◌≡◌, ℕ, Bool, true, false, cond, List, [], ◌∷◌, ◌++◌, Option, map, string_bytes, refl, sym, ap, ◌∙◌, append_assoc}
use Rattle.std.proofs.lemmas.List.{append-nil, map-append}
use Rattle.openapi_node.specs.Fault.{place_of}
use Rattle.openapi_node.specs.Place.{Place}
use Rattle.openapi_node.specs.Tree.{Tree}
use Rattle.openapi_node.specs.declared.fault.Fault.{Fault}
use Rattle.openapi_tables.specs.Faults.{Cause}
use Rattle.openapi_tables.specs.Kind.{Kind}
use Rattle.openapi_tables.specs.Lists.{each, flat, join}
use Rattle.openapi_faults.specs.Adds.{Adds}
use Rattle.openapi_faults.specs.Dropped.{dropped_of}
use Rattle.openapi_faults.specs.References.{reference_of}
use Rattle.openapi_faults.specs.Told.{cause_in, fault_in, known}
use Rattle.openapi_faults.specs.declared.dropped.DropReason.{DropReason}
use Rattle.openapi_faults.specs.declared.dropped.Dropped.{Dropped}
use Rattle.openapi_faults.specs.declared.reference.Reference.{Reference}
use Rattle.openapi_faults.proofs.Adding.{flat-push, join_append}
use Rattle.openapi_findings.specs.declared.report.Report.{Report}
use Rattle.openapi_findings.specs.Numbers.{places_of}
use Rattle.openapi_findings.specs.Pointers.{leads_to_value}
use Rattle.openapi_findings.specs.Stated.{Statement, cause_code, dropped_stated, fault_stated, place_in_report, reference_stated, statement_of, unresolved_at}

module _ {X Y : Type 0} (f : X → Y) where
  pub adds_none : (xs : List X) → Adds f xs xs []
  adds_none xs = sym (append-nil (map f xs))

  -- with one more
  pub adds_one : (xs ys : List X) (x : X) (y : Y) → ys ≡ xs ++ x ∷ [] → f x ≡ y → Adds f xs ys (y ∷ [])
  adds_one xs ys x y e s = ap (map f) e ∙ map-append f xs (x ∷ []) ∙ ap (λ z. map f xs ++ z ∷ []) s

  pub adds_then : (xs ys zs : List X) (as' bs : List Y) → Adds f xs ys as' → Adds f ys zs bs → Adds f xs zs (as' ++ bs)
  adds_then xs ys zs as' bs p q = q ∙ ap (λ l. l ++ bs) p ∙ append_assoc (map f xs) as' bs

  -- what is appended for the elements so far, and for the next one
  pub adds_next : {E : Type 0} (g : E → Y) (old mid new : List X) (done : List E) (e : E) (x : X)
      → Adds f old mid (map g done) → new ≡ mid ++ x ∷ [] → f x ≡ g e → Adds f old new (map g (done ++ e ∷ []))
  adds_next g old mid new done e x h n s =
      adds_then old mid new (map g done) (g e ∷ []) h (adds_one mid new x (g e) n s)
      ∙ ap (λ l. map f old ++ l) (sym (map-append g done (e ∷ [])))

  -- what is appended to an empty list, in two steps
  pub adds_two : (l r1 r2 : List X) (as' bs : List Y) → l ≡ [] → Adds f l r1 as' → Adds f r1 r2 bs → map f r2 ≡ as' ++ bs
  adds_two l r1 r2 as' bs n a b = b ∙ ap (λ z. z ++ bs) (a ∙ ap (λ z. map f z ++ as') n)

  -- and in four more steps
  pub adds_all : (r2 r3 r4 r5 r6 : List X) (bs cs ds es fs : List Y) → map f r2 ≡ bs → Adds f r2 r3 cs → Adds f r3 r4 ds
      → Adds f r4 r5 es → Adds f r5 r6 fs → map f r6 ≡ bs ++ cs ++ ds ++ es ++ fs
  adds_all r2 r3 r4 r5 r6 bs cs ds es fs b c d e g =
      g ∙ ap (λ z. z ++ fs) (e ∙ ap (λ z. z ++ es) (d ∙ ap (λ z. z ++ ds) (c ∙ ap (λ z. z ++ cs) b)))

-- what a fault states
abbrev pub stated_of : Fault → Statement
stated_of f = (place_of f, cause_code (cause_in f.cause))

states_known : (cs : List (Place × Cause)) → map (λ (p : Place × Option Cause). (p.0, cause_code p.1)) (each known cs) ≡ each fault_stated cs
states_known [] = refl
states_known (c ∷ cs) = ap (λ l. fault_stated c ∷ l) (states_known cs)

states_in : (fs : List Fault) → map stated_of fs ≡ map (λ (p : Place × Option Cause). (p.0, cause_code p.1)) (map fault_in fs)
states_in [] = refl
states_in (f ∷ fs) = ap (λ l. stated_of f ∷ l) (states_in fs)

-- the statements of faults are those of their locations and causes
pub faults_state : (fs : List Fault) (cs : List (Place × Cause)) → map fault_in fs ≡ each known cs
    → map stated_of fs ≡ each fault_stated cs
faults_state fs cs e = states_in fs ∙ ap (map (λ (p : Place × Option Cause). (p.0, cause_code p.1))) e ∙ states_known cs

-- the locations of reports are those of what they state
pub report_places-same : (rs : List Report) → map place_in_report rs ≡ places_of (map statement_of rs)
report_places-same [] = refl
report_places-same (r ∷ rs) = ap (λ l. place_in_report r ∷ l) (report_places-same rs)

-- what a member that has no effect states
abbrev pub loss_of : Dropped → Statement
loss_of d = dropped_stated (dropped_of d)

losses_in : (ds : List Dropped) → map loss_of ds ≡ map dropped_stated (map dropped_of ds)
losses_in [] = refl
losses_in (d ∷ ds) = ap (λ l. loss_of d ∷ l) (losses_in ds)

-- the statements of members that have no effect are those of their locations and reasons
pub losses_state : (ds : List Dropped) (es : List (Place × DropReason)) → map dropped_of ds ≡ es
    → map loss_of ds ≡ map dropped_stated es
losses_state ds es e = losses_in ds ∙ ap (map dropped_stated) e

-- what is to be reported about a reference
abbrev pub stated_at : Tree → Reference → List Statement
stated_at t r = reference_stated t (reference_of r)

-- what is to be reported about one more reference is appended
pub adds_stated : (t : Tree) (old mid new : List Report) (done : List Reference) (r : Reference)
    → Adds statement_of old mid (flat (each (stated_at t) done)) → Adds statement_of mid new (stated_at t r)
    → Adds statement_of old new (flat (each (stated_at t) (done ++ r ∷ [])))
adds_stated t old mid new done r h k =
    adds_then statement_of old mid new (flat (each (stated_at t) done)) (stated_at t r) h k
    ∙ ap (λ l. map statement_of old ++ l)
    (sym (flat-push (stated_at t) done r ∙ join_append (flat (each (stated_at t) done)) (stated_at t r)))

-- nothing is to be reported about one that leads to a value
pub adds_resolved : (t : Tree) (r : Reference) (l : List Report) (b : Bool) → b ≡ leads_to_value (string_bytes r.text) t → b ≡ true
    → Adds statement_of l l (stated_at t r)
adds_resolved t r l b is e =
    adds_none statement_of l ∙ ap (λ c. map statement_of l ++ cond c [] (unresolved_at (reference_of r) ∷ [])) (sym e ∙ is)

-- that another one leads to no value is to be reported
pub adds_unresolved : (t : Tree) (r : Reference) (old new : List Report) (x : Report) (b : Bool)
    → b ≡ leads_to_value (string_bytes r.text) t → b ≡ false → new ≡ old ++ x ∷ [] → statement_of x ≡ unresolved_at (reference_of r)
    → Adds statement_of old new (stated_at t r)
adds_unresolved t r old new x b is e n s =
    adds_one statement_of old new x (unresolved_at (reference_of r)) n s
    ∙ ap (λ c. map statement_of old ++ cond c [] (unresolved_at (reference_of r) ∷ [])) (sym e ∙ is)

stated_each : (t : Tree) (rs : List Reference) → flat (each (stated_at t) rs) ≡ flat (each (reference_stated t) (map reference_of rs))
stated_each t [] = refl
stated_each t (r ∷ rs) = ap (join (stated_at t r)) (stated_each t rs)

-- what is to be reported about references is what is to be reported about their locations, texts and kinds
pub references_state : (t : Tree) (rs : List Reference) (ks : List (Place × List ℕ × Kind)) → map reference_of rs ≡ ks
    → flat (each (stated_at t) rs) ≡ flat (each (reference_stated t) ks)
references_state t rs ks e = stated_each t rs ∙ ap (λ l. flat (each (reference_stated t) l)) e

-- How a chain of references is followed, step by step.
use Rattle.std.proofs.Common.{◌≡◌, ◌+◌, ◌-◌, ◌<◌, ℕ, zero, suc, List, Option, Some, None, option_copied, option_and_then, string_bytes, Bor}
use Rattle.std.proofs.Common.{arith, sym, ap, ◌∙◌, length, String, Global}
use Rattle.openapi_map.specs.Entries.{Entries}
use Rattle.openapi_resolve.specs.Resolved.{followed, item_or, resolved, target}
use Rattle.openapi_values.specs.declared.reference.ReferenceOr.{ReferenceOr}
use Rattle.openapi_values.specs.declared.reference.ReferenceOr.TheVariants.{Reference, Item}

module _ {X : Type 0} where
  -- at first all steps are left
  pub begins : (section : List ℕ) (es : Entries (ReferenceOr X)) (reference : List ℕ) (n : ℕ) → n ≡ length es + 1
      → resolved section es reference ≡ followed n section es reference
  begins section es reference n e = let same : suc (length es) ≡ n = omega (arith, e) in ap (λ k. followed k section es reference) same

  -- one step: the target is the component, or the reference that is followed next
  step : (section : List ℕ) (es : Entries (ReferenceOr X)) (at : List ℕ) (n : ℕ) (o : Option (ReferenceOr X)) → 0 < n
      → target section es at ≡ o → followed n section es at ≡ option_and_then (item_or (followed (n - 1) section es)) o
  step section es at zero o lt is = absurd (omega (arith, lt))
  step section es at (suc n) o lt is =
      let same : n ≡ suc n - 1 = omega arith in
      ap (option_and_then (item_or (followed n section es))) is
      ∙ ap (λ k. option_and_then (item_or (followed k section es)) o) same

  -- what a borrowed target is
  copied : (o : Option (Bor (ReferenceOr X))) (b : Bor (ReferenceOr X)) (t : Option (ReferenceOr X)) (v : ReferenceOr X)
      → option_copied o ≡ t → o ≡ Some b → b.now ≡ v → t ≡ Some v
  copied o b t v is some now = sym is ∙ ap option_copied some ∙ ap Some now

  pub ends_nowhere : (section : List ℕ) (es : Entries (ReferenceOr X)) (reference at : List ℕ) (n : ℕ)
      (o : Option (Bor (ReferenceOr X))) → 0 < n → resolved section es reference ≡ followed n section es at
      → option_copied o ≡ target section es at → o ≡ None → resolved section es reference ≡ None
  ends_nowhere section es reference at n o lt h is none = h ∙ step section es at n None lt (sym is ∙ ap option_copied none)

  pub ends_at : (section : List ℕ) (es : Entries (ReferenceOr X)) (reference at : List ℕ) (n : ℕ) (o : Option (Bor (ReferenceOr X)))
      (b : Bor (ReferenceOr X)) (x : X) → 0 < n → resolved section es reference ≡ followed n section es at
      → option_copied o ≡ target section es at → o ≡ Some b → b.now ≡ Item x → resolved section es reference ≡ Some x
  ends_at section es reference at n o b x lt h is some now =
      h ∙ step section es at n (Some (Item x)) lt (copied o b (target section es at) (Item x) is some now)

  pub goes_on : (section : List ℕ) (es : Entries (ReferenceOr X)) (reference at : List ℕ) (n : ℕ) (o : Option (Bor (ReferenceOr X)))
      (b : Bor (ReferenceOr X)) (r : String Global) (next : List ℕ) → 0 < n
      → resolved section es reference ≡ followed n section es at → option_copied o ≡ target section es at → o ≡ Some b
      → b.now ≡ Reference r → next ≡ string_bytes r → resolved section es reference ≡ followed (n - 1) section es next
  goes_on section es reference at n o b r next lt h is some now text =
      h ∙ step section es at n (Some (Reference r)) lt (copied o b (target section es at) (Reference r) is some now)
      ∙ ap (followed (n - 1) section es) (sym text)

  -- if no step is left, the reference leads to no component
  pub stops : (section : List ℕ) (es : Entries (ReferenceOr X)) (reference at : List ℕ) (n : ℕ)
      → resolved section es reference ≡ followed n section es at → n ≡ 0 → resolved section es reference ≡ None
  stops section es reference at n h e = h ∙ ap (λ k. followed k section es at) e

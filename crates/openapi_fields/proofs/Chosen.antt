-- The entries whose names are in a set, one after another.
use Rattle.std.proofs.Common.{◌≡◌, ℕ, zero, suc, ◌+◌, ◌≤◌, Bool, true, false, cond, ◌&&◌, List, [], ◌∷◌, ◌++◌, take, drop, slice_get, Some, None, refl, sym, ap, ◌∙◌, subst, inl, inr, arith, bytes_eq}
use Rattle.std.proofs.lemmas.Bool.{and_parts, and_from}
use Rattle.std.proofs.lemmas.List.{take-append-drop}
use Rattle.openapi_map.specs.Entries.{Entries, get, HasDistinctNames}
use Rattle.openapi_map.proofs.EntryLemmas.{absent-next}
use Rattle.openapi_node.specs.Place.{named}
use Rattle.openapi_node.specs.Tree.{Tree, size_of}
use Rattle.openapi_node.specs.declared.fault.Fault.{Fault}
use Rattle.openapi_node.proofs.TreeLemmas.{take_next}
use Rattle.openapi_tables.specs.Prelude.{Kind, every, final_tables, conforms, Form, name, Pair, form, Among, pairs_of}
use Rattle.openapi_fields.specs.Entries.{chosen, entries_size}
use Rattle.openapi_fields.specs.Returned.{FailsBelow}

chosen-append : {X : Type 0} (p : List ℕ → Bool) (xs ys : Entries X) → chosen p (xs ++ ys) ≡ chosen p xs ++ chosen p ys
chosen-append p [] ys = refl
chosen-append p (x ∷ xs) ys = go (p x.0) (chosen-append p xs ys)
  where
    go : (b : Bool) → chosen p (xs ++ ys) ≡ chosen p xs ++ chosen p ys
        → cond b (x ∷ chosen p (xs ++ ys)) (chosen p (xs ++ ys)) ≡ cond b (x ∷ chosen p xs) (chosen p xs) ++ chosen p ys
    go true h = ap (λ l. x ∷ l) h
    go false h = h

size-append : (xs ys : Entries Tree) → entries_size (xs ++ ys) ≡ entries_size xs + entries_size ys
size-append [] ys = omega arith
size-append (x ∷ xs) ys = omega (arith, size-append xs ys)

every-append : {X : Type 0} (q : List ℕ × X → Bool) (xs : Entries X) (x : List ℕ × X) → every q xs ≡ true → q x ≡ true
    → every q (xs ++ x ∷ []) ≡ true
every-append q [] x h e = ap (λ b. b && true) e
every-append q (y ∷ xs) x h e =
    let r = and_parts (q y) (every q xs) h in
    and_from _ _ r.0 (every-append q xs x r.1 e)

pairs-append : {X : Type 0} (view : X → Form) (xs ys : Entries X) → pairs_of view (xs ++ ys)
    ≡ pairs_of view xs ++ pairs_of view ys
pairs-append view [] ys = refl
pairs-append view (x ∷ xs) ys = ap (λ l. record { key = name x.0; value = view x.1 } ∷ l) (pairs-append view xs ys)

-- a name that is not among entries is not among the chosen ones
get_none-chosen : {X : Type 0} (p : List ℕ → Bool) (n : List ℕ) (es : Entries X) → get n es ≡ None
    → get n (chosen p es) ≡ None
get_none-chosen p n [] h = refl
get_none-chosen p n (e ∷ es) h = go (λ q. get_none-chosen p n es q) (bytes_eq n e.0) refl h (p e.0)
  where
    go : (get n es ≡ None → get n (chosen p es) ≡ None) → (b : Bool) → bytes_eq n e.0 ≡ b
        → cond b (Some e.1) (get n es) ≡ None
        → (c : Bool) → get n (cond c (e ∷ chosen p es) (chosen p es)) ≡ None
    go more true s q c = cc
    go more false s q true = ap (λ b. cond b (Some e.1) (get n (chosen p es))) s ∙ more q
    go more false s q false = more q

abbrev pair : {X : Type 0} → (X → Form) → List ℕ × X → Pair Form
pair f x = record { key = name x.0; value = f x.1 }

first_name : {X Y : Type 0} (f : X → Form) (g : Y → Form) (x : List ℕ × X) (y : List ℕ × Y) (xs : Entries X) (ys :
    Entries Y)
    → pairs_of f (x ∷ xs) ≡ pairs_of g (y ∷ ys) → x.0 ≡ y.0
first_name f g x y xs ys e =
    let first : pair f x ≡ pair g y = cc in
    let keys : name x.0 ≡ name y.0 = ap (λ (p : Pair Form). p.key) first in
    cc

get_none-pairs : {X Y : Type 0} (f : X → Form) (g : Y → Form) (n : List ℕ) (xs : Entries X) (ys : Entries Y)
    → pairs_of f xs ≡ pairs_of g ys → get n xs ≡ None → get n ys ≡ None
get_none-pairs f g n (x ∷ xs) (y ∷ ys) e h =
    let rest : pairs_of f xs ≡ pairs_of g ys = cc in
    go (λ q. get_none-pairs f g n xs ys rest q) (bytes_eq n x.0) (ap (bytes_eq n) (sym (first_name f g x y xs ys e))) h
  where
    go : (get n xs ≡ None → get n ys ≡ None) → (b : Bool) → bytes_eq n y.0 ≡ b → cond b (Some x.1) (get n xs) ≡ None
        → cond (bytes_eq n y.0) (Some y.1) (get n ys) ≡ None
    go more true s q = cc
    go more false s q = ap (λ b. cond b (Some y.1) (get n ys)) s ∙ more q
get_none-pairs f g n xs [] e h = cc
get_none-pairs f g n xs ys e h = cc

-- the next of the members
module _ (p : List ℕ → Bool) (ms : Entries Tree) (i : ℕ) (n : List ℕ) (t : Tree) (at : slice_get ms i
    ≡ Some (n, t)) where
  here : chosen p (take (i + 1) ms) ≡ chosen p (take i ms) ++ cond (p n) ((n, t) ∷ []) []
  here = ap (chosen p) (take_next ms i (n, t) at) ∙ chosen-append p (take i ms) ((n, t) ∷ [])

  -- one that is not in the set
  pub next_skipped : p n ≡ false → chosen p (take (i + 1) ms) ≡ chosen p (take i ms)
  next_skipped h = here ∙ ap (λ b. chosen p (take i ms) ++ cond b ((n, t) ∷ []) []) h
      ∙ append_nil (chosen p (take i ms))
    where
      append_nil : {A : Type 0} (xs : List A) → xs ++ [] ≡ xs
      append_nil [] = refl
      append_nil (x ∷ xs) = ap (λ l. x ∷ l) (append_nil xs)

  -- one that is in it
  module _ (yes : p n ≡ true) where
    next_taken : chosen p (take (i + 1) ms) ≡ chosen p (take i ms) ++ (n, t) ∷ []
    next_taken = here ∙ ap (λ b. chosen p (take i ms) ++ cond b ((n, t) ∷ []) []) yes

    -- with it, the number of values in the entries chosen so far rises by the number in its node
    pub next_size : entries_size (chosen p (take (i + 1) ms)) ≡ entries_size (chosen p (take i ms)) + size_of t
    next_size = ap entries_size next_taken ∙ size-append (chosen p (take i ms)) ((n, t) ∷ []) ∙ omega arith

    -- the entries chosen before it and its node hold together no more values than all chosen entries
    pub next_within : entries_size (chosen p (take i ms)) + size_of t ≤ entries_size (chosen p ms)
    next_within =
        let split : chosen p ms ≡ chosen p (take (i + 1) ms) ++ chosen p (drop (i + 1) ms) =
        ap (chosen p) (sym (take-append-drop (i + 1) ms)) ∙ chosen-append p (take (i + 1) ms) (drop (i + 1) ms) in
        omega (
          arith,
          next_size,
          ap entries_size split,
          size-append (chosen p (take (i + 1) ms)) (chosen p (drop (i +
              1) ms)),
        )

    -- if none is chosen before it, it is the first of all chosen entries
    pub next_first : chosen p (take i ms) ≡ [] → slice_get (chosen p ms) 0 ≡ Some (n, t)
    next_first none =
        let split : chosen p ms ≡ chosen p (take (i + 1) ms) ++ chosen p (drop (i + 1) ms) =
        ap (chosen p) (sym (take-append-drop (i + 1) ms)) ∙ chosen-append p (take (i + 1) ms) (drop (i + 1) ms) in
        ap (λ l. slice_get l 0)
        (split ∙ ap (λ l. l ++ chosen p (drop (i + 1) ms)) (next_taken ∙ ap (λ l. l ++ (n, t) ∷ []) none))

    -- if the nodes of the entries chosen before it and its own conform to a kind, those of all entries chosen so far conform
    pub next_holds : (k : Kind) → every (λ (e : List ℕ × Tree). conforms final_tables k e.1) (chosen p (take i ms))
        ≡ true
        → conforms final_tables k t ≡ true
        → every (λ (e : List ℕ × Tree). conforms final_tables k e.1) (chosen p (take (i + 1) ms)) ≡ true
    next_holds k h e =
        ap (every (λ (e : List ℕ × Tree). conforms final_tables k e.1)) next_taken
        ∙ every-append (λ (e : List ℕ × Tree). conforms final_tables k e.1) (chosen p (take i ms)) (n, t) h e

    -- after the value that was read for it is appended, the values that were read are those of all entries chosen so far
    pub next_same : {X : Type 0} (view : X → Form) (k : Kind) (vs new : Entries X) (x : X)
        → pairs_of (form final_tables k) (chosen p (take i ms)) ≡ pairs_of view vs → form final_tables k t ≡ view x
        → new ≡ vs ++ (n, x) ∷ [] → pairs_of (form final_tables k) (chosen p (take (i + 1) ms)) ≡ pairs_of view new
    next_same view k vs new x h e f =
        ap (pairs_of (form final_tables k)) next_taken
        ∙ pairs-append (form final_tables k) (chosen p (take i ms)) ((n, t) ∷ [])
        ∙ (λ j. h j ++ record { key = name n; value = e j } ∷ [])
        ∙ sym (ap (pairs_of view) f ∙ pairs-append view vs ((n, x) ∷ []))

    -- if no name of the members is repeated, its name is not among those of the values read before it
    pub next_new : {X : Type 0} (view : X → Form) (k : Kind) (vs : Entries X) → HasDistinctNames ms
        → pairs_of (form final_tables k) (chosen p (take i ms)) ≡ pairs_of view vs → get n vs ≡ None
    next_new view k vs d h =
        get_none-pairs (form final_tables k) view n (chosen p (take i ms)) vs h
        (get_none-chosen p n (take i ms) (absent-next ms i (n, t) d at))

-- an entry whose name is in the set is among the chosen ones
among_chosen : (p : List ℕ → Bool) (ms : Entries Tree) (i : ℕ) (e : List ℕ × Tree) → slice_get ms i ≡ Some e
    → p e.0 ≡ true
    → Among e (chosen p ms)
among_chosen p [] i e at h = cc
among_chosen p (m ∷ ms) zero e at h =
    let same : m ≡ e = cc in
    let yes : p m.0 ≡ true = ap (λ (x : List ℕ × Tree). p x.0) same ∙ h in
    subst (λ b. Among e (cond b (m ∷ chosen p ms) (chosen p ms))) (sym yes) (inl (sym same))
among_chosen p (m ∷ ms) (suc i) e at h = go (p m.0) (among_chosen p ms i e at h)
  where
    go : (b : Bool) → Among e (chosen p ms) → Among e (cond b (m ∷ chosen p ms) (chosen p ms))
    go true a = inr a
    go false a = a

-- an error about the value of an entry whose name is in the set is an error about the value of a chosen entry
pub entry_fails : (p : List ℕ → Bool) (ms : Entries Tree) (i : ℕ) (n : List ℕ) (t : Tree) (k : Kind) (f : Fault)
    → slice_get ms i ≡ Some (n, t) → p n ≡ true → FailsBelow (named n) f k t
    → (e : List ℕ × Tree) × Among e (chosen p ms) × FailsBelow (named e.0) f k e.1
entry_fails p ms i n t k f at taken h = ((n, t), among_chosen p ms i (n, t) at taken, h)

-- Entries that are written one after another.
use Rattle.std.proofs.Common.{◌≡◌, ℕ, zero, suc, ◌+◌, Bool, true, false, cond, ◌&&◌, List, [], ◌∷◌, ◌++◌, take, slice_get, Some, None, map, refl, sym, ap, ◌∙◌, inl, inr, bytes_eq}
use Rattle.std.proofs.lemmas.Bool.{and_parts, and_from}
use Rattle.openapi_map.specs.Entries.{Entries, get, HasDistinctNames}
use Rattle.openapi_map.proofs.EntryLemmas.{absent-next}
use Rattle.openapi_node.specs.Fault.{GoesUp, step_of}
use Rattle.openapi_node.specs.Place.{named}
use Rattle.openapi_node.specs.Tree.{Tree}
use Rattle.openapi_node.specs.declared.fault.Cause.TheVariants.{NameNotWritable}
use Rattle.openapi_node.specs.declared.fault.Fault.{Fault}
use Rattle.openapi_node.proofs.TreeLemmas.{take_next}
use Rattle.openapi_tables.specs.Prelude.{Kind, every, is_empty, final_tables, Form, print, unwritable, Among}
use Rattle.openapi_fields.specs.Entries.{written_entries, all_whole, EntriesNotWritable}
use Rattle.openapi_fields.specs.Returned.{NotWritableBelow}

append_assoc : {A : Type 0} (xs ys zs : List A) → (xs ++ ys) ++ zs ≡ xs ++ (ys ++ zs)
append_assoc [] ys zs = refl
append_assoc (x ∷ xs) ys zs = ap (λ l. x ∷ l) (append_assoc xs ys zs)

every-append : {A : Type 0} (q : A → Bool) (xs : List A) (x : A) → every q xs ≡ true → q x ≡ true
    → every q (xs ++ x ∷ []) ≡ true
every-append q [] x h e = ap (λ b. b && true) e
every-append q (y ∷ xs) x h e =
    let r = and_parts (q y) (every q xs) h in
    and_from _ _ r.0 (every-append q xs x r.1 e)

get_none-append : (xs ys : Entries Tree) (n : List ℕ) → get n xs ≡ None → get n ys ≡ None → get n (xs ++ ys) ≡ None
get_none-append [] ys n h g = g
get_none-append (x ∷ xs) ys n h g = go (λ q. get_none-append xs ys n q g) (bytes_eq n x.0) h
  where
    go : (get n xs ≡ None → get n (xs ++ ys) ≡ None) → (b : Bool) → cond b (Some x.1) (get n xs) ≡ None
        → cond b (Some x.1) (get n (xs ++ ys)) ≡ None
    go more true q = cc
    go more false q = more q

among_at : {A : Type 0} (xs : List A) (i : ℕ) (x : A) → slice_get xs i ≡ Some x → Among x xs
among_at [] i x h = cc
among_at (y ∷ xs) zero x h = let same : y ≡ x = cc in inl (sym same)
among_at (y ∷ xs) (suc i) x h = inr (among_at xs i x h)

module _ {X : Type 0} (view : X → Form) (k : Kind) where
  written-append : (xs ys : Entries X) → written_entries view k (xs ++ ys)
      ≡ written_entries view k xs ++ written_entries view k ys
  written-append [] ys = refl
  written-append (x ∷ xs) ys = ap (λ l. (x.0, print final_tables k (view x.1)) ∷ l) (written-append xs ys)

  get_none-written : (n : List ℕ) (es : Entries X) → get n es ≡ None → get n (written_entries view k es) ≡ None
  get_none-written n [] h = refl
  get_none-written n (e ∷ es) h = go (λ q. get_none-written n es q) (bytes_eq n e.0) h
    where
      go : (get n es ≡ None → get n (written_entries view k es) ≡ None) → (b : Bool) → cond b (Some e.1) (get n es)
          ≡ None
          → cond b (Some (print final_tables k (view e.1))) (get n (written_entries view k es)) ≡ None
      go more true q = cc
      go more false q = more q

  -- the next of the entries
  module _ (vs : Entries X) (i : ℕ) (n : List ℕ) (x : X) (at : slice_get vs i ≡ Some (n, x)) where
    here : take (i + 1) vs ≡ take i vs ++ (n, x) ∷ []
    here = take_next vs i (n, x) at

    -- if the member that it is written as is appended, the entries up to and including it were written
    pub next_written : (first out new : Entries Tree) → out ≡ first ++ written_entries view k (take i vs)
        → new ≡ out ++ (n, print final_tables k (view x)) ∷ [] → new ≡ first ++ written_entries view k (take (i + 1) vs)
    next_written first out new h e =
        e ∙ (λ j. h j ++ (n, print final_tables k (view x)) ∷ [])
        ∙ append_assoc first (written_entries view k (take i vs)) ((n, print final_tables k (view x)) ∷ [])
        ∙ ap (λ l. first ++ l) (sym (ap (written_entries view k) here ∙ written-append (take i vs) ((n, x) ∷ [])))

    -- if the names before it and its own pass a test, all names up to and including its own pass it
    pub next_named : (p : List ℕ → Bool) → every (λ (e : List ℕ × X). p e.0) (take i vs) ≡ true → p n ≡ true
        → every (λ (e : List ℕ × X). p e.0) (take (i + 1) vs) ≡ true
    next_named p h e =
        ap (every (λ (e : List ℕ × X). p e.0)) here ∙ every-append (λ (e : List ℕ × X). p e.0) (take i vs) (n, x) h e

    -- if nothing in the values before it or in its own is unwritable, nothing in the values up to and including its own is
    -- unwritable
    pub next_whole : all_whole view k (take i vs) ≡ true → unwritable final_tables k (view x) ≡ []
        → all_whole view k (take (i + 1) vs) ≡ true
    next_whole h e =
        ap (all_whole view k) here
        ∙ every-append (λ (e : List ℕ × X). is_empty (unwritable final_tables k (view e.1))) (take i vs) (n, x) h (ap
        is_empty e)

    -- if no name of the entries is repeated, and its name is not among the first members, it is not among the members
    -- written so far
    pub next_absent : (first out : Entries Tree) → get n first ≡ None → HasDistinctNames vs
        → out ≡ first ++ written_entries view k (take i vs) → get n out ≡ None
    next_absent first out f d h =
        ap (get n) h
        ∙ get_none-append first (written_entries view k (take i vs)) n f
        (get_none-written n (take i vs) (absent-next vs i (n, x) d at))

    -- an error of writing its value is an error of writing the entries
    pub entry_loses : (p : List ℕ → Bool) (f : Fault) → NotWritableBelow (named n) f (unwritable final_tables k (view x))
        → EntriesNotWritable p view k f vs
    entry_loses p f h = inr ((n, x), among_at vs i (n, x) at, inr h)

    -- if its name does not pass the test, the error that it is not writable is an error of writing the entries
    pub name_loses : (p : List ℕ → Bool) (e f : Fault) → p n ≡ false → GoesUp (named n) e f → e.place.items ≡ []
        → e.cause ≡ NameNotWritable → EntriesNotWritable p view k f vs
    name_loses p e f out up q c =
        elim up.otherwise [
          | inl m ↦ inl m
          | inr s ↦ inr ((n, x), among_at vs i (n, x) at, inl (out, s.0 ∙ c, s.1 ∙ ap (λ l. named n ∷ map step_of l) q))
        ]

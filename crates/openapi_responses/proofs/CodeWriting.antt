-- The row of the status codes, given what is written for its entries one after another.
use Rattle.std.proofs.Common.{◌≡◌, ℕ, suc, Bool, true, false, cond, List, [], ◌∷◌, ◌++◌, map, slice_get, Option, Some, None, Bor, Result, Ok, Err, IfErr, refl, sym, ap, ◌∙◌, subst, inl, inr, append_assoc}
use Rattle.std.proofs.lemmas.Bool.{and_parts, and_from}
use Rattle.std.proofs.lemmas.List.{map-append}
use Rattle.std.specs.List.{IsDistinct}
use Rattle.std.specs.Map.{keys_of, lookup}
use Rattle.std.specs.Iterator.{Yields}
use Rattle.std.specs.Map.Iter.{TakesFirst, deref_pair}
use Rattle.std.proofs.lemmas.Map.Iter.{rest_so_far, rest_more}
use Rattle.indexmap.proofs.MapLemmas.{absent_before}
use Rattle.openapi_map.specs.Entries.{Entries, get}
use Rattle.openapi_node.specs.Fault.{place_of}
use Rattle.openapi_node.specs.Place.{named}
use Rattle.openapi_node.specs.Tree.{Tree}
use Rattle.openapi_node.specs.declared.fault.Fault.{Fault}
use Rattle.openapi_tables.specs.Prelude.{Kind, status_names, class, in_class, writable_code, every, is_empty, same_text}
use Rattle.openapi_tables.specs.Prelude.{final_tables, Form, coded, named as named_form, named_of, print, unwritable}
use Rattle.openapi_tables.specs.Prelude.{is_written, Among, is_class, Slot, slot_where, before, through, slots_apart}
use Rattle.openapi_tables.specs.Prelude.{slots_lost, IsWritten}
use Rattle.openapi_tables.proofs.ByRowLaws.{same_bytes}
use Rattle.openapi_tables.proofs.DistinctLaws.{texts_differ}
use Rattle.openapi_tables.proofs.SlotLists.{get_none-append}
use Rattle.openapi_tables.proofs.SlotWriting.{prints, is_kept, is_new, class_put, class_key_loses, class_value_loses}
use Rattle.openapi_tables.proofs.WritableLaws.{writable}
use Rattle.openapi_values.specs.StatusCode.{code_in}
use Rattle.openapi_values.specs.declared.status_code.StatusCode.{StatusCode}
use Rattle.openapi_values.proofs.CodeEq.{eq-same_code}
use Rattle.openapi_fields.specs.Returned.{NotWritableBy, NotWritable, NotWritableBelow}
use Rattle.openapi_fields.proofs.Losing.{memory_loses, loses_above}
use Rattle.openapi_responses.specs.Codes.{coded_pairs, code_text, CodeNotWritable}
use Rattle.openapi_responses.proofs.CodeKeys.{same_status, status_equiv}

-- an error of writing a value, at the name of its code, is an error of writing the entry
pub value_loses : {X A : Type 0} (view : X → Form) (k : Kind) (s : StatusCode) (x : X) (n : List ℕ) → n ≡ code_text s
    → (r : Result A Fault) → IfErr r (λ f. NotWritableBelow (named n) f (unwritable final_tables k (view x)))
    → IfErr r (λ f. CodeNotWritable view k f s x)
value_loses view k s x n e (Ok y) h = tt
value_loses view k s x n e (Err f) h =
    inr (inr (subst (λ m. NotWritableBelow (named m) f (unwritable final_tables k (view x))) e h))

-- the next entry that an iterator returns comes after those that it returned before
pub next_split : {X : Type 0} (all : List (StatusCode × X)) (done : List (Bor StatusCode × Bor X))
    (start rest left : List (StatusCode × X)) (r : Option (Bor StatusCode × Bor X)) (x : Bor StatusCode × Bor X)
    → start ≡ all → Yields (TakesFirst deref_pair) start done rest → r ≡ Some x → TakesFirst deref_pair rest r left
    → all ≡ map deref_pair done ++ deref_pair x ∷ left
next_split all done start rest left r x is gave some step =
    sym is ∙ rest_so_far deref_pair done start rest gave
    ∙ ap (λ l. map deref_pair done ++ l) (rest_more deref_pair rest left r x some step)

-- a code is read again if and only if it can be written
again : (s : StatusCode) → is_written status_names (coded (code_in s)) ≡ writable_code (code_in s)
again s = writable.4 (code_in s)

-- if a code can be written, its name is in the class of status codes
in_its_class : (s : StatusCode) → writable_code (code_in s) ≡ true → in_class status_names (code_text s) ≡ true
in_its_class s w = (and_parts _ (in_class status_names (code_text s)) (again s ∙ w)).1

module _ {X : Type 0} (view : X → Form) (k : Kind) where
  -- the members that entries are written as
  abbrev pub members : List (StatusCode × X) → Entries Tree
  members es = prints final_tables status_names k (coded_pairs view es)

  -- whether nothing in them is unwritable
  abbrev pub all_kept : List (StatusCode × X) → Bool
  all_kept es = every (is_kept final_tables status_names k) (coded_pairs view es)

  -- the name of a code that none of some entries has is the name of none of them
  new_text : (s : StatusCode) → writable_code (code_in s) ≡ true → (es : List (StatusCode × X)) → all_kept es ≡ true
      → lookup (same_status s) es ≡ None → get (code_text s) (members es) ≡ None
  new_text s w [] h e = refl
  new_text s w (d ∷ es) h e =
      let kept = and_parts (is_kept final_tables status_names k (record { key = coded (code_in d.0); value = view d.1 }))
      (all_kept es) h in
      let written = and_parts (is_written status_names (coded (code_in d.0)))
      (is_empty (unwritable final_tables k (view d.1))) kept.0 in
      go (same_status s d.0) refl written.0 (new_text s w es kept.1) e
    where
      go : (b : Bool) → same_status s d.0 ≡ b → is_written status_names (coded (code_in d.0)) ≡ true
          → (lookup (same_status s) es ≡ None → get (code_text s) (members es) ≡ None)
          → cond b (Some d.1) (lookup (same_status s) es) ≡ None → get (code_text s) (members (d ∷ es)) ≡ None
      go true p v more q = cc
      go false p v more q =
          let differ : same_text (code_text s) (code_text d.0) ≡ false =
          texts_differ status_names (coded (code_in s)) (coded (code_in d.0)) (again s ∙ w) v
          (sym (eq-same_code s d.0) ∙ p) in
          ap (λ b. cond b (Some (print final_tables k (view d.1))) (get (code_text s) (members es)))
          (sym (same_bytes (code_text s) (code_text d.0)) ∙ differ)
          ∙ more q

  -- with one more entry
  members-more : (es : List (StatusCode × X)) (s : StatusCode) (x : X)
      → members (es ++ (s, x) ∷ []) ≡ members es ++ (code_text s, print final_tables k (view x)) ∷ []
  members-more [] s x = refl
  members-more (e ∷ es) s x = ap (λ l. (code_text e.0, print final_tables k (view e.1)) ∷ l) (members-more es s x)

  kept-more : (es : List (StatusCode × X)) (s : StatusCode) (x : X) → all_kept es ≡ true
      → writable_code (code_in s) ≡ true → unwritable final_tables k (view x) ≡ [] → all_kept (es ++ (s, x) ∷ []) ≡ true
  kept-more [] s x h w u = and_from _ _ (and_from _ _ (again s ∙ w) (ap is_empty u)) refl
  kept-more (e ∷ es) s x h w u =
      let kept = and_parts (is_kept final_tables status_names k (record { key = coded (code_in e.0); value = view e.1 }))
      (all_kept es) h in
      and_from _ _ kept.0 (kept-more es s x kept.1 w u)

  -- the entries that an iterator returned, and one more
  pub next_members : (done : List (Bor StatusCode × Bor X)) (s : Bor StatusCode) (x : Bor X) (out now new : Entries Tree)
      → now ≡ out ++ members (map deref_pair done)
      → new ≡ now ++ (code_text s.now, print final_tables k (view x.now)) ∷ []
      → new ≡ out ++ members (map deref_pair (done ++ (s, x) ∷ []))
  next_members done s x out now new h e =
      let first = map deref_pair done in
      e ∙ (λ j. h j ++ (code_text s.now, print final_tables k (view x.now)) ∷ [])
      ∙ append_assoc out (members first) ((code_text s.now, print final_tables k (view x.now)) ∷ [])
      ∙ ap (λ l. out ++ l) (sym (members-more first s.now x.now))
      ∙ ap (λ l. out ++ members l) (sym (map-append deref_pair done ((s, x) ∷ [])))

  -- if nothing in those is unwritable, nor in one more, nothing in all of these is
  pub next_kept : (done : List (Bor StatusCode × Bor X)) (s : Bor StatusCode) (x : Bor X)
      → all_kept (map deref_pair done) ≡ true → writable_code (code_in s.now) ≡ true
      → unwritable final_tables k (view x.now) ≡ [] → all_kept (map deref_pair (done ++ (s, x) ∷ [])) ≡ true
  next_kept done s x h w u =
      ap all_kept (map-append deref_pair done ((s, x) ∷ [])) ∙ kept-more (map deref_pair done) s.now x.now h w u

  -- the index of an entry
  index_of : (es rest : List (StatusCode × X)) (s : StatusCode) (x : X)
      → (j : ℕ) × (slice_get (coded_pairs view (es ++ (s, x) ∷ rest)) j
      ≡ Some (record { key = coded (code_in s); value = view x }))
  index_of [] rest s x = (0, refl)
  index_of (e ∷ es) rest s x = let r = index_of es rest s x in (suc r.0, r.1)

  -- the row of a map of which some entries are written
  module _ (ss : List Slot) (es : List (StatusCode × X))
      (at : slot_where (is_class status_names) ss
      ≡ Some (class status_names k, named_form (named_of (coded_pairs view es)))) (out : Entries Tree)
      (done : IsWritten final_tables (before (is_class status_names) ss) out) where
    -- the name of the next code is not present yet
    pub next_absent : slots_apart ss ≡ true → IsDistinct same_status (keys_of es)
        → (first rest : List (StatusCode × X)) (s : StatusCode) (x : X) → es ≡ first ++ (s, x) ∷ rest
        → (now : Entries Tree) → now ≡ out ++ members first → all_kept first ≡ true
        → writable_code (code_in s) ≡ true → get (code_text s) now ≡ None
    next_absent apart distinct first rest s x split now e h w =
        ap (get (code_text s)) e
        ∙ get_none-append out (members first) (code_text s)
        (is_new final_tables ss (is_class status_names) (class status_names k, named_form (named_of (coded_pairs view es)))
        at out done apart (code_text s) (in_its_class s w))
        (new_text s w first h (absent_before status_equiv first rest (s, x)
        (subst (λ l. IsDistinct same_status (keys_of l)) split distinct)))

    -- all entries are written
    pub codes_put : (new : Entries Tree) → new ≡ out ++ members es → all_kept es ≡ true
        → IsWritten final_tables (through (is_class status_names) ss) new
    codes_put new e h = class_put final_tables status_names k ss (coded_pairs view es) at out done new e h

    -- an error of writing one of them is an error of writing the slots
    pub code_loses : (first rest : List (StatusCode × X)) (s : StatusCode) (x : X) → es ≡ first ++ (s, x) ∷ rest
        → (f : Fault) → CodeNotWritable view k f s x → NotWritable f (slots_lost final_tables ss)
    code_loses first rest s x split f (inl m) = memory_loses f (slots_lost final_tables ss) m
    code_loses first rest s x split f (inr (inl h)) =
        let i = index_of first rest s x in
        let there : slice_get (coded_pairs view es) i.0 ≡ Some (record { key = coded (code_in s); value = view x }) =
        ap (λ l. slice_get (coded_pairs view l) i.0) split ∙ i.1 in
        let lost = class_key_loses final_tables status_names k ss (coded_pairs view es) at out done i.0
        (record { key = coded (code_in s); value = view x }) there (again s ∙ h.0) in
        subst (λ c. NotWritableBy c (place_of f) (slots_lost final_tables ss)) (sym h.1)
        (subst (λ q. Among q (slots_lost final_tables ss)) (sym h.2) lost)
    code_loses first rest s x split f (inr (inr l)) =
        let i = index_of first rest s x in
        let there : slice_get (coded_pairs view es) i.0 ≡ Some (record { key = coded (code_in s); value = view x }) =
        ap (λ l. slice_get (coded_pairs view l) i.0) split ∙ i.1 in
        loses_above (named (code_text s)) f (unwritable final_tables k (view x)) (slots_lost final_tables ss)
        (λ q g. class_value_loses final_tables status_names k ss (coded_pairs view es) at out done i.0
        (record { key = coded (code_in s); value = view x }) q there g) l

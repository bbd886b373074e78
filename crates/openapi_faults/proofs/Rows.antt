-- What a row requires of the members of an object, given those that it takes.
use Rattle.std.proofs.Common.{◌≡◌, ℕ, ◌+◌, ◌≤◌, Bool, true, false, cond, ◌&&◌, List, [], ◌∷◌, Option, Some, None}
use Rattle.std.proofs.Common.{slice_get, refl, sym, ap, ◌∙◌, subst, arith}
use Rattle.openapi_map.specs.Entries.{Entries}
use Rattle.openapi_node.specs.Place.{named}
use Rattle.openapi_node.specs.Tree.{Tree, Members, members_of, members_size, size_of, find}
use Rattle.openapi_tables.specs.Prelude.{Kind, row, either, class, Class, Mode, in_class, final_tables, same_text}
use Rattle.openapi_tables.specs.Prelude.{Entry, members_list, of_members, on_entry, each, join, own, is_null, skips_null}
use Rattle.openapi_tables.specs.Prelude.{Asking, Asks, Shape, root_asks, asks_own, asks_members, weight, row_weight}
use Rattle.openapi_tables.proofs.ByRowLaws.{entry, own-found, own-missing, own-members, rows_weight-le, weight-found}
use Rattle.openapi_tables.proofs.TreeLaws.{see}
use Rattle.openapi_fields.specs.Entries.{chosen}
use Rattle.openapi_fields.specs.Forms.{is_either}
use Rattle.openapi_faults.specs.Walk.{asked_below, asked_entries, asked_member, asked_not_null, asked_found, asked_optional}
use Rattle.openapi_faults.specs.Walk.{asked_row, entries_size, found_size, member_size}

-- ---- the row of a name

module _ (n : List ℕ) (m : Mode) (k : Kind) (ms : Members) where
  pub row_found : (t : Tree) → find n ms ≡ Some t
      → asked_row (row n m k) ms ≡ cond (skips_null m && is_null t) [] (asked_below (named n) k t)
  row_found t h =
      let f = root_asks final_tables in
      ap (asks_own (row n m k)) (own-members f (row n m k) ms ∙ ap (each (on_entry (see f))) (own-found n m k ms t h).is)

  pub row_missing : find n ms ≡ None → asked_row (row n m k) ms ≡ []
  row_missing h =
      let f = root_asks final_tables in
      ap (asks_own (row n m k)) (own-members f (row n m k) ms ∙ ap (each (on_entry (see f))) (own-missing n m k ms h))

  -- a row that skips null requires its kind of a member that is not null
  pub optional_asks : skips_null m ≡ true → asked_row (row n m k) ms ≡ asked_optional n k ms
  optional_asks h = go (find n ms) refl
    where
      go : (o : Option Tree) → find n ms ≡ o → asked_row (row n m k) ms ≡ asked_not_null n k o
      go None e = row_missing e
      go (Some t) e = row_found t e ∙ ap (λ b. cond (b && is_null t) [] (asked_below (named n) k t)) h

  -- any other row requires its kind of the member
  pub member_asks : skips_null m ≡ false → asked_row (row n m k) ms ≡ asked_member n k ms
  member_asks h = go (find n ms) refl
    where
      go : (o : Option Tree) → find n ms ≡ o → asked_row (row n m k) ms ≡ asked_found n k o
      go None e = row_missing e
      go (Some t) e = row_found t e ∙ ap (λ b. cond (b && is_null t) [] (asked_below (named n) k t)) h

  pub member_weight : member_size n ms ≤ row_weight (row n m k) ms
  member_weight = go (find n ms) refl
    where
      go : (o : Option Tree) → find n ms ≡ o → found_size o ≤ row_weight (row n m k) ms
      go None e = omega arith
      go (Some t) e = weight-found final_tables n m k ms t e

-- ---- the row of a class

module _ (c : Class) (k : Kind) where
  pub class_asks : (es : Entries Tree) → asked_row (class c k) (members_of es) ≡ asked_entries (in_class c) k es
  class_asks [] = refl
  class_asks (e ∷ es) = go (in_class c e.0) (class_asks es)
    where
      rest : List (Entry Asks)
      rest = own (class c k) (of_members (root_asks final_tables) (members_of es))

      go : (b : Bool) → asks_members k rest ≡ asked_entries (in_class c) k es
          → asks_members k (cond b (on_entry (see (root_asks final_tables)) (entry e.0 e.1) ∷ rest) rest)
          ≡ cond b (join (asked_below (named e.0) k e.1) (asked_entries (in_class c) k es)) (asked_entries (in_class c) k es)
      go true h = ap (join (asked_below (named e.0) k e.1)) h
      go false h = h

  pub class_weight : (es : Entries Tree) → entries_size (in_class c) es ≡ row_weight (class c k) (members_of es)
  unfolding row_weight
  class_weight [] = refl
  class_weight (e ∷ es) = go (in_class c e.0) (class_weight es)
    where
      rest : List (Entry Tree)
      rest = own (class c k) (members_list (members_of es))

      go : (b : Bool) → entries_size (in_class c) es ≡ weight rest
          → cond b (size_of e.1) 0 + entries_size (in_class c) es ≡ weight (cond b (entry e.0 e.1 ∷ rest) rest)
      go true h = ap (λ x. size_of e.1 + x) h
      go false h = omega (arith, h)

-- ---- the row of two names

module _ (a : List ℕ) (j : Kind) (b : List ℕ) (k : Kind) where
  abbrev pair_entry : List ℕ × Tree → Entry Tree
  pair_entry e = entry e.0 e.1

  own_chosen : (es : Entries Tree)
      → own (either a j b k) (members_list (members_of es)) ≡ each pair_entry (chosen (is_either a b) es)
  own_chosen [] = refl
  own_chosen (e ∷ es) = go (is_either a b e.0) (own_chosen es)
    where
      rest : List (Entry Tree)
      rest = own (either a j b k) (members_list (members_of es))

      go : (c : Bool) → rest ≡ each pair_entry (chosen (is_either a b) es)
          → cond c (entry e.0 e.1 ∷ rest) rest
          ≡ each pair_entry (cond c (e ∷ chosen (is_either a b) es) (chosen (is_either a b) es))
      go true h = ap (λ l. entry e.0 e.1 ∷ l) h
      go false h = h

  module _ (es : Entries Tree) where
    abbrev f : Shape Asks → Kind → List Asking
    f = root_asks final_tables

    abbrev pub first : Entries Tree
    first = chosen (is_either a b) es

    taken : own (either a j b k) (of_members f (members_of es)) ≡ each (on_entry (see f)) (each pair_entry first)
    taken = own-members f (either a j b k) (members_of es) ∙ ap (each (on_entry (see f))) (own_chosen es)

    pub either_asks : (n : List ℕ) (t : Tree) → slice_get first 0 ≡ Some (n, t)
        → asked_row (either a j b k) (members_of es) ≡ asked_below (named n) (cond (same_text a n) j k) t
    either_asks n t h = ap (asks_own (either a j b k)) taken ∙ go first h
      where
        go : (cs : Entries Tree) → slice_get cs 0 ≡ Some (n, t)
            → asks_own (either a j b k) (each (on_entry (see f)) (each pair_entry cs))
            ≡ asked_below (named n) (cond (same_text a n) j k) t
        go [] g = cc
        go (c ∷ cs) g =
            let same : c ≡ (n, t) = cc in
            ap (λ (e : List ℕ × Tree). asked_below (named e.0) (cond (same_text a e.0) j k) e.1) same

    pub either_none : slice_get first 0 ≡ None → asked_row (either a j b k) (members_of es) ≡ []
    either_none h = ap (asks_own (either a j b k)) taken ∙ go first h
      where
        go : (cs : Entries Tree) → slice_get cs 0 ≡ None
            → asks_own (either a j b k) (each (on_entry (see f)) (each pair_entry cs)) ≡ []
        go [] g = refl
        go (c ∷ cs) g = cc

    pub either_weight : (n : List ℕ) (t : Tree) → slice_get first 0 ≡ Some (n, t)
        → size_of t ≤ row_weight (either a j b k) (members_of es)
    unfolding row_weight
    either_weight n t h = subst (λ l. size_of t ≤ weight l) (sym (own_chosen es)) (go first h)
      where
        go : (cs : Entries Tree) → slice_get cs 0 ≡ Some (n, t) → size_of t ≤ weight (each pair_entry cs)
        go [] g = cc
        go (c ∷ cs) g =
            let same : c ≡ (n, t) = cc in
            let size : size_of c.1 ≡ size_of t = ap (λ (e : List ℕ × Tree). size_of e.1) same in
            omega (arith, size)

    pub either_within : (n : List ℕ) (t : Tree) → slice_get first 0 ≡ Some (n, t) → size_of t ≤ members_size (members_of es)
    either_within n t h =
        omega (arith, either_weight n t h, rows_weight-le (either a j b k ∷ []) (members_of es) refl)

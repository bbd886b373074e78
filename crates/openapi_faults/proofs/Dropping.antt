-- The members that are dropped under one required kind, one after another.
use Rattle.std.proofs.Common.{◌≡◌, ℕ, ◌+◌, ◌<◌, Bool, true, false, not, ◌&&◌, ◌||◌, List, [], ◌∷◌, ◌++◌, Option, Some, None, is_some, get_or, length, map, take, slice_get, refl, sym, ap, ◌∙◌, subst}
use Rattle.std.proofs.lemmas.List.{map_more}
use Rattle.std.proofs.lemmas.List.Folds.{list_any-append, list_any_at}
use Rattle.std.specs.Borrow.{Bor}
use Rattle.std.specs.List.{list_any}
use Rattle.std.specs.Option.{option_copied}
use Rattle.openapi_map.specs.Entries.{Entries}
use Rattle.openapi_node.specs.Place.{Place, named}
use Rattle.openapi_node.specs.Tree.{Tree, Members, members_of}
use Rattle.openapi_node.proofs.TreeLemmas.{take_next}
use Rattle.openapi_tables.specs.Kind.{Kind, Row, either, takes}
use Rattle.openapi_tables.specs.Lists.{each, flat, same_text}
use Rattle.openapi_tables.specs.Members.{own}
use Rattle.openapi_tables.specs.Tree.{Entry, members_list}
use Rattle.openapi_tables.proofs.ByRowLaws.{entry}
use Rattle.openapi_fields.specs.Entries.{chosen}
use Rattle.openapi_fields.specs.Forms.{is_either}
use Rattle.openapi_faults.specs.Adds.{Adds}
use Rattle.openapi_faults.specs.Dropped.{dropped_if, dropped_of, is_first, takes_second, why_dropped}
use Rattle.openapi_faults.specs.Meaning.{kind_of, row_of}
use Rattle.openapi_faults.specs.declared.dropped.DropReason.{DropReason}
use Rattle.openapi_faults.specs.declared.dropped.Dropped.{Dropped}
use Rattle.openapi_faults.specs.declared.kind.Kind as declared_kind
use Rattle.openapi_faults.specs.declared.row.Row as declared
use Rattle.openapi_faults.specs.declared.row.Row.TheVariants as r
use Rattle.openapi_faults.proofs.Adding.{adds_then, flat-push, join_append}
use Rattle.openapi_faults.proofs.Causes.{own_chosen}

-- ---- a test of rows

any-map : (p : Row → Bool) (rows : List declared.Row) → list_any p (map row_of rows) ≡ list_any (λ w. p (row_of w)) rows
any-map p [] = refl
any-map p (w ∷ ws) = ap (λ b. p (row_of w) || b) (any-map p ws)

module _ (p : Row → Bool) (rows : List declared.Row) (i : ℕ) (d : declared.Row) (within : i < length rows) where
  -- none of the rows so far passes, nor does the next one
  pub any_next : list_any p (map row_of (take i rows)) ≡ false → p (row_of (get_or rows i d)) ≡ false
      → list_any p (map row_of (take (i + 1) rows)) ≡ false
  any_next h g =
      ap (list_any p) (map_more row_of rows i d within)
      ∙ list_any-append p (map row_of (take i rows)) (row_of (get_or rows i d) ∷ [])
      ∙ ap (λ b. b || (p (row_of (get_or rows i d)) || false)) h ∙ ap (λ b. b || false) g

  -- if a row passes, one of the rows does
  pub any_found : p (row_of (get_or rows i d)) ≡ true → true ≡ list_any p (map row_of rows)
  any_found h = sym (any-map p rows ∙ list_any_at (λ w. p (row_of w)) rows i d within h)

-- ---- the second of two members

module _ (w : declared.Row) (a b : Bor (List ℕ)) (j k : declared_kind.Kind) (is : w ≡ r.Either a j b k) (es : Entries Tree)
    (n : List ℕ) (taken : takes (row_of w) n ≡ true) where
  abbrev pair_row : Row
  pair_row = either a.now (kind_of j) b.now (kind_of k)

  abbrev the_chosen : Entries Tree
  the_chosen = chosen (is_either a.now b.now) es

  second_as : takes_second (members_list (members_of es)) n (row_of w) ≡ not (is_first (each (λ e. entry e.0 e.1) the_chosen) n)
  second_as =
      ap (λ v. takes_second (members_list (members_of es)) n (row_of v)) is
      ∙ ap (λ t. t && not (is_first (own pair_row (members_list (members_of es))) n))
      (ap (λ v. takes (row_of v) n) (sym is) ∙ taken)
      ∙ ap (λ l. not (is_first l n)) (own_chosen pair_row es)

  pub second_there : (e : List ℕ × Tree) → Some e ≡ slice_get (chosen (is_either a.now b.now) es) 0
      → takes_second (members_list (members_of es)) n (row_of w) ≡ not (same_text e.0 n)
  second_there e h = second_as ∙ go the_chosen h
    where
      go : (cs : Entries Tree) → Some e ≡ slice_get cs 0 → not (is_first (each (λ c. entry c.0 c.1) cs) n) ≡ not (same_text e.0 n)
      go [] q = cc
      go (c ∷ cs) q =
          let same : c ≡ e = cc in
          ap (λ (x : List ℕ × Tree). not (same_text x.0 n)) same

  pub second_gone : None ≡ slice_get (chosen (is_either a.now b.now) es) 0
      → takes_second (members_list (members_of es)) n (row_of w) ≡ true
  second_gone h = second_as ∙ go the_chosen h
    where
      go : (cs : Entries Tree) → None ≡ slice_get cs 0 → not (is_first (each (λ c. entry c.0 c.1) cs) n) ≡ true
      go [] q = refl
      go (c ∷ cs) q = cc

-- ---- the members of an object

listed-push : (xs : Entries Tree) (e : List ℕ × Tree)
    → members_list (members_of (xs ++ (e ∷ []))) ≡ members_list (members_of xs) ++ (entry e.0 e.1 ∷ [])
listed-push [] e = refl
listed-push (x ∷ xs) e = ap (λ l. entry x.0 x.1 ∷ l) (listed-push xs e)

module _ (p : Place) (k : Kind) (ms : Members) (es : Entries Tree) where
  abbrev drop_of : Entry Tree → List (Place × DropReason)
  drop_of e = dropped_if (p ++ (named e.name ∷ [])) (why_dropped k ms e.name)

  -- the members before an index that are dropped
  abbrev pub dropped_before : ℕ → List (Place × DropReason)
  dropped_before i = flat (each drop_of (members_list (members_of (take i es))))

  module _ (i : ℕ) (n : List ℕ) (t : Tree) (at : slice_get es i ≡ Some (n, t)) where
    next : dropped_before (i + 1) ≡ dropped_before i ++ drop_of (entry n t)
    next =
        ap (λ l. flat (each drop_of (members_list (members_of l)))) (take_next es i (n, t) at)
        ∙ ap (λ l. flat (each drop_of l)) (listed-push (take i es) (n, t))
        ∙ flat-push drop_of (members_list (members_of (take i es))) (entry n t)
        ∙ join_append (dropped_before i) (drop_of (entry n t))

    pub dropped_next : (xs ys zs : List Dropped) (why : Option DropReason) → why ≡ why_dropped k ms n
        → Adds dropped_of xs ys (dropped_before i) → Adds dropped_of ys zs (dropped_if (p ++ (named n ∷ [])) why)
        → Adds dropped_of xs zs (dropped_before (i + 1))
    dropped_next xs ys zs why e before now =
        subst (λ l. Adds dropped_of xs zs l) (sym next)
        (adds_then dropped_of xs ys zs (dropped_before i) (drop_of (entry n t)) before
        (subst (λ w. Adds dropped_of ys zs (dropped_if (p ++ (named n ∷ [])) w)) e now))

-- an optional borrow is `Some` if and only if its copy is
pub is_some-copied : {T : Type 0} → (o : Option (Bor T)) → is_some o ≡ is_some (option_copied o)
is_some-copied None = refl
is_some-copied (Some x) = refl

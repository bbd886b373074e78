-- The locations of dropped members: those of an object itself, and those below its members.
use Rattle.std.proofs.Common.{◌≡◌, ◌⊎◌, ℕ, Bool, true, false, cond, ◌||◌, List, [], ◌∷◌, ◌++◌, Option, Some, None}
use Rattle.std.proofs.Common.{refl, sym, ap, ◌∙◌, subst, inl, inr}
use Rattle.std.proofs.lemmas.Bool.{both_ways, not-true, or_left, or_right}
use Rattle.openapi_node.specs.Place.{Place, Step, named}
use Rattle.openapi_node.specs.Tree.{Tree, null, flag, whole, text, list, object}
use Rattle.openapi_tables.specs.Faults.{Asking}
use Rattle.openapi_tables.specs.Kind.{Kind}
use Rattle.openapi_tables.specs.Lists.{each, flat, join, only, same_text}
use Rattle.openapi_tables.specs.Tree.{Entry, members_list}
use Rattle.openapi_tables.proofs.ListLaws.{Each, Each-join, each-join, each_under, same_text-refl, same_text_eq}
use Rattle.openapi_faults.specs.Dropped.{dropped_at, dropped_if, drops, why_dropped}
use Rattle.openapi_faults.specs.Without.{has_root, inside, is_root}
use Rattle.openapi_faults.specs.declared.dropped.DropReason.{DropReason}
use Rattle.openapi_faults.proofs.Gather.{Moves, gather, one_below}
use Rattle.openapi_faults.proofs.Locations.{inside_join, left, root_join, stays, trimmed}

-- the locations in a list of dropped members
abbrev pub places : List (Place × DropReason) → List Place
places l = each (λ d. d.0) l

-- the members that are dropped, where `g` gives the reason to drop the member of a name
abbrev pub lost : Place → (List ℕ → Option DropReason) → List (Entry Tree) → List (Place × DropReason)
lost p g es = flat (each (λ e. dropped_if (p ++ (named e.name ∷ [])) (g e.name)) es)

one_moves : (s : Step) (p : Place) (o : Option DropReason) → dropped_if (s ∷ p) o ≡ each (one_below s) (dropped_if p o)
one_moves s p None = refl
one_moves s p (Some r) = refl

lost_moves : (s : Step) (p : Place) (g : List ℕ → Option DropReason) (es : List (Entry Tree))
    → lost (s ∷ p) g es ≡ each (one_below s) (lost p g es)
lost_moves s p g [] = refl
lost_moves s p g (e ∷ es) =
    ap (λ l. join l (lost (s ∷ p) g es)) (one_moves s (p ++ (named e.name ∷ [])) (g e.name))
    ∙ ap (λ l. join (each (one_below s) (dropped_if (p ++ (named e.name ∷ [])) (g e.name))) l) (lost_moves s p g es)
    ∙ sym (each-join (one_below s) (dropped_if (p ++ (named e.name ∷ [])) (g e.name)) (lost p g es))

drops_below : (s : Step) (p : Place) (k : Kind) (t : Tree) → drops (s ∷ p) k t ≡ each (one_below s) (drops p k t)
drops_below s p k (object ms) = lost_moves s p (why_dropped k ms) (members_list ms)
drops_below s p k null = refl
drops_below s p k (flag b) = refl
drops_below s p k (whole z) = refl
drops_below s p k (text t) = refl
drops_below s p k (list ts) = refl

pub drops_move : Moves dropped_at
drops_move s a = drops_below s a.place a.kind a.tree

pub none_lost : (p : Place) (g : List ℕ → Option DropReason) (es : List (Entry Tree)) → Each (λ (e : Entry Tree). g e.name ≡ None) es
    → lost p g es ≡ []
none_lost p g [] h = refl
none_lost p g (e ∷ es) h =
    ap (λ o. join (dropped_if (p ++ (named e.name ∷ [])) o) (lost p g es)) h.0 ∙ none_lost p g es h.1

-- ---- below the name of a member

pub places_join : (n : List ℕ) (xs ys : List (Place × DropReason))
    → inside (named n) (places (join xs ys)) ≡ join (inside (named n) (places xs)) (inside (named n) (places ys))
places_join n xs ys =
    ap (inside (named n)) (each-join (λ (d : Place × DropReason). d.0) xs ys) ∙ inside_join (named n) (places xs) (places ys)

one_kept : (n m : List ℕ) (o : Option DropReason) → (same_text n m ≡ true → o ≡ None)
    → inside (named n) (places (dropped_if (named m ∷ []) o)) ≡ []
one_kept n m None h = refl
one_kept n m (Some r) h = go (same_text n m) h
  where
    go : (b : Bool) → (b ≡ true → Some r ≡ None) → join {A = Place} (cond b ([] ∷ []) []) [] ≡ []
    go true f = let x = f refl in cc
    go false f = refl

-- if `g` gives no reason for a name, no location of a dropped member begins with it
pub kept_name : (g : List ℕ → Option DropReason) (n : List ℕ) → g n ≡ None → (es : List (Entry Tree))
    → inside (named n) (places (lost [] g es)) ≡ []
kept_name g n h [] = refl
kept_name g n h (e ∷ es) =
    places_join n (dropped_if (named e.name ∷ []) (g e.name)) (lost [] g es)
    ∙ ap (λ l. join l (inside (named n) (places (lost [] g es))))
    (one_kept n e.name (g e.name) (λ q. subst (λ m. g m ≡ None) (same_text_eq n e.name q) h))
    ∙ kept_name g n h es

-- there is no reason to drop a member, or its location is among those of the dropped members
abbrev IsLost : (List ℕ → Option DropReason) → List (Entry Tree) → Entry Tree → Type 0
IsLost g es e = (g e.name ≡ None) ⊎ (has_root (inside (named e.name) (places (lost [] g es))) ≡ true)

lost_join : (n : List ℕ) (xs ys : List (Place × DropReason))
    → has_root (inside (named n) (places (join xs ys)))
    ≡ (has_root (inside (named n) (places xs)) || has_root (inside (named n) (places ys)))
lost_join n xs ys = ap has_root (places_join n xs ys) ∙ root_join (inside (named n) (places xs)) (inside (named n) (places ys))

lost_here : (n : List ℕ) (r : DropReason) → has_root (inside (named n) (places (dropped_if (named n ∷ []) (Some r)))) ≡ true
lost_here n r = ap (λ b. has_root (join (cond b ([] ∷ []) []) [])) (same_text-refl n)

each_lost : (g : List ℕ → Option DropReason) (es : List (Entry Tree)) → Each (IsLost g es) es
each_lost g [] = tt
each_lost g (e ∷ es) = (go (g e.name) refl, each_under later es (each_lost g es))
  where
    go : (o : Option DropReason) → g e.name ≡ o → IsLost g (e ∷ es) e
    go None q = inl q
    go (Some r) q =
        inr (
        lost_join e.name (dropped_if (named e.name ∷ []) (g e.name)) (lost [] g es)
        ∙ or_left (has_root (inside (named e.name) (places (dropped_if (named e.name ∷ []) (g e.name)))))
        (has_root (inside (named e.name) (places (lost [] g es))))
        (ap (λ x. has_root (inside (named e.name) (places (dropped_if (named e.name ∷ []) x)))) q ∙ lost_here e.name r)
        )

    later : (d : Entry Tree) → IsLost g es d → IsLost g (e ∷ es) d
    later d (inl q) = inl q
    later d (inr q) =
        inr (
        lost_join d.name (dropped_if (named e.name ∷ []) (g e.name)) (lost [] g es)
        ∙ or_right (has_root (inside (named d.name) (places (dropped_if (named e.name ∷ []) (g e.name)))))
        (has_root (inside (named d.name) (places (lost [] g es)))) q
        )

-- there is no reason to drop a member that stays
pub stays_named : (g : List ℕ → Option DropReason) (es : List (Entry Tree)) (ps qs : List Place)
    → ps ≡ join (places (lost [] g es)) qs → Each (λ (e : Entry Tree). stays ps e ≡ true → g e.name ≡ None) es
stays_named g es ps qs is = each_under kept es (each_lost g es)
  where
    kept : (e : Entry Tree) → IsLost g es e → stays ps e ≡ true → g e.name ≡ None
    kept e (inl q) h = q
    kept e (inr q) h =
        let found : has_root (inside (named e.name) ps) ≡ true =
        ap (λ l. has_root (inside (named e.name) l)) is
        ∙ ap has_root (inside_join (named e.name) (places (lost [] g es)) qs)
        ∙ root_join (inside (named e.name) (places (lost [] g es))) (inside (named e.name) qs)
        ∙ or_left (has_root (inside (named e.name) (places (lost [] g es)))) (has_root (inside (named e.name) qs)) q in
        absurd (both_ways (has_root (inside (named e.name) ps)) (not-true (has_root (inside (named e.name) ps)) h) found)

-- what holds for the names of the members that stay holds for those of the members that are left
pub of_left : (P : List ℕ → Type 0) (ps : List Place) (es : List (Entry Tree))
    → Each (λ (e : Entry Tree). stays ps e ≡ true → P e.name) es → Each (λ (e : Entry Tree). P e.name) (left ps es)
of_left P ps [] h = tt
of_left P ps (e ∷ es) h = go (of_left P ps es h.1) (stays ps e) h.0
  where
    go : Each (λ (d : Entry Tree). P d.name) (left ps es) → (b : Bool) → (b ≡ true → P e.name)
        → Each (λ (d : Entry Tree). P d.name) (each (trimmed ps) (cond b (e ∷ only (stays ps) es) (only (stays ps) es)))
    go more true f = (f refl, more)
    go more false f = more

-- ---- the location of a value itself is not that of a dropped member

end_no_root : (p : Place) (s : Step) → is_root (p ++ (s ∷ [])) ≡ false
end_no_root [] s = refl
end_no_root (r ∷ p) s = refl

lost_no_root : (p : Place) (g : List ℕ → Option DropReason) (es : List (Entry Tree))
    → Each (λ q. is_root q ≡ false) (places (lost p g es))
lost_no_root p g [] = tt
lost_no_root p g (e ∷ es) =
    subst (λ l. Each (λ q. is_root q ≡ false) l)
    (sym (each-join (λ (d : Place × DropReason). d.0) (dropped_if (p ++ (named e.name ∷ [])) (g e.name)) (lost p g es)))
    (Each-join (λ q. is_root q ≡ false) (places (dropped_if (p ++ (named e.name ∷ [])) (g e.name))) (places (lost p g es))
    (one (g e.name)) (lost_no_root p g es))
  where
    one : (o : Option DropReason) → Each (λ q. is_root q ≡ false) (places (dropped_if (p ++ (named e.name ∷ [])) o))
    one None = tt
    one (Some r) = (end_no_root p (named e.name), tt)

drops_no_root : (p : Place) (k : Kind) (t : Tree) → Each (λ q. is_root q ≡ false) (places (drops p k t))
drops_no_root p k (object ms) = lost_no_root p (why_dropped k ms) (members_list ms)
drops_no_root p k null = tt
drops_no_root p k (flag b) = tt
drops_no_root p k (whole z) = tt
drops_no_root p k (text t) = tt
drops_no_root p k (list ts) = tt

pub gathered_no_root : (as' : List Asking) → Each (λ q. is_root q ≡ false) (places (gather dropped_at as'))
gathered_no_root [] = tt
gathered_no_root (a ∷ as') =
    subst (λ l. Each (λ q. is_root q ≡ false) l)
    (sym (each-join (λ (d : Place × DropReason). d.0) (dropped_at a) (gather dropped_at as')))
    (Each-join (λ q. is_root q ≡ false) (places (dropped_at a)) (places (gather dropped_at as'))
    (drops_no_root a.place a.kind a.tree) (gathered_no_root as'))

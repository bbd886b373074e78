-- Locations below a step, and values without the members at some locations.
use Rattle.std.proofs.Common.{◌≡◌, ℕ, suc, Bool, true, false, not, cond, ◌||◌, List, [], ◌∷◌, refl, sym, ap, ◌∙◌, eq-eqb}
use Rattle.openapi_node.specs.Place.{Place, Step, named, indexed}
use Rattle.openapi_node.specs.Tree.{Tree, null, flag, whole, text, list, object, text_in, Items, no_items, item, Members, no_members, member}
use Rattle.openapi_tables.specs.Lists.{each, join, only}
use Rattle.openapi_tables.specs.Kind.{Row, takes}
use Rattle.openapi_tables.specs.Members.{is_null, own}
use Rattle.openapi_tables.specs.Tree.{Entry, members_of}
use Rattle.openapi_tables.proofs.ListLaws.{Each, join_assoc, only-each, same_text-refl}
use Rattle.openapi_faults.specs.Without.{behind_step, has_root, inside, is_root, items_without, members_without, same_step, without}

same_step-refl : (s : Step) → same_step s s ≡ true
same_step-refl (named n) = same_text-refl n
same_step-refl (indexed i) = eq-eqb i i refl

pub inside_join : (s : Step) (ps qs : List Place) → inside s (join ps qs) ≡ join (inside s ps) (inside s qs)
inside_join s [] qs = refl
inside_join s (p ∷ ps) qs =
    ap (λ l. join (behind_step s p) l) (inside_join s ps qs) ∙ sym (join_assoc (behind_step s p) (inside s ps) (inside s qs))

pub inside_below : (s : Step) (ps : List Place) → inside s (each (λ p. s ∷ p) ps) ≡ ps
inside_below s [] = refl
inside_below s (p ∷ ps) =
    ap (λ b. join (cond b (p ∷ []) []) (inside s (each (λ q. s ∷ q) ps))) (same_step-refl s)
    ∙ ap (λ l. p ∷ l) (inside_below s ps)

pub inside_none : (s : Step) (ps : List Place) → Each (λ p. behind_step s p ≡ []) ps → inside s ps ≡ []
inside_none s [] h = refl
inside_none s (p ∷ ps) h = ap (λ l. join l (inside s ps)) h.0 ∙ inside_none s ps h.1

-- `||` is associative
pub or_group : (a b c : Bool) → (a || (b || c)) ≡ ((a || b) || c)
or_group true b c = refl
or_group false b c = refl

pub root_join : (ps qs : List Place) → has_root (join ps qs) ≡ (has_root ps || has_root qs)
root_join [] qs = refl
root_join (p ∷ ps) qs = ap (λ b. is_root p || b) (root_join ps qs) ∙ or_group (is_root p) (has_root ps) (has_root qs)

pub no_root : (ps : List Place) → Each (λ p. is_root p ≡ false) ps → has_root ps ≡ false
no_root [] h = refl
no_root (p ∷ ps) h = ap (λ b. b || has_root ps) h.0 ∙ no_root ps h.1

-- ---- values

mutual
  pub without_none : (t : Tree) → without [] t ≡ t
  without_none (list ts) = ap list (items_none 0 ts)
  without_none (object ms) = ap object (members_none ms)
  without_none null = refl
  without_none (flag b) = refl
  without_none (whole z) = refl
  without_none (text s) = refl

  items_none : (i : ℕ) (ts : Items) → items_without [] i ts ≡ ts
  items_none i no_items = refl
  items_none i (item t ts) =
      ap (λ u. item u (items_without [] (suc i) ts)) (without_none t) ∙ ap (λ us. item t us) (items_none (suc i) ts)

  members_none : (ms : Members) → members_without [] ms ≡ ms
  members_none no_members = refl
  members_none (member n t ms) =
      ap (λ u. member n u (members_without [] ms)) (without_none t) ∙ ap (λ us. member n t us) (members_none ms)

pub null_same : (ps : List Place) (t : Tree) → is_null (without ps t) ≡ is_null t
null_same ps (list ts) = refl
null_same ps (object ms) = refl
null_same ps null = refl
null_same ps (flag b) = refl
null_same ps (whole z) = refl
null_same ps (text s) = refl

pub text_same : (ps : List Place) (t : Tree) → text_in (without ps t) ≡ text_in t
text_same ps (list ts) = refl
text_same ps (object ms) = refl
text_same ps null = refl
text_same ps (flag b) = refl
text_same ps (whole z) = refl
text_same ps (text s) = refl

-- ---- members

-- whether a member stays
abbrev pub stays : List Place → Entry Tree → Bool
stays ps e = not (has_root (inside (named e.name) ps))

-- a member without the members at some locations inside its value
abbrev pub trimmed : List Place → Entry Tree → Entry Tree
trimmed ps e = record { name = e.name; value = without (inside (named e.name) ps) e.value }

-- the members that stay, each without the members at these locations
abbrev pub left : List Place → List (Entry Tree) → List (Entry Tree)
left ps es = each (trimmed ps) (only (stays ps) es)

pub members_left : (ps : List Place) (es : List (Entry Tree)) → members_without ps (members_of es) ≡ members_of (left ps es)
members_left ps [] = refl
members_left ps (e ∷ es) = go (members_left ps es) (has_root (inside (named e.name) ps))
  where
    go : members_without ps (members_of es) ≡ members_of (left ps es) → (b : Bool) → cond b (members_without ps (members_of es))
        (member e.name (without (inside (named e.name) ps) e.value) (members_without ps (members_of es)))
        ≡ members_of (each (trimmed ps) (cond (not b) (e ∷ only (stays ps) es) (only (stays ps) es)))
    go more true = more
    go more false = ap (λ ms. member e.name (without (inside (named e.name) ps) e.value) ms) more

pub left_first : (ps : List Place) (e : Entry Tree) (l : List (Entry Tree)) → stays ps e ≡ true
    → left ps (e ∷ l) ≡ trimmed ps e ∷ left ps l
left_first ps e l h = ap (λ b. each (trimmed ps) (cond b (e ∷ only (stays ps) l) (only (stays ps) l))) h

only_cond : {A : Type 0} → (p : A → Bool) (b : Bool) (x : A) (l : List A)
    → only p (cond b (x ∷ l) l) ≡ cond b (cond (p x) (x ∷ only p l) (only p l)) (only p l)
only_cond p true x l = refl
only_cond p false x l = refl

two_conds : {A : Type 0} → (b c : Bool) (x : A) (l : List A) → cond b (cond c (x ∷ l) l) l ≡ cond c (cond b (x ∷ l) l) l
two_conds true true x l = refl
two_conds true false x l = refl
two_conds false true x l = refl
two_conds false false x l = refl

only_only : {A : Type 0} → (p q : A → Bool) (xs : List A) → only p (only q xs) ≡ only q (only p xs)
only_only p q [] = refl
only_only p q (x ∷ xs) =
    only_cond p (q x) x (only q xs)
    ∙ ap (λ l. cond (q x) (cond (p x) (x ∷ l) l) l) (only_only p q xs)
    ∙ two_conds (q x) (p x) x (only q (only p xs))
    ∙ sym (only_cond q (p x) x (only p xs))

-- a row takes from the members that are left what is left of those that it takes
pub own_left : (ps : List Place) (w : Row) (es : List (Entry Tree)) → own w (left ps es) ≡ left ps (own w es)
own_left ps w es =
    only-each (λ (e : Entry Tree). takes w e.name) (trimmed ps) (only (stays ps) es)
    ∙ ap (λ l. each (trimmed ps) l) (only_only (λ (e : Entry Tree). takes w e.name) (stays ps) es)

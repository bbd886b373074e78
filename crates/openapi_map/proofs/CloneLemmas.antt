-- Clones of the contents of a map, and of its entries.
use Rattle.std.proofs.Common.{◌≡◌, ℕ, List, [], ◌∷◌, Option, Some, None, Vec, String, string_bytes, refl, ◌∙◌, get_or, length}
use Rattle.std.proofs.Common.{slice_index, vec_len, sym, ap, arith}
use Rattle.std.proofs.lemmas.List.Elements.{same_from_all_zip}
use Rattle.std.specs.List.{AllZip, zip}
use Rattle.std.specs.declared.alloc.Global.{Global}
use Rattle.std.specs.declared.boxed.Box.{Box}
use Rattle.std.proofs.Common.{subst}
use Rattle.std.specs.List.{IsDistinct}
use Rattle.std.specs.Str.{bytes_eq}
use Rattle.openapi_map.specs.Held.{held_entries, kept, IsConsistent, IsHeldConsistent}
use Rattle.openapi_map.specs.declared.Held.{Held}
use Rattle.openapi_map.specs.Entries.{names_of, HasDistinctNames, IsCloneOf}
use Rattle.openapi_map.specs.Index.{AreMarked, IsIndex, IsIndexAt, bucket, link_at}
use Rattle.openapi_map.proofs.HeldLemmas.{held_names}
use Rattle.openapi_map.specs.declared.index.NameIndex.{NameIndex}
use Rattle.openapi_map.specs.declared.lookup.Finder.{Finder}
use Rattle.openapi_map.specs.declared.lookup.Finder.TheVariants.{Few, Many}

-- clones of names are the same names
abbrev pub IsNameClone : String Global → String Global → Type 0
IsNameClone n m = string_bytes m ≡ string_bytes n

names_of-clone : (ns ms : List (String Global)) → AllZip IsNameClone ns ms → names_of ms ≡ names_of ns
names_of-clone [] [] h = refl
names_of-clone [] (m ∷ ms) h = absurd h
names_of-clone (n ∷ ns) [] h = absurd h
names_of-clone (n ∷ ns) (m ∷ ms) h = λ i. h.0 i ∷ names_of-clone ns ms h.1 i

-- clones of values, beside the same names
zip-clone : {V : Type 0} (C : V → V → Type 0) (ks : List (List ℕ)) (vs ws : List V) → AllZip C vs ws
    → IsCloneOf C (zip ks vs) (zip ks ws)
zip-clone C [] vs ws h = tt
zip-clone C (k ∷ ks) [] [] h = tt
zip-clone C (k ∷ ks) [] (w ∷ ws) h = absurd h
zip-clone C (k ∷ ks) (v ∷ vs) [] h = absurd h
zip-clone C (k ∷ ks) (v ∷ vs) (w ∷ ws) h = ((refl, h.0), zip-clone C ks vs ws h.1)

-- clones of links are the same links
abbrev AreLinkClones : Vec ℕ Global → Vec ℕ Global → Type 0
AreLinkClones v w = AllZip (λ x y. y ≡ x) v.items w.items × (vec_len w ≡ vec_len v)

abbrev AreLinksCloned : NameIndex → NameIndex → Type 0
AreLinksCloned i j = AreLinkClones i.heads j.heads × AreLinkClones i.next j.next

IsIndex-clone : (names : List (List ℕ)) (i j : NameIndex) → AreLinksCloned i j → IsIndex names i → IsIndex names j
IsIndex-clone names i j h is =
    let heads = same_from_all_zip (λ x y. y ≡ x) i.heads.items j.heads.items h.0.0 (λ x y e. e) in
    let next = same_from_all_zip (λ x y. y ≡ x) i.next.items j.next.items h.1.0 (λ x y e. e) in
    let buckets = h.0.1 in
    record {
      some_bucket = omega (arith, is.some_bucket, buckets);
      heads = λ b l. ap (λ xs. slice_index xs b) heads ∙ is.heads b (omega (arith, l, buckets))
          ∙ ap (λ n. link_at n b names (length names)) (sym buckets);
      len = h.1.1 ∙ is.len;
      next = λ p l. ap (λ xs. slice_index xs p) next ∙ is.next p l
          ∙ ap (λ n. link_at n (bucket n (get_or names p [])) names p) (sym buckets);
    }

-- both have the same marks, or the second has a clone of the first's index
abbrev pub IsFinderClone : Finder → Finder → Type 0
IsFinderClone (Few m) (Few n) = n ≡ m
IsFinderClone (Few m) (Many c) = ⊥
IsFinderClone (Many b) (Few n) = ⊥
IsFinderClone (Many b) (Many c) = AreLinkClones b.value.heads c.value.heads × AreLinkClones b.value.next c.value.next

-- a clone of a finder finds the same names
IsIndexAt-clone : (names : List (List ℕ)) (a b : Finder) → IsFinderClone a b → IsIndexAt names a → IsIndexAt names b
IsIndexAt-clone names (Few m) (Few n) h is = subst (AreMarked names) (sym h) is
IsIndexAt-clone names (Few m) (Many c) h is = absurd h
IsIndexAt-clone names (Many b) (Few n) h is = absurd h
IsIndexAt-clone names (Many b) (Many c) h is = IsIndex-clone names b.value c.value h is

module _ {V : Type 0} (C : V → V → Type 0) where
  -- the second has clones of the first's names, values and finder
  abbrev pub IsColumnsClone : Held V → Held V → Type 0
  IsColumnsClone b c =
      (AllZip IsNameClone b.names.items c.names.items × (vec_len c.names ≡ vec_len b.names))
      × ((AllZip C b.values.items c.values.items × (vec_len c.values ≡ vec_len b.values))
      × IsFinderClone b.finder c.finder)

  -- both maps have contents, and the second has clones of the first's, or neither has contents
  abbrev pub IsHeldClone : Option (Box (Held V) Global) → Option (Box (Held V) Global) → Type 0
  IsHeldClone None None = Unit {0}
  IsHeldClone None (Some c) = ⊥
  IsHeldClone (Some b) None = ⊥
  IsHeldClone (Some b) (Some c) = IsColumnsClone b.value c.value

  -- the clone has the names, finds them, and has clones of the values
  pub kept-clone : (a b : Option (Box (Held V) Global)) → IsHeldClone a b
      → HasDistinctNames (kept a) × IsHeldConsistent a
      → (HasDistinctNames (kept b) × IsHeldConsistent b) × IsCloneOf C (kept a) (kept b)
  kept-clone None None h is = (is, tt)
  kept-clone None (Some c) h is = absurd h
  kept-clone (Some b) None h is = absurd h
  kept-clone (Some b) (Some c) h is =
      let k = b.value in
      let l = c.value in
      let names = sym (names_of-clone k.names.items l.names.items h.0.0) in
      let cloned = subst (λ ns. IsCloneOf C (held_entries k) (zip ns l.values.items)) names
      (zip-clone C (names_of k.names.items) k.values.items l.values.items h.1.0.0) in
      let consistent : IsConsistent l = record {
        even = omega (arith, h.0.1, h.1.0.1, is.1.even, k.names.ok.0, k.values.ok.0, l.names.ok.0, l.values.ok.0);
        index = subst (λ ns. IsIndexAt ns l.finder) names
            (IsIndexAt-clone (names_of k.names.items) k.finder l.finder h.1.1 is.1.index);
      } in
      let keys = sym (held_names k is.1) ∙ names ∙ held_names l consistent in
      ((subst (IsDistinct bytes_eq) keys is.0, consistent), cloned)

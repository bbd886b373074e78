-- A list of entries as a `Former` of its values.
use Rattle.std.specs.Prelude.{◌≡◌, ℕ, suc, length, max, Bool, true, false, cond, ◌&&◌, List, [], ◌∷◌, map, Option, Some, None}
use Rattle.std.specs.Prelude.{String}
use Rattle.std.specs.HashMap.{entries_eq}
use Rattle.std.specs.Int.{bit_at}
use Rattle.std.specs.List.{IsDistinct-prop, list_all, zip}
use Rattle.std.specs.Map.{keys_of, values_of, lookup_entry}
use Rattle.std.specs.Option.{option_eq, option_map}
use Rattle.std.specs.Str.{bytes_eq}
use Rattle.std.specs.declared.alloc.Global.{Global}
use Rattle.std.specs.declared.boxed.Box.{Box}
use Rattle.std.proofs.Math.Bridge.{le_prop}
use Rattle.std.proofs.Math.Nat.{ℕ_set}
use native.Mathlib.Omega.{arith}
use mathlib.Core.Path.{refl, sym, ap, ◌∙◌}
use mathlib.Core.HLevel.{×_prop}
use mathlib.Core.Former.{Former, Count, Row, one_more, this, const, pair, list, list_count, list_put, children}
use base.Stored.{code_map, coded×, coded_list, coded_ℕ, gcons}
use denote.RattleType.{RattleType}
use denote.HolePlaces.{Recodes}
use denote.Hole.Carrier.{listed}
use denote.Model.Placed.{held}
use denote.Param.Nested.{deepest}
use denote.Param.Weighed.{Weighed, most, none_max, List-puts, w_pair, w_const}
use Rattle.openapi_map.specs.Entries.{Entries, HasDistinctNames, names_of}
use Rattle.openapi_map.specs.Index.{AreMarked, IsIndex, IsIndexAt, mark}
use Rattle.openapi_map.specs.Held.{kept, IsConsistent, IsHeldConsistent}
use Rattle.openapi_map.specs.declared.Held.{Held}
use Rattle.openapi_map.specs.declared.index.NameIndex.{NameIndex}
use Rattle.openapi_map.specs.declared.lookup.Finder.{Finder}
use Rattle.openapi_map.specs.declared.lookup.Finder.TheVariants.{Few, Many}

-- a name beside one of the values of `g`
abbrev pub entry : Former {0} → Former {0}
entry g = pair (const (List ℕ)) g

-- the entry, with `h` applied to its value
abbrev pub on_value : {X Y : Type 0} → (X → Y) → List ℕ × X → List ℕ × Y
on_value h p = (p.0, h p.1)

-- names add nothing to the weight of entries
most_values : {Y : Type 0} (f : Y → ℕ) (es : Entries Y) → most (λ p. max 0 (f p.1)) es ≡ most f (values_of es)
most_values f [] = refl
most_values f (e ∷ es) = λ i. max (sym (none_max (f e.1)) i) (most_values f es i)

pub entries_puts : {g : Former {0}} (w : Weighed g) (X : Type 0) (μ : X → ℕ) (es : Entries (g.Of X)) (n : Count)
    (t : Row X n) → deepest μ (list_count (entry g) (map ((entry g).shape X) es) n) (list_put (entry g) X es n t)
    ≡ max (most (w.weight X μ) (values_of es)) (deepest μ n t)
entries_puts w X μ es n t =
    List-puts (w_pair (w_const (List ℕ)) w) X μ es n t
    ∙ ap (λ a. max a (deepest μ n t)) (most_values (w.weight X μ) es)

pub values_listed : (X : Type 0) (es : Entries X) → listed _ (children (list (entry this)) X es) ≡ values_of es
values_listed X [] = refl
values_listed X (e ∷ es) = ap (λ l. e.1 ∷ l) (values_listed X es)

pub entries_recoded : (R R' : RattleType) (h : R.Denot → R'.Denot) → Recodes R R' h → (es : Entries R.Denot)
    → (coded_list (coded× (coded_list coded_ℕ) R'.coded)).code (map (on_value h) es)
    ≡ (coded_list (coded× (coded_list coded_ℕ) R.coded)).code es
entries_recoded R R' h e es =
    let code = (coded× (coded_list coded_ℕ) R.coded).code in
    let code' = (coded× (coded_list coded_ℕ) R'.coded).code in
    sym (code_map code code' (on_value h) (λ x i. gcons ((coded_list coded_ℕ).code x.0) (sym (e x.1) i)) es)

-- mapping values before they are zipped with names is the same as mapping the entries afterwards
pub zip-map : {X Y : Type 0} (h : X → Y) (ns : List (List ℕ)) (vs : List X)
    → zip ns (map h vs) ≡ map (on_value h) (zip ns vs)
zip-map h [] vs = refl
zip-map h (n ∷ ns) [] = refl
zip-map h (n ∷ ns) (v ∷ vs) = ap (λ l. (n, h v) ∷ l) (zip-map h ns vs)

pub zip-held : (X : Type 0) (ns : List (List ℕ)) (vs : List X) → length vs ≡ length ns
    → held (list (entry this)) X (zip ns vs) ≡ held (list this) X vs
zip-held X [] [] e = refl
zip-held X [] (v ∷ vs) e = absurd (omega (arith, e))
zip-held X (n ∷ ns) [] e = absurd (omega (arith, e))
zip-held X (n ∷ ns) (v ∷ vs) e =
    let rest = zip-held X ns vs (omega (arith, e)) in
    λ i. (one_more (rest i).0, (v, (rest i).1))

pub length-names_of : (ns : List (String Global)) → length (names_of ns) ≡ length ns
length-names_of [] = refl
length-names_of (n ∷ ns) = ap suc (length-names_of ns)

pub IsIndex-prop : (names : List (List ℕ)) (index : NameIndex) → IsProp (IsIndex names index)
IsIndex-prop names index = hlevel (le_prop, ℕ_set)

AreMarked-prop : (names : List (List ℕ)) (marks : ℕ) → IsProp (AreMarked names marks)
AreMarked-prop [] marks = λ p q. refl
AreMarked-prop (n ∷ ns) marks = ×_prop (ℕ_set (bit_at marks (mark n)) 1) (AreMarked-prop ns marks)

pub IsIndexAt-prop : (names : List (List ℕ)) (found : Finder) → IsProp (IsIndexAt names found)
IsIndexAt-prop names (Few marks) = AreMarked-prop names marks
IsIndexAt-prop names (Many b) = IsIndex-prop names b.value

IsConsistent-prop : {X : Type 0} (h : Held X) → IsProp (IsConsistent h)
IsConsistent-prop h p q = λ i. record {
  even = ℕ_set _ _ p.even q.even i;
  index = IsIndexAt-prop (names_of h.names.items) h.finder p.index q.index i;
}

-- the invariant of the contents of a map
abbrev pub IsKept : {X : Type 0} → Option (Box (Held X) Global) → Type 0
IsKept o = HasDistinctNames (kept o) × IsHeldConsistent o

IsHeldConsistent-prop : {X : Type 0} (o : Option (Box (Held X) Global)) → IsProp (IsHeldConsistent o)
IsHeldConsistent-prop None = λ p q. refl
IsHeldConsistent-prop (Some b) = IsConsistent-prop b.value

pub IsKept-prop : {X : Type 0} (o : Option (Box (Held X) Global)) → IsProp (IsKept o)
IsKept-prop o = ×_prop (IsDistinct-prop bytes_eq (keys_of (kept o))) (IsHeldConsistent-prop o)

-- whether both entries exist and have equal values, or neither exists
abbrev agree : {V : Type 0} → (V → V → Bool) → Option (List ℕ × V) → Option (List ℕ × V) → Bool
agree eq = option_eq (λ e f. eq e.1 f.1)

-- whether the entries of each of the names agree
abbrev agree_at : {V : Type 0} → (V → V → Bool) → Entries V → Entries V → List (List ℕ) → Bool
agree_at eq es fs =
    list_all (λ name. agree eq (lookup_entry (bytes_eq name) es) (lookup_entry (bytes_eq name) fs))

module _ {X Y : Type 0} (h : X → Y) where
  -- choosing an entry commutes with mapping its value
  chosen-map : (b : Bool) (e : List ℕ × X) (rest : Option (List ℕ × X))
      → cond b (Some (on_value h e)) (option_map (on_value h) rest)
      ≡ option_map (on_value h) (cond b (Some e) rest)
  chosen-map true e rest = refl
  chosen-map false e rest = refl

  -- the entry of a name among mapped entries is the entry of that name, mapped
  found-map : (name : List ℕ) (es : Entries X)
      → lookup_entry (bytes_eq name) (map (on_value h) es)
      ≡ option_map (on_value h) (lookup_entry (bytes_eq name) es)
  found-map name [] = refl
  found-map name (e ∷ es) =
      ap (λ rest. cond (bytes_eq name e.0) (Some (on_value h e)) rest) (found-map name es)
      ∙ chosen-map (bytes_eq name e.0) e (lookup_entry (bytes_eq name) es)

  -- mapping the values keeps the names
  pub keys_of-map : (es : Entries X) → keys_of (map (on_value h) es) ≡ keys_of es
  keys_of-map [] = refl
  keys_of-map (e ∷ es) = ap (λ names. e.0 ∷ names) (keys_of-map es)

  module _ (eq : Y → Y → Bool) where
    -- whether two values are equal after they are mapped
    abbrev eq_after : X → X → Bool
    eq_after x y = eq (h x) (h y)

    -- mapped entries agree exactly if the entries agree by their mapped values
    agree-map : (p q : Option (List ℕ × X))
        → agree eq (option_map (on_value h) p) (option_map (on_value h) q) ≡ agree eq_after p q
    agree-map None None = refl
    agree-map None (Some f) = refl
    agree-map (Some e) None = refl
    agree-map (Some e) (Some f) = refl

    module _ (es fs : Entries X) where
      -- the same at each of the names
      agree_at-map : (names : List (List ℕ))
          → agree_at eq (map (on_value h) es) (map (on_value h) fs) names ≡ agree_at eq_after es fs names
      agree_at-map [] = refl
      agree_at-map (name ∷ names) =
          let p = lookup_entry (bytes_eq name) es in
          let q = lookup_entry (bytes_eq name) fs in
          let first = (λ i. agree eq (found-map name es i) (found-map name fs i)) ∙ agree-map p q in
          λ i. first i && agree_at-map names i

      -- two maps of mapped values are equal exactly if the maps are equal by their mapped values
      pub entries_eq-map : entries_eq bytes_eq (λ e f. eq e.1 f.1) (map (on_value h) es) (map (on_value h) fs)
          ≡ entries_eq bytes_eq (λ e f. eq_after e.1 f.1) es fs
      unfolding entries_eq
      entries_eq-map =
          let mapped = agree_at eq (map (on_value h) es) (map (on_value h) fs) in
          λ i. (ap mapped (keys_of-map es) ∙ agree_at-map (keys_of es)) i
          && (ap mapped (keys_of-map fs) ∙ agree_at-map (keys_of fs)) i

-- A map that grows entry by entry: its keys stay distinct, and entries with distinct keys stay as they are.
use Rattle.std.proofs.Common.{Bool, true, false, cond, List, [], ◌∷◌, ◌≡◌, refl, sym, ap, ◌∙◌, subst}
use Rattle.openapi_tables.specs.Prelude.{join, Key, Pair, same_key, put, put_all, gather, Class, status_names}
use Rattle.openapi_tables.proofs.ListLaws.{Each, join-nil, join_assoc}

-- no entry of a list has the same key as n
abbrev pub Lacks : {X : Type 0} → Key → List (Pair X) → Type 0
Lacks {X} n es = Each (λ (e : Pair X). same_key e.key n ≡ false) es

-- no entry has the key of a later one
abbrev pub Distinct : {X : Type 0} → List (Pair X) → Type 0
Distinct [] = Unit {0}
Distinct {X} (e ∷ es) = Each (λ (d : Pair X). same_key e.key d.key ≡ false) es × Distinct es

put_cond : {X : Type 0} → (b : Bool) (u v : List (Pair X)) → b ≡ false → cond b u v ≡ v
put_cond b u v h = ap (λ c. cond c u v) h

pub put_new : {X : Type 0} → (n : Key) (x : X) (m : List (Pair X)) → Lacks n m
    → put n x m ≡ join m (record { key = n; value = x } ∷ [])
put_new n x [] h = refl
put_new n x (e ∷ m) h = put_cond (same_key e.key n) _ _ h.0 ∙ ap (λ l. e ∷ l) (put_new n x m h.1)

at_place : {X : Type 0} → (d : Pair X) (l : List (Pair X)) (a : Pair X) (z : List (Pair X))
    → Each (λ (c : Pair X). same_key d.key c.key ≡ false) (join l (a ∷ z)) → same_key d.key a.key ≡ false
at_place d [] a z g = g.0
at_place d (c ∷ l) a z g = at_place d l a z g.1

lacks_front : {X : Type 0} → (m : List (Pair X)) (e : Pair X) (es : List (Pair X)) → Distinct (join m (e ∷ es))
    → Lacks e.key m
lacks_front [] e es h = tt
lacks_front (d ∷ m) e es h = (at_place d m e es h.0, lacks_front m e es h.1)

pub put_all-distinct : {X : Type 0} → (m es : List (Pair X)) → Distinct (join m es) → put_all m es ≡ join m es
put_all-distinct m [] h = sym (join-nil m)
put_all-distinct {X} m (e ∷ es) h =
    ap (λ l. put_all l es) (put_new e.key e.value m (lacks_front m e es h))
    ∙ put_all-distinct (join m (e ∷ [])) es
    (subst (λ (l : List (Pair X)). Distinct l) (sym (join_assoc m (e ∷ []) es)) h)
    ∙ join_assoc m (e ∷ []) es

either_way : {A : Type 0} → (P : A → Type 0) (b : Bool) (u v : A) → (b ≡ true → P u) → (b ≡ false → P v)
    → P (cond b u v)
either_way P true u v h g = h refl
either_way P false u v h g = g refl

apart_put : {X : Type 0} → (k n : Key) (x : X) (m : List (Pair X)) → same_key k n ≡ false
    → Each (λ (d : Pair X). same_key k d.key ≡ false) m → Each (λ (d : Pair X). same_key k d.key ≡ false) (put n x m)
apart_put k n x [] h g = (h, tt)
apart_put {X} k n x (e ∷ m) h g =
    either_way (λ (l : List (Pair X)). Each (λ (d : Pair X). same_key k d.key ≡ false) l) (same_key e.key n)
    (record { key = e.key; value = x } ∷ m) (e ∷ put n x m) (λ b. g) (λ b. (g.0, apart_put k n x m h g.1))

pub Distinct-put : {X : Type 0} → (n : Key) (x : X) (m : List (Pair X)) → Distinct m → Distinct (put n x m)
Distinct-put n x [] g = (tt, tt)
Distinct-put {X} n x (e ∷ m) g =
    either_way (λ (l : List (Pair X)). Distinct l) (same_key e.key n) (record { key = e.key; value = x } ∷ m)
    (e ∷ put n x m) (λ b. g) (λ b. (apart_put e.key n x m b g.0, Distinct-put n x m g.1))

-- a map with distinct keys has distinct keys after any entries are put into it
pub Distinct-put_all : {X : Type 0} → (m es : List (Pair X)) → Distinct m → Distinct (put_all m es)
Distinct-put_all m [] g = g
Distinct-put_all m (e ∷ es) g = Distinct-put_all (put e.key e.value m) es (Distinct-put e.key e.value m g)

-- `K` holds for the key of an entry, and `V` for its value
abbrev pub Both : {X : Type 0} → (Key → Type 0) → (X → Type 0) → Pair X → Type 0
Both K V e = K e.key × V e.value

pub Both-put : {X : Type 0} → (K : Key → Type 0) (V : X → Type 0) (n : Key) (x : X) (m : List (Pair X)) → K n → V x
    → Each (Both K V) m → Each (Both K V) (put n x m)
Both-put K V n x [] k v h = ((k, v), tt)
Both-put {X} K V n x (e ∷ m) k v h =
    either_way (λ (l : List (Pair X)). Each (Both K V) l) (same_key e.key n) (record { key = e.key; value = x } ∷ m)
    (e ∷ put n x m) (λ b. ((h.0.0, v), h.1)) (λ b. (h.0, Both-put K V n x m k v h.1))

pub Both-put_all : {X : Type 0} → (K : Key → Type 0) (V : X → Type 0) (m es : List (Pair X)) → Each (Both K V) m
    → Each (Both K V) es → Each (Both K V) (put_all m es)
Both-put_all K V m [] h g = h
Both-put_all K V m (e ∷ es) h g =
    Both-put_all K V (put e.key e.value m) es (Both-put K V e.key e.value m g.0.0 g.0.1 h) g.1

-- what holds for the keys and values of entries holds for those of the entries that a class gathers
pub Both-gather : {X : Type 0} → (K : Key → Type 0) (V : X → Type 0) (c : Class) (es : List (Pair X))
    → Each (Both K V) es → Each (Both K V) (gather c es)
Both-gather K V status_names es h = Both-put_all K V [] es tt h
Both-gather K V c es h = h

-- if the entries of the class are gathered into a map, they have distinct keys
abbrev pub Gathered : {X : Type 0} → Class → List (Pair X) → Type 0
Gathered status_names es = Distinct es
Gathered _ es = Unit {0}

-- the entries that a class has gathered have distinct keys, if it gathers them into a map
pub Gathered-gather : {X : Type 0} → (c : Class) (es : List (Pair X)) → Gathered c (gather c es)
Gathered-gather status_names es = Distinct-put_all [] es tt
Gathered-gather c es = tt

-- gathering leaves entries unchanged if the class is not gathered into a map, or the entries have distinct keys
pub gather-gathered : {X : Type 0} → (c : Class) (es : List (Pair X)) → Gathered c es → gather c es ≡ es
gather-gathered status_names es h = put_all-distinct [] es h
gather-gathered c es h = refl

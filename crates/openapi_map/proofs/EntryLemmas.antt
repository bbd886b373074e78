-- The entries of a map: what the code stores for them, the place of a name, and one entry after another.
use Rattle.std.proofs.Common.{◌≡◌, ℕ, zero, suc, ◌+◌, ◌<◌, Bool, false, cond, not, List, [], ◌∷◌, ◌++◌, length}
use Rattle.std.proofs.Common.{get_or, set, remove, position, slice_get, Option, Some, None, is_some, nat_lt, String, string_bytes}
use Rattle.std.proofs.Common.{take, drop, drop-cons, refl, sym, ap, subst, ◌∙◌, arith, true≢false}
use Rattle.std.proofs.lemmas.List.{take-append-drop, take_more}
use Rattle.std.proofs.lemmas.Map.Made.{is_some-lookup}
use Rattle.std.proofs.lemmas.Option.{slice_get_within, get_or_from_slice_get}
use Rattle.std.specs.Cmp.Lexicographic.{nat_list_eq_equiv}
use Rattle.std.specs.List.{list_any, position_or_len, swap, zip}
use Rattle.std.specs.Map.{keys_of, values_of}
use Rattle.std.specs.Str.{bytes_eq}
use Rattle.std.specs.declared.alloc.Global.{Global}
use Rattle.indexmap.proofs.MapLemmas.{Found-position, insert_entry-first, insert_entry-absent, absent_from_lookup}
use Rattle.indexmap.proofs.MapLemmas.{absent_before, some_index}
use Rattle.indexmap.specs.IndexMap.{set_value_at}
use Rattle.openapi_map.specs.Entries.{Entries, entries_of, names_of, get, insert_entry, HasDistinctNames}
use Rattle.openapi_map.specs.Former.{length-names_of}
use Rattle.openapi_map.proofs.ZipLemmas.{length-keys_of, length-values_of, zip-columns}

-- ---- names as bytes
-- the name at a place
pub name-get_or : (ns : List (String Global)) (i : ℕ) (d : String Global) → i < length ns
    → get_or (names_of ns) i [] ≡ string_bytes (get_or ns i d)
name-get_or [] i d h = absurd (omega arith)
name-get_or (n ∷ ns) zero d h = refl
name-get_or (n ∷ ns) (suc i) d h = name-get_or ns i d (omega arith)

-- the names before a place, followed by the one there, are the names up to it
names-next : (ns : List (String Global)) (i : ℕ) (d : String Global) → i < length ns
    → take i (names_of ns) ++ string_bytes (get_or ns i d) ∷ [] ≡ take (i + 1) (names_of ns)
names-next ns i d h =
    let names = names_of ns in
    ap (λ x. take i names ++ x ∷ []) (sym (name-get_or ns i d h))
    ∙ sym (take_more names i [] (omega (arith, h, length-names_of ns)))

-- the same for a name given as bytes, if the names are those of a list that is iterated over
pub names-longer : (ns : List (String Global)) (i : ℕ) (n : String Global) {items : List (String Global)} {name : List ℕ}
    → items ≡ ns → i < length items → n ≡ get_or items i n → name ≡ string_bytes n
    → take i (names_of ns) ++ name ∷ [] ≡ take (i + 1) (names_of ns)
names-longer ns i n items h is name =
    ap (λ x. take i (names_of ns) ++ x ∷ [])
    (name ∙ ap string_bytes (is ∙ ap (λ xs. get_or xs i n) items))
    ∙ names-next ns i n (omega (arith, h, ap length items))

-- a name that is appended
pub names_of-push : (ns : List (String Global)) (n : String Global)
    → names_of (ns ++ n ∷ []) ≡ names_of ns ++ string_bytes n ∷ []
names_of-push [] n = refl
names_of-push (x ∷ ns) n = ap (λ r. string_bytes x ∷ r) (names_of-push ns n)

-- a name that is removed
pub names_of-remove : (ns : List (String Global)) (i : ℕ) → names_of (remove ns i) ≡ remove (names_of ns) i
names_of-remove (n ∷ ns) (suc i) = ap (λ r. string_bytes n ∷ r) (names_of-remove ns i)
names_of-remove ns zero = refl
names_of-remove ns i = refl

names_of-set : (ns : List (String Global)) (i : ℕ) (n : String Global)
    → names_of (set ns i n) ≡ set (names_of ns) i (string_bytes n)
names_of-set [] i n = refl
names_of-set (x ∷ ns) zero n = refl
names_of-set (x ∷ ns) (suc i) n = ap (λ r. string_bytes x ∷ r) (names_of-set ns i n)

pub names_of-get_or : (ns : List (String Global)) (i : ℕ) (d : String Global)
    → string_bytes (get_or ns i d) ≡ get_or (names_of ns) i (string_bytes d)
names_of-get_or [] i d = refl
names_of-get_or (n ∷ ns) zero d = refl
names_of-get_or (n ∷ ns) (suc i) d = names_of-get_or ns i d

-- names that are swapped
pub names_of-swap : (ns : List (String Global)) (i j : ℕ) → names_of (swap ns i j) ≡ swap (names_of ns) i j
names_of-swap [] i j = refl
names_of-swap (n ∷ ns) i j =
    let ms = n ∷ ns in
    names_of-set (set ms i (get_or ms j n)) j (get_or ms i n)
    ∙ ap (λ l. set l j (string_bytes (get_or ms i n))) (names_of-set ms i (get_or ms j n))
    ∙ (λ k. set (set (names_of ms) i (names_of-get_or ms j n k)) j (names_of-get_or ms i n k))

pub names_of-take : (k : ℕ) (ns : List (String Global)) → names_of (take k ns) ≡ take k (names_of ns)
names_of-take zero ns = refl
names_of-take (suc k) [] = refl
names_of-take (suc k) (n ∷ ns) = ap (λ r. string_bytes n ∷ r) (names_of-take k ns)

-- a name has the same place among names as bytes
pub position-names_of : (t : List ℕ → Bool) (ns : List (String Global))
    → position (λ n. t (string_bytes n)) ns ≡ position t (names_of ns)
position-names_of t ns = λ i. cond (nat_lt (places ns i) (sym (length-names_of ns) i)) (Some (places ns i)) None
  where
    places : (ms : List (String Global)) → position_or_len (λ n. t (string_bytes n)) ms ≡ position_or_len t (names_of ms)
    places [] = refl
    places (n ∷ ms) = ap (λ p. cond (not (t (string_bytes n))) (1 + p) 0) (places ms)

-- ---- names and values that are those of entries
module _ {V : Type 0} (ns : List (String Global)) (vs : List V) (es : Entries V) (names : names_of ns ≡ keys_of es)
    (values : vs ≡ values_of es) where
  pub length-names : length ns ≡ length es
  length-names = sym (length-names_of ns) ∙ ap length names ∙ length-keys_of es

  pub even-columns : length vs ≡ length ns
  even-columns = ap length values ∙ length-values_of es ∙ sym length-names

  pub entries-columns : entries_of ns vs ≡ es
  entries-columns = (λ i. zip (names i) (values i)) ∙ zip-columns es

-- ---- the place of a name
-- what a search for a name returned, in terms of the bytes of the name and the entries of the map
pub at_bytes : {V : Type 0} (es m : Entries V) → es ≡ m → (r : Option ℕ) (n name : List ℕ)
    → r ≡ position (bytes_eq n) (keys_of es) → n ≡ name → r ≡ position (bytes_eq name) (keys_of m)
at_bytes es m shows r n name found is = found ∙ (λ j. position (bytes_eq (is j)) (keys_of (shows j)))

module _ {V : Type 0} (name : List ℕ) where
  -- the place of a name is an index of the entries
  pub found-within : (es : Entries V) (i : ℕ) → Some i ≡ position (bytes_eq name) (keys_of es) → i < length es
  found-within es i p = (Found-position (bytes_eq name) es i (sym p)).within

  -- a name without a place has no value
  pub get-missing : (es : Entries V) → None ≡ position (bytes_eq name) (keys_of es) → None ≡ get name es
  get-missing es p = by (get name es) (ap is_some p ∙ some_index (bytes_eq name) es)
    where
      by : (r : Option V) → false ≡ is_some r → None ≡ r
      by None e = refl
      by (Some v) e = absurd (true≢false (sym e))

  -- a name without a value is none of the names
  pub none-among : (es : Entries V) → get name es ≡ None → list_any (bytes_eq name) (keys_of es) ≡ false
  none-among es e = sym (is_some-lookup (bytes_eq name) es) ∙ ap is_some e

  -- setting the value at the place of the name inserts it at the name
  pub insert-found : (es : Entries V) (i : ℕ) (v : V) → Some i ≡ position (bytes_eq name) (keys_of es)
      → set_value_at es i v ≡ insert_entry es name v
  insert-found es i v p =
      sym (insert_entry-first bytes_eq name v es i (Found-position (bytes_eq name) es i (sym p)).first)

  -- appending an entry with the name, if the name is new, inserts it
  pub insert-missing : (es : Entries V) (v : V) → get name es ≡ None → es ++ (name, v) ∷ [] ≡ insert_entry es name v
  insert-missing es v e = sym (insert_entry-absent bytes_eq name v es (absent_from_lookup (bytes_eq name) es e))

-- ---- for a loop over a map in order that builds another, in terms of `push_new` and `insert`
module _ {V : Type 0} (es : Entries V) (i : ℕ) (e : List ℕ × V) where
  here : slice_get es i ≡ Some e → get_or es i e ≡ e
  here at = get_or_from_slice_get es i e e at

  split_at : slice_get es i ≡ Some e → es ≡ take i es ++ e ∷ drop (suc i) es
  split_at at =
      let rest = drop-cons es i e (slice_get_within es i e at) ∙ ap (λ x. x ∷ drop (suc i) es) (here at) in
      sym (take-append-drop i es) ∙ ap (λ r. take i es ++ r) rest

  -- the next entry of a map has a name that those before it lack
  pub absent-next : HasDistinctNames es → slice_get es i ≡ Some e → get e.0 (take i es) ≡ None
  absent-next distinct at =
      absent_before nat_list_eq_equiv (take i es) (drop (suc i) es) e (subst HasDistinctNames (split_at at) distinct)

  -- appending it to those before it gives the entries up to it
  pub push-next : slice_get es i ≡ Some e → take i es ++ e ∷ [] ≡ take (i + 1) es
  push-next at = sym (take_more es i e (slice_get_within es i e at) ∙ ap (λ x. take i es ++ x ∷ []) (here at))

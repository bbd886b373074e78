-- The members that are written for status codes are sorted by name if those that were read are.
use Rattle.std.proofs.Common.{◌≡◌, ℕ, ◌≤◌, ◌<◌, ◌+◌, ◌-◌, ◌*◌, ◌/◌, ◌%◌, ◌==◌, List, [], ◌∷◌, Bool, true, false, cond, ◌&&◌, Some, None}
use Rattle.std.proofs.Common.{nat_le, nat_lt, Ordering, Less, Equal, Greater, nat_cmp, ◌⊎◌, inl, inr, refl, sym, ap, ◌∙◌, arith}
use Rattle.std.proofs.Common.{eqb-true, leb-true, le-leb, le-ltb, lt-ltb, ne_eqb, ⊎_elim}
use Rattle.std.proofs.lemmas.Bool.{agree_below, agree_below_at, and_from, and_parts, both_ways, or_cases}
use Rattle.std.specs.Cmp.Lexicographic.{slice_cmp}
use Rattle.std.specs.Ordering.{ordering_then}
use Rattle.openapi_node.specs.Tree.{Tree}
use Rattle.openapi_tables.specs.Prelude.{Kind, Tables, Key, Form, Pair, class, code, coded, range, code_of, code_key, in_class}
use Rattle.openapi_tables.specs.Prelude.{is_code, key_in, put, put_all, same_key, status_names, text_of, text_of_key, writable_code}
use Rattle.openapi_tables.specs.Prelude.{each, Entry}
use Rattle.openapi_tables.specs.Kind.{is_digit, is_x, code_of_bytes}
use Rattle.openapi_tables.proofs.ListLaws.{Each}
use Rattle.openapi_tables.proofs.PrintLaws.{entry_of}
use Rattle.openapi_tables.proofs.ReadLaws.{pair_of}
use Rattle.openapi_tables.proofs.ReadProper.{same_key-refl}
use Rattle.openapi_tables.proofs.RowLaws.{TakesAll}
use Rattle.openapi_text.proofs.Sorting.{Ascends, Below}

-- ---- numbers compared
nat_less : (x y : ℕ) → x < y → nat_cmp x y ≡ Less
nat_less x y h = ap (λ b. cond b Less (cond (x == y) Equal Greater)) (lt-ltb x y h)

nat_greater : (x y : ℕ) → y < x → nat_cmp x y ≡ Greater
nat_greater x y h =
    ap (λ b. cond b Less (cond (x == y) Equal Greater)) (le-ltb x y (omega (arith, h)))
    ∙ ap (λ b. cond b Equal Greater) (ne_eqb x y (λ e. omega (arith, h, e)))

nat_equal : (x y : ℕ) → nat_cmp x y ≡ Equal → x ≡ y
nat_equal x y h = at (nat_lt x y) (x == y) refl h
  where
    at : (p q : Bool) → (x == y) ≡ q → cond p Less (cond q Equal Greater) ≡ Equal → x ≡ y
    at true q e g = cc
    at false true e g = eqb-true x y e
    at false false e g = cc

-- ---- codes and their texts
abbrev number_of : ℕ → ℕ → ℕ → ℕ
number_of a b c = 100 * (a - 48) + 10 * (b - 48) + (c - 48)

record IsNumber (a b c : ℕ) : Type 0 where
  first : (49 ≤ a) × (a ≤ 57)
  second : (48 ≤ b) × (b ≤ 57)
  third : (48 ≤ c) × (c ≤ 57)
  is : code_of (a ∷ b ∷ c ∷ []) ≡ Some (code (number_of a b c))

record IsRange (a b c : ℕ) : Type 0 where
  first : (48 ≤ a) × (a ≤ 57)
  second : 88 ≤ b
  is : code_of (a ∷ b ∷ c ∷ []) ≡ Some (range (a - 48))

letter : (b : ℕ) → is_x b ≡ true → 88 ≤ b
letter b h =
    ⊎_elim (λ (e : (b == 88) ≡ true). let p = eqb-true b 88 e in omega (arith, p))
    (λ (e : (b == 120) ≡ true). let p = eqb-true b 120 e in omega (arith, p)) (or_cases (b == 88) (b == 120) h)

digit : (b : ℕ) → is_digit b ≡ true → (48 ≤ b) × (b ≤ 57)
digit b h = let p = and_parts (nat_le 48 b) (nat_le b 57) h in (leb-true 48 b p.0, leb-true b 57 p.1)

view : (a b c : ℕ) → is_code (code_of_bytes a b c) ≡ true → IsNumber a b c ⊎ IsRange a b c
view a b c h =
    at (nat_le 49 a && nat_le a 57 && is_digit b && is_digit c) refl (is_digit a && is_x b && is_x c) refl h
  where
    at : (u : Bool) → (nat_le 49 a && nat_le a 57 && is_digit b && is_digit c) ≡ u → (v : Bool)
        → (is_digit a && is_x b && is_x c) ≡ v
        → is_code (cond u (Some (code (number_of a b c))) (cond v (Some (range (a - 48))) None)) ≡ true
        → IsNumber a b c ⊎ IsRange a b c
    at true e v g k =
        let p = and_parts (nat_le 49 a && nat_le a 57 && is_digit b) (is_digit c) e in
        let q = and_parts (nat_le 49 a && nat_le a 57) (is_digit b) p.0 in
        let r = and_parts (nat_le 49 a) (nat_le a 57) q.0 in
        inl (record {
          first = (leb-true 49 a r.0, leb-true a 57 r.1);
          second = digit b q.1;
          third = digit c p.1;
          is = ap (λ w. cond w (Some (code (number_of a b c))) (cond (is_digit a && is_x b && is_x c) (Some (range (a - 48))) None)) e;
        })
    at false e true g k =
        let p = and_parts (is_digit a && is_x b) (is_x c) g in
        let q = and_parts (is_digit a) (is_x b) p.0 in
        inr (record {
          first = digit a q.0;
          second = letter b q.1;
          is = ap (λ w. cond w (Some (code (number_of a b c))) (cond (is_digit a && is_x b && is_x c) (Some (range (a - 48))) None)) e
              ∙ ap (λ w. cond w (Some (range (a - 48))) None) g;
        })
    at false e false g k = cc

test : ℕ → ℕ → ℕ → Bool
test i j k =
    ((100 * i + 10 * j + k) / 100 == i) && ((100 * i + 10 * j + k) / 10 % 10 == j) && ((100 * i + 10 * j + k) % 10 == k)

every_test : agree_below (λ i. agree_below (λ j. agree_below (test i j) (λ x. true) 10) (λ x. true) 10) (λ x. true) 10 ≡ true
unfolding test
every_test = refl

test_at : (i j k : ℕ) → i < 10 → j < 10 → k < 10 → test i j k ≡ true
test_at i j k p q r =
    agree_below_at (test i j) (λ x. true) 10 k
    (agree_below_at (λ y. agree_below (test i y) (λ x. true) 10) (λ x. true) 10 j
    (agree_below_at (λ z. agree_below (λ y. agree_below (test z y) (λ x. true) 10) (λ x. true) 10) (λ x. true) 10 i every_test p) q) r

text_parts : (i j k : ℕ) → i < 10 → j < 10 → k < 10
    → ((100 * i + 10 * j + k) / 100 ≡ i) × ((100 * i + 10 * j + k) / 10 % 10 ≡ j) × ((100 * i + 10 * j + k) % 10 ≡ k)
unfolding test
text_parts i j k p q r =
    let n = 100 * i + 10 * j + k in
    let h = and_parts ((n / 100 == i) && (n / 10 % 10 == j)) (n % 10 == k) (test_at i j k p q r) in
    let g = and_parts (n / 100 == i) (n / 10 % 10 == j) h.0 in
    (eqb-true (n / 100) i g.0, eqb-true (n / 10 % 10) j g.1, eqb-true (n % 10) k h.1)

-- the text of the key of a name
abbrev text_at : List ℕ → List ℕ
text_at n = text_of_key (key_in status_names n)

number_text : (a b c : ℕ) → IsNumber a b c → text_at (a ∷ b ∷ c ∷ []) ≡ a ∷ b ∷ c ∷ []
number_text a b c h =
    let n = number_of a b c in
    let f = h.first in
    let s = h.second in
    let t = h.third in
    let p = text_parts (a - 48) (b - 48) (c - 48) (omega (arith, f.0, f.1)) (omega (arith, s.0, s.1)) (omega (arith, t.0, t.1)) in
    let low : 100 ≤ n = omega (arith, f.0) in
    let high : n ≤ 999 = omega (arith, f.0, f.1, s.0, s.1, t.0, t.1) in
    let fits : writable_code (code n) ≡ true = and_from (nat_le 100 n) (nat_le n 999) (le-leb 100 n low) (le-leb n 999 high) in
    let x : 48 + n / 100 ≡ a = omega (arith, p.0, f.0) in
    let y : 48 + n / 10 % 10 ≡ b = omega (arith, p.1, s.0) in
    let z : 48 + n % 10 ≡ c = omega (arith, p.2, t.0) in
    ap (λ o. text_of_key (code_key (a ∷ b ∷ c ∷ []) o)) h.is
    ∙ other fits
    ∙ (λ i. x i ∷ y i ∷ z i ∷ [])
  where
    other : writable_code (code (number_of a b c)) ≡ true
        → text_of (code (number_of a b c))
        ≡ (48 + number_of a b c / 100) ∷ (48 + number_of a b c / 10 % 10) ∷ (48 + number_of a b c % 10) ∷ []
    other fits = rw fits refl

range_text : (a b c : ℕ) → IsRange a b c → text_at (a ∷ b ∷ c ∷ []) ≡ a ∷ 88 ∷ 88 ∷ []
range_text a b c h =
    let f = h.first in
    let fits : writable_code (range (a - 48)) ≡ true = le-leb (a - 48) 9 (omega (arith, f.0, f.1)) in
    let x : 48 + (a - 48) ≡ a = omega (arith, f.0) in
    ap (λ o. text_of_key (code_key (a ∷ b ∷ c ∷ []) o)) h.is ∙ other fits ∙ ap (λ y. y ∷ 88 ∷ 88 ∷ []) x
  where
    other : writable_code (range (a - 48)) ≡ true → text_of (range (a - 48)) ≡ (48 + (a - 48)) ∷ 88 ∷ 88 ∷ []
    other fits = rw fits refl

-- ---- keys in order
-- the text of `d` is less than that of `q`, or both are the same key
abbrev Upto : Key → Key → Type 0
Upto q d = (slice_cmp nat_cmp (text_of_key d) (text_of_key q) ≡ Less) ⊎ (d ≡ q)

texts_less : (n m u v : List ℕ) → text_at n ≡ u → text_at m ≡ v → slice_cmp nat_cmp u v ≡ Less
    → slice_cmp nat_cmp (text_at n) (text_at m) ≡ Less
texts_less n m u v p q h = (λ i. slice_cmp nat_cmp (p i) (q i)) ∙ h

never_first : (a b : ℕ) (o : Ordering) → nat_cmp a b ≡ Greater → ordering_then (nat_cmp a b) o ≡ Less → ⊥
never_first a b o g h = let p : ordering_then Greater o ≡ Less = ap (λ r. ordering_then r o) (sym g) ∙ h in cc

codes_climb : (a b c d e f : ℕ) → IsNumber a b c ⊎ IsRange a b c → IsNumber d e f ⊎ IsRange d e f
    → slice_cmp nat_cmp (a ∷ b ∷ c ∷ []) (d ∷ e ∷ f ∷ []) ≡ Less
    → Upto (key_in status_names (d ∷ e ∷ f ∷ [])) (key_in status_names (a ∷ b ∷ c ∷ []))
codes_climb a b c d e f (inl x) (inl y) o =
    inl (texts_less (a ∷ b ∷ c ∷ []) (d ∷ e ∷ f ∷ []) (a ∷ b ∷ c ∷ []) (d ∷ e ∷ f ∷ []) (number_text a b c x) (number_text d e f y) o)
codes_climb a b c d e f (inl x) (inr y) o =
    inl (texts_less (a ∷ b ∷ c ∷ []) (d ∷ e ∷ f ∷ []) (a ∷ b ∷ c ∷ []) (d ∷ 88 ∷ 88 ∷ []) (number_text a b c x) (range_text d e f y)
    (by (nat_cmp a d) refl o))
  where
    by : (r : Ordering) → nat_cmp a d ≡ r → slice_cmp nat_cmp (a ∷ b ∷ c ∷ []) (d ∷ e ∷ f ∷ []) ≡ Less
        → slice_cmp nat_cmp (a ∷ b ∷ c ∷ []) (d ∷ 88 ∷ 88 ∷ []) ≡ Less
    by Less g h = ap (λ r. ordering_then r (slice_cmp nat_cmp (b ∷ c ∷ []) (88 ∷ 88 ∷ []))) g
    by Equal g h =
        let s = x.second in
        ap (λ r. ordering_then r (slice_cmp nat_cmp (b ∷ c ∷ []) (88 ∷ 88 ∷ []))) g
        ∙ ap (λ r. ordering_then r (slice_cmp nat_cmp (c ∷ []) (88 ∷ []))) (nat_less b 88 (omega (arith, s.1)))
    by Greater g h = absurd (never_first a d (slice_cmp nat_cmp (b ∷ c ∷ []) (e ∷ f ∷ [])) g h)
codes_climb a b c d e f (inr x) (inl y) o =
    inl (texts_less (a ∷ b ∷ c ∷ []) (d ∷ e ∷ f ∷ []) (a ∷ 88 ∷ 88 ∷ []) (d ∷ e ∷ f ∷ []) (range_text a b c x) (number_text d e f y)
    (by (nat_cmp a d) refl o))
  where
    by : (r : Ordering) → nat_cmp a d ≡ r → slice_cmp nat_cmp (a ∷ b ∷ c ∷ []) (d ∷ e ∷ f ∷ []) ≡ Less
        → slice_cmp nat_cmp (a ∷ 88 ∷ 88 ∷ []) (d ∷ e ∷ f ∷ []) ≡ Less
    by Less g h = ap (λ r. ordering_then r (slice_cmp nat_cmp (88 ∷ 88 ∷ []) (e ∷ f ∷ []))) g
    by Equal g h =
        let s = y.second in
        let t = x.second in
        let p : ordering_then (nat_cmp b e) (slice_cmp nat_cmp (c ∷ []) (f ∷ [])) ≡ Less =
        ap (λ r. ordering_then r (slice_cmp nat_cmp (b ∷ c ∷ []) (e ∷ f ∷ []))) (sym g) ∙ h in
        absurd (never_first b e (slice_cmp nat_cmp (c ∷ []) (f ∷ [])) (nat_greater b e (omega (arith, s.1, t))) p)
    by Greater g h = absurd (never_first a d (slice_cmp nat_cmp (b ∷ c ∷ []) (e ∷ f ∷ [])) g h)
codes_climb a b c d e f (inr x) (inr y) o = by (nat_cmp a d) refl o
  where
    by : (r : Ordering) → nat_cmp a d ≡ r → slice_cmp nat_cmp (a ∷ b ∷ c ∷ []) (d ∷ e ∷ f ∷ []) ≡ Less
        → Upto (key_in status_names (d ∷ e ∷ f ∷ [])) (key_in status_names (a ∷ b ∷ c ∷ []))
    by Less g h =
        inl (texts_less (a ∷ b ∷ c ∷ []) (d ∷ e ∷ f ∷ []) (a ∷ 88 ∷ 88 ∷ []) (d ∷ 88 ∷ 88 ∷ []) (range_text a b c x)
        (range_text d e f y) (ap (λ r. ordering_then r (slice_cmp nat_cmp (88 ∷ 88 ∷ []) (88 ∷ 88 ∷ []))) g))
    by Equal g h =
        inr (ap (code_key (a ∷ b ∷ c ∷ [])) x.is ∙ ap (λ z. coded (range (z - 48))) (nat_equal a d g)
        ∙ sym (ap (code_key (d ∷ e ∷ f ∷ [])) y.is))
    by Greater g h = absurd (never_first a d (slice_cmp nat_cmp (b ∷ c ∷ []) (e ∷ f ∷ [])) g h)

names_climb : (n m : List ℕ) → in_class status_names n ≡ true → in_class status_names m ≡ true
    → slice_cmp nat_cmp n m ≡ Less → Upto (key_in status_names m) (key_in status_names n)
names_climb (a ∷ b ∷ c ∷ []) (d ∷ e ∷ f ∷ []) h g o = codes_climb a b c d e f (view a b c h) (view d e f g) o
names_climb (a ∷ b ∷ c ∷ []) (d ∷ e ∷ []) h g o = cc
names_climb (a ∷ b ∷ c ∷ []) m h g o = cc
names_climb (a ∷ b ∷ []) m h g o = cc
names_climb n m h g o = cc

-- ---- a map of codes, in its order
module _ (T : Tables) (k : Kind) where
  abbrev AllUpto : Key → List (Pair Form) → Type 0
  AllUpto q m = Each (λ (d : Pair Form). Upto q d.key) m

  below_put : (n : List ℕ) (q : Key) (x : Form) (m : List (Pair Form)) → slice_cmp nat_cmp n (text_of_key q) ≡ Less
      → Below n (each (entry_of T k) m) → Below n (each (entry_of T k) (put q x m))
  below_put n q x [] h b = (h, tt)
  below_put n q x (d ∷ m) h b = at (same_key d.key q) (below_put n q x m h b.1)
    where
      at : (c : Bool) → Below n (each (entry_of T k) (put q x m))
          → Below n (each (entry_of T k) (cond c (record { key = d.key; value = x } ∷ m) (d ∷ put q x m)))
      at true r = b
      at false r = (b.0, r)

  other_key : (d q : Key) → same_key d q ≡ false → Upto q d → slice_cmp nat_cmp (text_of_key d) (text_of_key q) ≡ Less
  other_key d q h (inl e) = e
  other_key d q h (inr e) = absurd (both_ways (same_key d q) h (ap (same_key d) (sym e) ∙ same_key-refl d))

  put_ascends : (q : Key) (x : Form) (m : List (Pair Form)) → Ascends (each (entry_of T k) m) → AllUpto q m
      → Ascends (each (entry_of T k) (put q x m))
  put_ascends q x [] o u = (tt, tt)
  put_ascends q x (d ∷ m) o u = at (same_key d.key q) refl (put_ascends q x m o.1 u.1)
    where
      at : (c : Bool) → same_key d.key q ≡ c → Ascends (each (entry_of T k) (put q x m))
          → Ascends (each (entry_of T k) (cond c (record { key = d.key; value = x } ∷ m) (d ∷ put q x m)))
      at true e r = o
      at false e r = (below_put (text_of_key d.key) q x m (other_key d.key q e u.0) o.0, r)

  upto_put : (r q : Key) (x : Form) (m : List (Pair Form)) → Upto r q → AllUpto r m → AllUpto r (put q x m)
  upto_put r q x [] h u = (h, tt)
  upto_put r q x (d ∷ m) h u = at (same_key d.key q) (upto_put r q x m h u.1)
    where
      at : (c : Bool) → AllUpto r (put q x m) → AllUpto r (cond c (record { key = d.key; value = x } ∷ m) (d ∷ put q x m))
      at true v = u
      at false v = (u.0, v)

  -- the key of each entry is the same as that of each later one, or its text is less
  abbrev Climbs : List (Pair Form) → Type 0
  Climbs [] = Unit {0}
  Climbs (e ∷ m) = Each (λ (d : Pair Form). Upto d.key e.key) m × Climbs m

  later : (q : Key) (x : Form) (done m : List (Pair Form)) → Each (λ (d : Pair Form). Upto d.key q) m
      → Each (λ (d : Pair Form). AllUpto d.key done) m → Each (λ (d : Pair Form). AllUpto d.key (put q x done)) m
  later q x done [] h u = tt
  later q x done (d ∷ m) h u = (upto_put d.key q x done h.0 u.0, later q x done m h.1 u.1)

  put_all_ascends : (done m : List (Pair Form)) → Ascends (each (entry_of T k) done) → Climbs m
      → Each (λ (d : Pair Form). AllUpto d.key done) m → Ascends (each (entry_of T k) (put_all done m))
  put_all_ascends done [] o c u = o
  put_all_ascends done (e ∷ m) o c u =
      put_all_ascends (put e.key e.value done) m (put_ascends e.key e.value done o u.0) c.1
      (later e.key e.value done m c.0 u.1)

  none_upto : (m : List (Pair Form)) → Each (λ (d : Pair Form). AllUpto d.key []) m
  none_upto [] = tt
  none_upto (d ∷ m) = (tt, none_upto m)

  climbs_after : (n : List ℕ) (l : List (Entry Tree)) → in_class status_names n ≡ true → Below n l
      → TakesAll (class status_names k) l
      → Each (λ (d : Pair Form). Upto d.key (key_in status_names n)) (each (pair_of T (key_in status_names) k) l)
  climbs_after n [] h b t = tt
  climbs_after n (e ∷ l) h b t = (names_climb n e.name h t.0 b.0, climbs_after n l h b.1 t.1)

  climbs_of : (l : List (Entry Tree)) → Ascends l → TakesAll (class status_names k) l
      → Climbs (each (pair_of T (key_in status_names) k) l)
  climbs_of [] o t = tt
  climbs_of (e ∷ l) o t = (climbs_after e.name l t.0 o.0 t.1, climbs_of l o.1 t.1)

  -- the members that are written for status codes are sorted by name if those that were read are
  pub codes_ascend : (l : List (Entry Tree)) → Ascends l → TakesAll (class status_names k) l
      → Ascends (each (entry_of T k) (put_all [] (each (pair_of T (key_in status_names) k) l)))
  codes_ascend l o t =
      let m = each (pair_of T (key_in status_names) k) l in
      put_all_ascends [] m tt (climbs_of l o t) (none_upto m)

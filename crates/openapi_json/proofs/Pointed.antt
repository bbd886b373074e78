-- The points at which the tokens of a text begin, and the positions that are made of them.
use Rattle.std.proofs.Common.{◌≡◌, ℕ, zero, suc, ◌+◌, ◌-◌, ◌<◌, ◌≤◌, List, [], ◌∷◌, ◌++◌, Bool, true, false, cond, Option, Some, None, Result, Ok, Err, Vec}
use Rattle.std.proofs.Common.{IfOk, IfSome, IsFalse, IsSomeAnd, IsTrue, is_some, option_and_then, drop, map, take, length, append-nil, append_assoc, length-append}
use Rattle.std.proofs.Common.{refl, sym, ap, subst, ◌∙◌, arith}
use Rattle.std.proofs.lemmas.List.{drop_all, take_at}
use Rattle.std.specs.List.{AllZip}
use Rattle.std.specs.Prelude.{All, slice_get}
use Rattle.std.specs.Str.{IsUtf8}
use Rattle.json.proofs.Found.{not_found, Some_inj}
use Rattle.json.specs.Json.{Json}
use Rattle.json.specs.Lex.{class}
use Rattle.json.specs.Lex as lexing
use Rattle.json.specs.Tree.{json_tokens}
use Rattle.openapi_node.specs.Place.{Place}
use Rattle.openapi_json.specs.Ordered.{parsed}
use Rattle.openapi_json.specs.Points.{IsPositionAmong, next_point, point_of, points, points_from, StandsAmong}
use Rattle.openapi_json.specs.Positions.{behind_byte, IsBehind, IsPositionAt, IsToken, json_at, last_name, Spot, spot_from, StandsAt}
use Rattle.openapi_json.specs.Scanned.{AreGood, begins, next_mode, starts, starts_from}
use Rattle.openapi_json.specs.declared.position.Point.{Point}
use Rattle.openapi_json.specs.declared.position.Position.{Position}
use Rattle.openapi_json.proofs.Positions.{good_tokens, is_within, leads_to_none, stands, text_reads}
use Rattle.openapi_json.proofs.Scanned.{as_many_starts}

-- ---- the points
spot_more : (s : Spot) (xs : List ℕ) (x : ℕ) → spot_from s (xs ++ x ∷ []) ≡ behind_byte (spot_from s xs) x
spot_more s [] x = refl
spot_more s (y ∷ xs) x = spot_more (behind_byte s y) xs x

behind_more : (before : List ℕ) (p : Point) (x : ℕ) → IsBehind before p → IsBehind (before ++ x ∷ []) (next_point p x)
behind_more before p x h =
    record {
      offset = omega (arith, h.offset, length-append before (x ∷ []));
      spot = ap (λ s. behind_byte s x) h.spot ∙ sym (spot_more (1, 1) before x);
    }

-- the n-th token that begins in `xs`, which follows the bytes `before`, begins at the point `q`
record IsNext (before : List ℕ) (m : lexing.Mode) (xs : List ℕ) (n : ℕ) (q : Point) : Type 0 where
  offset : slice_get (starts_from m (length before) xs) n ≡ Some q.offset
  point : IsBehind (take q.offset (before ++ xs)) q

points_next : (before : List ℕ) (m : lexing.Mode) (p : Point) (xs : List ℕ) (n : ℕ) (q : Point) → IsBehind before p
    → slice_get (points_from m p xs) n ≡ Some q → IsNext before m xs n q
points_next before m p [] n q h e = not_found q e
points_next before m p (x ∷ xs) n q h e =
    by (begins m (class x) x) refl n e
    (λ k f. further k (points_next (before ++ x ∷ []) (next_mode m (class x)) (next_point p x) xs k q (behind_more before p x h) f))
  where
    later : List ℕ
    later = starts_from (next_mode m (class x)) (length before + 1) xs

    later_points : List Point
    later_points = points_from (next_mode m (class x)) (next_point p x) xs

    Later : ℕ → Type 0
    Later k = (slice_get later k ≡ Some q.offset) × IsBehind (take q.offset (before ++ x ∷ xs)) q

    further : (k : ℕ) → IsNext (before ++ x ∷ []) (next_mode m (class x)) xs k q → Later k
    further k it =
        let e : length (before ++ x ∷ []) ≡ length before + 1 = omega (arith, length-append before (x ∷ [])) in (
          subst (λ i. slice_get (starts_from (next_mode m (class x)) i xs) k ≡ Some q.offset) e it.offset,
          subst (λ l. IsBehind (take q.offset l) q) (append_assoc before (x ∷ []) xs) it.point,
        )

    first : begins m (class x) x ≡ true → IsNext before m (x ∷ xs) 0 p
    first is =
        record {
          offset = ap (λ (b : Bool). slice_get (cond b (length before ∷ later) later) 0) is ∙ ap Some (sym h.offset);
          point = subst (λ l. IsBehind l p) (sym (take_at before (x ∷ xs) p.offset (sym h.offset))) h;
        }

    by : (b : Bool) → begins m (class x) x ≡ b → (l : ℕ) → slice_get (cond b (p ∷ later_points) later_points) l ≡ Some q
        → ((k : ℕ) → slice_get later_points k ≡ Some q → Later k) → IsNext before m (x ∷ xs) l q
    by true is zero f more = subst (IsNext before m (x ∷ xs) 0) (Some_inj p q f) (first is)
    by true is (suc l) f more =
        let it = more l f in
        record {
          offset = ap (λ (b : Bool). slice_get (cond b (length before ∷ later) later) (suc l)) is ∙ it.0;
          point = it.1;
        }
    by false is l f more =
        let it = more l f in
        record {
          offset = ap (λ (b : Bool). slice_get (cond b (length before ∷ later) later) l) is ∙ it.0;
          point = it.1;
        }

-- each point is that of a token
point_at : (text : List ℕ) (n : ℕ) (q : Point) → slice_get (points text) n ≡ Some q → IsToken text n q
point_at text n q e =
    let it = points_next [] lexing.between (point_of 0 (1, 1)) text n q (record { offset = refl; spot = refl }) e in
    record { offset = it.offset; point = it.point }

points_count : (m : lexing.Mode) (i : ℕ) (p : Point) (xs : List ℕ) → length (points_from m p xs) ≡ length (starts_from m i xs)
points_count m i p [] = refl
points_count m i p (x ∷ xs) = by (begins m (class x) x) (points_count (next_mode m (class x)) (i + 1) (next_point p x) xs)
  where
    later : List ℕ
    later = starts_from (next_mode m (class x)) (i + 1) xs

    later_points : List Point
    later_points = points_from (next_mode m (class x)) (next_point p x) xs

    by : (b : Bool) → length later_points ≡ length later → length (cond b (p ∷ later_points) later_points) ≡ length (cond b (i ∷ later) later)
    by true e = ap suc e
    by false e = e

-- there is a point for each token
as_many_points : (text : List ℕ) → length (points text) ≡ length (starts text)
as_many_points text = points_count lexing.between 0 (point_of 0 (1, 1)) text

pub points_of_value : (text : List ℕ) (j : Json) → parsed text ≡ Some j → length (json_tokens j) ≤ length (points text)
points_of_value text j reads =
    let is = text_reads text j reads in
    omega (arith, as_many_points text, as_many_starts text (subst AreGood (sym is) (good_tokens j)), ap length is)

-- ---- the positions
got : {X : Type 0} (xs : List X) (i : ℕ) → i < length xs → (x : X) × (slice_get xs i ≡ Some x)
got [] i h = absurd (omega (arith, h))
got (x ∷ xs) zero h = (x, refl)
got (x ∷ xs) (suc i) h = got xs i (omega (arith, h))

module _ (text : List ℕ) (p : Place) (j : Json) (reads : parsed text ≡ Some j) (it : Position) (s : StandsAmong (points text) p j it) where
  unnamed : IsFalse (is_some (last_name p)) → it.name ≡ None
  unnamed is = s.name ∙ ap (λ (b : Bool). cond b (slice_get (points text) (s.number - 1)) None) is

  named : IsTrue (is_some (last_name p)) → IsSomeAnd it.name (IsToken text (s.number - 1))
  named is =
      let within = is_within text p j s.number reads s.counted in
      let q = got (points text) (s.number - 1) (omega (arith, within, as_many_points text)) in
      let there = s.name ∙ ap (λ (b : Bool). cond b (slice_get (points text) (s.number - 1)) None) is ∙ q.1 in
      subst (λ o. IsSomeAnd o (IsToken text (s.number - 1))) (sym there) (point_at text (s.number - 1) q.0 q.1)

  stands_there : IsUtf8 text → StandsAt text p it
  stands_there utf8 =
      stands text p j s.number reads s.counted it utf8 (point_at text s.number it.value s.value) unnamed named

-- what is found by the points of a text is the position in the text
is_position : (text : List ℕ) (j : Json) (p : Place) (o : Option Position) → IsUtf8 text → parsed text ≡ Some j
    → IsPositionAmong (points text) j p o → IsPositionAt text p o
is_position text j p None utf8 reads it =
    record { some = tt; none = λ is u. ap (option_and_then (json_at p)) reads ∙ leads_to_none p j (it.none refl) }
is_position text j p (Some q) utf8 reads it =
    record { some = stands_there text p j reads q it.some utf8; none = λ is. not_found q (sym is) }

are_positions : (text : List ℕ) (j : Json) (ps : List Place) (os : List (Option Position)) → IsUtf8 text → parsed text ≡ Some j
    → AllZip (IsPositionAmong (points text) j) ps os → AllZip (IsPositionAt text) ps os
are_positions text j [] [] utf8 reads a = tt
are_positions text j [] (o ∷ os) utf8 reads a = a
are_positions text j (p ∷ ps) [] utf8 reads a = a
are_positions text j (p ∷ ps) (o ∷ os) utf8 reads a =
    (is_position text j p o utf8 reads a.0, are_positions text j ps os utf8 reads a.1)

-- after the loop, the relation holds for each location and its result
pub all_places : {X : Type 0} (R : Place → Option Position → Type 0) (f : X → Place) (xs : List X) (i : ℕ)
    (os : List (Option Position)) → length xs ≤ i
    → ((us : List (Option Position)) → AllZip R (map f (drop i xs)) us → AllZip R (map f xs) (os ++ us)) → AllZip R (map f xs) os
all_places R f xs i os h more =
    subst (AllZip R (map f xs)) (append-nil os) (more [] (subst (λ ys. AllZip R (map f ys) []) (sym (drop_all i xs h)) tt))

-- if a text has no value, results that are all `None` are the positions at the locations
no_positions : (text : List ℕ) (ps : List Place) (os : List (Option Position)) → (IsUtf8 text → parsed text ≡ None)
    → length os ≡ length ps → All (λ o. o ≡ None) os → AllZip (IsPositionAt text) ps os
no_positions text [] [] reads same none = tt
no_positions text [] (o ∷ os) reads same none = absurd (omega (arith, same))
no_positions text (p ∷ ps) [] reads same none = absurd (omega (arith, same))
no_positions text (p ∷ ps) (o ∷ os) reads same none = (
  record {
    some = subst (λ q. IfSome q (StandsAt text p)) (sym (none 0 o (omega arith))) tt;
    none = λ is utf8. ap (option_and_then (json_at p)) (reads utf8);
  },
  no_positions text ps os reads (omega (arith, same)) (λ i d h. none (suc i) d (omega (arith, h))),
)

module _ {E Z : Type 0} (text : List ℕ) (ps : List Place) (r : Result (Vec (Option Position) Z) E) where
  pub if_read : (j : Json) (qs : List Point) → IsUtf8 text → parsed text ≡ Some j → qs ≡ points text
      → IfOk r (λ v. AllZip (IsPositionAmong qs j) ps v.items) → IfOk r (λ v. AllZip (IsPositionAt text) ps v.items)
  if_read j qs utf8 reads same h =
      by r (subst (λ l. IfOk r (λ v. AllZip (IsPositionAmong l j) ps v.items)) same h)
    where
      by : (o : Result (Vec (Option Position) Z) E) → IfOk o (λ v. AllZip (IsPositionAmong (points text) j) ps v.items)
          → IfOk o (λ v. AllZip (IsPositionAt text) ps v.items)
      by (Ok v) a = are_positions text j ps v.items utf8 reads a
      by (Err e) a = tt

  pub if_unread : (n : ℕ) → (IsUtf8 text → parsed text ≡ None) → n ≡ length ps → IfOk r (λ v. length v.items ≡ n)
      → IfOk r (λ v. All (λ o. o ≡ None) v.items) → IfOk r (λ v. AllZip (IsPositionAt text) ps v.items)
  if_unread n reads same = by r
    where
      by : (o : Result (Vec (Option Position) Z) E) → IfOk o (λ v. length v.items ≡ n) → IfOk o (λ v. All (λ w. w ≡ None) v.items)
          → IfOk o (λ v. AllZip (IsPositionAt text) ps v.items)
      by (Ok v) many none = no_positions text ps v.items reads (many ∙ same) none
      by (Err e) many none = tt

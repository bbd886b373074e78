-- The tokens of a pointer, and the names that they represent.
use Rattle.std.proofs.Common.{◌≡◌, ◌≢◌, ◌<◌, ◌+◌, ℕ, suc, Bool, true, false, cond, not, ◌==◌, List, [], ◌∷◌, ◌++◌}
use Rattle.std.proofs.Common.{Option, Some, None, length, drop, take, append_assoc}
use Rattle.std.proofs.Common.{arith, refl, sym, ap, ◌∙◌, length-drop}
use Rattle.std.proofs.lemmas.Bool.{eqb-true}
use Rattle.std.specs.List.{after_first, before_first, onto_first, position_or_len, slice_split}
use Rattle.openapi_pointer.specs.Tokens.{before_name, name_after, slash, tilde}

abbrev pub is_slash : ℕ → Bool
is_slash b = b == slash

-- a text in which no byte passes a test is its own only part
pub none_passes : (p : ℕ → Bool) (bs : List ℕ) → position_or_len p bs ≡ length bs → slice_split p bs ≡ bs ∷ []
none_passes p [] e = refl
none_passes p (b ∷ bs) e = by (p b) refl (none_passes p bs)
  where
    by : (c : Bool) → p b ≡ c → (position_or_len p bs ≡ length bs → slice_split p bs ≡ bs ∷ []) → slice_split p (b ∷ bs) ≡ (b ∷ bs) ∷ []
    by true is more = absurd (omega (arith, ap (λ c. cond (not c) (1 + position_or_len p bs) 0) (sym is) ∙ e))
    by false is more =
        let rest : position_or_len p bs ≡ length bs = omega (arith, ap (λ c. cond (not c) (1 + position_or_len p bs) 0) (sym is) ∙ e) in
        ap (λ c. cond c ([] ∷ slice_split p bs) (onto_first b (slice_split p bs))) is ∙ ap (onto_first b) (more rest)

-- the bytes after the first one that passes a test are fewer than all bytes
pub shorter_after : (p : ℕ → Bool) (left after : List ℕ) → after ≡ after_first p left → position_or_len p left < length left
    → length after < length left
shorter_after p left after e lt = omega (arith, ap length e, length-drop (position_or_len p left + 1) left, lt)

-- ---- names

abbrev pub is_tilde : ℕ → Bool
is_tilde b = b == tilde

before_before : (as' bs : List ℕ) (o : Option (List ℕ)) → before_name as' (before_name bs o) ≡ before_name (as' ++ bs) o
before_before as' bs None = refl
before_before as' bs (Some n) = ap Some (sym (append_assoc as' bs n))

before_none : (o : Option (List ℕ)) → before_name [] o ≡ o
before_none None = refl
before_none (Some n) = refl

take_next : (n b : ℕ) (bs : List ℕ) → b ∷ take n bs ≡ take (1 + n) (b ∷ bs)
take_next n b bs = let e : suc n ≡ 1 + n = omega arith in ap (λ k. take k (b ∷ bs)) e

drop_next : (n b : ℕ) (bs : List ℕ) → drop (n + 1) bs ≡ drop (1 + n + 1) (b ∷ bs)
drop_next n b bs = let e : suc (n + 1) ≡ 1 + n + 1 = omega arith in ap (λ k. drop k (b ∷ bs)) e

-- the bytes before the first `~` are the beginning of the name
name_to_tilde : (bs : List ℕ) → position_or_len is_tilde bs < length bs
    → name_after false bs ≡ before_name (before_first is_tilde bs) (name_after true (after_first is_tilde bs))
name_to_tilde [] lt = absurd (omega (arith, lt))
name_to_tilde (b ∷ bs) lt = by (is_tilde b) refl (name_to_tilde bs)
  where
    len : Bool → ℕ
    len c = cond (not c) (1 + position_or_len is_tilde bs) 0

    by : (c : Bool) → is_tilde b ≡ c
        → (position_or_len is_tilde bs < length bs
        → name_after false bs ≡ before_name (before_first is_tilde bs) (name_after true (after_first is_tilde bs)))
        → name_after false (b ∷ bs) ≡ before_name (before_first is_tilde (b ∷ bs)) (name_after true (after_first is_tilde (b ∷ bs)))
    by true is more =
        ap (λ c. cond c (name_after true bs) (before_name (b ∷ []) (name_after false bs))) is
        ∙ sym (before_none (name_after true bs))
        ∙ ap (λ c. before_name (take (len c) (b ∷ bs)) (name_after true (drop (len c + 1) (b ∷ bs)))) (sym is)
    by false is more =
        ap (λ c. cond c (name_after true bs) (before_name (b ∷ []) (name_after false bs))) is
        ∙ ap (before_name (b ∷ [])) (more (omega (arith, ap len is, lt)))
        ∙ before_before (b ∷ []) (before_first is_tilde bs) (name_after true (after_first is_tilde bs))
        ∙ (λ i. before_name (take_next (position_or_len is_tilde bs) b bs i) (name_after true (drop_next (position_or_len is_tilde bs) b bs i)))
        ∙ ap (λ c. before_name (take (len c) (b ∷ bs)) (name_after true (drop (len c + 1) (b ∷ bs)))) (sym is)

-- without a `~`, the text is the name
name_without : (bs : List ℕ) → position_or_len is_tilde bs ≡ length bs → name_after false bs ≡ Some bs
name_without [] e = refl
name_without (b ∷ bs) e = by (is_tilde b) refl (name_without bs)
  where
    len : Bool → ℕ
    len c = cond (not c) (1 + position_or_len is_tilde bs) 0

    by : (c : Bool) → is_tilde b ≡ c → (position_or_len is_tilde bs ≡ length bs → name_after false bs ≡ Some bs)
        → name_after false (b ∷ bs) ≡ Some (b ∷ bs)
    by true is more = absurd (omega (arith, ap len (sym is) ∙ e))
    by false is more =
        ap (λ c. cond c (name_after true bs) (before_name (b ∷ []) (name_after false bs))) is
        ∙ ap (before_name (b ∷ [])) (more (omega (arith, ap len (sym is) ∙ e)))

-- while nothing of the name is read, it is that of the whole token
pub name_begins : (all name : List ℕ) → name ≡ [] → name_after false all ≡ before_name name (name_after false all)
name_begins all name e = sym (before_none (name_after false all)) ∙ ap (λ n. before_name n (name_after false all)) (sym e)

-- the name with the bytes before the next `~` and the character that this escape represents
pub name_next : (all name before after new more : List ℕ) (c : List ℕ) (left rest : List ℕ) → before ≡ before_first is_tilde left
    → after ≡ after_first is_tilde left → position_or_len is_tilde left < length left
    → name_after true after ≡ before_name c (name_after false rest) → new ≡ name ++ before → more ≡ new ++ c
    → name_after false all ≡ before_name name (name_after false left) → name_after false all ≡ before_name more (name_after false rest)
name_next all name before after new more c left rest a b lt w n m h =
    let o = name_after false rest in
    h ∙ ap (before_name name) (name_to_tilde left lt ∙ (λ i. before_name (sym a i) (name_after true (sym b i))) ∙ ap (before_name before) w)
    ∙ before_before name before (before_name c o) ∙ before_before (name ++ before) c o
    ∙ ap (λ l. before_name l o) (ap (λ l. l ++ c) (sym n) ∙ sym m)

-- a `~` that begins no escape: there is no name
pub name_fails : (all name after left : List ℕ) → after ≡ after_first is_tilde left → position_or_len is_tilde left < length left
    → name_after true after ≡ None → name_after false all ≡ before_name name (name_after false left) → None ≡ name_after false all
name_fails all name after left b lt w h =
    sym (h ∙ ap (before_name name) (name_to_tilde left lt ∙ ap (λ l. before_name (before_first is_tilde left) (name_after true l)) (sym b)
    ∙ ap (before_name (before_first is_tilde left)) w))

-- without a further `~`, the rest is the end of the name
pub name_ends : (all name left new : List ℕ) → position_or_len is_tilde left ≡ length left → new ≡ name ++ left
    → name_after false all ≡ before_name name (name_after false left) → Some new ≡ name_after false all
name_ends all name left new e n h = ap Some n ∙ sym (h ∙ ap (before_name name) (name_without left e))

-- after a `~`, a text that begins with neither `0` nor `1` gives no name
pub escapes_none : (s : List ℕ) → ((rest : List ℕ) → s ≢ 48 ∷ rest) → ((rest : List ℕ) → s ≢ 49 ∷ rest) → name_after true s ≡ None
escapes_none [] not_0 not_1 = refl
escapes_none (b ∷ bs) not_0 not_1 = by (b == 48) (b == 49) refl refl
  where
    other : Option (List ℕ) → Option (List ℕ) → Bool → Bool → Option (List ℕ)
    other x y d e = cond d x (cond e y None)

    by : (d e : Bool) → (b == 48) ≡ d → (b == 49) ≡ e → name_after true (b ∷ bs) ≡ None
    by true e is it = absurd (not_0 bs (ap (λ c. c ∷ bs) (eqb-true b 48 is)))
    by false true is it = absurd (not_1 bs (ap (λ c. c ∷ bs) (eqb-true b 49 it)))
    by false false is it =
        λ i. other (before_name (tilde ∷ []) (name_after false bs)) (before_name (slash ∷ []) (name_after false bs)) (is i) (it i)

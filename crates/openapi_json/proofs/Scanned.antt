-- The rest of the tokens of a text from a byte on.
use Rattle.std.proofs.Common.{◌≡◌, ℕ, zero, suc, ◌+◌, ◌<◌, ◌≤◌, List, [], ◌∷◌, Bool, true, false, cond, Some, drop}
use Rattle.std.proofs.Common.{drop-drop, get_or, length, length-drop, refl, sym, ap, subst, ◌∙◌, arith, true≢false}
use Rattle.std.specs.Prelude.{slice_get}
use Rattle.std.proofs.lemmas.List.{drop_more}
use Rattle.json.specs.Lex.{Class, quote, backslash, operator, space, other, Lexeme, token, comma, colon, operator_lexeme}
use Rattle.json.specs.Lex.{string_token, lex_byte, lex, Place, fresh, after_value, after_comma, after_key, begins_colon}
use Rattle.json.specs.Lex.{may_begin, may_close, if_allowed, place_token, punctuate, class, tokens}
use Rattle.json.specs.Lex as lexing
use Rattle.json.specs.Text.{content, plain}
use Rattle.json.specs.Token.{Token, begin_object, end_object, begin_array, end_array, key, string, number, boolean, null, bad}
use Rattle.json.specs.Word.{word}
use Rattle.json.proofs.Found.{not_found, Some_inj}
use Rattle.openapi_json.specs.Scanned.{AreGood, begins, is_token, next_mode, starts, starts_from}

-- the lexeme that the byte `x` of a class adds, if it adds one, before the lexemes `ls`; `xs` are the bytes after `x`
abbrev emits : lexing.Mode → Class → ℕ → List ℕ → List Lexeme → List Lexeme
emits lexing.between quote x xs ls = token (string_token (content plain xs)) ∷ ls
emits lexing.between backslash x xs ls = token bad ∷ ls
emits lexing.between operator x xs ls = operator_lexeme x ∷ ls
emits lexing.between space x xs ls = ls
emits lexing.between other x xs ls = token (word (x ∷ xs)) ∷ ls
emits lexing.in_word quote x xs ls = ls
emits lexing.in_word backslash x xs ls = ls
emits lexing.in_word operator x xs ls = operator_lexeme x ∷ ls
emits lexing.in_word space x xs ls = ls
emits lexing.in_word other x xs ls = ls
emits lexing.in_string c x xs ls = ls
emits lexing.in_escape c x xs ls = ls

emitted : (m : lexing.Mode) (c : Class) (x : ℕ) (xs : List ℕ) (k : lexing.Mode → List Lexeme)
    → lex_byte m c x xs k ≡ emits m c x xs (k (next_mode m c))
emitted lexing.between quote x xs k = refl
emitted lexing.between backslash x xs k = refl
emitted lexing.between operator x xs k = refl
emitted lexing.between space x xs k = refl
emitted lexing.between other x xs k = refl
emitted lexing.in_word quote x xs k = refl
emitted lexing.in_word backslash x xs k = refl
emitted lexing.in_word operator x xs k = refl
emitted lexing.in_word space x xs k = refl
emitted lexing.in_word other x xs k = refl
emitted lexing.in_string quote x xs k = refl
emitted lexing.in_string backslash x xs k = refl
emitted lexing.in_string operator x xs k = refl
emitted lexing.in_string space x xs k = refl
emitted lexing.in_string other x xs k = refl
emitted lexing.in_escape c x xs k = refl

lexed : (m : lexing.Mode) (x : ℕ) (xs : List ℕ) → lex m (x ∷ xs) ≡ emits m (class x) x xs (lex (next_mode m (class x)) xs)
unfolding lex
lexed m x xs = emitted m (class x) x xs (λ next. lex next xs)

-- ---- one lexeme
allowed : (b : Bool) (t : Token) (k : Place → List Token) (next : Place) → AreGood (if_allowed b t k next)
    → if_allowed b t k next ≡ t ∷ k next
allowed true t k next g = refl
allowed false t k next g = absurd (g.0 refl)

-- a token that is allowed in a state, followed by those from the next state; it is allowed in the state `fresh` too
record Placed (q : Place) (t : Token) (b : Bool) (k : Place → List Token) : Type 0 where
  first : Token
  next : Place
  is : place_token q t b k ≡ first ∷ k next
  begins : place_token fresh t b k ≡ first ∷ k next

placed : (q : Place) (t : Token) (b : Bool) (k : Place → List Token) → AreGood (place_token q t b k) → Placed q t b k
placed q begin_object b k g =
    record { first = begin_object; next = fresh; is = allowed (may_begin q) begin_object k fresh g; begins = refl }
placed q end_object b k g =
    record { first = end_object; next = after_value; is = allowed (may_close q) end_object k after_value g; begins = refl }
placed q begin_array b k g =
    record { first = begin_array; next = fresh; is = allowed (may_begin q) begin_array k fresh g; begins = refl }
placed q end_array b k g =
    record { first = end_array; next = after_value; is = allowed (may_close q) end_array k after_value g; begins = refl }
placed q (key s) b k g = absurd (g.0 refl)
placed q (string s) true k g =
    record { first = key s; next = after_key; is = allowed (may_begin q) (key s) k after_key g; begins = refl }
placed q (string s) false k g =
    record { first = string s; next = after_value; is = allowed (may_begin q) (string s) k after_value g; begins = refl }
placed q (number s) b k g =
    record { first = number s; next = after_value; is = allowed (may_begin q) (number s) k after_value g; begins = refl }
placed q (boolean v) b k g =
    record { first = boolean v; next = after_value; is = allowed (may_begin q) (boolean v) k after_value g; begins = refl }
placed q null b k g = record { first = null; next = after_value; is = allowed (may_begin q) null k after_value g; begins = refl }
placed q bad b k g = absurd (g.0 refl)

punctuated : (q : Place) (t : Token) (ls : List Lexeme)
    → punctuate q (token t ∷ ls) ≡ place_token q t (begins_colon ls) (λ next. punctuate next ls)
unfolding punctuate
punctuated fresh t ls = refl
punctuated after_value t ls = refl
punctuated after_comma t ls = refl
punctuated after_key t ls = refl

-- the tokens are those of the lexemes, read from some state on
abbrev pub AreOf : List Lexeme → List Token → Type 0
AreOf ls ts = (q : Place) × (ts ≡ punctuate q ls)

-- the tokens after the first one if a token has begun, and all tokens otherwise
abbrev pub behind : Bool → List Token → List Token
behind true ts = drop 1 ts
behind false ts = ts

token_step : (t : Token) (ls : List Lexeme) (ts : List Token) → AreGood ts → AreOf (token t ∷ ls) ts → AreOf ls (drop 1 ts)
token_step t ls ts good a =
    let is = a.1 ∙ punctuated a.0 t ls in
    let p = placed a.0 t (begins_colon ls) (λ next. punctuate next ls) (subst AreGood is good) in
    (p.next, ap (drop 1) (is ∙ p.is))

token_first : (t : Token) (ls : List Lexeme) (ts : List Token) → AreGood ts → AreOf (token t ∷ ls) ts
    → ts ≡ punctuate fresh (token t ∷ ls)
token_first t ls ts good a =
    let is = a.1 ∙ punctuated a.0 t ls in
    let p = placed a.0 t (begins_colon ls) (λ next. punctuate next ls) (subst AreGood is good) in
    is ∙ p.is ∙ sym p.begins ∙ sym (punctuated fresh t ls)

comma_step : (q : Place) (ls : List Lexeme) (ts : List Token) → AreGood ts → ts ≡ punctuate q (comma ∷ ls) → AreOf ls ts
unfolding punctuate
comma_step fresh ls ts good is = absurd ((subst AreGood is good).0 refl)
comma_step after_value ls ts good is = (after_comma, is)
comma_step after_comma ls ts good is = absurd ((subst AreGood is good).0 refl)
comma_step after_key ls ts good is = absurd ((subst AreGood is good).0 refl)

colon_step : (q : Place) (ls : List Lexeme) (ts : List Token) → AreGood ts → ts ≡ punctuate q (colon ∷ ls) → AreOf ls ts
unfolding punctuate
colon_step fresh ls ts good is = absurd ((subst AreGood is good).0 refl)
colon_step after_value ls ts good is = absurd ((subst AreGood is good).0 refl)
colon_step after_comma ls ts good is = absurd ((subst AreGood is good).0 refl)
colon_step after_key ls ts good is = (fresh, is)

token_some : (t : Token) (ls : List Lexeme) (ts : List Token) → AreGood ts → AreOf (token t ∷ ls) ts → 1 ≤ length ts
token_some t ls ts good a =
    let is = a.1 ∙ punctuated a.0 t ls in
    let p = placed a.0 t (begins_colon ls) (λ next. punctuate next ls) (subst AreGood is good) in
    omega (arith, ap length (is ∙ p.is))

lexeme_step : (l : Lexeme) (ls : List Lexeme) (ts : List Token) → AreGood ts → AreOf (l ∷ ls) ts
    → AreOf ls (behind (is_token l) ts)
lexeme_step (token t) ls ts good a = token_step t ls ts good a
lexeme_step comma ls ts good a = comma_step a.0 ls ts good a.1
lexeme_step colon ls ts good a = colon_step a.0 ls ts good a.1

lexeme_first : (l : Lexeme) (ls : List Lexeme) (ts : List Token) → is_token l ≡ true → AreGood ts → AreOf (l ∷ ls) ts
    → ts ≡ punctuate fresh (l ∷ ls)
lexeme_first (token t) ls ts is good a = token_first t ls ts good a
lexeme_first comma ls ts is good a = absurd (true≢false (sym is))
lexeme_first colon ls ts is good a = absurd (true≢false (sym is))

lexeme_some : (l : Lexeme) (ls : List Lexeme) (ts : List Token) → is_token l ≡ true → AreGood ts → AreOf (l ∷ ls) ts
    → 1 ≤ length ts
lexeme_some (token t) ls ts is good a = token_some t ls ts good a
lexeme_some comma ls ts is good a = absurd (true≢false (sym is))
lexeme_some colon ls ts is good a = absurd (true≢false (sym is))

-- ---- one byte
emit_step : (m : lexing.Mode) (c : Class) (x : ℕ) (xs : List ℕ) (ls : List Lexeme) (ts : List Token) → AreGood ts
    → AreOf (emits m c x xs ls) ts → AreOf ls (behind (begins m c x) ts)
emit_step lexing.between quote x xs ls ts good a = token_step _ ls ts good a
emit_step lexing.between backslash x xs ls ts good a = token_step _ ls ts good a
emit_step lexing.between operator x xs ls ts good a = lexeme_step (operator_lexeme x) ls ts good a
emit_step lexing.between space x xs ls ts good a = a
emit_step lexing.between other x xs ls ts good a = token_step _ ls ts good a
emit_step lexing.in_word quote x xs ls ts good a = a
emit_step lexing.in_word backslash x xs ls ts good a = a
emit_step lexing.in_word operator x xs ls ts good a = lexeme_step (operator_lexeme x) ls ts good a
emit_step lexing.in_word space x xs ls ts good a = a
emit_step lexing.in_word other x xs ls ts good a = a
emit_step lexing.in_string c x xs ls ts good a = a
emit_step lexing.in_escape c x xs ls ts good a = a

emit_first : (m : lexing.Mode) (c : Class) (x : ℕ) (xs : List ℕ) (rest : lexing.Mode → List Lexeme) (ts : List Token)
    → begins m c x ≡ true → AreGood ts → AreOf (emits m c x xs (rest (next_mode m c))) ts
    → ts ≡ punctuate fresh (emits lexing.between c x xs (rest (next_mode lexing.between c)))
emit_first lexing.between quote x xs rest ts is good a = token_first _ _ ts good a
emit_first lexing.between backslash x xs rest ts is good a = token_first _ _ ts good a
emit_first lexing.between operator x xs rest ts is good a = lexeme_first (operator_lexeme x) _ ts is good a
emit_first lexing.between space x xs rest ts is good a = absurd (true≢false (sym is))
emit_first lexing.between other x xs rest ts is good a = token_first _ _ ts good a
emit_first lexing.in_word quote x xs rest ts is good a = absurd (true≢false (sym is))
emit_first lexing.in_word backslash x xs rest ts is good a = absurd (true≢false (sym is))
emit_first lexing.in_word operator x xs rest ts is good a = lexeme_first (operator_lexeme x) _ ts is good a
emit_first lexing.in_word space x xs rest ts is good a = absurd (true≢false (sym is))
emit_first lexing.in_word other x xs rest ts is good a = absurd (true≢false (sym is))
emit_first lexing.in_string c x xs rest ts is good a = absurd (true≢false (sym is))
emit_first lexing.in_escape c x xs rest ts is good a = absurd (true≢false (sym is))

emit_some : (m : lexing.Mode) (c : Class) (x : ℕ) (xs : List ℕ) (ls : List Lexeme) (ts : List Token) → begins m c x ≡ true
    → AreGood ts → AreOf (emits m c x xs ls) ts → 1 ≤ length ts
emit_some lexing.between quote x xs ls ts is good a = token_some _ _ ts good a
emit_some lexing.between backslash x xs ls ts is good a = token_some _ _ ts good a
emit_some lexing.between operator x xs ls ts is good a = lexeme_some (operator_lexeme x) _ ts is good a
emit_some lexing.between space x xs ls ts is good a = absurd (true≢false (sym is))
emit_some lexing.between other x xs ls ts is good a = token_some _ _ ts good a
emit_some lexing.in_word quote x xs ls ts is good a = absurd (true≢false (sym is))
emit_some lexing.in_word backslash x xs ls ts is good a = absurd (true≢false (sym is))
emit_some lexing.in_word operator x xs ls ts is good a = lexeme_some (operator_lexeme x) _ ts is good a
emit_some lexing.in_word space x xs ls ts is good a = absurd (true≢false (sym is))
emit_some lexing.in_word other x xs ls ts is good a = absurd (true≢false (sym is))
emit_some lexing.in_string c x xs ls ts is good a = absurd (true≢false (sym is))
emit_some lexing.in_escape c x xs ls ts is good a = absurd (true≢false (sym is))

-- after a byte, the tokens are those of the rest of the bytes, in the mode after the byte
pub byte_step : (m : lexing.Mode) (x : ℕ) (xs : List ℕ) (ts : List Token) → AreGood ts → AreOf (lex m (x ∷ xs)) ts
    → AreOf (lex (next_mode m (class x)) xs) (behind (begins m (class x) x) ts)
byte_step m x xs ts good a =
    emit_step m (class x) x xs (lex (next_mode m (class x)) xs) ts good (a.0, a.1 ∙ ap (punctuate a.0) (lexed m x xs))

-- if a token begins at a byte, there is a token
byte_some : (m : lexing.Mode) (x : ℕ) (xs : List ℕ) (ts : List Token) → begins m (class x) x ≡ true → AreGood ts
    → AreOf (lex m (x ∷ xs)) ts → 1 ≤ length ts
byte_some m x xs ts is good a =
    emit_some m (class x) x xs (lex (next_mode m (class x)) xs) ts is good (a.0, a.1 ∙ ap (punctuate a.0) (lexed m x xs))

-- if a token begins at a byte, the tokens are those of the text from that byte on
byte_first : (m : lexing.Mode) (x : ℕ) (xs : List ℕ) (ts : List Token) → begins m (class x) x ≡ true → AreGood ts
    → AreOf (lex m (x ∷ xs)) ts → ts ≡ punctuate fresh (lex lexing.between (x ∷ xs))
byte_first m x xs ts is good a =
    emit_first m (class x) x xs (λ next. lex next xs) ts is good (a.0, a.1 ∙ ap (punctuate a.0) (lexed m x xs))
    ∙ ap (punctuate fresh) (sym (lexed lexing.between x xs))

pub good_behind : (b : Bool) (ts : List Token) → AreGood ts → AreGood (behind b ts)
good_behind true [] g = tt
good_behind true (t ∷ ts) g = g.1
good_behind false ts g = g

pub length_behind : (b : Bool) (ts : List Token) → length ts ≤ length (behind b ts) + 1
length_behind true ts = omega (arith, length-drop 1 ts)
length_behind false ts = omega arith

-- at the end, no tokens are left
pub nothing_left : (m : lexing.Mode) (ts : List Token) → AreGood ts → AreOf (lex m []) ts → ts ≡ []
unfolding lex punctuate
nothing_left m ts good (fresh, is) = is
nothing_left m ts good (after_value, is) = is
nothing_left m ts good (after_comma, is) = absurd ((subst AreGood is good).0 refl)
nothing_left m ts good (after_key, is) = absurd ((subst AreGood is good).0 refl)

-- ---- the offsets of the tokens
-- an offset `k` bytes further on, from which the tokens are these
record Starts (i : ℕ) (xs : List ℕ) (o : ℕ) (ts : List Token) : Type 0 where
  k : ℕ
  is : o ≡ i + k
  there : tokens (drop k xs) ≡ ts

starts_at : (m : lexing.Mode) (i : ℕ) (xs : List ℕ) (ts : List Token) (n o : ℕ) → AreGood ts → AreOf (lex m xs) ts
    → slice_get (starts_from m i xs) n ≡ Some o → Starts i xs o (drop n ts)
starts_at m i [] ts n o good a e = not_found o e
starts_at m i (x ∷ xs) ts n o good a e =
    by (begins m (class x) x) refl n e (byte_step m x xs ts good a) (starts_at (next_mode m (class x)) (i + 1) xs)
  where
    later : List ℕ
    later = starts_from (next_mode m (class x)) (i + 1) xs

    further : (us : List Token) → Starts (i + 1) xs o us → Starts i (x ∷ xs) o us
    further us it =
        record { k = suc it.k; is = omega (arith, it.is); there = it.there }

    by : (b : Bool) → begins m (class x) x ≡ b → (l : ℕ) → slice_get (cond b (i ∷ later) later) l ≡ Some o
        → AreOf (lex (next_mode m (class x)) xs) (behind (begins m (class x) x) ts)
        → ((us : List Token) (k w : ℕ) → AreGood us → AreOf (lex (next_mode m (class x)) xs) us → slice_get later k ≡ Some w
        → Starts (i + 1) xs w (drop k us)) → Starts i (x ∷ xs) o (drop l ts)
    by true is zero f next more =
        record {
          k = 0;
          is = omega (arith, Some_inj i o f);
          there = sym (byte_first m x xs ts is good a);
        }
    by true is (suc l) f next more =
        let e : 1 + l ≡ suc l = omega arith in
        further (drop (suc l) ts)
        (subst (Starts (i + 1) xs o) (drop-drop l 1 ts ∙ ap (λ d. drop d ts) e)
        (more (drop 1 ts) l o (good_behind true ts good)
        (subst (λ c. AreOf (lex (next_mode m (class x)) xs) (behind c ts)) is next) f))
    by false is l f next more =
        further (drop l ts)
        (more ts l o good (subst (λ c. AreOf (lex (next_mode m (class x)) xs) (behind c ts)) is next) f)

starts_below : (m : lexing.Mode) (i : ℕ) (xs : List ℕ) (n o : ℕ) → slice_get (starts_from m i xs) n ≡ Some o
    → o < i + length xs
starts_below m i [] n o e = not_found o e
starts_below m i (x ∷ xs) n o e = by (begins m (class x) x) n e (starts_below (next_mode m (class x)) (i + 1) xs)
  where
    later : List ℕ
    later = starts_from (next_mode m (class x)) (i + 1) xs

    by : (b : Bool) (l : ℕ) → slice_get (cond b (i ∷ later) later) l ≡ Some o
        → ((k w : ℕ) → slice_get later k ≡ Some w → w < i + 1 + length xs) → o < i + length (x ∷ xs)
    by true zero f more = omega (arith, Some_inj i o f)
    by true (suc l) f more = omega (arith, more l o f)
    by false l f more = omega (arith, more l o f)

-- each offset is that of a byte of the text
pub start_within : (text : List ℕ) (n o : ℕ) → slice_get (starts text) n ≡ Some o → o < length text
start_within text n o e = omega (arith, starts_below lexing.between 0 text n o e)

-- the tokens of a text without `bad` tokens, from its n-th offset on, are those from the n-th token on
pub start_is : (text : List ℕ) (n o : ℕ) → AreGood (tokens text) → slice_get (starts text) n ≡ Some o
    → tokens (drop o text) ≡ drop n (tokens text)
start_is text n o good e =
    let it = starts_at lexing.between 0 text (tokens text) n o good (fresh, refl) e in
    let same : o ≡ it.k = omega (arith, it.is) in
    ap (λ k. tokens (drop k text)) same ∙ it.there

starts_count : (m : lexing.Mode) (i : ℕ) (xs : List ℕ) (ts : List Token) → AreGood ts → AreOf (lex m xs) ts
    → length (starts_from m i xs) ≡ length ts
starts_count m i [] ts good a = sym (ap length (nothing_left m ts good a))
starts_count m i (x ∷ xs) ts good a =
    by (begins m (class x) x) refl (byte_step m x xs ts good a) (starts_count (next_mode m (class x)) (i + 1) xs)
  where
    later : List ℕ
    later = starts_from (next_mode m (class x)) (i + 1) xs

    by : (b : Bool) → begins m (class x) x ≡ b → AreOf (lex (next_mode m (class x)) xs) (behind (begins m (class x) x) ts)
        → ((us : List Token) → AreGood us → AreOf (lex (next_mode m (class x)) xs) us → length later ≡ length us)
        → length (cond b (i ∷ later) later) ≡ length ts
    by true is next more =
        omega (
          arith,
          more (drop 1 ts) (good_behind true ts good)
              (subst (λ c. AreOf (lex (next_mode m (class x)) xs) (behind c ts)) is next),
          length-drop 1 ts,
          byte_some m x xs ts is good a,
        )
    by false is next more = more ts good (subst (λ c. AreOf (lex (next_mode m (class x)) xs) (behind c ts)) is next)

-- there is an offset for each token
pub as_many_starts : (text : List ℕ) → AreGood (tokens text) → length (starts text) ≡ length (tokens text)
as_many_starts text good = starts_count lexing.between 0 text (tokens text) good (fresh, refl)

-- ---- the scan
-- a text from a byte on
from_byte : (text : List ℕ) (i : ℕ) → i < length text → drop i text ≡ get_or text i 0 ∷ drop (i + 1) text
from_byte text i h = drop_more text i 0 h

-- the offsets from a byte on, by whether a token begins at the byte
from_here : (m : lexing.Mode) (text : List ℕ) (i x : ℕ) (b : Bool) → i < length text → x ≡ get_or text i 0
    → begins m (class x) x ≡ b
    → starts_from m i (drop i text)
    ≡ cond b (i ∷ starts_from (next_mode m (class x)) (i + 1) (drop (i + 1) text))
    (starts_from (next_mode m (class x)) (i + 1) (drop (i + 1) text))
from_here m text i x b h byte is =
    let later = starts_from (next_mode m (class x)) (i + 1) (drop (i + 1) text) in
    ap (starts_from m i) (from_byte text i h ∙ ap (λ y. y ∷ drop (i + 1) text) (sym byte))
    ∙ ap (λ (c : Bool). cond c (i ∷ later) later) is

module _ (m : lexing.Mode) (text : List ℕ) (i : ℕ) (h : i < length text) where
  -- the token searched for begins at the byte
  pub start_here : (n : ℕ) → begins m (class (get_or text i 0)) (get_or text i 0) ≡ true → n ≡ 0
      → slice_get (starts_from m i (drop i text)) n ≡ Some i
  start_here n is none =
      ap (slice_get (starts_from m i (drop i text))) none
      ∙ ap (λ os. slice_get os 0) (from_here m text i (get_or text i 0) true h refl is)

  -- another token begins at the byte, or none
  pub start_passed : (next : lexing.Mode) (n k : ℕ) → next ≡ next_mode m (class (get_or text i 0))
      → begins m (class (get_or text i 0)) (get_or text i 0) ≡ true → n ≡ k + 1
      → slice_get (starts_from next (i + 1) (drop (i + 1) text)) k ≡ slice_get (starts_from m i (drop i text)) n
  start_passed next n k mode is more =
      let e : n ≡ suc k = omega (arith, more) in
      ap (λ l. slice_get (starts_from l (i + 1) (drop (i + 1) text)) k) mode
      ∙ sym (ap (slice_get (starts_from m i (drop i text))) e
      ∙ ap (λ os. slice_get os (suc k)) (from_here m text i (get_or text i 0) true h refl is))

  pub none_begins : (next : lexing.Mode) (n k : ℕ) → next ≡ next_mode m (class (get_or text i 0))
      → begins m (class (get_or text i 0)) (get_or text i 0) ≡ false → n ≡ k
      → slice_get (starts_from next (i + 1) (drop (i + 1) text)) k ≡ slice_get (starts_from m i (drop i text)) n
  none_begins next n k mode is same =
      ap (λ l. slice_get (starts_from l (i + 1) (drop (i + 1) text)) k) mode
      ∙ sym (ap (slice_get (starts_from m i (drop i text))) same
      ∙ ap (λ os. slice_get os k) (from_here m text i (get_or text i 0) false h refl is))

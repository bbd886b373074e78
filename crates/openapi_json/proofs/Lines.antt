-- Gaps between the tokens of a text and after its last token leave the tokens the same. So compact and pretty text, each
-- with a line feed at its end, have the tokens that were printed.
use Rattle.std.proofs.Common.{◌≡◌, ℕ, zero, suc, ◌*◌, Bool, true, false, cond, ◌&&◌, List, [], ◌∷◌, ◌++◌, map, replicate, inl, inr}
use Rattle.std.proofs.Common.{refl, sym, subst, ap, ap₂, ◌∙◌, append_assoc, append-nil}
use Rattle.json.specs.Token.{Token, begin_object, end_object, begin_array, end_array, key, string, number, boolean, null, bad}
use Rattle.json.specs.Word.{ends_word, word}
use Rattle.json.specs.Lex.{Lexeme, token, comma, colon, string_token, lex, between, fresh, punctuate, tokens}
use Rattle.json.specs.Layout.{Last, nothing, bracket, name, value, depth_at, gap, is_value, pretty, pretty_from, step}
use Rattle.json.specs.Print.{begins, ends, escape, IsPrintable, ArePrintable, print, print_from, quoted, separator, token_text}
use Rattle.json.specs.Spaced.{AreGaps, IsGap, print_spaced}
use Rattle.json.proofs.Printed.Numbers.{lex-number, in_word-ended}
use Rattle.json.proofs.Printed.Strings.{content-escape, lex-escape}
use Rattle.json.proofs.Printed.Tokens.{tokens-print_spaced}

-- ---- what a token is read as, if it is followed by something that does not belong to it
abbrev lexemes_of : Token → List Lexeme
lexemes_of begin_object = token begin_object ∷ []
lexemes_of end_object = token end_object ∷ []
lexemes_of begin_array = token begin_array ∷ []
lexemes_of end_array = token end_array ∷ []
lexemes_of (key s) = token (string s) ∷ colon ∷ []
lexemes_of (string s) = token (string s) ∷ []
lexemes_of (number s) = token (number s) ∷ []
lexemes_of (boolean b) = token (boolean b) ∷ []
lexemes_of null = token null ∷ []
lexemes_of bad = []

string_read : (s r : List ℕ) → lex between (quoted s ++ r) ≡ token (string s) ∷ lex between r
unfolding lex
string_read s r =
    ap (λ l. lex between (34 ∷ l)) (append_assoc (escape s) (34 ∷ []) r)
    ∙ ap₂ (λ o l. token (string_token o) ∷ l) (content-escape s r) (lex-escape s r)

token_read : (t : Token) (r : List ℕ) → IsPrintable t → (ends t ≡ true → ends_word r ≡ true)
    → lex between (token_text t ++ r) ≡ lexemes_of t ++ lex between r
unfolding lex word
token_read begin_object r h ended = refl
token_read end_object r h ended = refl
token_read begin_array r h ended = refl
token_read end_array r h ended = refl
token_read (key s) r h ended = ap (lex between) (append_assoc (quoted s) (58 ∷ []) r) ∙ string_read s (58 ∷ r)
token_read (string s) r h ended = string_read s r
token_read (number s) r h ended = lex-number s r h (ended refl)
token_read (boolean true) r h ended =
    ap₂ (λ b l. token (cond b (boolean true) bad) ∷ l) (ended refl) (in_word-ended r (ended refl))
token_read (boolean false) r h ended =
    ap₂ (λ b l. token (cond b (boolean false) bad) ∷ l) (ended refl) (in_word-ended r (ended refl))
token_read null r h ended = ap₂ (λ b l. token (cond b null bad) ∷ l) (ended refl) (in_word-ended r (ended refl))
token_read bad r h ended = absurd h

comma_read : (b : Bool) (r : List ℕ) → lex between (cond b (44 ∷ []) [] ++ r) ≡ cond b (comma ∷ []) [] ++ lex between r
unfolding lex
comma_read true r = refl
comma_read false r = refl

gap_read : (g r : List ℕ) → IsGap g → lex between (g ++ r) ≡ lex between r
unfolding lex
gap_read [] r h = refl
gap_read (x ∷ g) r (inl e, h) = rw e (gap_read g r h)
gap_read (x ∷ g) r (inr e, h) = rw e (gap_read g r h)

-- ---- a gap after the last token
gap_ends : (g y : List ℕ) → IsGap g → ends_word y ≡ true → ends_word (g ++ y) ≡ true
gap_ends [] y h e = e
gap_ends (x ∷ g) y (inl is, h) e = rw is
gap_ends (x ∷ g) y (inr is, h) e = rw is

spaced_ends : (ps : List (List ℕ × Token)) (g : List ℕ) → AreGaps ps → IsGap g → ends_word (print_spaced true ps ++ g) ≡ true
unfolding print_spaced
spaced_ends [] [] h k = refl
spaced_ends [] (x ∷ g) h (inl is, k) = rw is
spaced_ends [] (x ∷ g) h (inr is, k) = rw is
spaced_ends ((f, begin_object) ∷ ps) g h k = refl
spaced_ends ((f, end_object) ∷ ps) g h k =
    ap ends_word (append_assoc f (125 ∷ print_spaced true ps) g) ∙ gap_ends f (125 ∷ (print_spaced true ps ++ g)) h.0 refl
spaced_ends ((f, begin_array) ∷ ps) g h k = refl
spaced_ends ((f, end_array) ∷ ps) g h k =
    ap ends_word (append_assoc f (93 ∷ print_spaced true ps) g) ∙ gap_ends f (93 ∷ (print_spaced true ps ++ g)) h.0 refl
spaced_ends ((f, key s) ∷ ps) g h k = refl
spaced_ends ((f, string s) ∷ ps) g h k = refl
spaced_ends ((f, number s) ∷ ps) g h k = refl
spaced_ends ((f, boolean b) ∷ ps) g h k = refl
spaced_ends ((f, null) ∷ ps) g h k = refl
spaced_ends ((f, bad) ∷ ps) g h k = refl

four : (a b c d e : List ℕ) → (a ++ (b ++ (c ++ d))) ++ e ≡ a ++ (b ++ (c ++ (d ++ e)))
four a b c d e =
    append_assoc a (b ++ (c ++ d)) e ∙ ap (λ l. a ++ l) (append_assoc b (c ++ d) e ∙ ap (λ l. b ++ l) (append_assoc c d e))

gap_behind : (c : Bool) (ps : List (List ℕ × Token)) (g : List ℕ) → AreGaps ps → IsGap g → ArePrintable (map (λ p. p.1) ps)
    → lex between (print_spaced c ps ++ g) ≡ lex between (print_spaced c ps)
unfolding print_spaced ArePrintable
gap_behind c [] g h k p = ap (lex between) (sym (append-nil g)) ∙ gap_read g [] k
gap_behind c ((f, t) ∷ ps) g h k p =
    let rest = print_spaced (ends t) ps in
    let both : (r : List ℕ) → (ends t ≡ true → ends_word r ≡ true)
    → lex between (separator c t ++ (f ++ (token_text t ++ r)))
    ≡ cond (c && begins t) (comma ∷ []) [] ++ (lexemes_of t ++ lex between r) =
    λ r e. comma_read (c && begins t) (f ++ (token_text t ++ r))
    ∙ ap (λ l. cond (c && begins t) (comma ∷ []) [] ++ l) (gap_read f (token_text t ++ r) h.0 ∙ token_read t r p.0 e) in
    ap (lex between) (four (separator c t) f (token_text t) rest g)
    ∙ both (rest ++ g) (λ e. ap (λ b. ends_word (print_spaced b ps ++ g)) e ∙ spaced_ends ps g h.1 k)
    ∙ ap (λ l. cond (c && begins t) (comma ∷ []) [] ++ (lexemes_of t ++ l)) (gap_behind (ends t) ps g h.1 k p.1)
    ∙ sym (both rest (λ e. ap ends_word (sym (append-nil rest))
    ∙ ap (λ b. ends_word (print_spaced b ps ++ [])) e ∙ spaced_ends ps [] h.1 tt))

spaced_line : (ps : List (List ℕ × Token)) (ts : List Token) → AreGaps ps → map (λ p. p.1) ps ≡ ts → ArePrintable ts
    → tokens (print_spaced false ps ++ 10 ∷ []) ≡ ts
spaced_line ps ts h is p =
    let q = subst ArePrintable (sym is) p in
    ap (punctuate fresh) (gap_behind false ps (10 ∷ []) h (inr refl, tt) q) ∙ tokens-print_spaced ps h q ∙ is

-- ---- compact text
abbrev unspaced : List Token → List (List ℕ × Token)
unspaced [] = []
unspaced (t ∷ ts) = ([], t) ∷ unspaced ts

unspaced_tokens : (ts : List Token) → map (λ p. p.1) (unspaced ts) ≡ ts
unspaced_tokens [] = refl
unspaced_tokens (t ∷ ts) = ap (λ l. t ∷ l) (unspaced_tokens ts)

unspaced_gaps : (ts : List Token) → AreGaps (unspaced ts)
unspaced_gaps [] = tt
unspaced_gaps (t ∷ ts) = (tt, unspaced_gaps ts)

compact_spaced : (c : Bool) (ts : List Token) → print_from c ts ≡ print_spaced c (unspaced ts)
unfolding print_from print_spaced
compact_spaced c [] = refl
compact_spaced c (t ∷ ts) = ap (λ l. separator c t ++ (token_text t ++ l)) (compact_spaced (ends t) ts)

-- compact text with a line feed at its end has the tokens that were printed
pub compact_line : (ts : List Token) → ArePrintable ts → tokens (print ts ++ 10 ∷ []) ≡ ts
compact_line ts p =
    ap (λ l. tokens (l ++ 10 ∷ [])) (compact_spaced false ts)
    ∙ spaced_line (unspaced ts) ts (unspaced_gaps ts) (unspaced_tokens ts) p

-- ---- pretty text
abbrev spread : Last × ℕ → List Token → List (List ℕ × Token)
spread s [] = []
spread s (t ∷ ts) = (gap s.0 (begins t) (depth_at s.1 t), t) ∷ spread (step s t) ts

spread_tokens : (s : Last × ℕ) (ts : List Token) → map (λ p. p.1) (spread s ts) ≡ ts
spread_tokens s [] = refl
spread_tokens s (t ∷ ts) = ap (λ l. t ∷ l) (spread_tokens (step s t) ts)

blanks : (n : ℕ) → IsGap (replicate n 32)
blanks zero = tt
blanks (suc n) = (inl refl, blanks n)

is_gap : (l : Last) (b : Bool) (n : ℕ) → IsGap (gap l b n)
is_gap nothing b n = tt
is_gap bracket true n = (inr refl, blanks (2 * n))
is_gap bracket false n = tt
is_gap name b n = (inl refl, tt)
is_gap value b n = (inr refl, blanks (2 * n))

spread_gaps : (s : Last × ℕ) (ts : List Token) → AreGaps (spread s ts)
spread_gaps s [] = tt
spread_gaps s (t ∷ ts) = (is_gap s.0 (begins t) (depth_at s.1 t), spread_gaps (step s t) ts)

ends_same : (s : Last × ℕ) (t : Token) → is_value (step s t).0 ≡ ends t
ends_same s begin_object = refl
ends_same s end_object = refl
ends_same s begin_array = refl
ends_same s end_array = refl
ends_same s (key k) = refl
ends_same s (string k) = refl
ends_same s (number k) = refl
ends_same s (boolean b) = refl
ends_same s null = refl
ends_same s bad = refl

pretty_spaced : (s : Last × ℕ) (ts : List Token) → pretty_from s ts ≡ print_spaced (is_value s.0) (spread s ts)
unfolding pretty_from print_spaced
pretty_spaced s [] = refl
pretty_spaced s (t ∷ ts) =
    let a = separator (is_value s.0) t in
    let b = gap s.0 (begins t) (depth_at s.1 t) in
    append_assoc a (b ++ token_text t) (pretty_from (step s t) ts)
    ∙ ap (λ l. a ++ l) (append_assoc b (token_text t) (pretty_from (step s t) ts))
    ∙ ap (λ l. a ++ (b ++ (token_text t ++ l)))
    (pretty_spaced (step s t) ts ∙ ap (λ e. print_spaced e (spread (step s t) ts)) (ends_same s t))

-- pretty text with a line feed at its end has the tokens that were printed
pub pretty_line : (ts : List Token) → ArePrintable ts → tokens (pretty ts ++ 10 ∷ []) ≡ ts
pretty_line ts p =
    ap (λ l. tokens (l ++ 10 ∷ [])) (pretty_spaced (nothing, 0) ts)
    ∙ spaced_line (spread (nothing, 0) ts) ts (spread_gaps (nothing, 0) ts) (spread_tokens (nothing, 0) ts) p

-- What the tokens of a reference to a component are.
use Rattle.std.proofs.Common.{◌≡◌, ◌<◌, ℕ, Bool, true, false, cond, ◌&&◌, List, [], ◌∷◌, codes, Option, Some, None, length}
use Rattle.std.proofs.Common.{refl, sym, ap, subst, ◌∙◌, Result, Ok, Err, IfOk}
use Rattle.std.proofs.lemmas.List.Splits.{slice_split_first}
use Rattle.std.specs.List.{after_first, before_first, onto_first, position_or_len}
use Rattle.std.proofs.lemmas.Str.{is_utf8-from_IsUtf8, IsUtf8-from_is_utf8}
use Rattle.std.specs.Str.{bytes_eq, is_utf8, IsUtf8}
use Rattle.std.specs.declared.str.Utf8Error.{Utf8Error}
use Rattle.percent_encoding.specs.Percent.{percent_decode}
use Rattle.percent_encoding.specs.declared.DecodeError.{DecodeError}
use Rattle.percent_encoding.specs.declared.DecodeError.TheVariants as decode
use Rattle.openapi_pointer.specs.Components.{name_below, name_in_fragment, token_below}
use Rattle.openapi_pointer.specs.Tokens.{tokens_in}
use Rattle.openapi_pointer.proofs.Tokens.{is_slash, none_passes}

-- a text is split at its first `/`
pub record IsSplit (bs a r : List ℕ) : Type 0 where
  pub first : a ≡ before_first is_slash bs
  pub rest : r ≡ after_first is_slash bs
  pub within : position_or_len is_slash bs < length bs

tokens_split : (bs a r : List ℕ) → IsSplit bs a r → tokens_in bs ≡ a ∷ tokens_in r
tokens_split bs a r h = slice_split_first is_slash bs 0 h.within ∙ (λ i. sym h.first i ∷ tokens_in (sym h.rest i))

-- ---- texts without enough `/`

pub one_token : (section bs : List ℕ) → position_or_len is_slash bs ≡ length bs → None ≡ token_below section (tokens_in bs)
one_token section bs e = sym (ap (token_below section) (none_passes is_slash bs e))

pub two_tokens : (section bs a r : List ℕ) → IsSplit bs a r → position_or_len is_slash r ≡ length r
    → None ≡ token_below section (tokens_in bs)
two_tokens section bs a r h e =
    sym (ap (token_below section) (tokens_split bs a r h ∙ ap (λ ts. a ∷ ts) (none_passes is_slash r e)))

-- ---- texts with too many

abbrev HasToken : List (List ℕ) → Type 0
HasToken [] = ⊥
HasToken (t ∷ ts) = Unit {0}

onto : (b : ℕ) (ts : List (List ℕ)) → HasToken ts → HasToken (onto_first b ts)
onto b [] h = absurd h
onto b (t ∷ ts) h = tt

has_token : (bs : List ℕ) → HasToken (tokens_in bs)
has_token [] = tt
has_token (b ∷ bs) = by (is_slash b) refl (has_token bs)
  where
    both : Bool → List (List ℕ)
    both c = cond c ([] ∷ tokens_in bs) (onto_first b (tokens_in bs))

    by : (c : Bool) → is_slash b ≡ c → HasToken (tokens_in bs) → HasToken (tokens_in (b ∷ bs))
    by true is rest = subst HasToken (sym (ap both is)) tt
    by false is rest = subst HasToken (sym (ap both is)) (onto b (tokens_in bs) rest)

too_many : (section c s t : List ℕ) (ts : List (List ℕ)) → HasToken ts → None ≡ token_below section (c ∷ s ∷ t ∷ ts)
too_many section c s t [] h = absurd h
too_many section c s t (u ∷ ts) h = refl

pub four_tokens : (section bs a r s t b u : List ℕ) → IsSplit bs a r → IsSplit r s t → IsSplit t b u
    → None ≡ token_below section (tokens_in bs)
four_tokens section bs a r s t b u h k l =
    too_many section a s b (tokens_in u) (has_token u)
    ∙ sym (ap (token_below section) (tokens_split bs a r h ∙ ap (λ ts. a ∷ ts) (tokens_split r s t k
    ∙ ap (λ ts. s ∷ ts) (tokens_split t b u l))))

-- ---- three

pub three_tokens : (section bs a r s t : List ℕ) (f : Bool) → IsSplit bs a r → IsSplit r s t
    → position_or_len is_slash t ≡ length t → f ≡ (bytes_eq a (codes "components") && bytes_eq s section)
    → cond f (Some t) None ≡ token_below section (tokens_in bs)
three_tokens section bs a r s t f h k e is =
    ap (λ c. cond c (Some t) None) is
    ∙ sym (ap (token_below section) (tokens_split bs a r h ∙ ap (λ ts. a ∷ ts) (tokens_split r s t k
    ∙ ap (λ ts. s ∷ ts) (none_passes is_slash t e))))

-- ---- fragments

pub fragment_ok : {X E : Type 0} (r : Result X E) (f : X → Option (List ℕ)) (section fragment s : List ℕ) → s ≡ percent_decode fragment
    → IsUtf8 s → IfOk r (λ o. f o ≡ name_below section s) → IfOk r (λ o. f o ≡ name_in_fragment section fragment)
fragment_ok (Err e) f section fragment s is u h = tt
fragment_ok (Ok o) f section fragment s is u h =
    h ∙ sym (ap (λ b. cond b (name_below section s) None) (is_utf8-from_IsUtf8 s u))
    ∙ ap (λ l. cond (is_utf8 l) (name_below section l) None) is

pub fragment_err : (section fragment s : List ℕ) → s ≡ percent_decode fragment → ¬ (IsUtf8 s) → None ≡ name_in_fragment section fragment
fragment_err section fragment s is u =
    sym (ap (λ b. cond b (name_below section s) None) (by (is_utf8 s) refl)) ∙ ap (λ l. cond (is_utf8 l) (name_below section l) None) is
  where
    by : (b : Bool) → is_utf8 s ≡ b → is_utf8 s ≡ false
    by true e = absurd (u (IsUtf8-from_is_utf8 s e))
    by false e = e

abbrev IsEncoding : DecodeError → Type 0
IsEncoding (decode.Utf8 e) = Unit {0}
IsEncoding decode.OutOfMemory = ⊥

pub other_error : (d : DecodeError) (e : Utf8Error) → d ≡ decode.Utf8 e → d ≡ decode.OutOfMemory → ⊥
other_error d e is other = subst IsEncoding (sym is ∙ other) tt

-- Where the parts of a reference lead.
use Rattle.std.proofs.Common.{◌≡◌, ◌≢◌, ◌<◌, ◌≤◌, ◌+◌, ◌^◌, ℕ, zero, suc, Bool, true, false, cond, not, ◌&&◌, ◌==◌, List, [], ◌∷◌}
use Rattle.std.proofs.Common.{Option, Some, None, IfSome, Result, Ok, Err, is_some, option_copied, option_and_then, length, get_or}
use Rattle.std.proofs.Common.{arith, refl, sym, ap, subst, ◌∙◌, true≢false, lt_of_not-le, IfOk, length-drop}
use Rattle.std.proofs.lemmas.List.Splits.{slice_split_first}
use Rattle.std.specs.List.{after_first, before_first, position_or_len}
use Rattle.std.proofs.lemmas.Str.{is_utf8-from_IsUtf8, IsUtf8-from_is_utf8}
use Rattle.std.specs.Str.{all_ascii_digits, is_utf8, IsUtf8}
use Rattle.std.specs.Str.Parse.{digits_value, ParsesUnsigned}
use Rattle.std.proofs.lemmas.Str.Parse.{IsNumeralModel, numerals_by_value, parse_plain, tells_all_ascii_digits}
use Rattle.std.specs.Borrow.{Bor}
use Rattle.std.specs.declared.str.Utf8Error.{Utf8Error}
use Rattle.percent_encoding.specs.Percent.{percent_decode}
use Rattle.percent_encoding.specs.declared.DecodeError.{DecodeError}
use Rattle.percent_encoding.specs.declared.DecodeError.TheVariants as decode
use Rattle.openapi_node.specs.Tree.{Tree, items_of, list}
use Rattle.openapi_pointer.specs.Tokens.{tokens_in}
use Rattle.openapi_pointer.proofs.Tokens.{is_slash, none_passes}
use Rattle.openapi_findings.specs.Pointers.{fragment_leads, has_leading_zero, index_in, is_index, item_at, pointer_leads, value_at, value_below}

-- ---- tokens

-- with a `/`, a pointer leads on from where its first token leads
pub leads_on : (bs token rest : List ℕ) (t : Tree) → token ≡ before_first is_slash bs → rest ≡ after_first is_slash bs
    → position_or_len is_slash bs < length bs
    → value_at (tokens_in bs) t ≡ option_and_then (value_at (tokens_in rest)) (value_below token t)
leads_on bs token rest t a b lt =
    ap (λ ts. value_at ts t) (slice_split_first is_slash bs 0 lt)
    ∙ (λ i. option_and_then (value_at (tokens_in (sym b i))) (value_below (sym a i) t))

-- the bytes after the first one that passes a test are fewer than all bytes
pub shorter_after : (p : ℕ → Bool) (left after : List ℕ) → after ≡ after_first p left → position_or_len p left < length left
    → length after < length left
shorter_after p left after e lt = omega (arith, ap length e, length-drop (position_or_len p left + 1) left, lt)

-- without a `/`, a pointer leads where its only token leads
pub leads_last : (bs : List ℕ) (t : Tree) → position_or_len is_slash bs ≡ length bs → value_at (tokens_in bs) t ≡ value_below bs t
leads_last bs t e = ap (λ ts. value_at ts t) (none_passes is_slash bs e) ∙ only_one (value_below bs t)
  where
    only_one : (o : Option Tree) → option_and_then (value_at []) o ≡ o
    only_one None = refl
    only_one (Some u) = refl

-- ---- indices

own : IsNumeralModel (λ ds. all_ascii_digits ds ≡ true) (digits_value 10)
own = numerals_by_value _ tells_all_ascii_digits

-- the item at an index of a list
item_get : (i : ℕ) (ts : List Tree) (d : Tree) → i < length ts → Some (get_or ts i d) ≡ item_at i (items_of ts)
item_get i [] d lt = absurd (omega (arith, lt))
item_get zero (t ∷ ts) d lt = refl
item_get (suc i) (t ∷ ts) d lt = item_get i ts d (omega (arith, lt))

-- no item is at an index that is not less than the number of items
item_none : (i : ℕ) (ts : List Tree) → length ts ≤ i → item_at i (items_of ts) ≡ None
item_none i [] le = refl
item_none zero (t ∷ ts) le = absurd (omega (arith, le))
item_none (suc i) (t ∷ ts) le = item_none i ts (omega (arith, le))

index_is : (bs : List ℕ) → all_ascii_digits bs ≡ true → 0 < length bs → has_leading_zero bs ≡ false → is_index bs ≡ true
index_is [] d lt z = absurd (omega (arith, lt))
index_is (b ∷ bs) d lt z = λ i. d i && not (z i)

both_true : (a b : Bool) → (a && b) ≡ true → a ≡ true
both_true true b e = refl
both_true false b e = e

index_digits : (bs : List ℕ) → is_index bs ≡ true → (all_ascii_digits bs ≡ true) × (0 < length bs)
index_digits [] e = absurd (true≢false (sym e))
index_digits (b ∷ bs) e = (both_true (all_ascii_digits (b ∷ bs)) (not (has_leading_zero (b ∷ bs))) e, omega arith)

at_least : (v n : ℕ) → ¬ (v < n) → n ≤ v
at_least v n more = omega (arith, lt_of_not-le {n = suc v} {m = n} (λ le. more (omega (arith, le))))

no_sign : (bs : List ℕ) → (get_or bs 0 0 == 43) ≡ false → get_or bs 0 0 ≢ 43
no_sign bs sign e = true≢false (sym (ap (λ b. b == 43) e) ∙ sign)

-- if there is no leading zero, the number that is parsed is the index
pub index_ok : (bs : List ℕ) (i : ℕ) → (get_or bs 0 0 == 43) ≡ false → has_leading_zero bs ≡ false
    → ParsesUnsigned {E = Unit {0}} 64 10 bs (Ok i) → index_in bs ≡ Some i
index_ok bs i sign z h =
    let p = parse_plain own {E = Unit {0}} 64 bs (Ok i) h (no_sign bs sign) in
    ap (λ c. cond c (Some (digits_value 10 bs)) None) (index_is bs p.0.0 p.0.1 z) ∙ ap Some (sym p.1)

-- an index that cannot be parsed is not less than any number below 2^64
pub index_err : (bs : List ℕ) (n : ℕ) → n < 2 ^ 64 → (get_or bs 0 0 == 43) ≡ false
    → ParsesUnsigned {E = Unit {0}} 64 10 bs (Err tt) → IfSome (index_in bs) (λ i. n ≤ i)
index_err bs n fits sign h = by (is_index bs) refl
  where
    by : (c : Bool) → is_index bs ≡ c → IfSome (cond c (Some (digits_value 10 bs)) None) (λ i. n ≤ i)
    by true is =
        let d = index_digits bs is in
        let far : 2 ^ 64 ≤ digits_value 10 bs =
        at_least (digits_value 10 bs) (2 ^ 64) (λ lt. parse_plain own {E = Unit {0}} 64 bs (Err tt) h (no_sign bs sign) (d.0, d.1, lt)) in
        omega (arith, fits, far)
    by false is = tt

-- the item to which a token leads
pub below_list : (token : List ℕ) (ts : List Tree) (t u : Tree) (i : ℕ) → list (items_of ts) ≡ t → index_in token ≡ Some i
    → i < length ts → u ≡ get_or ts i u → Some u ≡ value_below token t
below_list token ts t u i e is lt it =
    ap Some it ∙ item_get i ts u lt ∙ ap (option_and_then (λ k. item_at k (items_of ts))) (sym is) ∙ ap (value_below token) e

-- a token leads to no item if its index is not less than the number of items
pub below_none : (token : List ℕ) (ts : List Tree) (t : Tree) → list (items_of ts) ≡ t
    → IfSome (index_in token) (λ i. length ts ≤ i) → None ≡ value_below token t
below_none token ts t e far = by (index_in token) far ∙ ap (value_below token) e
  where
    by : (o : Option ℕ) → IfSome o (λ i. length ts ≤ i) → None ≡ option_and_then (λ k. item_at k (items_of ts)) o
    by None h = refl
    by (Some i) h = sym (item_none i ts h)

-- ---- pointers

-- if a token that is not the last leads to a value, the pointer leads on from it
pub leads_step : (pointer left token rest : List ℕ) (root at value : Tree) (o : Option (Bor Tree)) (b : Bor Tree)
    → value_at (tokens_in pointer) root ≡ value_at (tokens_in left) at → token ≡ before_first is_slash left
    → rest ≡ after_first is_slash left → position_or_len is_slash left < length left → option_copied o ≡ value_below token at
    → o ≡ Some b → value_at (tokens_in pointer) root ≡ value_at (tokens_in rest) b.now
leads_step pointer left token rest root at value o b h t r lt below is =
    h ∙ leads_on left token rest at t r lt ∙ ap (option_and_then (value_at (tokens_in rest))) (sym below ∙ ap option_copied is)

-- if a token leads to no value, neither does the pointer
pub leads_nowhere : (pointer left token rest : List ℕ) (root at : Tree) (o : Option (Bor Tree))
    → value_at (tokens_in pointer) root ≡ value_at (tokens_in left) at → token ≡ before_first is_slash left
    → rest ≡ after_first is_slash left → position_or_len is_slash left < length left → option_copied o ≡ value_below token at
    → o ≡ None → false ≡ pointer_leads pointer root
leads_nowhere pointer left token rest root at o h t r lt below is =
    sym (ap is_some (h ∙ leads_on left token rest at t r lt
    ∙ ap (option_and_then (value_at (tokens_in rest))) (sym below ∙ ap option_copied is)))

is_some_copied : (o : Option (Bor Tree)) → is_some o ≡ is_some (option_copied o)
is_some_copied None = refl
is_some_copied (Some b) = refl

-- a pointer leads to a value if and only if its last token does
pub leads_end : (pointer left : List ℕ) (root at : Tree) (o : Option (Bor Tree)) (b : Bool)
    → value_at (tokens_in pointer) root ≡ value_at (tokens_in left) at → position_or_len is_slash left ≡ length left
    → option_copied o ≡ value_below left at → b ≡ is_some o → b ≡ pointer_leads pointer root
leads_end pointer left root at o b h e below is =
    is ∙ is_some_copied o ∙ ap is_some (below ∙ sym (leads_last left at e) ∙ sym h)

-- ---- fragments

pub fragment_ok : {E : Type 0} (r : Result Bool E) (f s : List ℕ) (t : Tree) → s ≡ percent_decode f → IsUtf8 s
    → IfOk r (λ b. b ≡ pointer_leads s t) → IfOk r (λ b. b ≡ fragment_leads f t)
fragment_ok (Err e) f s t is u h = tt
fragment_ok (Ok b) f s t is u h = h ∙ sym (ap (λ b. b && pointer_leads s t) (is_utf8-from_IsUtf8 s u)) ∙ ap (λ l. is_utf8 l && pointer_leads l t) is

pub fragment_err : (f s : List ℕ) (t : Tree) → s ≡ percent_decode f → ¬ (IsUtf8 s) → false ≡ fragment_leads f t
fragment_err f s t is u = sym (ap (λ b. b && pointer_leads s t) (by (is_utf8 s) refl)) ∙ ap (λ l. is_utf8 l && pointer_leads l t) is
  where
    by : (b : Bool) → is_utf8 s ≡ b → is_utf8 s ≡ false
    by true e = absurd (u (IsUtf8-from_is_utf8 s e))
    by false e = e

abbrev IsEncoding : DecodeError → Type 0
IsEncoding (decode.Utf8 e) = Unit {0}
IsEncoding decode.OutOfMemory = ⊥

pub other_error : (d : DecodeError) (e : Utf8Error) → d ≡ decode.Utf8 e → d ≡ decode.OutOfMemory → ⊥
other_error d e is other = subst IsEncoding (sym is ∙ other) tt

-- The tokens that the grammar of JSON reads as a value are those of that value.
use Rattle.std.proofs.Common.{◌≡◌, ℕ, zero, suc, List, [], ◌∷◌, ◌++◌, Option, Some, None, option_and_then, length, refl, sym, ap}
use Rattle.std.proofs.Common.{◌∙◌, append_assoc}
use Rattle.json.specs.Json.{Json, null, boolean, number, string, array, object, Items, no_items, item, Members, no_members}
use Rattle.json.specs.Json.{member, Parse, parse_map, after_end_array, read_key, items_step, members_step, items, members}
use Rattle.json.specs.Json.{value_with, value}
use Rattle.json.specs.Token.{Token}
use Rattle.json.specs.Tree.{json_tokens, items_tokens, members_tokens}
use Rattle.json.proofs.Found.{not_found, Some_inj}
use Rattle.json.proofs.Grammar.{closed_array, key_token, read_key_is}

-- the parser consumes the tokens of what it returns, and leaves the rest
abbrev Reads : {A : Type 0} → Parse A → (A → List Token) → Type 0
Reads {A} p f = (ts r : List Token) (a : A) → p ts ≡ Some (a, r) → ts ≡ f a ++ r

-- two equal results have the same value and the same rest
gives : {A : Type 0} (a b : A) (r s : List Token) → ◌≡◌ {A = Option (A × List Token)} (Some (a, r)) (Some (b, s)) → a ≡ b
gives {A} a b r s e = ap (λ (p : A × List Token). p.0) (Some_inj (a, r) (b, s) e)

leaves : {A : Type 0} (a b : A) (r s : List Token) → ◌≡◌ {A = Option (A × List Token)} (Some (a, r)) (Some (b, s)) → r ≡ s
leaves {A} a b r s e = ap (λ (p : A × List Token). p.1) (Some_inj (a, r) (b, s) e)

mapped : {A B : Type 0} (f : A → B) (o : Option (A × List Token)) (b : B) (r : List Token) → parse_map f o ≡ Some (b, r)
    → (a : A) × (o ≡ Some (a, r)) × (f a ≡ b)
mapped f None b r e = not_found (b, r) e
mapped f (Some p) b r e =
    (p.0, ap (λ x. Some (p.0, x)) (leaves (f p.0) b p.1 r e), gives (f p.0) b p.1 r e)

chained : {A B : Type 0} (f : A × List Token → Option (B × List Token)) (o : Option (A × List Token)) (b : B) (r : List Token)
    → option_and_then f o ≡ Some (b, r) → (p : A × List Token) × (o ≡ Some p) × (f p ≡ Some (b, r))
chained f None b r e = not_found (b, r) e
chained f (Some p) b r e = (p, refl, e)

module _ (p : Parse Json) (reads : Reads p json_tokens) where
  items_read : (n : ℕ) → Reads (items p n) items_tokens
  unfolding items
  items_read zero ts r js e = not_found (js, r) e
  items_read (suc n) ts r js e = by (after_end_array ts) refl e (items_read n)
    where
      by : (o : Option (List Token)) → after_end_array ts ≡ o → items_step p (items p n) ts o ≡ Some (js, r)
          → Reads (items p n) items_tokens → ts ≡ items_tokens js ++ r
      by (Some rest) is f later =
          closed_array ts rest is ∙ (λ i. items_tokens (gives no_items js rest r f i) ++ leaves no_items js rest r f i)
      by None is f later =
          let first = chained (λ q. parse_map (item q.0) (items p n q.1)) (p ts) js r f in
          let more = mapped (item first.0.0) (items p n first.0.1) js r first.2 in
          reads ts first.0.1 first.0.0 first.1
          ∙ ap (λ l. json_tokens first.0.0 ++ l) (later first.0.1 r more.0 more.1)
          ∙ sym (append_assoc (json_tokens first.0.0) (items_tokens more.0) r)
          ∙ ap (λ l. items_tokens l ++ r) more.2

  members_read : (n : ℕ) → Reads (members p n) members_tokens
  unfolding members
  members_read zero ts r ms e = not_found (ms, r) e
  members_read (suc n) ts r ms e = by found.0.0 refl (members_read n)
    where
      found : (q : Option (List ℕ) × List Token) × (read_key ts ≡ Some q) × (members_step p (members p n) q.0 q.1 ≡ Some (ms, r))
      found = chained (λ q. members_step p (members p n) q.0 q.1) (read_key ts) ms r e

      tokens : ts ≡ key_token found.0.0 ∷ found.0.1
      tokens = read_key_is ts found.0.0 found.0.1 found.1

      by : (k : Option (List ℕ)) → found.0.0 ≡ k → Reads (members p n) members_tokens → ts ≡ members_tokens ms ++ r
      by None is later =
          let f : members_step p (members p n) None found.0.1 ≡ Some (ms, r) =
          ap (λ k. members_step p (members p n) k found.0.1) (sym is) ∙ found.2 in
          tokens ∙ (λ i. key_token (is i) ∷ leaves no_members ms found.0.1 r f i)
          ∙ ap (λ l. members_tokens l ++ r) (gives no_members ms found.0.1 r f)
      by (Some k) is later =
          let f : members_step p (members p n) (Some k) found.0.1 ≡ Some (ms, r) =
          ap (λ o. members_step p (members p n) o found.0.1) (sym is) ∙ found.2 in
          let first = chained (λ q. parse_map (member k q.0) (members p n q.1)) (p found.0.1) ms r f in
          let more = mapped (member k first.0.0) (members p n first.0.1) ms r first.2 in
          tokens ∙ (λ i. key_token (is i) ∷ reads found.0.1 first.0.1 first.0.0 first.1 i)
          ∙ ap (λ l. Token.key k ∷ (json_tokens first.0.0 ++ l)) (later first.0.1 r more.0 more.1)
          ∙ ap (λ l. Token.key k ∷ l) (sym (append_assoc (json_tokens first.0.0) (members_tokens more.0) r))
          ∙ ap (λ l. members_tokens l ++ r) more.2

value_with_reads : (a : Parse Items) (o : Parse Members) → Reads a items_tokens → Reads o members_tokens
    → Reads (value_with a o) json_tokens
value_with_reads a o f g [] r j e = not_found (j, r) e
value_with_reads a o f g (Token.begin_object ∷ ts) r j e =
    let m = mapped object (o ts) j r e in
    ap (λ l. Token.begin_object ∷ l) (g ts r m.0 m.1) ∙ ap (λ x. json_tokens x ++ r) m.2
value_with_reads a o f g (Token.end_object ∷ ts) r j e = not_found (j, r) e
value_with_reads a o f g (Token.begin_array ∷ ts) r j e =
    let m = mapped array (a ts) j r e in
    ap (λ l. Token.begin_array ∷ l) (f ts r m.0 m.1) ∙ ap (λ x. json_tokens x ++ r) m.2
value_with_reads a o f g (Token.end_array ∷ ts) r j e = not_found (j, r) e
value_with_reads a o f g (Token.key s ∷ ts) r j e = not_found (j, r) e
value_with_reads a o f g (Token.string s ∷ ts) r j e =
    λ i. json_tokens (gives (string s) j ts r e i) ++ leaves (string s) j ts r e i
value_with_reads a o f g (Token.number s ∷ ts) r j e =
    λ i. json_tokens (gives (number s) j ts r e i) ++ leaves (number s) j ts r e i
value_with_reads a o f g (Token.boolean b ∷ ts) r j e =
    λ i. json_tokens (gives (boolean b) j ts r e i) ++ leaves (boolean b) j ts r e i
value_with_reads a o f g (Token.null ∷ ts) r j e = λ i. json_tokens (gives null j ts r e i) ++ leaves null j ts r e i
value_with_reads a o f g (Token.bad ∷ ts) r j e = not_found (j, r) e

-- the parser of values consumes the tokens of the value that it returns, and leaves the rest
pub value_reads : (d : ℕ) → Reads (value d) json_tokens
unfolding value
value_reads zero =
    value_with_reads (λ ts. None) (λ ts. None) (λ ts r js e. not_found (js, r) e) (λ ts r ms e. not_found (ms, r) e)
value_reads (suc d) =
    value_with_reads (λ ts. items (value d) (length ts) ts) (λ ts. members (value d) (length ts) ts)
    (λ ts r js e. items_read (value d) (value_reads d) (length ts) ts r js e)
    (λ ts r ms e. members_read (value d) (value_reads d) (length ts) ts r ms e)

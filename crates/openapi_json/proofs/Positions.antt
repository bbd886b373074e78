-- How many tokens of a value come before the one at a location in it, and which value is there in a text.
use Rattle.std.proofs.Common.{◌≡◌, ℕ, zero, suc, ◌+◌, ◌-◌, ◌<◌, ◌≤◌, List, [], ◌∷◌, ◌++◌, Bool, true, false, cond, Option, Some, None}
use Rattle.std.proofs.Common.{IfSome, IsFalse, IsSomeAnd, IsTrue, is_some, MatchOption, option_and_then, option_map, drop, take, get_or}
use Rattle.std.proofs.Common.{length, drop-drop, append_assoc, append-nil, length-append, length-drop, length-take, take_all, refl, sym, ap, subst, ◌∙◌}
use Rattle.std.proofs.Common.{arith, Vec, true≢false}
use Rattle.std.specs.Prelude.{slice_get}
use Rattle.std.specs.Borrow.{Bor}
use Rattle.std.specs.Str.{bytes_eq, IsUtf8}
use Rattle.std.proofs.lemmas.List.{drop_more}
use Rattle.std.proofs.lemmas.Slice.Eq.{bytes_eq-Decides}
use Rattle.json.specs.Find.{get_item, get_member, later_or}
use Rattle.json.specs.Json.{Json, null, boolean, number, string, array, object, Items, no_items, item, Members, no_members, member}
use Rattle.json.specs.Json.{if_last, value}
use Rattle.json.specs.Lex.{lex, tokens, class, fresh}
use Rattle.json.specs.Lex as lexing
use Rattle.json.specs.Token.{Token}
use Rattle.json.specs.Tree.{json_tokens, items_tokens, members_tokens}
use Rattle.json.specs.Value.{value_view, items_view, members_view}
use Rattle.json.specs.declared.value.Value.{Value, Array, Object}
use Rattle.json.proofs.Found.{not_found, Some_inj}
use Rattle.json.proofs.Trees.{get_item_within, view-Array, view-Object}
use Rattle.serde_json.specs.Read.{max_depth}
use Rattle.openapi_node.specs.Place.{Place, Step, named, indexed}
use Rattle.openapi_json.specs.Ordered.{parsed}
use Rattle.openapi_json.specs.Positions.{before, before_item, before_member, BeginsAt, child, flat, IsBehind, IsToken, item_tokens, json_at}
use Rattle.openapi_json.specs.Positions.{last_name, member_tokens, StandsAt, StepsTo, tokens_before}
use Rattle.openapi_json.specs.Scanned.{AreGood, begins, next_mode, starts}
use Rattle.openapi_json.specs.declared.position.Point.{Point}
use Rattle.openapi_json.specs.declared.position.Position.{Position}
use Rattle.openapi_json.proofs.Parsed.{value_reads}
use Rattle.openapi_json.proofs.Scanned.{AreOf, behind, byte_step, as_many_starts, good_behind, length_behind, nothing_left, start_is, start_within}

-- ---- the tokens of a text that is parsed
-- they are those of its value
pub text_reads : (text : List ℕ) (j : Json) → parsed text ≡ Some j → tokens text ≡ json_tokens j
text_reads text j e = by (value max_depth (tokens text)) refl e
  where
    by : (o : Option (Json × List Token)) → value max_depth (tokens text) ≡ o → option_and_then (λ p. if_last p.0 p.1) o ≡ Some j
        → tokens text ≡ json_tokens j
    by None is f = not_found j f
    by (Some (k, [])) is f =
        value_reads max_depth (tokens text) [] k is ∙ append-nil (json_tokens k) ∙ ap json_tokens (Some_inj k j f)
    by (Some (k, t ∷ ts)) is f = not_found j f

good_append : (ts us : List Token) → AreGood ts → AreGood us → AreGood (ts ++ us)
good_append [] us g h = h
good_append (t ∷ ts) us g h = (g.0, good_append ts us g.1 h)

mutual
  -- none of them is `bad`
  pub good_tokens : (j : Json) → AreGood (json_tokens j)
  good_tokens null = (λ e. cc, tt)
  good_tokens (boolean b) = (λ e. cc, tt)
  good_tokens (number s) = (λ e. cc, tt)
  good_tokens (string s) = (λ e. cc, tt)
  good_tokens (array js) = (λ e. cc, good_items js)
  good_tokens (object ms) = (λ e. cc, good_members ms)

  good_items : (js : Items) → AreGood (items_tokens js)
  good_items no_items = (λ e. cc, tt)
  good_items (item j js) = good_append (json_tokens j) (items_tokens js) (good_tokens j) (good_items js)

  good_members : (ms : Members) → AreGood (members_tokens ms)
  good_members no_members = (λ e. cc, tt)
  good_members (member k j ms) =
      (λ e. cc, good_append (json_tokens j) (members_tokens ms) (good_tokens j) (good_members ms))

-- there are no more tokens than bytes
few_tokens : (m : lexing.Mode) (xs : List ℕ) (ts : List Token) → AreGood ts → AreOf (lex m xs) ts → length ts ≤ length xs
few_tokens m [] ts g a = omega (arith, ap length (nothing_left m ts g a))
few_tokens m (x ∷ xs) ts g a =
    let b = begins m (class x) x in
    omega (
      arith,
      length_behind b ts,
      few_tokens (next_mode m (class x)) xs (behind b ts) (good_behind b ts g) (byte_step m x xs ts g a),
    )

pub value_fits : (text : List ℕ) (j : Json) → parsed text ≡ Some j → length (json_tokens j) ≤ length text
value_fits text j e =
    let is = text_reads text j e in
    subst (λ ts. length ts ≤ length text) is
    (few_tokens lexing.between text (tokens text) (subst AreGood (sym is) (good_tokens j)) (fresh, refl))

-- ---- the tokens before one of several parts
passed : (xs ys : List Token) (n : ℕ) → drop (length xs + n) (xs ++ ys) ≡ drop n ys
passed [] ys n = let e : 0 + n ≡ n = omega arith in ap (λ k. drop k ys) e
passed (x ∷ xs) ys n =
    let e : suc (length xs) + n ≡ suc (length xs + n) = omega arith in ap (λ k. drop k (x ∷ (xs ++ ys))) e ∙ passed xs ys n

pub items_flat : {A : Type 0} (vs : List (Value A)) → items_tokens (items_view vs) ≡ flat item_tokens vs ++ Token.end_array ∷ []
items_flat [] = refl
items_flat (v ∷ vs) =
    ap (λ l. item_tokens v ++ l) (items_flat vs) ∙ sym (append_assoc (item_tokens v) (flat item_tokens vs) (Token.end_array ∷ []))

pub members_flat : {A : Type 0} (ms : List (Bor (List ℕ) × Value A))
    → members_tokens (members_view ms) ≡ flat member_tokens ms ++ Token.end_object ∷ []
members_flat [] = refl
members_flat (m ∷ ms) =
    ap (λ l. member_tokens m ++ l) (members_flat ms)
    ∙ sym (append_assoc (member_tokens m) (flat member_tokens ms) (Token.end_object ∷ []))

-- how many tokens arrays and objects have
pub array_counts : {A : Type 0} (v : Vec (Value A) A) (vs : List (Value A)) (w : Value A) → vs ≡ v.items → w ≡ Array v
    → 2 + length (flat item_tokens vs) ≡ length (json_tokens (value_view w))
array_counts v vs w items is =
    omega (
      arith,
      length-append (flat item_tokens vs) (Token.end_array ∷ []),
      ap length (items_flat vs),
      ap (λ us. length (items_tokens (items_view us))) items,
      ap (λ j. length (json_tokens j)) (ap value_view is ∙ view-Array v),
    )

pub object_counts : {A : Type 0} (v : Vec (Bor (List ℕ) × Value A) A) (ms : List (Bor (List ℕ) × Value A)) (w : Value A)
    → ms ≡ v.items → w ≡ Object v → 2 + length (flat member_tokens ms) ≡ length (json_tokens (value_view w))
object_counts v ms w items is =
    omega (
      arith,
      length-append (flat member_tokens ms) (Token.end_object ∷ []),
      ap length (members_flat ms),
      ap (λ us. length (members_tokens (members_view us))) items,
      ap (λ j. length (json_tokens j)) (ap value_view is ∙ view-Object v),
    )

-- the tokens of a part and of the rest after it
pub part_counts : {X : Type 0} (f : X → List Token) (xs : List X) (i : ℕ) (d : X) → i < length xs
    → length (f (get_or xs i d)) + length (flat f (drop (i + 1) xs)) ≡ length (flat f (drop i xs))
part_counts f xs i d h =
    sym (length-append (f (get_or xs i d)) (flat f (drop (i + 1) xs))) ∙ ap (λ ys. length (flat f ys)) (sym (drop_more xs i d h))

-- the first parts have no more tokens than all
pub take_counts : {X : Type 0} (f : X → List Token) (xs : List X) (i : ℕ) → length (flat f (take i xs)) ≤ length (flat f xs)
take_counts f xs zero = omega arith
take_counts f [] (suc i) = omega arith
take_counts f (x ∷ xs) (suc i) =
    omega (arith, length-append (f x) (flat f (take i xs)), length-append (f x) (flat f xs), take_counts f xs i)

-- ---- a step, in terms of the code
pub item_number : {A : Type 0} (vs : List (Value A)) (i : ℕ) → i < length vs
    → length (flat item_tokens (take i vs)) ≡ before_item i (items_view vs)
item_number [] i h = absurd (omega arith)
item_number (v ∷ vs) zero h = refl
item_number (v ∷ vs) (suc i) h =
    length-append (item_tokens v) (flat item_tokens (take i vs))
    ∙ ap (λ n. length (item_tokens v) + n) (item_number vs i (omega arith))

pub item_steps : {A : Type 0} (vs : List (Value A)) (i : ℕ) (d : Value A) → i < length vs
    → StepsTo (indexed i) (array (items_view vs)) (1 + length (flat item_tokens (take i vs))) (value_view (get_or vs i d))
item_steps vs i d h =
    record { found = sym (get_item_within vs i d h); number = ap (λ n. 1 + n) (item_number vs i h) }

-- a step leads to the member at index `i` if it has the name and no later member has it
module _ {A : Type 0} (name : List ℕ) (d : Bor (List ℕ) × Value A) where
  pub member_steps : (ms : List (Bor (List ℕ) × Value A)) (i : ℕ) → i < length ms → bytes_eq (get_or ms i d).0.now name ≡ true
      → get_member name (members_view (drop (i + 1) ms)) ≡ None
      → StepsTo (named name) (object (members_view ms)) (2 + length (flat member_tokens (take i ms)))
      (value_view (get_or ms i d).1)
  member_steps [] i h same last = absurd (omega arith)
  member_steps (m ∷ ms) zero h same last =
      let rest = length (json_tokens (value_view m.1)) + before_member name (members_view ms) in
      record {
        found = ap (λ o. later_or o (cond (bytes_eq m.0.now name) (Some (value_view m.1)) None)) last
            ∙ ap (λ (b : Bool). cond b (Some (value_view m.1)) None) same;
        number = ap (λ (o : Option Json). 1 + (1 + cond (is_some o) rest 0)) (sym last);
      }
  member_steps (m ∷ ms) (suc i) h same last =
      let e : suc i + 1 ≡ suc (i + 1) = omega arith in
      let more = member_steps ms i (omega arith) same (ap (λ n. get_member name (members_view (drop n (m ∷ ms)))) (sym e) ∙ last) in
      let first = length (json_tokens (value_view m.1)) in
      let rest = first + before_member name (members_view ms) in
      let counts : 1 + (1 + rest) ≡ before (named name) (object (members_view (m ∷ ms))) =
      ap (λ (o : Option Json). 1 + (1 + cond (is_some o) rest 0)) (sym more.found) in
      record {
        found = ap (λ o. later_or o (cond (bytes_eq m.0.now name) (Some (value_view m.1)) None)) more.found;
        number = omega (
          arith,
          counts,
          more.number,
          length-append (json_tokens (value_view m.1)) (flat member_tokens (take i ms)),
        );
      }

-- the members from the end, one by one: if this one has another name, no member from it on has the name
pub none_from : {A : Type 0} (ms : List (Bor (List ℕ) × Value A)) (left : ℕ) (m : Bor (List ℕ) × Value A) (name : List ℕ)
    → 0 < left → left ≤ length ms → m ≡ get_or ms (left - 1) m → bytes_eq m.0.now name ≡ false
    → get_member name (members_view (drop left ms)) ≡ None → get_member name (members_view (drop (left - 1) ms)) ≡ None
none_from ms left m name some within is other none =
    let next : left - 1 + 1 ≡ left = omega (arith, some) in
    ap (λ ns. get_member name (members_view ns)) (drop_more ms (left - 1) m (omega (arith, some, within)))
    ∙ ap (λ n. get_member name (members_view (n ∷ drop (left - 1 + 1) ms))) (sym is)
    ∙ ap (λ k. get_member name (members_view (m ∷ drop k ms))) next
    ∙ ap (λ o. later_or o (cond (bytes_eq m.0.now name) (Some (value_view m.1)) None)) none
    ∙ ap (λ (b : Bool). cond b (Some (value_view m.1)) None) other

-- ---- a step, in terms of the grammar
-- if a location ends with a name, the name is token `n - 1` of the value, followed by these tokens
abbrev pub IsNamed : Place → Json → ℕ → List Token → Type 0
IsNamed p j n ts = IfSome (last_name p) (λ k. (1 ≤ n) × (drop (n - 1) (json_tokens j) ≡ Token.key k ∷ ts))

-- the tokens of `k`, to which a step leads, come after `before s j` tokens of `j`
record StepsOver (s : Step) (j k : Json) : Type 0 where
  rest : List Token
  there : drop (before s j) (json_tokens j) ≡ json_tokens k ++ rest
  name : IsNamed (s ∷ []) j (before s j) (json_tokens k ++ rest)

item_there : (i : ℕ) (js : Items) (k : Json) → get_item i js ≡ Some k
    → (rest : List Token) × (drop (before_item i js) (items_tokens js) ≡ json_tokens k ++ rest)
item_there i no_items k e = not_found k e
item_there zero (item j js) k e = (items_tokens js, ap (λ x. json_tokens x ++ items_tokens js) (Some_inj j k e))
item_there (suc i) (item j js) k e =
    let more = item_there i js k e in
    (more.0, passed (json_tokens j) (items_tokens js) (before_item i js) ∙ more.1)

-- the last member with a name comes after `n` tokens of the members
record LastOf (name : List ℕ) (ms : Members) (k : Json) : Type 0 where
  n : ℕ
  rest : List Token
  number : before_member name ms ≡ 1 + n
  there : drop n (members_tokens ms) ≡ Token.key name ∷ (json_tokens k ++ rest)

chosen : (b : Bool) (j k : Json) → cond b (Some j) None ≡ Some k → (b ≡ true) × (j ≡ k)
chosen true j k e = (refl, Some_inj j k e)
chosen false j k e = not_found k e

last_there : (name : List ℕ) (ms : Members) (k : Json) → get_member name ms ≡ Some k → LastOf name ms k
last_there name no_members k e = not_found k e
last_there name (member l j ms) k e = by (get_member name ms) refl e (last_there name ms k)
  where
    rest : ℕ
    rest = length (json_tokens j) + before_member name ms

    by : (o : Option Json) → get_member name ms ≡ o → later_or o (cond (bytes_eq l name) (Some j) None) ≡ Some k
        → (get_member name ms ≡ Some k → LastOf name ms k) → LastOf name (member l j ms) k
    by None is f later =
        let it = chosen (bytes_eq l name) j k f in
        let same = (bytes_eq-Decides l name).0 it.0 in
        record {
          n = 0;
          rest = members_tokens ms;
          number = ap (λ (o : Option Json). 1 + cond (is_some o) rest 0) is;
          there = λ i. Token.key (same i) ∷ (json_tokens (it.1 i) ++ members_tokens ms);
        }
    by (Some w) is f later =
        let more = later (is ∙ f) in
        let counts : before_member name (member l j ms) ≡ 1 + rest = ap (λ (o : Option Json). 1 + cond (is_some o) rest 0) is in
        record {
          n = suc (length (json_tokens j) + more.n);
          rest = more.rest;
          number = omega (arith, counts, more.number);
          there = passed (json_tokens j) (members_tokens ms) more.n ∙ more.there;
        }

steps_over : (s : Step) (j k : Json) → child s j ≡ Some k → StepsOver s j k
steps_over (named l) null k e = not_found k e
steps_over (named l) (boolean b) k e = not_found k e
steps_over (named l) (number t) k e = not_found k e
steps_over (named l) (string t) k e = not_found k e
steps_over (named l) (array js) k e = not_found k e
steps_over (named l) (object ms) k e =
    let it = last_there l ms k e in
    let number : before (named l) (object ms) ≡ suc (suc it.n) = omega (arith, it.number) in
    let name : before (named l) (object ms) - 1 ≡ suc it.n = omega (arith, number) in
    let next : suc it.n ≡ it.n + 1 = omega arith in
    let ts = json_tokens (object ms) in
    record {
      rest = it.rest;
      there = ap (λ n. drop n ts) number ∙ ap (λ n. drop n (members_tokens ms)) next
          ∙ sym (drop-drop 1 it.n (members_tokens ms)) ∙ ap (drop 1) it.there;
      name = (omega (arith, number), ap (λ n. drop n ts) name ∙ it.there);
    }
steps_over (indexed i) null k e = not_found k e
steps_over (indexed i) (boolean b) k e = not_found k e
steps_over (indexed i) (number t) k e = not_found k e
steps_over (indexed i) (string t) k e = not_found k e
steps_over (indexed i) (array js) k e =
    let it = item_there i js k e in
    let number : before (indexed i) (array js) ≡ suc (before_item i js) = omega arith in
    record { rest = it.0; there = ap (λ n. drop n (json_tokens (array js))) number ∙ it.1; name = tt }
steps_over (indexed i) (object ms) k e = not_found k e

-- ---- a location
begins_some : (j : Json) → 0 < length (json_tokens j)
begins_some null = omega arith
begins_some (boolean b) = omega arith
begins_some (number s) = omega arith
begins_some (string s) = omega arith
begins_some (array js) = omega arith
begins_some (object ms) = omega arith

-- a location leads to a value whose tokens come after `n` tokens of `j`
pub record LeadsTo (p : Place) (j : Json) (n : ℕ) : Type 0 where
  pub value : Json
  pub found : json_at p j ≡ Some value
  pub rest : List Token
  pub there : drop n (json_tokens j) ≡ json_tokens value ++ rest
  pub name : IsNamed p j n (json_tokens value ++ rest)

-- if the tokens of a value follow `n` tokens of a list, the list is long enough for both
has_room : (ts : List Token) (n : ℕ) (j : Json) (rest : List Token) → drop n ts ≡ json_tokens j ++ rest
    → n + length (json_tokens j) ≤ length ts
has_room ts n j rest e =
    omega (arith, length-drop n ts, ap length e, length-append (json_tokens j) rest, begins_some j)

-- a list is its first element, followed by the others
pub first_and_more : {X : Type 0} (xs : List X) (x : X) → 1 ≤ length xs → x ≡ get_or xs 0 x
    → xs ≡ x ∷ take (length xs - 1) (drop 1 xs)
first_and_more [] x h is = absurd (omega (arith, h))
first_and_more (y ∷ ys) x h is =
    ap (λ z. z ∷ ys) (sym is) ∙ ap (λ zs. x ∷ zs) (sym (take_all (length (y ∷ ys) - 1) ys (omega arith)))

more_before : (m : ℕ) (xs ys ws : List Token) → drop m xs ≡ ws → 0 < length ws → drop m (xs ++ ys) ≡ ws ++ ys
more_before zero xs ys ws e h = ap (λ l. l ++ ys) e
more_before (suc m) [] ys ws e h = absurd (omega (arith, ap length e, h))
more_before (suc m) (x ∷ xs) ys ws e h = more_before m xs ys ws e h

if_some : {A : Type 0} {P Q : A → Type 0} (o : Option A) → ((a : A) → P a → Q a) → IfSome o P → IfSome o Q
if_some None f p = tt
if_some (Some a) f p = f a p

module _ (s : Step) (j k : Json) (m : ℕ) (found : child s j ≡ Some k) (a : StepsOver s j k) where
  abbrev skipped : ℕ
  skipped = before s j

  moved : (l : ℕ) (ws : List Token) → drop l (json_tokens k) ≡ ws → 0 < length ws → drop (skipped + l) (json_tokens j) ≡ ws ++ a.rest
  moved l ws e h = sym (drop-drop l skipped (json_tokens j)) ∙ ap (drop l) a.there ∙ more_before l (json_tokens k) a.rest ws e h

  named_there : (p : Place) (b : LeadsTo p k m) → IsNamed (s ∷ p) j (skipped + m) (json_tokens b.value ++ (b.rest ++ a.rest))
  named_there [] b =
      let same : json_tokens k ≡ json_tokens b.value = ap json_tokens (Some_inj k b.value b.found) in
      let first : m ≡ 0 =
      omega (
        arith,
        length-drop m (json_tokens k),
        ap length b.there,
        length-append (json_tokens b.value) b.rest,
        ap length same,
        begins_some b.value,
      ) in
      let is : json_tokens k ≡ json_tokens b.value ++ b.rest = subst (λ l. drop l (json_tokens k) ≡ json_tokens b.value ++ b.rest) first b.there in
      subst (IsNamed (s ∷ []) j (skipped + m)) (ap (λ l. l ++ a.rest) is ∙ append_assoc (json_tokens b.value) b.rest a.rest)
      (subst (λ l. IsNamed (s ∷ []) j l (json_tokens k ++ a.rest)) (omega (arith, first)) a.name)
  named_there (t ∷ q) b =
      if_some (last_name (t ∷ q))
      (λ x h. (
        omega (arith, h.0),
        ap (λ l. drop l (json_tokens j)) (omega (arith, h.0))
            ∙ moved (m - 1) (Token.key x ∷ (json_tokens b.value ++ b.rest)) h.1 (omega arith)
            ∙ ap (λ l. Token.key x ∷ l) (append_assoc (json_tokens b.value) b.rest a.rest),
      ))
      b.name

  -- a step, followed by a location
  behind_step : (p : Place) → LeadsTo p k m → LeadsTo (s ∷ p) j (skipped + m)
  behind_step p b =
      record {
        value = b.value;
        found = ap (option_and_then (json_at p)) found ∙ b.found;
        rest = b.rest ++ a.rest;
        there = moved m (json_tokens b.value ++ b.rest) b.there
            (omega (arith, length-append (json_tokens b.value) b.rest, begins_some b.value))
            ∙ append_assoc (json_tokens b.value) b.rest a.rest;
        name = named_there p b;
      }

-- the empty location leads to the value itself
leads_nowhere : (j : Json) → LeadsTo [] j 0
leads_nowhere j =
    record { value = j; found = refl; rest = []; there = sym (append-nil (json_tokens j)); name = tt }

summed : (n m : ℕ) (o : Option ℕ) → option_map (λ l. n + l) o ≡ Some m → (l : ℕ) × (o ≡ Some l) × (n + l ≡ m)
summed n m None e = not_found m e
summed n m (Some l) e = (l, refl, Some_inj (n + l) m e)

-- the value to which the first step of a location leads, and the number of tokens in it before the rest of the location
record Stepped (s : Step) (p : Place) (j : Json) (m : ℕ) : Type 0 where
  value : Json
  number : ℕ
  found : child s j ≡ Some value
  counted : tokens_before p value ≡ Some number
  sum : before s j + number ≡ m

stepped : (s : Step) (p : Place) (j : Json) (m : ℕ) → tokens_before (s ∷ p) j ≡ Some m → Stepped s p j m
stepped s p j m e = by (child s j) refl e
  where
    by : (o : Option Json) → child s j ≡ o
        → option_and_then (λ k. option_map (λ n. before s j + n) (tokens_before p k)) o ≡ Some m → Stepped s p j m
    by None is f = not_found m f
    by (Some k) is f =
        let it = summed (before s j) m (tokens_before p k) f in
        record { value = k; number = it.0; found = is; counted = it.1; sum = it.2 }

-- the value at a location is found after as many tokens as `tokens_before` counts
pub leads : (p : Place) (j : Json) (n : ℕ) → tokens_before p j ≡ Some n → LeadsTo p j n
leads [] j n e = subst (LeadsTo [] j) (Some_inj 0 n e) (leads_nowhere j)
leads (s ∷ p) j n e =
    let it = stepped s p j n e in
    subst (LeadsTo (s ∷ p) j) it.sum
    (behind_step s j it.value it.number it.found (steps_over s j it.value it.found) p (leads p it.value it.number it.counted))

-- the tokens of the value to which a step leads, and those before it, are no more than all tokens
pub step_room : (s : Step) (j k : Json) (n : ℕ) → StepsTo s j n k → n + length (json_tokens k) ≤ length (json_tokens j)
step_room s j k n a =
    let it = steps_over s j k a.found in
    omega (arith, a.number, has_room (json_tokens j) (before s j) k it.rest it.there)

pub place_room : (p : Place) (j : Json) (n : ℕ) → tokens_before p j ≡ Some n → n < length (json_tokens j)
place_room p j n e =
    let it = leads p j n e in
    omega (arith, has_room (json_tokens j) n it.value it.rest it.there, begins_some it.value)

-- the number of tokens before a location that begins with a step, by the number after the step
pub after_step : (s : Step) (p : Place) (j : Json) (n : ℕ) (k : Json) → StepsTo s j n k
    → tokens_before (s ∷ p) j ≡ option_map (λ m. n + m) (tokens_before p k)
after_step s p j n k a =
    ap (option_and_then (λ w. option_map (λ m. before s j + m) (tokens_before p w))) a.found
    ∙ ap (λ l. option_map (λ m. l + m) (tokens_before p k)) (sym a.number)

-- if there is no number, there is no value
uncounted : (n : ℕ) (o : Option ℕ) → option_map (λ l. n + l) o ≡ None → o ≡ None
uncounted n None e = refl
uncounted n (Some l) e = not_found (n + l) (sym e)

pub leads_to_none : (p : Place) (j : Json) → tokens_before p j ≡ None → json_at p j ≡ None
leads_to_none [] j e = not_found 0 (sym e)
leads_to_none (s ∷ p) j e = by (child s j) e (leads_to_none p)
  where
    by : (o : Option Json) → option_and_then (λ k. option_map (λ n. before s j + n) (tokens_before p k)) o ≡ None
        → ((k : Json) → tokens_before p k ≡ None → json_at p k ≡ None) → option_and_then (json_at p) o ≡ None
    by None f more = refl
    by (Some k) f more = more k (uncounted (before s j) (tokens_before p k) f)

-- if a location ends with a name, at least one token comes before the value
pub has_name : (p : Place) (j : Json) (n : ℕ) → tokens_before p j ≡ Some n → IsTrue (is_some (last_name p)) → 1 ≤ n
has_name p j n counted is = by (last_name p) is (leads p j n counted).name
  where
    by : (o : Option (List ℕ)) → IsTrue (is_some o)
        → IfSome o (λ k. (1 ≤ n) × (drop (n - 1) (json_tokens j)
        ≡ Token.key k ∷ (json_tokens (leads p j n counted).value ++ (leads p j n counted).rest)))
        → 1 ≤ n
    by None is h = absurd (true≢false (sym is))
    by (Some k) is h = h.0

-- ---- a text
-- the point after the bytes before a token is the point of the token
pub token_at : (text : List ℕ) (n o : ℕ) (q : Point) → slice_get (starts text) n ≡ Some o → IsBehind (take o text) q
    → IsToken text n q
token_at text n o q is behind =
    let same : o ≡ q.offset = omega (arith, behind.offset, length-take o text, start_within text n o is) in
    record { offset = is ∙ ap Some same; point = subst (λ k. IsBehind (take k text) q) same behind }

is_there : {P : Point → Type 0} (o : Option Point) → IsSomeAnd o P → (q : Point) × (o ≡ Some q) × P q
is_there None h = absurd h
is_there (Some q) h = (q, refl, h)

module _ (text : List ℕ) (p : Place) (j : Json) (n : ℕ) (reads : parsed text ≡ Some j) (counted : tokens_before p j ≡ Some n) where
  it : LeadsTo p j n
  it = leads p j n counted

  good : AreGood (tokens text)
  good = subst AreGood (sym (text_reads text j reads)) (good_tokens j)

  -- the tokens from the value on
  from_value : drop n (tokens text) ≡ json_tokens it.value ++ it.rest
  from_value = ap (drop n) (text_reads text j reads) ∙ it.there

  -- the value has an offset
  pub is_within : n < length (starts text)
  is_within =
      omega (
        arith,
        as_many_starts text good,
        ap length (text_reads text j reads),
        place_room p j n counted,
      )

  -- the tokens of the text from a token on
  from_token : (m : ℕ) (q : Point) (ts : List Token) → IsToken text m q → drop m (tokens text) ≡ ts → BeginsAt text q ts
  from_token m q ts a is =
      record {
        within = start_within text m q.offset a.offset;
        point = a.point;
        tokens = start_is text m q.offset good a.offset ∙ is;
      }

  pub stands : (at : Position) → IsUtf8 text → IsToken text n at.value → (IsFalse (is_some (last_name p)) → at.name ≡ None)
      → (IsTrue (is_some (last_name p)) → IsSomeAnd at.name (IsToken text (n - 1))) → StandsAt text p at
  stands at utf8 first without with_name =
      record {
        utf8 = utf8;
        value = it.value;
        there = ap (option_and_then (json_at p)) reads ∙ it.found;
        number = n;
        counted = ap (option_and_then (tokens_before p)) reads ∙ counted;
        each = as_many_starts text good;
        first = first;
        rest = it.rest;
        passed = from_value;
        begins = from_token n at.value (json_tokens it.value ++ it.rest) first from_value;
        name = by (last_name p) without with_name it.name;
      }
    where
      by : (o : Option (List ℕ)) → (IsFalse (is_some o) → at.name ≡ None)
          → (IsTrue (is_some o) → IsSomeAnd at.name (IsToken text (n - 1)))
          → IfSome o (λ k. (1 ≤ n) × (drop (n - 1) (json_tokens j) ≡ Token.key k ∷ (json_tokens it.value ++ it.rest)))
          → MatchOption o (at.name ≡ None) (λ k. (q : Point) × (at.name ≡ Some q) × IsToken text (n - 1) q
          × BeginsAt text q (Token.key k ∷ (json_tokens it.value ++ it.rest)))
      by None f g h = f refl
      by (Some k) f g h =
          let q = is_there at.name (g refl) in (
            q.0,
            q.1,
            q.2,
            from_token (n - 1) q.0 (Token.key k ∷ (json_tokens it.value ++ it.rest)) q.2
                (ap (drop (n - 1)) (text_reads text j reads) ∙ h.1),
          )

  pub all_stand : (m : Bool) (o : Option Position) → m ≡ is_some (last_name p) → IsUtf8 text
      → IfSome o (λ q. IsToken text n q.value) → IfSome o (λ q. IsFalse m → q.name ≡ None)
      → IfSome o (λ q. IsTrue m → IsSomeAnd q.name (IsToken text (n - 1))) → IfSome o (StandsAt text p)
  all_stand m None is utf8 first without with_name = tt
  all_stand m (Some q) is utf8 first without with_name =
      stands q utf8 first (λ no. without (is ∙ no)) (λ yes. with_name (is ∙ yes))

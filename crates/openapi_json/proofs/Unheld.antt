-- The numbers that no node holds: there are some exactly if the data of a value has a float. Then how they are collected.
use Rattle.std.proofs.Common.{◌≡◌, ℕ, ℤ, ◌+◌, ◌-◌, ◌<◌, ◌≤◌, Bool, true, false, cond, not, ◌&&◌, ◌||◌, List, [], ◌∷◌, ◌++◌}
use Rattle.std.proofs.Common.{Option, Some, None, IfSome, option_map, option_and_then, length, map, drop, take, get_or}
use Rattle.std.proofs.Common.{append_assoc, append-nil, length-append, take_all, refl, sym, ap, subst, ◌∙◌, arith, true≢false}
use Rattle.std.proofs.lemmas.List.{drop_all, drop_more, map-append, take-append-le}
use Rattle.std.specs.Borrow.{Bor}
use Rattle.std.specs.Global.{Vec}
use Rattle.std.specs.Str.{bytes_eq}
use Rattle.json.proofs.Found.{not_found}
use Rattle.json.specs.Json as json
use Rattle.json.specs.Value.{items_view, members_view, value_view}
use Rattle.json.specs.declared.value.Value.{Value}
use Rattle.serde_json.specs.Data.{Data, Num, unsigned, negative, float, number, array, object, Items, item}
use Rattle.serde_json.specs.Data.{Members, no_members, member}
use Rattle.serde_json.specs.Find.{of_integer}
use Rattle.serde_json.specs.Read.{number_of, of_json}
use Rattle.serde_json.specs.Written.{has_float, items_have_float, members_have_float}
use Rattle.openapi_map.specs.Entries.{Entries, insert_entry}
use Rattle.openapi_node.specs.Place.{Place, indexed, named}
use Rattle.openapi_node.specs.Tree.{Tree}
use Rattle.openapi_json.specs.Ordered.{by_name, holds_whole, in_order, IsTreeInOrder, items_in_order, members_in_order, parsed, put_in_place}
use Rattle.openapi_json.specs.Ordered.{tree_of}
use Rattle.openapi_json.specs.Zeros.{IsTreeWithZeros, NumberAt, numbers_in, numbers_in_items, numbers_in_members, numbers_of_entry, of_all}
use Rattle.openapi_json.specs.Zeros.{replaced_of, unless_whole}
use Rattle.openapi_json.specs.declared.zeros.ReplacedNumber.{ReplacedNumber}
use Rattle.openapi_json.proofs.Numbers.{integer_whole}
use Rattle.openapi_json.proofs.Ordered.{filled, filled_plain, in_order_from, IsPlain, IsReadInOrder, made, read_by_name}

-- ---- a list of such numbers is empty exactly if there is no float
abbrev is_nil : {A : Type 0} → List A → Bool
is_nil [] = true
is_nil (x ∷ xs) = false

nil_append : {A : Type 0} (xs ys : List A) → is_nil (xs ++ ys) ≡ (is_nil xs && is_nil ys)
nil_append [] ys = refl
nil_append (x ∷ xs) ys = refl

nil_is : {A : Type 0} (xs : List A) → is_nil xs ≡ true → xs ≡ []
nil_is [] h = refl
nil_is (x ∷ xs) h = absurd (true≢false (sym h))

neither : (a b : Bool) → (not a && not b) ≡ not (a || b)
neither true b = refl
neither false b = refl

is_not : (b : Bool) → true ≡ not b → b ≡ false
is_not true h = absurd (true≢false h)
is_not false h = refl

abbrev Agrees : List NumberAt → Bool → Type 0
Agrees ns b = is_nil ns ≡ not b

-- if the numbers of two parts agree with their floats, so do those of both together
both_agree : (ns ms : List NumberAt) (a b : Bool) → Agrees ns a → Agrees ms b → Agrees (ns ++ ms) (a || b)
both_agree ns ms a b h k = nil_append ns ms ∙ (λ i. h i && k i) ∙ neither a b

number_agrees : (p : Place) (s : List ℕ) (o : Option Num)
    → IfSome (option_map number o) (λ d. Agrees (cond (holds_whole o) [] ((p, s) ∷ [])) (has_float d))
number_agrees p s None = tt
number_agrees p s (Some (unsigned n)) = refl
number_agrees p s (Some (negative z)) = refl
number_agrees p s (Some (float x)) = refl

array_agrees : (ns : List NumberAt) (o : Option Items) → IfSome o (λ ds. Agrees ns (items_have_float ds))
    → IfSome (option_map array o) (λ d. Agrees ns (has_float d))
array_agrees ns None h = tt
array_agrees ns (Some ds) h = h

item_agrees : (ns ms : List NumberAt) (o : Option Data) (p : Option Items) → IfSome o (λ d. Agrees ns (has_float d))
    → IfSome p (λ ds. Agrees ms (items_have_float ds))
    → IfSome (option_and_then (λ d. option_map (item d) p) o) (λ ds. Agrees (ns ++ ms) (items_have_float ds))
item_agrees ns ms None p c h = tt
item_agrees ns ms (Some d) None c h = tt
item_agrees ns ms (Some d) (Some ds) c h = both_agree ns ms (has_float d) (items_have_float ds) c h

-- the numbers of members agree with their data, name by name
abbrev Beside : Entries (List NumberAt) → Members → Type 0
Beside [] no_members = Unit {0}
Beside [] (member k d ms) = ⊥
Beside (e ∷ es) no_members = ⊥
Beside (e ∷ es) (member k d ms) = (e.0 ≡ k) × Agrees e.1 (has_float d) × Beside es ms

beside_put : (k : List ℕ) (ns : List NumberAt) (d : Data) → Agrees ns (has_float d) → (es : Entries (List NumberAt)) (ms : Members)
    → Beside es ms → Beside (insert_entry es k ns) (put_in_place k d ms)
beside_put k ns d a [] no_members h = (refl, a, tt)
beside_put k ns d a [] (member l e ms) h = absurd h
beside_put k ns d a (x ∷ es) no_members h = absurd h
beside_put k ns d a (x ∷ es) (member l e ms) h =
    subst (λ n. Beside (cond (bytes_eq k n) ((x.0, ns) ∷ es) (x ∷ insert_entry es k ns))
    (cond (bytes_eq k l) (member l d ms) (member l e (put_in_place k d ms)))) (sym h.0)
    (by (bytes_eq k l) (beside_put k ns d a es ms h.2))
  where
    by : (b : Bool) → Beside (insert_entry es k ns) (put_in_place k d ms)
        → Beside (cond b ((x.0, ns) ∷ es) (x ∷ insert_entry es k ns)) (cond b (member l d ms) (member l e (put_in_place k d ms)))
    by true rest = (h.0, a, h.2)
    by false rest = (h.0, h.1, rest)

all_agree : (es : Entries (List NumberAt)) (ms : Members) → Beside es ms → Agrees (of_all es) (members_have_float ms)
all_agree [] no_members h = refl
all_agree [] (member k d ms) h = absurd h
all_agree (e ∷ es) no_members h = absurd h
all_agree (e ∷ es) (member k d ms) h =
    both_agree e.1 (of_all es) (has_float d) (members_have_float ms) h.1 (all_agree es ms h.2)

object_agrees : (es : Entries (List NumberAt)) (o : Option Members) → IfSome o (Beside es)
    → IfSome (option_map object o) (λ d. Agrees (of_all es) (has_float d))
object_agrees es None h = tt
object_agrees es (Some ms) h = all_agree es ms h

member_agrees : (p : Place) (k : List ℕ) (ns : List NumberAt) (ms : json.Members) (es : Entries (List NumberAt)) (fs : Members)
    (o : Option Data) → IfSome o (λ d. Agrees ns (has_float d)) → Beside es fs
    → ((gs : Entries (List NumberAt)) (hs : Members) → Beside gs hs → IfSome (members_in_order ms hs) (Beside (numbers_in_members p ms gs)))
    → IfSome (option_and_then (λ d. members_in_order ms (put_in_place k d fs)) o)
    (Beside (numbers_in_members p ms (insert_entry es k ns)))
member_agrees p k ns ms es fs None a h rest = tt
member_agrees p k ns ms es fs (Some d) a h rest =
    rest (insert_entry es k ns) (put_in_place k d fs) (beside_put k ns d a es fs h)

mutual
  agrees : (p : Place) (j : json.Json) → IfSome (in_order j) (λ d. Agrees (numbers_in p j) (has_float d))
  agrees p json.null = refl
  agrees p (json.boolean b) = refl
  agrees p (json.number s) = number_agrees p s (number_of s)
  agrees p (json.string s) = refl
  agrees p (json.array js) = array_agrees (numbers_in_items p 0 js) (items_in_order js) (items_agree p 0 js)
  agrees p (json.object ms) =
      object_agrees (numbers_in_members p ms []) (members_in_order ms no_members) (members_agree p ms [] no_members tt)

  items_agree : (p : Place) (i : ℕ) (js : json.Items)
      → IfSome (items_in_order js) (λ ds. Agrees (numbers_in_items p i js) (items_have_float ds))
  items_agree p i json.no_items = refl
  items_agree p i (json.item j js) =
      item_agrees (numbers_in (p ++ indexed i ∷ []) j) (numbers_in_items p (i + 1) js) (in_order j) (items_in_order js)
      (agrees (p ++ indexed i ∷ []) j) (items_agree p (i + 1) js)

  members_agree : (p : Place) (ms : json.Members) (es : Entries (List NumberAt)) (fs : Members) → Beside es fs
      → IfSome (members_in_order ms fs) (Beside (numbers_in_members p ms es))
  members_agree p json.no_members es fs h = h
  members_agree p (json.member k j ms) es fs h =
      member_agrees p k (numbers_in (p ++ named k ∷ []) j) ms es fs (in_order j) (agrees (p ++ named k ∷ []) j) h
      (λ gs hs b. members_agree p ms gs hs b)

-- ---- the node of a text without such numbers
plain_without : (ns : List NumberAt) (o : Option Data) (d : Data) → Some d ≡ option_map by_name o
    → IfSome o (λ e. Agrees ns (has_float e)) → ns ≡ [] → IsPlain o
plain_without ns None d e a n = not_found d (sym e)
plain_without ns (Some f) d e a n = is_not (has_float f) (ap is_nil (sym n) ∙ a)

-- if a value has data and none of these numbers, it is read in order
pub read_without : (j : json.Json) (d : Data) → of_json j ≡ Some d → numbers_in [] j ≡ [] → IsReadInOrder j
read_without j d e n =
    in_order_from j (in_order j) refl (plain_without (numbers_in [] j) (in_order j) d (sym e ∙ read_by_name j) (agrees [] j) n) (made j)

-- the node of a text in order is also its node with zeros, with no replaced numbers
pub without_zeros : (text : List ℕ) (t : Tree) → IsTreeInOrder text t → IsTreeWithZeros text t []
without_zeros text t is = by (parsed text) refl is.reads
  where
    by : (o : Option json.Json) → parsed text ≡ o → option_and_then in_order o ≡ Some is.value → IsTreeWithZeros text t []
    by None e f = not_found is.value f
    by (Some j) e f =
        let same : tree_of j ≡ filled is.value = subst (λ o. IfSome o (λ d. tree_of j ≡ filled d)) f (made j) in
        let none : is_nil (numbers_in [] j) ≡ not (has_float is.value) =
        subst (λ o. IfSome o (λ d. Agrees (numbers_in [] j) (has_float d))) f (agrees [] j) in
        record {
          utf8 = is.utf8;
          value = j;
          reads = e;
          tree = is.is.same ∙ sym (same ∙ filled_plain is.value is.is.whole_numbers);
          numbers = sym (nil_is (numbers_in [] j) (none ∙ ap not is.is.whole_numbers));
          whole = λ n. is;
        }

-- ---- how they are collected
pub whole_text : (p : Place) (s : List ℕ) (w : ℤ) → number_of s ≡ Some (of_integer w) → unless_whole p s ≡ []
whole_text p s w e =
    let one : List NumberAt = (p, s) ∷ [] in
    ap (λ b. cond {A = List NumberAt} b [] one) (ap holds_whole e ∙ integer_whole w)

-- a list without its last element is what it was before that was pushed
pub popped : {X : Type 0} (n : ℕ) (xs zs ps : List X) (p : X) → length xs ≡ n → xs ≡ ps ++ p ∷ [] → zs ≡ take (n - 1) xs → zs ≡ ps
popped n xs zs ps p w e h =
    let l : length xs ≡ length (ps ++ p ∷ []) = ap length e in
    let m : n - 1 ≡ length ps = omega (arith, l, w, length-append ps (p ∷ [])) in
    h ∙ ap (take (n - 1)) e ∙ ap (λ k. take k (ps ++ p ∷ [])) m ∙ take-append-le (length ps) ps (p ∷ []) (omega arith)
    ∙ take_all (length ps) ps (omega arith)

-- after the numbers of the next item are added, those so far and those of the rest are still all
pub items_next : {A : Type 0} (p : Place) (vs : List (Value A)) (i : ℕ) (v : Value A) (old new more : List ReplacedNumber)
    (all : List NumberAt) → i < length vs → v ≡ get_or vs i v → new ≡ old ++ more
    → map replaced_of more ≡ numbers_in (p ++ indexed i ∷ []) (value_view v)
    → map replaced_of old ++ numbers_in_items p i (items_view (drop i vs)) ≡ all
    → map replaced_of new ++ numbers_in_items p (i + 1) (items_view (drop (i + 1) vs)) ≡ all
items_next p vs i v old new more all lt is n m h =
    let rest = numbers_in_items p (i + 1) (items_view (drop (i + 1) vs)) in
    let split : numbers_in_items p i (items_view (drop i vs)) ≡ numbers_in (p ++ indexed i ∷ []) (value_view v) ++ rest =
    ap (λ us. numbers_in_items p i (items_view us)) (drop_more vs i v lt)
    ∙ ap (λ w. numbers_in (p ++ indexed i ∷ []) (value_view w) ++ rest) (sym is) in
    ap (λ l. map replaced_of l ++ rest) n ∙ ap (λ l. l ++ rest) (map-append replaced_of old more)
    ∙ append_assoc (map replaced_of old) (map replaced_of more) rest
    ∙ ap (λ l. map replaced_of old ++ l) (ap (λ l. l ++ rest) m ∙ sym split) ∙ h

-- no item is left
pub items_end : {A : Type 0} (p : Place) (vs : List (Value A)) (i : ℕ) (ns all : List NumberAt) → length vs ≤ i
    → ns ++ numbers_in_items p i (items_view (drop i vs)) ≡ all → ns ≡ all
items_end p vs i ns all le h =
    sym (append-nil ns) ∙ ap (λ us. ns ++ numbers_in_items p i (items_view us)) (sym (drop_all i vs le)) ∙ h

-- an insert among the numbers by name
numbers_put : (es : Entries (Vec ReplacedNumber)) (k : List ℕ) (v : Vec ReplacedNumber)
    → map numbers_of_entry (insert_entry es k v) ≡ insert_entry (map numbers_of_entry es) k (map replaced_of v.items)
numbers_put [] k v = refl
numbers_put (e ∷ es) k v = by (bytes_eq k e.0) (numbers_put es k v)
  where
    by : (b : Bool) → map numbers_of_entry (insert_entry es k v) ≡ insert_entry (map numbers_of_entry es) k (map replaced_of v.items)
        → map numbers_of_entry (cond b ((e.0, v) ∷ es) (e ∷ insert_entry es k v))
        ≡ cond b ((e.0, map replaced_of v.items) ∷ map numbers_of_entry es)
        (numbers_of_entry e ∷ insert_entry (map numbers_of_entry es) k (map replaced_of v.items))
    by true rest = refl
    by false rest = ap (λ l. numbers_of_entry e ∷ l) rest

-- the same after the numbers of the next member are inserted
pub members_next : {A : Type 0} (p : Place) (ms : List (Bor (List ℕ) × Value A)) (i : ℕ) (m : Bor (List ℕ) × Value A)
    (old new : Entries (Vec ReplacedNumber)) (k : List ℕ) (v : Vec ReplacedNumber) (all : Entries (List NumberAt)) → i < length ms
    → m ≡ get_or ms i m → k ≡ m.0.now → new ≡ insert_entry old k v
    → map replaced_of v.items ≡ numbers_in (p ++ named m.0.now ∷ []) (value_view m.1)
    → numbers_in_members p (members_view (drop i ms)) (map numbers_of_entry old) ≡ all
    → numbers_in_members p (members_view (drop (i + 1) ms)) (map numbers_of_entry new) ≡ all
members_next p ms i m old new k v all lt is name n h each =
    let rest = members_view (drop (i + 1) ms) in
    let before = map numbers_of_entry old in
    let put : map numbers_of_entry new ≡ insert_entry before m.0.now (numbers_in (p ++ named m.0.now ∷ []) (value_view m.1)) =
    ap (map numbers_of_entry) n ∙ numbers_put old k v ∙ (λ j. insert_entry before (name j) (h j)) in
    let split : numbers_in_members p (members_view (drop i ms)) before
    ≡ numbers_in_members p rest (insert_entry before m.0.now (numbers_in (p ++ named m.0.now ∷ []) (value_view m.1))) =
    ap (λ us. numbers_in_members p (members_view us) before) (drop_more ms i m lt)
    ∙ ap (λ w. numbers_in_members p rest (insert_entry before w.0.now (numbers_in (p ++ named w.0.now ∷ []) (value_view w.1)))) (sym is) in
    ap (numbers_in_members p rest) put ∙ sym split ∙ each

-- the same after the numbers of the next entry are added
pub entries_next : (es : Entries (Vec ReplacedNumber)) (e : List ℕ × Vec ReplacedNumber) (left : Entries (Vec ReplacedNumber))
    (old new : List ReplacedNumber) (all : List NumberAt) → es ≡ e ∷ left → new ≡ old ++ e.1.items
    → map replaced_of old ++ of_all (map numbers_of_entry es) ≡ all → map replaced_of new ++ of_all (map numbers_of_entry left) ≡ all
entries_next es e left old new all is n h =
    let rest = of_all (map numbers_of_entry left) in
    ap (λ l. map replaced_of l ++ rest) n ∙ ap (λ l. l ++ rest) (map-append replaced_of old e.1.items)
    ∙ append_assoc (map replaced_of old) (map replaced_of e.1.items) rest
    ∙ ap (λ l. map replaced_of old ++ of_all (map numbers_of_entry l)) (sym is) ∙ h

-- no entry is left
pub entries_end : (es : Entries (Vec ReplacedNumber)) (ns all : List NumberAt) → es ≡ []
    → ns ++ of_all (map numbers_of_entry es) ≡ all → ns ≡ all
entries_end es ns all is h = sym (append-nil ns) ∙ ap (λ l. ns ++ of_all (map numbers_of_entry l)) (sym is) ∙ h

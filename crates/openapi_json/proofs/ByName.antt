-- The text that a node is written as by name is read by name as that node, with its members sorted by name.
use Rattle.std.proofs.Common.{◌≡◌, ℕ, ◌≤◌, List, [], ◌∷◌, ◌++◌, Some, Ordering, Less, Equal, Greater, option_map, option_and_then}
use Rattle.std.proofs.Common.{false, nat_cmp, Ok, Err, Result, IfOk, OnOk, String, Global, string_bytes, append-nil, refl, sym, ap}
use Rattle.std.proofs.Common.{subst, ◌∙◌, arith}
use Rattle.std.proofs.lemmas.Cmp.{nat_list_cmp_total}
use Rattle.std.proofs.lemmas.Str.{IsUtf8-string_bytes}
use Rattle.std.specs.Cmp.Lexicographic.{slice_cmp}
use Rattle.std.specs.Ordering.{match_ordering, ordering_reverse}
use Rattle.std.specs.Str.{IsUtf8}
use Rattle.json.specs.Json.{if_last, value}
use Rattle.json.specs.Lex.{tokens}
use Rattle.json.specs.Tree.{json_tokens, depth, items_depth, members_depth, HasNumbers, ItemsHaveNumbers, MembersHaveNumbers}
use Rattle.json.proofs.Printed.Tokens.{tokens-print}
use Rattle.json.proofs.Printed.Trees.{ArePrintable-json_tokens, value-json_tokens}
use Rattle.serde_json.specs.Data.{Data, number, array, object, Items, item, Members, no_members, member, put}
use Rattle.serde_json.specs.Read.{max_depth, of_json, of_items, of_members}
use Rattle.serde_json.specs.Written.{compact_text, has_float, items_have_float, members_have_float}
use Rattle.serde_json.specs.Written.{outline, items_outline, members_outline}
use Rattle.serde_json.proofs.Texts.{print-outline}
use Rattle.openapi_node.specs.Json.{data_of, items_data, members_data}
use Rattle.openapi_node.specs.Tree as tree
use Rattle.openapi_node.specs.Tree.{Tree}
use Rattle.openapi_node.proofs.DataOrder.{Below, InOrder, InOrder-put}
use Rattle.openapi_json.specs.Ordered.{parsed}
use Rattle.openapi_json.specs.Reading.{IsTreeOfText}
use Rattle.openapi_json.specs.Writing.{AreWhole, data_tokens, ItemsAreWhole, items_nesting, MembersAreWhole, members_nesting}
use Rattle.openapi_json.specs.Writing.{nesting, tree_by_name}
use Rattle.openapi_json.proofs.Lines.{compact_line}
use Rattle.openapi_json.proofs.Numbers.{no_float}
use Rattle.openapi_json.proofs.Order.{both}
use Rattle.openapi_json.proofs.Ordered.{read_of}
use Rattle.openapi_json.proofs.ReadBack.{number_again, number_spelled}

-- ---- members in order are read in their order
-- the second members, with the first ones before them
abbrev behind : Members → Members → Members
behind no_members ms = ms
behind (member k d es) ms = member k d (behind es ms)

behind_one : (done : Members) (k : List ℕ) (d : Data) (ms : Members)
    → behind (behind done (member k d no_members)) ms ≡ behind done (member k d ms)
behind_one no_members k d ms = refl
behind_one (member l e done) k d ms = ap (member l e) (behind_one done k d ms)

behind_none : (done : Members) → done ≡ behind done no_members
behind_none no_members = refl
behind_none (member l e done) = ap (member l e) (behind_none done)

below_in : (l k : List ℕ) (d : Data) (done ms : Members) → Below l (behind done (member k d ms)) → slice_cmp nat_cmp l k ≡ Less
below_in l k d no_members ms b = b.0
below_in l k d (member m e done) ms b = below_in l k d done ms b.1

-- a name that is greater than all others is put last
put_last : (k : List ℕ) (d : Data) (done ms : Members) → InOrder (behind done (member k d ms))
    → put k d done ≡ behind done (member k d no_members)
put_last k d no_members ms o = refl
put_last k d (member l e done) ms o =
    let above : slice_cmp nat_cmp k l ≡ Greater =
    nat_list_cmp_total.antisymm k l ∙ ap ordering_reverse (below_in l k d done ms o.0) in
    ap (λ r. match_ordering r (member k d (member l e done)) (member l d done) (member l e (put k d done))) above
    ∙ ap (member l e) (put_last k d done ms o.1)

-- ---- data is read back from the JSON value that it is written as
record Again (n : ℕ) (d : Data) : Type 0 where
  reads : of_json (outline d) ≡ Some d
  numbers : HasNumbers (outline d)
  nests : depth (outline d) ≤ n
  plain : has_float d ≡ false

record ItemsAgain (n : ℕ) (ds : Items) : Type 0 where
  reads : of_items (items_outline ds) ≡ Some ds
  numbers : ItemsHaveNumbers (items_outline ds)
  nests : items_depth (items_outline ds) ≤ n
  plain : items_have_float ds ≡ false

abbrev AllAgain : ℕ → Members → Type 0
AllAgain n no_members = Unit {0}
AllAgain n (member k d ms) = Again n d × AllAgain n ms

record MembersAgain (n : ℕ) (ms : Members) : Type 0 where
  numbers : MembersHaveNumbers (members_outline ms)
  nests : members_depth (members_outline ms) ≤ n
  plain : members_have_float ms ≡ false

all_again : (n : ℕ) (ms : Members) → AllAgain n ms → MembersAgain n ms
all_again n no_members h = record { numbers = tt; nests = omega arith; plain = refl }
all_again n (member k d ms) h =
    let a = h.0 in
    let b = all_again n ms h.1 in
    record {
      numbers = (a.numbers, b.numbers);
      nests = omega (arith, a.nests, b.nests);
      plain = both (has_float d) (members_have_float ms) a.plain b.plain;
    }

in_turn : (n : ℕ) (done ms : Members) → InOrder (behind done ms) → AllAgain n ms
    → of_members (members_outline ms) done ≡ Some (behind done ms)
in_turn n done no_members o h = ap Some (behind_none done)
in_turn n done (member k d ms) o h =
    ap (option_and_then (λ e. of_members (members_outline ms) (put k e done))) h.0.reads
    ∙ ap (of_members (members_outline ms)) (put_last k d done ms o)
    ∙ in_turn n (behind done (member k d no_members)) ms (subst InOrder (sym (behind_one done k d ms)) o) h.1
    ∙ ap Some (behind_one done k d ms)

again_put : (n : ℕ) (k : List ℕ) (d : Data) (ms : Members) → Again n d → AllAgain n ms → AllAgain n (put k d ms)
again_put n k d no_members a h = (a, tt)
again_put n k d (member l e ms) a h = by (slice_cmp nat_cmp k l) (again_put n k d ms a h.1)
  where
    by : (o : Ordering) → AllAgain n (put k d ms)
        → AllAgain n (match_ordering o (member k d (member l e ms)) (member l d ms) (member l e (put k d ms)))
    by Less rest = (a, h)
    by Equal rest = (a, h.1)
    by Greater rest = (h.0, rest)

mutual
  again : (t : Tree) (n : ℕ) → AreWhole t → nesting t ≤ n → Again n (data_of t)
  again tree.null n w s = record { reads = refl; numbers = tt; nests = omega arith; plain = refl }
  again (tree.flag b) n w s = record { reads = refl; numbers = tt; nests = omega arith; plain = refl }
  again (tree.whole z) n w s =
      record {
        reads = ap (option_map number) (number_again z w);
        numbers = number_spelled z w;
        nests = omega arith;
        plain = no_float z;
      }
  again (tree.text u) n w s = record { reads = refl; numbers = tt; nests = omega arith; plain = refl }
  again (tree.list ts) n w s =
      let a = items_again ts (items_nesting ts) w (omega arith) in
      record {
        reads = ap (option_map array) a.reads;
        numbers = a.numbers;
        nests = omega (arith, a.nests, s);
        plain = a.plain;
      }
  again (tree.object ms) n w s =
      let g = members_again ms (members_nesting ms) no_members w (omega arith) tt tt in
      let ds = members_data ms no_members in
      let a = all_again (members_nesting ms) ds g.0 in
      record {
        reads = ap (option_map object) (in_turn (members_nesting ms) no_members ds g.1 g.0);
        numbers = a.numbers;
        nests = omega (arith, a.nests, s);
        plain = a.plain;
      }

  items_again : (ts : tree.Items) (n : ℕ) → ItemsAreWhole ts → items_nesting ts ≤ n → ItemsAgain n (items_data ts)
  items_again tree.no_items n w s = record { reads = refl; numbers = tt; nests = omega arith; plain = refl }
  items_again (tree.item t ts) n w s =
      let a = again t n w.0 (omega (arith, s)) in
      let b = items_again ts n w.1 (omega (arith, s)) in
      record {
        reads = ap (option_and_then (λ d. option_map (item d) (of_items (items_outline (items_data ts))))) a.reads
            ∙ ap (option_map (item (data_of t))) b.reads;
        numbers = (a.numbers, b.numbers);
        nests = omega (arith, a.nests, b.nests);
        plain = both (has_float (data_of t)) (items_have_float (items_data ts)) a.plain b.plain;
      }

  members_again : (ms : tree.Members) (n : ℕ) (done : Members) → MembersAreWhole ms → members_nesting ms ≤ n
      → AllAgain n done → InOrder done → AllAgain n (members_data ms done) × InOrder (members_data ms done)
  members_again tree.no_members n done w s h o = (h, o)
  members_again (tree.member k t ms) n done w s h o =
      members_again ms n (put k (data_of t) done) w.1 (omega (arith, s))
      (again_put n k (data_of t) done (again t n w.0 (omega (arith, s))) h) (InOrder-put k (data_of t) done o)

-- a text with the tokens of a node's data by name is read as the node by name, if it nests at most `max_depth` deep
pub read_by_name : (text : List ℕ) (t : Tree) → IsUtf8 text → tokens text ≡ data_tokens (data_of t) → AreWhole t
    → nesting t ≤ max_depth → IsTreeOfText text (tree_by_name t)
read_by_name text t utf8 is whole shallow =
    let j = outline (data_of t) in
    let a = again t max_depth whole shallow in
    let all : parsed text ≡ Some j =
    ap (option_and_then (λ p. if_last p.0 p.1)) (ap (value max_depth) (is ∙ sym (append-nil (json_tokens j)))
    ∙ value-json_tokens j max_depth [] a.nests) in
    record {
      utf8 = utf8;
      value = data_of t;
      reads = read_of text j all ∙ a.reads;
      is = record { whole_numbers = a.plain; same = refl };
    }

-- the tokens of the compact text of a node by name are those of its data
pub named_tokens : (t : Tree) → AreWhole t → tokens (compact_text (data_of t)) ≡ data_tokens (data_of t)
named_tokens t whole =
    let d = data_of t in
    ap tokens (sym (print-outline d))
    ∙ tokens-print (data_tokens d) (ArePrintable-json_tokens (outline d) (again t (nesting t) whole (omega arith)).numbers)

-- so are the tokens of that text with a line feed at its end
pub named_line : (t : Tree) → AreWhole t → tokens (compact_text (data_of t) ++ 10 ∷ []) ≡ data_tokens (data_of t)
named_line t whole =
    let d = data_of t in
    ap (λ l. tokens (l ++ 10 ∷ [])) (sym (print-outline d))
    ∙ compact_line (data_tokens d) (ArePrintable-json_tokens (outline d) (again t (nesting t) whole (omega arith)).numbers)

-- if a result has these tokens, it is read as the node by name, under the same condition
pub read_again_by_name : {E : Type 0} (r : Result (String Global) E) (t : Tree)
    → IfOk r (λ s. tokens (string_bytes s) ≡ data_tokens (data_of t)) → AreWhole t
    → IfOk r (λ s. nesting t ≤ max_depth → IsTreeOfText (string_bytes s) (tree_by_name t))
read_again_by_name (Ok s) t is whole =
    λ shallow. read_by_name (string_bytes s) t (IsUtf8-string_bytes s) is whole shallow
read_again_by_name (Err e) t is whole = tt

-- if a result is the compact text of a node by name, it is read as the node by name, under the same condition
pub named_again : {E : Type 0} (r : Result (String Global) E) (t : Tree) → IfOk r (λ s. string_bytes s ≡ compact_text (data_of t))
    → OnOk r (AreWhole t) → IfOk r (λ s. nesting t ≤ max_depth → IsTreeOfText (string_bytes s) (tree_by_name t))
named_again (Ok s) t is whole =
    λ shallow. read_by_name (string_bytes s) t (IsUtf8-string_bytes s) (ap tokens is ∙ named_tokens t whole) whole shallow
named_again (Err e) t is whole = tt

-- The text that a node is written as in order is read in order as that node.
use Rattle.std.proofs.Common.{◌≡◌, ℕ, suc, ◌≤◌, max, ℤ, pos, negsuc, List, [], ◌∷◌, ◌++◌, Bool, true, false, not, ◌&&◌, cond, Some, option_and_then}
use Rattle.std.proofs.Common.{Result, Ok, Err, IfOk, OnOk, String, Global, string_bytes, append-nil, refl, sym, ap, subst, ◌∙◌, true≢false, arith}
use Rattle.std.proofs.lemmas.Int.{ints}
use Rattle.std.proofs.lemmas.Str.{IsUtf8-string_bytes}
use Rattle.std.specs.Cmp.Lexicographic.{nat_list_eq_equiv}
use Rattle.std.specs.List.{AllByRecursion}
use Rattle.std.specs.Prelude.{⊤}
use Rattle.std.specs.Str.{bytes_eq, IsUtf8}
use Rattle.json.specs.Json as json
use Rattle.json.specs.Json.{if_last, value}
use Rattle.json.specs.Layout.{pretty}
use Rattle.json.specs.Lex.{tokens}
use Rattle.json.specs.Print.{IsNumber}
use Rattle.json.specs.Tree.{json_tokens, depth, items_depth, members_depth, HasNumbers, ItemsHaveNumbers, MembersHaveNumbers}
use Rattle.json.proofs.Printed.Decimals.{IsNumber-decimal, IsNumber-signed_decimal}
use Rattle.json.proofs.Printed.Tokens.{tokens-print}
use Rattle.json.proofs.Printed.Trees.{ArePrintable-json_tokens, value-json_tokens}
use Rattle.serde_json.specs.Find.{of_integer}
use Rattle.serde_json.specs.Read.{max_depth, number_of}
use Rattle.serde_json.specs.Written.{compact_text, number_text, outline, items_outline, members_outline}
use Rattle.serde_json.proofs.Numbers.{number_of-decimal, number_of-negative}
use Rattle.serde_json.proofs.Texts.{print-outline}
use Rattle.openapi_map.specs.Entries.{Entries, insert_entry}
use Rattle.openapi_node.specs.Json.{tree_of_data}
use Rattle.openapi_node.specs.Named.{lacks, well_named, items_named, members_named}
use Rattle.openapi_node.specs.Tree as tree
use Rattle.openapi_node.specs.Tree.{Tree, items_of, members_of}
use Rattle.openapi_node.specs.Whole.{IsWhole}
use Rattle.openapi_json.specs.Ordered.{all_whole, entries_of, holds_whole, IsTreeInOrder, items_whole, members_whole, parsed}
use Rattle.openapi_json.specs.Ordered.{tree_of, tree_of_any, trees_of}
use Rattle.openapi_json.specs.Writing.{AreWhole, data_in_order, data_tokens, items_in, ItemsAreWhole, items_nesting, members_in, MembersAreWhole}
use Rattle.openapi_json.specs.Writing.{members_nesting, nesting}
use Rattle.openapi_json.specs.declared.write.Order.TheVariants.{AsTheyStand}
use Rattle.openapi_json.proofs.Lines.{compact_line, pretty_line}
use Rattle.openapi_json.proofs.Numbers.{integer_whole, whole_kept}
use Rattle.openapi_json.proofs.Ordered.{in_order_of, read_whole}
use Rattle.openapi_json.proofs.Sorted.{some_same}

pub on_ok : {A E P : Type 0} (r : Result A E) → P → OnOk r P
on_ok (Ok a) p = p
on_ok (Err e) p = tt

-- ---- the text of a whole number
pub number_again : (z : ℤ) → IsWhole z → number_of (number_text (of_integer z)) ≡ Some (of_integer z)
number_again (pos n) h = number_of-decimal n (omega (arith, ints, h.1))
number_again (negsuc n) h = number_of-negative n (omega (arith, ints, h.0))

pub number_spelled : (z : ℤ) → IsWhole z → IsNumber (number_text (of_integer z))
number_spelled (pos n) h = IsNumber-decimal n (omega (arith, ints, h.1))
number_spelled (negsuc n) h = IsNumber-signed_decimal (negsuc n) (omega (arith, ints, h.0))

-- ---- members with different names stay in their order
-- the members, with these entries before them
abbrev before : Entries Tree → tree.Members → tree.Members
before [] ms = ms
before (e ∷ es) ms = tree.member e.0 e.1 (before es ms)

before_none : (es : Entries Tree) → members_of es ≡ before es tree.no_members
before_none [] = refl
before_none (e ∷ es) = ap (tree.member e.0 e.1) (before_none es)

before_one : (es : Entries Tree) (k : List ℕ) (t : Tree) (ms : tree.Members)
    → before (es ++ (k, t) ∷ []) ms ≡ before es (tree.member k t ms)
before_one [] k t ms = refl
before_one (e ∷ es) k t ms = ap (tree.member e.0 e.1) (before_one es k t ms)

abbrev IsAbsent : List ℕ → Entries Tree → Type 0
IsAbsent k es = AllByRecursion (λ e. bytes_eq k e.0 ≡ false) es

-- none of the members has the name of one of the entries
abbrev AreApart : Entries Tree → tree.Members → Type 0
AreApart es tree.no_members = ⊤
AreApart es (tree.member k t ms) = IsAbsent k es × AreApart es ms

insert_absent : (es : Entries Tree) (k : List ℕ) (t : Tree) → IsAbsent k es → insert_entry es k t ≡ es ++ (k, t) ∷ []
insert_absent [] k t a = refl
insert_absent (e ∷ es) k t a =
    ap (λ b. cond b ((e.0, t) ∷ es) (e ∷ insert_entry es k t)) a.0 ∙ ap (λ fs. e ∷ fs) (insert_absent es k t a.1)

absent_more : (l : List ℕ) (es : Entries Tree) (k : List ℕ) (t : Tree) → IsAbsent l es → bytes_eq l k ≡ false
    → IsAbsent l (es ++ (k, t) ∷ [])
absent_more l [] k t a h = (h, tt)
absent_more l (e ∷ es) k t a h = (a.0, absent_more l es k t a.1 h)

and_parts : (a b : Bool) → (a && b) ≡ true → (a ≡ true) × (b ≡ true)
and_parts true b h = (refl, h)
and_parts false b h = absurd (true≢false (sym h))

is_false : (b : Bool) → not b ≡ true → b ≡ false
is_false true h = absurd (true≢false (sym h))
is_false false h = refl

apart_more : (es : Entries Tree) (k : List ℕ) (t : Tree) (ms : tree.Members) → AreApart es ms → lacks k ms ≡ true
    → AreApart (es ++ (k, t) ∷ []) ms
apart_more es k t tree.no_members a h = tt
apart_more es k t (tree.member l u ms) a h =
    let p = and_parts (not (bytes_eq k l)) (lacks k ms) h in
    (absent_more l es k t a.0 (nat_list_eq_equiv.symm l k ∙ is_false (bytes_eq k l) p.0), apart_more es k t ms a.1 p.1)

apart_none : (ms : tree.Members) → AreApart [] ms
apart_none tree.no_members = tt
apart_none (tree.member k t ms) = (tt, apart_none ms)

-- ---- the JSON value that a node is written as
record Written (t : Tree) (j : json.Json) : Type 0 where
  tree : tree_of j ≡ t
  whole : all_whole j ≡ true
  numbers : HasNumbers j
  nests : depth j ≡ nesting t

record ItemsWritten (ts : tree.Items) (js : json.Items) : Type 0 where
  trees : items_of (trees_of js) ≡ ts
  whole : items_whole js ≡ true
  numbers : ItemsHaveNumbers js
  nests : items_depth js ≡ items_nesting ts

record MembersWritten (ms : tree.Members) (js : json.Members) : Type 0 where
  trees : (es : Entries Tree) → AreApart es ms → members_of (entries_of js es) ≡ before es ms
  whole : members_whole js ≡ true
  numbers : MembersHaveNumbers js
  nests : members_depth js ≡ members_nesting ms

mutual
  written : (t : Tree) → well_named t ≡ true → AreWhole t → Written t (outline (data_in_order t))
  written tree.null h w = record { tree = refl; whole = refl; numbers = tt; nests = refl }
  written (tree.flag b) h w = record { tree = refl; whole = refl; numbers = tt; nests = refl }
  written (tree.whole z) h w =
      record {
        tree = ap tree_of_any (number_again z w) ∙ whole_kept z;
        whole = ap holds_whole (number_again z w) ∙ integer_whole z;
        numbers = number_spelled z w;
        nests = refl;
      }
  written (tree.text s) h w = record { tree = refl; whole = refl; numbers = tt; nests = refl }
  written (tree.list ts) h w =
      let a = items_written ts h w in
      record { tree = ap tree.list a.trees; whole = a.whole; numbers = a.numbers; nests = ap suc a.nests }
  written (tree.object ms) h w =
      let a = members_written ms h w in
      record {
        tree = ap tree.object (a.trees [] (apart_none ms));
        whole = a.whole;
        numbers = a.numbers;
        nests = ap suc a.nests;
      }

  items_written : (ts : tree.Items) → items_named ts ≡ true → ItemsAreWhole ts
      → ItemsWritten ts (items_outline (items_in AsTheyStand ts))
  items_written tree.no_items h w = record { trees = refl; whole = refl; numbers = tt; nests = refl }
  items_written (tree.item t ts) h w =
      let p = and_parts (well_named t) (items_named ts) h in
      let a = written t p.0 w.0 in
      let b = items_written ts p.1 w.1 in
      record {
        trees = λ i. tree.item (a.tree i) (b.trees i);
        whole = λ i. a.whole i && b.whole i;
        numbers = (a.numbers, b.numbers);
        nests = λ i. max (a.nests i) (b.nests i);
      }

  members_written : (ms : tree.Members) → members_named ms ≡ true → MembersAreWhole ms
      → MembersWritten ms (members_outline (members_in AsTheyStand ms))
  members_written tree.no_members h w =
      record { trees = λ es a. before_none es; whole = refl; numbers = tt; nests = refl }
  members_written (tree.member k t ms) h w =
      let p = and_parts (lacks k ms) (well_named t && members_named ms) h in
      let q = and_parts (well_named t) (members_named ms) p.1 in
      let a = written t q.0 w.0 in
      let b = members_written ms q.1 w.1 in
      let js = members_outline (members_in AsTheyStand ms) in
      record {
        trees = λ es apart. ap (λ u. members_of (entries_of js (insert_entry es k u))) a.tree
            ∙ ap (λ fs. members_of (entries_of js fs)) (insert_absent es k t apart.0)
            ∙ b.trees (es ++ (k, t) ∷ []) (apart_more es k t ms apart.1 p.0) ∙ before_one es k t ms;
        whole = λ i. a.whole i && b.whole i;
        numbers = (a.numbers, b.numbers);
        nests = λ i. max (a.nests i) (b.nests i);
      }

-- the tokens of the compact text of a node are those of its data
pub spelled : (text : List ℕ) (t : Tree) → text ≡ compact_text (data_in_order t) → well_named t ≡ true → AreWhole t
    → tokens text ≡ data_tokens (data_in_order t)
spelled text t is named whole =
    let d = data_in_order t in
    ap tokens (is ∙ sym (print-outline d))
    ∙ tokens-print (data_tokens d) (ArePrintable-json_tokens (outline d) (written t named whole).numbers)

-- so are those of that text with a line feed at its end, and of pretty text with a line feed at its end
pub line_spelled : (t : Tree) → well_named t ≡ true → AreWhole t
    → tokens (compact_text (data_in_order t) ++ 10 ∷ []) ≡ data_tokens (data_in_order t)
line_spelled t named whole =
    let d = data_in_order t in
    ap (λ l. tokens (l ++ 10 ∷ [])) (sym (print-outline d))
    ∙ compact_line (data_tokens d) (ArePrintable-json_tokens (outline d) (written t named whole).numbers)

pub pretty_spelled : (t : Tree) → well_named t ≡ true → AreWhole t
    → tokens (pretty (data_tokens (data_in_order t)) ++ 10 ∷ []) ≡ data_tokens (data_in_order t)
pretty_spelled t named whole =
    let d = data_in_order t in
    pretty_line (data_tokens d) (ArePrintable-json_tokens (outline d) (written t named whole).numbers)

-- a text with these tokens is read as the node, if the node nests at most `max_depth` deep
pub read_again : (text : List ℕ) (t : Tree) → IsUtf8 text → tokens text ≡ data_tokens (data_in_order t) → well_named t ≡ true
    → AreWhole t → nesting t ≤ max_depth → IsTreeInOrder text t
read_again text t utf8 is named whole shallow =
    let j = outline (data_in_order t) in
    let w = written t named whole in
    let read : parsed text ≡ Some j =
    ap (option_and_then (λ p. if_last p.0 p.1)) (ap (value max_depth) (is ∙ sym (append-nil (json_tokens j)))
    ∙ value-json_tokens j max_depth [] (subst (λ n. n ≤ max_depth) (sym w.nests) shallow)) in
    in_order_of text j t utf8 read (sym w.tree) (read_whole j w.whole)

-- so is a result with these tokens
pub written_again : {E : Type 0} (r : Result (String Global) E) (t : Tree) → well_named t ≡ true
    → IfOk r (λ s. tokens (string_bytes s) ≡ data_tokens (data_in_order t)) → AreWhole t
    → IfOk r (λ s. nesting t ≤ max_depth → IsTreeInOrder (string_bytes s) t)
written_again (Ok s) t named is whole =
    λ shallow. read_again (string_bytes s) t (IsUtf8-string_bytes s) is named whole shallow
written_again (Err e) t named is whole = tt

pub compact_again : {E : Type 0} (r : Result (String Global) E) (t : Tree) → well_named t ≡ true
    → IfOk r (λ s. string_bytes s ≡ compact_text (data_in_order t)) → OnOk r (AreWhole t)
    → IfOk r (λ s. nesting t ≤ max_depth → IsTreeInOrder (string_bytes s) t)
compact_again (Ok s) t named is whole =
    written_again {E = ⊥} (Ok s) t named (spelled (string_bytes s) t is named whole) whole
compact_again (Err e) t named is whole = tt

-- a text has only one node in order
pub one_in_order : (text : List ℕ) (t u : Tree) → IsTreeInOrder text t → IsTreeInOrder text u → t ≡ u
one_in_order text t u a b =
    let same : a.value ≡ b.value = some_same (sym a.reads ∙ b.reads) in
    a.is.same ∙ ap tree_of_data same ∙ sym b.is.same

use Rattle.std.proofs.Common.{◌≡◌, ◌-◌, ◌<◌, option_map, [], ◌∷◌, ◌++◌, length, Some, None, nat_cmp, string_bytes, refl, sym, ap, ◌∙◌, subst, arith, rules, append-nil}
use Rattle.std.specs.BTreeMap.{insert_entry}
use Rattle.std.specs.Cmp.Lexicographic.{slice_cmp}
use Rattle.json.specs.Json as json
use Rattle.json.specs.Json.{parse_map, after_end_array, read_key, items, members, value}
use Rattle.json.specs.Reads.{token_of}
use Rattle.json.specs.Token.{Token}
use Rattle.json.proofs.Grammar.{value_is, value-begin_array, value-begin_object, read_key-shorter, items_end, members_end}
use Rattle.serde_json.specs.Data.{array, boolean, null, number, object, string}
use Rattle.serde_json.specs.Find.{of_integer}
use Rattle.serde_json.specs.View as views
use Rattle.openapi_node.specs.Tree as tree
use Rattle.openapi_json.specs.Reading.{pairs_data}
use Rattle.openapi_json.proofs.Order.{object_of_pairs, trees-insert, whole-insert}
use Rattle.openapi_json.proofs.Turns.{list_of_values, next_item, next_member, trees-push, whole-push}
use Rattle.openapi_json.proofs.Numbers.{whole_tree, no_float}
use Rattle.openapi_json.proofs.read.+read.Goals as goal

pub read_items-items-preserved : goal.read_items-items-preserved
read_items-items-preserved t c =
    let p = value c.args.depth in
    let l = c.items.invariant in
    let ts = c.items.reader in
    let going : (after_end_array ts ≡ None) × (c.take_end_array.new.self ≡ ts) = grind arith in
    let ensured = c.in_ok-item.ensures in
    let read = ensured.ok in
    let r = c.read_node.new.reader in
    let less : length r < length ts = subst (λ x. length r < length x) going.1 ensured.shorter in
    let parsed : p ts ≡ Some (read.json, r) = ap p (sym going.1) ∙ read.reads in
    record {
      left = l.left - 1;
      enough = omega (arith, l.enough);
      done = l.done ++ read.value ∷ [];
      goes = next_item p _ l.done l.left ts r read.json read.value (omega (arith, l.enough)) going.0 parsed read.converts
          l.goes;
      whole = whole-push l.done read.value l.whole read.is.whole_numbers;
      same = c.in_ok-push.ensures.items ∙ (λ j. l.same j ++ read.is.same j ∷ []) ∙ sym (trees-push l.done read.value);
      shorter = omega (arith, l.shorter);
    }

pub read_items-returns-clause-ok : goal.read_items-returns-clause-ok
read_items-returns-clause-ok t c =
    let p = value c.args.depth in
    let l = c.items.invariant in
    let r = c.take_end_array.new.self in
    let all = l.goes json.no_items r (items_end p l.left c.items.reader r l.enough (grind arith)) in
    record {
      json = all.0;
      reads = all.1;
      values = l.done;
      converts = all.2 [] refl ∙ ap (λ ds. Some (views.items_of ds)) (append-nil l.done);
      whole = l.whole;
      same = l.same;
    }

pub read_members-members-preserved : goal.read_members-members-preserved
read_members-members-preserved t c =
    let p = value c.args.depth in
    let l = c.members.invariant in
    let ts = c.members.reader in
    let k = c.in_ok-key.key in
    let s = c.next_key.new.self in
    let found : read_key ts ≡ Some (Some c.in-Some.name.now, s) = grind arith in
    let copied : string_bytes k ≡ c.in-Some.name.now = search rules in
    let name = string_bytes k in
    let named : read_key ts ≡ Some (Some name, s) = found ∙ ap (λ n. Some (Some n, s)) (sym copied) in
    let ensured = c.in_ok-member.ensures in
    let read = ensured.ok in
    let r = c.read_node.new.reader in
    let less = read_key-shorter ts (Some c.in-Some.name.now) s found in
    let lesser = ensured.shorter in
    record {
      left = l.left - 1;
      enough = omega (arith, l.enough);
      done = insert_entry (slice_cmp nat_cmp) l.done name read.value;
      goes = next_member p _ l.done l.left name ts s r read.json read.value (omega (arith, l.enough)) named read.reads
          read.converts l.goes;
      whole = whole-insert l.done name read.value l.whole read.is.whole_numbers;
      same = c.in_ok-found.ensures.entries ∙ (λ j. insert_entry (slice_cmp nat_cmp) (l.same j) name (read.is.same j))
          ∙ sym (trees-insert l.done name read.value);
      order = c.in_ok-found.ensures.order;
      shorter = omega (arith, l.shorter);
    }

pub read_members-returns-clause-ok : goal.read_members-returns-clause-ok
read_members-returns-clause-ok t c =
    let p = value c.args.depth in
    let l = c.members.invariant in
    let r = c.next_key.new.self in
    let all = l.goes json.no_members r (members_end p l.left c.members.reader r l.enough (grind arith)) in
    record {
      json = all.0;
      reads = all.1;
      pairs = l.done;
      converts = all.2 (pairs_data l.done) refl;
      whole = l.whole;
      same = l.same;
    }

pub read_node-returns-in_ok-from_str-in-String-clause-ok : goal.read_node-returns-in_ok-from_str-in-String-clause-ok
read_node-returns-in_ok-from_str-in-String-clause-ok t c =
    let first : c.args.reader.now ≡ token_of c.in_ok-token.token ∷ c.next.new.self = grind arith in
    let s = c.in-String.text.now in
    let is : c.args.reader.now ≡ Token.string s ∷ c.next.new.self = grind (arith, first) in
    record {
      json = json.string s;
      reads = ap (value c.args.depth) is ∙ value_is c.args.depth _;
      value = string s;
      converts = refl;
      is = record { whole_numbers = refl; same = search rules };
    }

pub read_node-returns-in-Some-clause-ok : goal.read_node-returns-in-Some-clause-ok
read_node-returns-in-Some-clause-ok t c =
    let first : c.args.reader.now ≡ token_of c.in_ok-token.token ∷ c.next.new.self = grind arith in
    let s = c.in-Number.text.now in
    let w = c.in-Some.whole in
    let is : c.args.reader.now ≡ Token.number s ∷ c.next.new.self = grind (arith, first) in
    record {
      json = json.number s;
      reads = ap (value c.args.depth) is ∙ value_is c.args.depth _;
      value = number (of_integer w);
      converts = ap (option_map number) c.in-Some.ensures.some;
      is = record { whole_numbers = no_float w; same = c.whole.ensures ∙ sym (whole_tree w) };
    }

pub read_node-returns-in-Bool-clause-ok : goal.read_node-returns-in-Bool-clause-ok
read_node-returns-in-Bool-clause-ok t c =
    let first : c.args.reader.now ≡ token_of c.in_ok-token.token ∷ c.next.new.self = grind arith in
    let b = c.in-Bool.flag in
    let is : c.args.reader.now ≡ Token.boolean b ∷ c.next.new.self = grind (arith, first) in
    record {
      json = json.boolean b;
      reads = ap (value c.args.depth) is ∙ value_is c.args.depth _;
      value = boolean b;
      converts = refl;
      is = record { whole_numbers = refl; same = c.flag.ensures };
    }

pub read_node-returns-in-Null-clause-ok : goal.read_node-returns-in-Null-clause-ok
read_node-returns-in-Null-clause-ok t c =
    let first : c.args.reader.now ≡ token_of c.in_ok-token.token ∷ c.next.new.self = grind arith in
    let is : c.args.reader.now ≡ Token.null ∷ c.next.new.self = grind (arith, first) in
    record {
      json = json.null;
      reads = ap (value c.args.depth) is ∙ value_is c.args.depth _;
      value = null;
      converts = refl;
      is = record { whole_numbers = refl; same = c.null.ensures };
    }

pub read_node-returns-in_ok-read_items-in-BeginArray-clause-ok :
    goal.read_node-returns-in_ok-read_items-in-BeginArray-clause-ok
read_node-returns-in_ok-read_items-in-BeginArray-clause-ok t c =
    let first : c.args.reader.now ≡ token_of c.in_ok-token.token ∷ c.next.new.self = grind arith in
    let is : c.args.reader.now ≡ Token.begin_array ∷ c.next.new.self = grind (arith, first) in
    let read = c.in_ok-read_items-in-BeginArray.ensures.ok in
    record {
      json = json.array read.json;
      reads = ap (value c.args.depth) is ∙ value-begin_array c.args.depth c.next.new.self (omega arith)
          ∙ ap (parse_map json.array) read.reads;
      value = array (views.items_of read.values);
      converts = ap (option_map array) read.converts;
      is = record {
        whole_numbers = read.whole;
        same = c.list.ensures ∙ ap (λ ts. tree.list (tree.items_of ts)) read.same ∙ ap tree.list (list_of_values read.values);
      };
    }

pub read_node-returns-in_ok-into_map-in-BeginObject-clause-ok :
    goal.read_node-returns-in_ok-into_map-in-BeginObject-clause-ok
read_node-returns-in_ok-into_map-in-BeginObject-clause-ok t c =
    let first : c.args.reader.now ≡ token_of c.in_ok-token.token ∷ c.next.new.self = grind arith in
    let is : c.args.reader.now ≡ Token.begin_object ∷ c.next.new.self = grind (arith, first) in
    let read = c.in_ok-members-in-BeginObject.ensures.ok in
    record {
      json = json.object read.json;
      reads = ap (value c.args.depth) is ∙ value-begin_object c.args.depth c.next.new.self (omega arith)
          ∙ ap (parse_map json.object) read.reads;
      value = object (pairs_data read.pairs);
      converts = ap (option_map object) read.converts;
      is = record {
        whole_numbers = read.whole;
        same = c.object.ensures
            ∙ ap (λ m. tree.object (tree.members_of m)) (c.in_ok-into_map-in-BeginObject.ensures ∙ read.same)
            ∙ ap tree.object (object_of_pairs read.pairs);
      };
    }

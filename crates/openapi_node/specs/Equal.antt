-- When two nodes are the same JSON value, whatever the order of the members of their objects.
use Rattle.std.specs.Prelude.{◌≡◌, Bool, true, false, not, ◌&&◌, ◌==◌, if◌then◌else◌}
use Rattle.std.specs.Cmp.{IsPartialEquivalence, both_ways, on_per, first_so, second_so}
use Rattle.std.specs.Ordering.{int_eq, on}
use Rattle.std.specs.Str.{bytes_eq}
use Rattle.std.proofs.Common.{refl, sym, ap, subst}
use Rattle.std.proofs.lemmas.Bool.Decides.{Decides-eqb, Decides-int_eq}
use Rattle.std.proofs.lemmas.Slice.Eq.{bytes_eq-Decides}
use Rattle.serde_json.specs.Data as json
use Rattle.serde_json.specs.Data.{Data, Num, unsigned, negative, float}
use Rattle.openapi_node.specs.Json.{data_of}
use Rattle.openapi_node.specs.Tree.{Tree}

-- whether two numbers are the same whole number; a float is equal to no number, as no node has a float
abbrev number_eq : Num → Num → Bool
number_eq (unsigned m) (unsigned n) = m == n
number_eq (negative y) (negative z) = int_eq y z
number_eq m n = false

-- whether data without floats is the same
abbrev mutual
  pub data_eq : Data → Data → Bool
  data_eq json.null json.null = true
  data_eq (json.boolean a) (json.boolean b) = if a then b else not b
  data_eq (json.number m) (json.number n) = number_eq m n
  data_eq (json.string s) (json.string t) = bytes_eq s t
  data_eq (json.array ds) (json.array es) = items_eq ds es
  data_eq (json.object ms) (json.object ns) = members_eq ms ns
  data_eq d e = false

  pub items_eq : json.Items → json.Items → Bool
  items_eq json.no_items json.no_items = true
  items_eq (json.item d ds) (json.item e es) = data_eq d e && items_eq ds es
  items_eq ds es = false

  pub members_eq : json.Members → json.Members → Bool
  members_eq json.no_members json.no_members = true
  members_eq (json.member k d ms) (json.member l e ns) = bytes_eq k l && (data_eq d e && members_eq ms ns)
  members_eq ms ns = false

-- Whether two nodes have the same data. Nothing outside this module may unfold it, so no reader in a crate above can learn
-- what a node holds by comparing nodes. Only a counted node access shows that.
pub same_value : Tree → Tree → Bool
same_value = on data_of data_eq

-- What `same_value` returns, for the proof of this crate alone. The check `tests/hidden.py` rejects a crate above that names
-- this module.
pub same_value-answers : (t u : Tree) → same_value t u ≡ data_eq (data_of t) (data_of u)
unfolding same_value
same_value-answers t u = refl

same_flag : (a b : Bool) → (if a then b else not b) ≡ true → a ≡ b
same_flag true b h = sym h
same_flag false true h = h
same_flag false false h = refl

same_number : (m n : Num) → number_eq m n ≡ true → m ≡ n
same_number (unsigned m) (unsigned n) h = ap unsigned ((Decides-eqb m n).0 h)
same_number (negative y) (negative z) h = ap negative ((Decides-int_eq y z).0 h)
same_number m n h = cc

-- data for which the test holds is the same
mutual
  pub same_data : (d e : Data) → data_eq d e ≡ true → d ≡ e
  same_data json.null json.null h = refl
  same_data (json.boolean a) (json.boolean b) h = ap json.boolean (same_flag a b h)
  same_data (json.number m) (json.number n) h = ap json.number (same_number m n h)
  same_data (json.string s) (json.string t) h = ap json.string ((bytes_eq-Decides s t).0 h)
  same_data (json.array ds) (json.array es) h = ap json.array (same_items ds es h)
  same_data (json.object ms) (json.object ns) h = ap json.object (same_members ms ns h)
  same_data d e h = cc

  same_items : (ds es : json.Items) → items_eq ds es ≡ true → ds ≡ es
  same_items json.no_items json.no_items h = refl
  same_items (json.item d ds) (json.item e es) h =
      λ i. json.item (same_data d e (first_so _ _ h) i) (same_items ds es (second_so (data_eq d e) _ h) i)
  same_items ds es h = cc

  same_members : (ms ns : json.Members) → members_eq ms ns ≡ true → ms ≡ ns
  same_members json.no_members json.no_members h = refl
  same_members (json.member k d ms) (json.member l e ns) h =
      let rest = second_so (bytes_eq k l) _ h in
      λ i. json.member ((bytes_eq-Decides k l).0 (first_so _ _ h) i) (same_data d e (first_so _ _ rest) i)
      (same_members ms ns (second_so (data_eq d e) _ rest) i)
  same_members ms ns h = cc

-- so the test is symmetric
turned : (d e : Data) → data_eq d e ≡ true → data_eq e d ≡ true
turned d e h = let same = same_data d e h in
    subst (λ x. data_eq x d ≡ true) same (subst (λ x. data_eq d x ≡ true) (sym same) h)

data_eq-per : IsPartialEquivalence data_eq
data_eq-per = record {
  symm = λ d e. both_ways (data_eq d e) (data_eq e d) (turned d e) (turned e d);
  trans = λ d e f h k. subst (λ x. data_eq x f ≡ true) (sym (same_data d e h)) k;
}

-- the law of equality: `same_value` is symmetric and transitive
pub same_value-per : IsPartialEquivalence same_value
unfolding same_value
same_value-per = on_per data_of data_eq-per

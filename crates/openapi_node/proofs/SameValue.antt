-- The data of a node has no float, so `data_eq` is true exactly if two nodes have the same data.
use Rattle.std.proofs.Common.{◌≡◌, ◌↔◌, IsTrue, Bool, true, false, ◌&&◌, refl, sym, ap, subst, ◌∙◌, true≢false}
use Rattle.std.proofs.lemmas.Bool.Decides.{Decides-eqb, Decides-int_eq}
use Rattle.std.proofs.lemmas.Slice.Eq.{bytes_eq-Decides}
use Rattle.std.specs.Cmp.{both_ways}
use Rattle.serde_json.specs.Data as json
use Rattle.serde_json.specs.Data.{Data, unsigned, negative, float}
use Rattle.serde_json.specs.Written.{has_float, items_have_float, members_have_float}
use Rattle.openapi_node.specs.Equal.{data_eq, items_eq, members_eq, same_value, same_value-answers, same_data}
use Rattle.openapi_node.specs.Json.{data_of}
use Rattle.openapi_node.specs.Tree.{Tree}
use Rattle.openapi_node.proofs.WholeData.{no_float-data_of, first_of_none, rest_of_none}

both : (a b : Bool) → a ≡ true → b ≡ true → (a && b) ≡ true
both a b e f = ap (λ c. c && b) e ∙ f

mutual
  itself : (d : Data) → has_float d ≡ false → data_eq d d ≡ true
  itself json.null h = refl
  itself (json.boolean true) h = refl
  itself (json.boolean false) h = refl
  itself (json.number (unsigned n)) h = (Decides-eqb n n).1 refl
  itself (json.number (negative z)) h = (Decides-int_eq z z).1 refl
  itself (json.number (float x)) h = absurd (true≢false h)
  itself (json.string s) h = (bytes_eq-Decides s s).1 refl
  itself (json.array ds) h = items_itself ds h
  itself (json.object ms) h = members_itself ms h

  items_itself : (ds : json.Items) → items_have_float ds ≡ false → items_eq ds ds ≡ true
  items_itself json.no_items h = refl
  items_itself (json.item d ds) h =
      both (data_eq d d) _ (itself d (first_of_none (has_float d) _ h))
      (items_itself ds (rest_of_none (has_float d) _ h))

  members_itself : (ms : json.Members) → members_have_float ms ≡ false → members_eq ms ms ≡ true
  members_itself json.no_members h = refl
  members_itself (json.member k d ms) h =
      both _ _ ((bytes_eq-Decides k k).1 refl)
      (both (data_eq d d) _ (itself d (first_of_none (has_float d) _ h))
      (members_itself ms (rest_of_none (has_float d) _ h)))

-- a `bool` that is true exactly if the data is the same is what `same_value` returns
pub told : (b : Bool) (t u : Tree) → IsTrue b ↔ (data_of t ≡ data_of u) → b ≡ same_value t u
told b t u decides =
    both_ways b (data_eq (data_of t) (data_of u))
    (λ h. subst (λ d. data_eq (data_of t) d ≡ true) (decides.0 h) (itself (data_of t) (no_float-data_of t)))
    (λ h. decides.1 (same_data _ _ h))
    ∙ sym (same_value-answers t u)

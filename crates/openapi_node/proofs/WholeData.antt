-- The data of a node has no float.
use Rattle.std.proofs.Common.{◌≡◌, ℕ, List, Bool, true, false, ◌||◌, Ordering, Less, Equal, Greater, pos, negsuc}
use Rattle.std.proofs.Common.{nat_cmp, refl, true≢false}
use Rattle.std.specs.Cmp.Lexicographic.{slice_cmp}
use Rattle.std.specs.Ordering.{match_ordering}
use Rattle.serde_json.specs.Data as json
use Rattle.serde_json.specs.Data.{Data, put}
use Rattle.serde_json.specs.Written.{has_float, items_have_float, members_have_float}
use Rattle.openapi_node.specs.Json.{data_of, items_data, members_data}
use Rattle.openapi_node.specs.Tree.{Tree, null, flag, whole, text, list, object, Items, no_items, item, Members}
use Rattle.openapi_node.specs.Tree.{no_members, member}

both : (b c : Bool) → b ≡ false → c ≡ false → (b || c) ≡ false
both true c e f = e
both false c e f = f

-- if neither of two flags is set, the first is not
pub first_of_none : (b c : Bool) → (b || c) ≡ false → b ≡ false
first_of_none true c e = e
first_of_none false c e = refl

-- if neither of two flags is set, the second is not
pub rest_of_none : (b c : Bool) → (b || c) ≡ false → c ≡ false
rest_of_none true c e = absurd (true≢false e)
rest_of_none false c e = e

chosen : (o : Ordering) (a b c : json.Members) → members_have_float a ≡ false → members_have_float b ≡ false
    → members_have_float c ≡ false → members_have_float (match_ordering o a b c) ≡ false
chosen Less a b c p q r = p
chosen Equal a b c p q r = q
chosen Greater a b c p q r = r

no_float-put : (k : List ℕ) (d : Data) (ms : json.Members) → has_float d ≡ false
    → members_have_float ms ≡ false → members_have_float (put k d ms) ≡ false
no_float-put k d json.no_members e f = both (has_float d) false e refl
no_float-put k d (json.member l c ms) e f =
    let here = first_of_none (has_float c) (members_have_float ms) f in
    let rest = rest_of_none (has_float c) (members_have_float ms) f in
    chosen (slice_cmp nat_cmp k l) _ _ _ (both (has_float d) _ e f) (both (has_float d) _ e rest)
    (both (has_float c) _ here (no_float-put k d ms e rest))

mutual
  -- no number in the data of a node is a float
  pub no_float-data_of : (t : Tree) → has_float (data_of t) ≡ false
  no_float-data_of null = refl
  no_float-data_of (flag b) = refl
  no_float-data_of (whole (pos n)) = refl
  no_float-data_of (whole (negsuc n)) = refl
  no_float-data_of (text s) = refl
  no_float-data_of (list ts) = no_float-items_data ts
  no_float-data_of (object ms) = no_float-members_data ms json.no_members refl

  no_float-items_data : (ts : Items) → items_have_float (items_data ts) ≡ false
  no_float-items_data no_items = refl
  no_float-items_data (item t ts) = both (has_float (data_of t)) _ (no_float-data_of t) (no_float-items_data ts)

  no_float-members_data : (ms : Members) (ds : json.Members) → members_have_float ds ≡ false
      → members_have_float (members_data ms ds) ≡ false
  no_float-members_data no_members ds e = e
  no_float-members_data (member k t ms) ds e =
      no_float-members_data ms (put k (data_of t) ds) (no_float-put k (data_of t) ds (no_float-data_of t) e)

-- The values of an array and the members of an object, one after another, as the grammar reads them and as data.
use Rattle.std.proofs.Common.{◌≡◌, ℕ, ◌-◌, ◌<◌, List, [], ◌∷◌, ◌++◌, map, Option, Some, None, Bool, true, false, ◌||◌}
use Rattle.std.proofs.Common.{option_map, option_and_then, nat_cmp, refl, sym, ap, ◌∙◌, append_assoc}
use Rattle.std.specs.BTreeMap.{insert_entry}
use Rattle.std.specs.Cmp.Lexicographic.{slice_cmp}
use Rattle.json.specs.Json as json
use Rattle.json.specs.Json.{Parse, parse_map, after_end_array, read_key}
use Rattle.json.specs.Token.{Token}
use Rattle.json.proofs.Grammar.{items_more, members_more}
use Rattle.serde_json.specs.Data.{Data, Members, no_members, item, put}
use Rattle.serde_json.specs.Read.{of_json, of_items, of_members}
use Rattle.serde_json.specs.View as views
use Rattle.serde_json.specs.Written.{has_float, items_have_float}
use Rattle.openapi_node.specs.Json.{items_of_data, tree_of_data}
use Rattle.openapi_node.specs.Tree as tree
use Rattle.openapi_json.specs.Reading.{Pair, pairs_data}
use Rattle.openapi_json.proofs.Order.{members-insert}

-- if items are read from the rest of an array, the whole array is read, and its data is `done` followed by the data of these
abbrev pub ItemsGoOn : Option (json.Items × List Token) → List Data → Parse json.Items → List Token → Type 0
ItemsGoOn whole done more rest =
    (js : json.Items) (end : List Token) → more rest ≡ Some (js, end)
    → (all : json.Items) × (whole ≡ Some (all, end))
    × ((ds : List Data) → of_items js ≡ Some (views.items_of ds) → of_items all ≡ Some (views.items_of (done ++ ds)))

with_item : (j : json.Json) (js : json.Items) (d : Data) (ds : List Data) → of_json j ≡ Some d
    → of_items js ≡ Some (views.items_of ds) → of_items (json.item j js) ≡ Some (views.items_of (d ∷ ds))
with_item j js d ds e f =
    ap (option_and_then (λ x. option_map (item x) (of_items js))) e ∙ ap (option_map (item d)) f

-- after the next value of an array was read, the same holds for the rest after it
pub next_item : (p : Parse json.Json) (whole : Option (json.Items × List Token)) (done : List Data) (n : ℕ)
    (ts r : List Token) (j : json.Json) (d : Data) → 0 < n → after_end_array ts ≡ None → p ts ≡ Some (j, r)
    → of_json j ≡ Some d → ItemsGoOn whole done (json.items p n) ts
    → ItemsGoOn whole (done ++ d ∷ []) (json.items p (n - 1)) r
next_item p whole done n ts r j d some going parsed is goes js end e =
    let g = goes (json.item j js) end (items_more p n ts r j some going parsed ∙ ap (parse_map (json.item j)) e) in (
      g.0,
      g.1,
      λ ds h. g.2 (d ∷ ds) (with_item j js d ds is h)
          ∙ ap (λ xs. Some (views.items_of xs)) (sym (append_assoc done (d ∷ []) ds)),
    )

grows : (b c d : Bool) → (c ≡ false → d ≡ false) → (b || c) ≡ false → (b || d) ≡ false
grows true c d f e = e
grows false c d f e = f e

-- values without floats, with one more without floats, have none
pub whole-push : (ds : List Data) (d : Data) → items_have_float (views.items_of ds) ≡ false → has_float d ≡ false
    → items_have_float (views.items_of (ds ++ d ∷ [])) ≡ false
whole-push [] d e f = ap (λ b. b || false) f
whole-push (x ∷ ds) d e f = grows (has_float x) _ _ (λ r. whole-push ds d r f) e

-- the nodes of values and of one more are the nodes of the values, followed by its node
pub trees-push : (ds : List Data) (d : Data) → map tree_of_data (ds ++ d ∷ []) ≡ map tree_of_data ds ++ tree_of_data d ∷ []
trees-push [] d = refl
trees-push (x ∷ ds) d = ap (λ ts. tree_of_data x ∷ ts) (trees-push ds d)

-- the list made of the nodes is that of the data
pub list_of_values : (ds : List Data) → tree.items_of (map tree_of_data ds) ≡ items_of_data (views.items_of ds)
list_of_values [] = refl
list_of_values (d ∷ ds) = ap (λ is. tree.item (tree_of_data d) is) (list_of_values ds)

-- if members are read from the rest of an object, the whole object is read, and its data is that of these put among `done`
abbrev pub MembersGoOn : Option (json.Members × List Token) → List Pair → Parse json.Members → List Token → Type 0
MembersGoOn whole done more rest =
    (ms : json.Members) (end : List Token) → more rest ≡ Some (ms, end)
    → (all : json.Members) × (whole ≡ Some (all, end))
    × ((found : Members) → of_members ms (pairs_data done) ≡ Some found → of_members all no_members ≡ Some found)

with_member : (k : List ℕ) (j : json.Json) (ms : json.Members) (d : Data) (old found : Members) → of_json j ≡ Some d
    → of_members ms (put k d old) ≡ Some found → of_members (json.member k j ms) old ≡ Some found
with_member k j ms d old found e f = ap (option_and_then (λ x. of_members ms (put k x old))) e ∙ f

-- after the next member of an object was read, the same holds for the rest after it
pub next_member : (p : Parse json.Json) (whole : Option (json.Members × List Token)) (done : List Pair) (n : ℕ)
    (k : List ℕ) (ts s r : List Token) (j : json.Json) (d : Data) → 0 < n
    → read_key ts ≡ Some (Some k, s) → p s ≡ Some (j, r) → of_json j ≡ Some d
    → MembersGoOn whole done (json.members p n) ts
    → MembersGoOn whole (insert_entry (slice_cmp nat_cmp) done k d) (json.members p (n - 1)) r
next_member p whole done n k ts s r j d some key parsed is goes ms end e =
    let g = goes (json.member k j ms) end (members_more p n k ts s r j some key parsed
    ∙ ap (parse_map (json.member k j)) e) in (
      g.0,
      g.1,
      λ found h. g.2 found (with_member k j ms d (pairs_data done) found is
          (ap (of_members ms) (sym (members-insert done k d)) ∙ h)),
    )

-- The location of a number that is not an integer, and the nodes of lists and maps of values.
use Rattle.std.proofs.Common.{◌≡◌, ℕ, ◌<◌, List, [], ◌∷◌, ◌++◌, map, length, get_or, Some, None, Bool, true, false}
use Rattle.std.proofs.Common.{cond, ◌||◌, string_bytes, string_cmp, Less, Greater, nat_cmp, Float, ◌⊎◌, inl, inr, refl}
use Rattle.std.proofs.Common.{sym, ap, ◌∙◌, subst, option_and_then, is_eq}
use Rattle.std.proofs.lemmas.Cmp.{nat_list_cmp_total, tied_itself}
use Rattle.std.proofs.lemmas.Map.Text.{is_eq-slice_cmp}
use Rattle.std.specs.Str.{bytes_eq}
use Rattle.openapi_map.specs.Entries as entries
use Rattle.std.specs.Cmp.Lexicographic.{slice_cmp}
use Rattle.std.specs.List.{AllByRecursion}
use Rattle.std.specs.List.Sorted.{IsStrictlySortedBy}
use Rattle.std.specs.Map.{keys_of}
use Rattle.std.specs.Ordering.{match_ordering, ordering_reverse}
use Rattle.serde_json.specs.Data as json
use Rattle.serde_json.specs.Data.{Data, Num, unsigned, negative, float, put}
use Rattle.serde_json.specs.Find.{get_member, as_integer}
use Rattle.serde_json.specs.Written.{has_float, items_have_float, members_have_float}
use Rattle.serde_json.specs.View.{view, items_view, members_view, items_of as view_items_of}
use Rattle.serde_json.proofs.Views.{Entry, get_item_within}
use Rattle.serde_json.specs.declared.value.Value.{Value}
use Rattle.openapi_node.specs.Fault.{IsMemory, GoesUp, place_of, step_of}
use Rattle.openapi_node.specs.declared.fault.Cause.TheVariants.{NotWhole}
use Rattle.openapi_node.specs.Place.{Step, named, indexed}
use Rattle.openapi_node.specs.Json.{data_of, items_data, members_data, IsNotWhole, data_at, tree_of_data, items_of_data}
use Rattle.openapi_node.specs.Json.{members_of_data}
use Rattle.openapi_node.specs.Tree.{Tree, item, member, items_of, members_of}
use Rattle.openapi_node.specs.declared.fault.Fault.{Fault}

pub not_integer : (n : Num) → None ≡ as_integer n → (x : Float) × (n ≡ float x)
not_integer (unsigned n) e = cc
not_integer (negative z) e = cc
not_integer (float x) e = (x, refl)

module _ (step : Step) (inside outside : Data) (below above : Fault) (up : GoesUp step below above) where
  moved : (x : Float) → ((p : List Step) → data_at (step ∷ p) outside ≡ data_at p inside)
      → IsNotWhole inside below → (above.cause ≡ below.cause) × (place_of above ≡ step ∷ place_of below)
      → IsNotWhole outside above
  moved x goes w s = record {
    cause = s.0 ∙ w.cause;
    number = w.number;
    there = ap (λ p. data_at p outside) s.1 ∙ goes (place_of below) ∙ w.there;
  }

  -- if the fault inside is a failed allocation or a number that is not whole, the fault one step above is one of these
  -- for the data around it
  pub goes_up : ((p : List Step) → data_at (step ∷ p) outside ≡ data_at p inside)
      → IsMemory below ⊎ IsNotWhole inside below → IsMemory above ⊎ IsNotWhole outside above
  goes_up goes (inl m) = inl (up.keeps_memory m)
  goes_up goes (inr w) = elim up.otherwise [ inl m ↦ inl m | inr s ↦ inr (moved w.number goes w s) ]

-- a location that begins with an index leads where its rest leads in the item there
pub at_item : (vs : List Value) (i : ℕ) (v : Value) → i < length vs → v ≡ get_or vs i v → (p : List Step)
    → data_at (indexed i ∷ p) (json.array (items_view vs)) ≡ data_at p (view v)
at_item vs i v h e p = ap (option_and_then (data_at p)) (sym (get_item_within vs i v h))
    ∙ ap (λ w. data_at p (view w)) (sym e)

below_middle : (first : Entry) (es : List Entry) (e : Entry) (more : List Entry)
    → AllByRecursion (λ y. string_cmp first.0 y ≡ Less) (keys_of (es ++ e ∷ more)) → string_cmp first.0 e.0 ≡ Less
below_middle first [] e more h = h.0
below_middle first (x ∷ es) e more h = below_middle first es e more h.1

found_middle : (done : List Entry) (e : Entry) (more : List Entry)
    → IsStrictlySortedBy string_cmp (keys_of (done ++ e ∷ more))
    → get_member (string_bytes e.0) (members_view (done ++ e ∷ more)) ≡ Some (view e.1)
unfolding IsStrictlySortedBy
found_middle [] e more h =
    ap (λ o. match_ordering o (get_member (string_bytes e.0) (members_view more)) (Some (view e.1))
    (get_member (string_bytes e.0) (members_view more))) (tied_itself nat_list_cmp_total (string_bytes e.0))
found_middle (first ∷ done) e more h =
    let above : slice_cmp nat_cmp (string_bytes e.0) (string_bytes first.0) ≡ Greater =
    nat_list_cmp_total.antisymm (string_bytes e.0) (string_bytes first.0)
    ∙ ap ordering_reverse (below_middle first done e more h.0) in
    rw above (found_middle done e more h.1)

-- a location that begins with a name leads where its rest leads in the member of that name
pub at_member : (done : List Entry) (e : Entry) (more es : List Entry) (name : List ℕ) → es ≡ done ++ e ∷ more
    → name ≡ string_bytes e.0 → IsStrictlySortedBy string_cmp (keys_of es)
    → (p : List Step) → data_at (named name ∷ p) (json.object (members_view es)) ≡ data_at p (view e.1)
at_member done e more es name split is ordered p =
    ap (option_and_then (data_at p))
    ((λ j. get_member (is j) (members_view (split j)))
    ∙ found_middle done e more (subst (λ l. IsStrictlySortedBy string_cmp (keys_of l)) split ordered))

-- the node of each value
abbrev pub trees : List Value → List Tree
trees vs = map (λ v. tree_of_data (view v)) vs

-- the node of each member, beside the bytes of its name
abbrev pub named_trees : List Entry → List (List ℕ × Tree)
named_trees es = map (λ e. (string_bytes e.0, tree_of_data (view e.1))) es

-- the items made of the nodes of values are those of the data of the values
pub items_of-trees : (vs : List Value) → items_of (trees vs) ≡ items_of_data (items_view vs)
items_of-trees [] = refl
items_of-trees (v ∷ vs) = ap (λ is. item (tree_of_data (view v)) is) (items_of-trees vs)

-- the members made of these nodes are those of the data of the members
pub members_of-named_trees : (es : List Entry) → members_of (named_trees es) ≡ members_of_data (members_view es)
members_of-named_trees [] = refl
members_of-named_trees (e ∷ es) =
    ap (λ ms. member (string_bytes e.0) (tree_of_data (view e.1)) ms) (members_of-named_trees es)

grows : (b c d : Bool) → (c ≡ false → d ≡ false) → (b || c) ≡ false → (b || d) ≡ false
grows true c d f e = e
grows false c d f e = f e

-- values without floats, with one more without floats, have none
pub no_float-push : (vs : List Value) (v : Value) → items_have_float (items_view vs) ≡ false
    → has_float (view v) ≡ false → items_have_float (items_view (vs ++ v ∷ [])) ≡ false
no_float-push [] v e f = ap (λ b. b || false) f
no_float-push (w ∷ vs) v e f = grows (has_float (view w)) _ _ (λ s. no_float-push vs v s f) e

-- members without floats, with one more without floats, have none
pub no_float-member : (es : List Entry) (e : Entry) → members_have_float (members_view es) ≡ false
    → has_float (view e.1) ≡ false → members_have_float (members_view (es ++ e ∷ [])) ≡ false
no_float-member [] e s f = ap (λ b. b || false) f
no_float-member (x ∷ es) e s f = grows (has_float (view x.1)) _ _ (λ r. no_float-member es e r f) s

-- the nodes of values and of one more are the nodes of the values, followed by its node
pub trees-push : (vs : List Value) (v : Value) → trees (vs ++ v ∷ []) ≡ trees vs ++ tree_of_data (view v) ∷ []
trees-push [] v = refl
trees-push (w ∷ vs) v = ap (λ ts. tree_of_data (view w) ∷ ts) (trees-push vs v)

-- the nodes of members and of one more, beside their names, are those of the members, followed by its own
pub named_trees-push : (es : List Entry) (e : Entry)
    → named_trees (es ++ e ∷ []) ≡ named_trees es ++ (string_bytes e.0, tree_of_data (view e.1)) ∷ []
named_trees-push [] e = refl
named_trees-push (x ∷ es) e = ap (λ ts. (string_bytes x.0, tree_of_data (view x.1)) ∷ ts) (named_trees-push es e)

-- a name in strictly sorted names is none of those before it
pub absent_last : (done : List Entry) (e : Entry) (more : List Entry)
    → IsStrictlySortedBy string_cmp (keys_of (done ++ e ∷ more))
    → entries.get (string_bytes e.0) (named_trees done) ≡ None
unfolding IsStrictlySortedBy
absent_last [] e more h = refl
absent_last (first ∷ done) e more h =
    let above : slice_cmp nat_cmp (string_bytes e.0) (string_bytes first.0) ≡ Greater =
    nat_list_cmp_total.antisymm (string_bytes e.0) (string_bytes first.0)
    ∙ ap ordering_reverse (below_middle first done e more h.0) in
    let apart : bytes_eq (string_bytes e.0) (string_bytes first.0) ≡ false =
    sym (is_eq-slice_cmp (string_bytes e.0) (string_bytes first.0)) ∙ ap is_eq above in
    ap (λ b. cond b (Some (tree_of_data (view first.1))) (entries.get (string_bytes e.0) (named_trees done)))
    apart ∙ absent_last done e more h.1

-- the fault of a number that is not an integer, at the root
pub not_whole_here : (f : Fault) (n : Num) (d : Data) → f.place.items ≡ [] → f.cause ≡ NotWhole
    → d ≡ json.number n → None ≡ as_integer n → IsNotWhole d f
not_whole_here f n d place cause is none =
    let x = not_integer n none in
    record {
      cause = cause;
      number = x.0;
      there = ap (λ steps. data_at (map step_of steps) d) place ∙ ap Some (is ∙ ap json.number x.1);
    }

-- the data of nodes, as the items of an array, is the data of the list of these nodes
pub items_data-items_of : (ts : List Tree) → view_items_of (map data_of ts) ≡ items_data (items_of ts)
items_data-items_of [] = refl
items_data-items_of (t ∷ ts) = ap (λ ds. json.item (data_of t) ds) (items_data-items_of ts)

map-push : {A B : Type 0} (f : A → B) (xs : List A) (x : A) → map f (xs ++ x ∷ []) ≡ map f xs ++ f x ∷ []
map-push f [] x = refl
map-push f (y ∷ ys) x = ap (λ zs. f y ∷ zs) (map-push f ys x)

members_data-push : (ms : List (List ℕ × Tree)) (name : List ℕ) (t : Tree) (ds : json.Members)
    → members_data (members_of (ms ++ (name, t) ∷ [])) ds ≡ put name (data_of t) (members_data (members_of ms) ds)
members_data-push [] name t ds = refl
members_data-push (m ∷ ms) name t ds = members_data-push ms name t (put m.0 (data_of m.1) ds)

-- if two lists map to the same, and two elements do, so do the lists with the elements appended
pub push_made : {A B C : Type 0} (f : A → C) (g : B → C) (xs : List A) (x : A) (ys : List B) (y : B)
    → map f xs ≡ map g ys → f x ≡ g y → map f (xs ++ x ∷ []) ≡ map g (ys ++ y ∷ [])
push_made f g xs x ys y made here =
    map-push f xs x ∙ (λ i. made i ++ here i ∷ []) ∙ sym (map-push g ys y)

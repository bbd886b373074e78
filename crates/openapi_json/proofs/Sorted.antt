-- Members in the order of their names, as they are and as data.
use Rattle.std.proofs.Common.{◌≡◌, ℕ, zero, suc, ◌<◌, ◌≤◌, List, [], ◌∷◌, ◌++◌, slice_get, length, Some}
use Rattle.std.proofs.Common.{Less, Greater, nat_cmp, refl, sym, ap, ◌∙◌, arith, append_assoc, append-nil}
use Rattle.std.proofs.lemmas.Cmp.{nat_list_cmp_total}
use Rattle.std.specs.Cmp.Lexicographic.{slice_cmp}
use Rattle.std.specs.Ordering.{match_ordering, ordering_reverse}
use Rattle.serde_json.specs.Data.{Members, no_members, member, put, array, object, item}
use Rattle.openapi_map.specs.Entries.{Entries}
use Rattle.openapi_node.specs.Json.{data_of, items_data, members_data}
use Rattle.openapi_node.specs.Tree as tree
use Rattle.openapi_node.specs.Tree.{Tree, members_of, members_size, size_of}
use Rattle.openapi_json.specs.Gathered.{AllBelow, Rises, Ascends}
use Rattle.openapi_json.specs.Writing.{arranged, data_in, items_in, members_in, put_all, standing}
use Rattle.openapi_json.specs.declared.write.Order.{Order}
use Rattle.openapi_json.specs.declared.write.Order.TheVariants.{ByName, AsTheyStand}

abbrev Named : Type 0
Named = List ℕ × Tree

-- the values in two equal options are the same
pub some_same : {A : Type 0} {x y : A} → Some x ≡ Some y → x ≡ y
some_same e = cc

all_below-trans : (n k : List ℕ) (es : Entries Tree) → slice_cmp nat_cmp n k ≡ Less → AllBelow n es → AllBelow k es
all_below-trans n k [] h b = tt
all_below-trans n k (e ∷ es) h b = (nat_list_cmp_total.trans e.0 n k b.0 h, all_below-trans n k es h b.1)

all_below-push : (n : List ℕ) (es : Entries Tree) (e : Named) → AllBelow n es → slice_cmp nat_cmp e.0 n ≡ Less
    → AllBelow n (es ++ e ∷ [])
all_below-push n [] e b h = (h, tt)
all_below-push n (x ∷ es) e b h = (b.0, all_below-push n es e b.1 h)

module _ (w : Order) where
  -- a name that is greater than all others is put last
  put_end : (n : List ℕ) (t : Tree) (es : Entries Tree) → AllBelow n es
      → put n (data_in w t) (standing w es) ≡ standing w (es ++ (n, t) ∷ [])
  put_end n t [] b = refl
  put_end n t (e ∷ es) b =
      let above : slice_cmp nat_cmp n e.0 ≡ Greater = nat_list_cmp_total.antisymm n e.0 ∙ ap ordering_reverse b.0 in
      ap (λ o. match_ordering o (member n (data_in w t) (member e.0 (data_in w e.1) (standing w es)))
      (member e.0 (data_in w t) (standing w es)) (member e.0 (data_in w e.1) (put n (data_in w t) (standing w es)))) above
      ∙ ap (member e.0 (data_in w e.1)) (put_end n t es b.1)

  in_turn : (done : Entries Tree) (last : Named) (rest : Entries Tree) → AllBelow last.0 done → Rises last.0 rest
      → put_all (standing w rest) (standing w (done ++ last ∷ [])) ≡ standing w ((done ++ last ∷ []) ++ rest)
  in_turn done last [] b r = ap (standing w) (sym (append-nil (done ++ last ∷ [])))
  in_turn done last (e ∷ es) b r =
      let below = all_below-push e.0 done last (all_below-trans last.0 e.0 done r.0 b) r.0 in
      ap (put_all (standing w es)) (put_end e.0 e.1 (done ++ last ∷ []) below)
      ∙ in_turn (done ++ last ∷ []) e es below r.1
      ∙ ap (standing w) (append_assoc (done ++ last ∷ []) (e ∷ []) es)

  -- members of which each name is less than the next stay the same when they are put by name
  ascending : (es : Entries Tree) → Ascends es → put_all (standing w es) no_members ≡ standing w es
  ascending [] r = refl
  ascending (e ∷ es) r = in_turn [] e es tt r

-- so they stay the same in either order, by name or as they are
pub stand : (o : Order) (es : Entries Tree) → Ascends es → arranged o (standing o es) ≡ standing o es
stand ByName es r = ascending ByName es r
stand AsTheyStand es r = refl

mutual
  -- the data of a node is its data with the members by name
  pub data-by_name : (t : Tree) → data_of t ≡ data_in ByName t
  data-by_name tree.null = refl
  data-by_name (tree.flag b) = refl
  data-by_name (tree.whole z) = refl
  data-by_name (tree.text s) = refl
  data-by_name (tree.list ts) = ap array (items-by_name ts)
  data-by_name (tree.object ms) = ap object (members-by_name ms no_members)

  items-by_name : (ts : tree.Items) → items_data ts ≡ items_in ByName ts
  items-by_name tree.no_items = refl
  items-by_name (tree.item t ts) = λ i. item (data-by_name t i) (items-by_name ts i)

  pub members-by_name : (ms : tree.Members) (ds : Members) → members_data ms ds ≡ put_all (members_in ByName ms) ds
  members-by_name tree.no_members ds = refl
  members-by_name (tree.member k t ms) ds =
      members-by_name ms (put k (data_of t) ds) ∙ ap (λ d. put_all (members_in ByName ms) (put k d ds)) (data-by_name t)

-- among the first `i` entries, each name is less than the next
abbrev pub AscendsTo : ℕ → Entries Tree → Type 0
AscendsTo i es =
    (j : ℕ) (a b : Named) → suc j < i → slice_get es j ≡ Some a → slice_get es (suc j) ≡ Some b
    → slice_cmp nat_cmp a.0 b.0 ≡ Less

rises : (e : Named) (es : Entries Tree) → AscendsTo (length (e ∷ es)) (e ∷ es) → Rises e.0 es
rises e [] h = tt
rises e (f ∷ es) h =
    (h zero e f (omega arith) refl refl, rises f es (λ j a b l p q. h (suc j) a b (omega (arith, l)) p q))

-- members are in order if each name is less than the next, as far as the last
pub all_ascending : (es : Entries Tree) → AscendsTo (length es) es → Ascends es
all_ascending [] h = tt
all_ascending (e ∷ es) h = rises e es h

-- a member is no larger than all members together
pub fits_in : (ms : Entries Tree) (i : ℕ) (e : Named) → slice_get ms i ≡ Some e → size_of e.1 ≤ members_size (members_of ms)
fits_in [] i e at = cc
fits_in (m ∷ ms) zero e at =
    let same : e ≡ m = some_same (sym at) in
    let less : size_of e.1 ≤ size_of m.1 = omega (arith, ap (λ (x : Named). size_of x.1) same) in
    omega (arith, less)
fits_in (m ∷ ms) (suc i) e at = omega (arith, fits_in ms i e at)

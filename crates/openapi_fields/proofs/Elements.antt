-- The elements of a list, read and written one after another.
use Rattle.std.proofs.Common.{◌≡◌, ℕ, zero, suc, ◌+◌, ◌<◌, Bool, true, ◌&&◌, List, [], ◌∷◌, ◌++◌, length, get_or, take, refl, sym, ap, ◌∙◌, subst, inr, arith}
use Rattle.std.proofs.lemmas.Bool.{and_parts, and_from}
use Rattle.std.proofs.lemmas.List.{take_more}
use Rattle.openapi_node.specs.Place.{Place, indexed}
use Rattle.openapi_node.specs.Tree.{Tree, list, items_of}
use Rattle.openapi_node.specs.declared.fault.Fault.{Fault}
use Rattle.openapi_tables.specs.Prelude.{each, every, join, is_empty, Seen, of_items, Kind, list_of, final_tables}
use Rattle.openapi_tables.specs.Prelude.{conforms, root_conforms, Form, sequence, forms_of, form, root_form, print}
use Rattle.openapi_tables.specs.Prelude.{unwritable, each_below, face_lost, root_asks, asked, asks_items, below, Among}
use Rattle.openapi_tables.specs.Prelude.{StepsTo, asking}
use Rattle.openapi_tables.specs.Unwritable.{lost_items}
use Rattle.openapi_tables.proofs.ByRowLaws.{among_left, among_right, among_below}
use Rattle.openapi_tables.proofs.FormLaws.{show, of_forms-of}
use Rattle.openapi_tables.proofs.ListLaws.{each-each}
use Rattle.openapi_tables.proofs.PrintLaws.{print-list}
use Rattle.openapi_tables.proofs.SlotWriting.{below_each}
use Rattle.openapi_fields.specs.Returned.{NotWritable, NotWritableBelow}
use Rattle.openapi_fields.proofs.Losing.{loses_above}

every_seen : (k : Kind) (ts : List Tree)
    → every (λ (x : Seen (Kind → Bool)). x.answer k) (of_items (root_conforms final_tables) (items_of ts))
    ≡ every (conforms final_tables k) ts
every_seen k [] = refl
every_seen k (t ∷ ts) = ap (λ b. conforms final_tables k t && b) (every_seen k ts)

each_seen : (k : Kind) (ts : List Tree)
    → each (λ (x : Seen (Kind → Form)). x.answer k) (of_items (root_form final_tables) (items_of ts))
    ≡ each (form final_tables k) ts
each_seen k [] = refl
each_seen k (t ∷ ts) = ap (λ l. form final_tables k t ∷ l) (each_seen k ts)

-- a list whose elements all conform conforms, and its form is the sequence of their forms
pub list_gives : (k : Kind) (ts : List Tree) (fs : List Form) → every (conforms final_tables k) ts ≡ true
    → each (form final_tables k) ts ≡ fs
    → (conforms final_tables (list_of k) (list (items_of ts)) ≡ true)
    × (form final_tables (list_of k) (list (items_of ts)) ≡ sequence (forms_of fs))
list_gives k ts fs h e = (every_seen k ts ∙ h, ap (λ l. sequence (forms_of l)) (each_seen k ts ∙ e))

-- if all elements of a list pass a test and one more value passes it, the list with that value appended passes it too
pub every-more : {A : Type 0} (p : A → Bool) (xs : List A) (x : A) → every p xs ≡ true → p x ≡ true
    → every p (xs ++ x ∷ []) ≡ true
every-more p [] x h e = ap (λ b. b && true) e
every-more p (y ∷ xs) x h e = let q = and_parts (p y) (every p xs) h in and_from _ _ q.0 (every-more p xs x q.1 e)

-- the images of a list with one more element are those of the list, and that of the element
pub each-more : {A B : Type 0} (f : A → B) (xs : List A) (x : A) → each f (xs ++ x ∷ []) ≡ each f xs ++ f x ∷ []
each-more f [] x = refl
each-more f (y ∷ xs) x = ap (λ l. f y ∷ l) (each-more f xs x)

-- the first `i + 1` elements are the first `i`, followed by the element at the index `i`
pub next_here : {A : Type 0} (xs : List A) (i : ℕ) (x : A) → i < length xs → x ≡ get_or xs i x → take (i + 1) xs
    ≡ take i xs ++ x ∷ []
next_here xs i x h e = take_more xs i x h ∙ ap (λ y. take i xs ++ y ∷ []) (sym e)

item_asks : (k : Kind) (j : ℕ) (ts : List Tree) (i : ℕ) (t : Tree) (p : Place) (l : Kind) (v : Tree) → i < length ts
    → t ≡ get_or ts i t → Among (asking p l v) (asked final_tables k t)
    → Among (asking (indexed (i + j) ∷ p) l v) (asks_items k j (of_items (root_asks final_tables) (items_of ts)))
item_asks k j [] i t p l v h e a = absurd (omega arith)
item_asks k j (u ∷ ts) zero t p l v h e a =
    let same : j ≡ 0 + j = omega arith in
    subst (λ m. Among (asking (indexed m ∷ p) l v) (asks_items k j (of_items (root_asks final_tables) (items_of (u ∷
    ts))))) same
    (among_left (asking (indexed j ∷ p) l v) (below (indexed j) (asked final_tables k u))
    (asks_items k (suc j) (of_items (root_asks final_tables) (items_of ts)))
    (among_below (indexed j) p l v (asked final_tables k u) (subst (λ x. Among (asking p l v) (asked final_tables k
    x)) e a)))
item_asks k j (u ∷ ts) (suc i) t p l v h e a =
    let same : i + suc j ≡ suc i + j = omega arith in
    among_right (asking (indexed (suc i + j) ∷ p) l v) (below (indexed j) (asked final_tables k u))
    (asks_items k (suc j) (of_items (root_asks final_tables) (items_of ts)))
    (subst (λ m. Among (asking (indexed m ∷ p) l v) (asks_items k (suc j) (of_items (root_asks final_tables)
    (items_of ts)))) same
    (item_asks k (suc j) ts i t p l v (omega arith) e a))

-- each requirement of `k` in an element is a requirement of a list of `k` in its list, below the index of the element
pub item_leads : (k : Kind) (ts : List Tree) (i : ℕ) (t : Tree) → i < length ts → t ≡ get_or ts i t
    → StepsTo final_tables (list_of k) (list (items_of ts)) (indexed i) k t
item_leads k ts i t h e p l v a =
    let same : i + 0 ≡ i = omega arith in
    inr (subst (λ m. Among (asking (indexed m ∷ p) l v) (asks_items k 0 (of_items (root_asks final_tables) (items_of
    ts)))) same
    (item_asks k 0 ts i t p l v h e a))

-- a list that is written
module _ {X : Type 0} (view : X → Form) (k : Kind) where
  -- whether nothing in an element is unwritable
  abbrev pub is_whole : X → Bool
  is_whole x = is_empty (unwritable final_tables k (view x))

  -- the node that an element is written as
  abbrev pub written : X → Tree
  written x = print final_tables k (view x)

  empty_is : (ps : List Place) → is_empty ps ≡ true → ps ≡ []
  empty_is [] h = refl
  empty_is (q ∷ ps) h = cc

  nothing_lost : (i : ℕ) (xs : List X) → every is_whole xs ≡ true
      → lost_items k i (each (show (face_lost final_tables)) (each view xs)) ≡ []
  nothing_lost i [] h = refl
  nothing_lost i (x ∷ xs) h =
      let p = and_parts (is_whole x) (every is_whole xs) h in
      ap (λ l. join (each_below (indexed i) l) (lost_items k (suc i) (each (show (face_lost final_tables)) (each view
      xs))))
      (empty_is (unwritable final_tables k (view x)) p.0)
      ∙ nothing_lost (suc i) xs p.1

  lost_of : (xs : List X) → unwritable final_tables (list_of k) (sequence (forms_of (each view xs)))
      ≡ lost_items k 0 (each (show (face_lost final_tables)) (each view xs))
  lost_of xs = ap (lost_items k 0) (of_forms-of (face_lost final_tables) (each view xs))

  -- if nothing in its elements is unwritable, a list is written as the list of the nodes that they are written as
  pub list_written : (xs : List X) (ts : List Tree) (node : Tree) → ts ≡ each written xs → every is_whole xs ≡ true
      → node ≡ list (items_of ts)
      → (node ≡ print final_tables (list_of k) (sequence (forms_of (each view xs))))
      × (unwritable final_tables (list_of k) (sequence (forms_of (each view xs))) ≡ [])
  list_written xs ts node e h n = (
    n ∙ ap (λ l. list (items_of l)) (e ∙ sym (each-each (print final_tables k) view xs))
        ∙ sym (print-list final_tables k (each view xs)),
    lost_of xs ∙ nothing_lost 0 xs h,
  )

  lost_at : (j : ℕ) (xs : List X) (i : ℕ) (x : X) (q : Place) → i < length xs → x ≡ get_or xs i x
      → Among q (unwritable final_tables k (view x))
      → Among (indexed (i + j) ∷ q) (lost_items k j (each (show (face_lost final_tables)) (each view xs)))
  lost_at j [] i x q h e a = absurd (omega arith)
  lost_at j (y ∷ xs) zero x q h e a =
      let same : j ≡ 0 + j = omega arith in
      subst (λ m. Among (indexed m ∷ q) (lost_items k j (each (show (face_lost final_tables)) (each view (y ∷ xs)))))
      same
      (among_left (indexed j ∷ q) (each_below (indexed j) (unwritable final_tables k (view y)))
      (lost_items k (suc j) (each (show (face_lost final_tables)) (each view xs)))
      (below_each (indexed j) q (unwritable final_tables k (view y))
      (subst (λ z. Among q (unwritable final_tables k (view z))) e a)))
  lost_at j (y ∷ xs) (suc i) x q h e a =
      let same : i + suc j ≡ suc i + j = omega arith in
      among_right (indexed (suc i + j) ∷ q) (each_below (indexed j) (unwritable final_tables k (view y)))
      (lost_items k (suc j) (each (show (face_lost final_tables)) (each view xs)))
      (subst (λ m. Among (indexed m ∷ q) (lost_items k (suc j) (each (show (face_lost final_tables)) (each view
      xs)))) same
      (lost_at (suc j) xs i x q (omega arith) e a))

  -- an error of writing the element at an index is an error of writing the list
  pub item_loses : (xs : List X) (i : ℕ) (x : X) (f : Fault) → i < length xs → x ≡ get_or xs i x
      → NotWritableBelow (indexed i) f (unwritable final_tables k (view x))
      → NotWritable f (unwritable final_tables (list_of k) (sequence (forms_of (each view xs))))
  item_loses xs i x f h e l =
      loses_above (indexed i) f (unwritable final_tables k (view x))
      (unwritable final_tables (list_of k) (sequence (forms_of (each view xs))))
      (λ q a. subst (λ ps. Among (indexed i ∷ q) ps) (sym (lost_of xs))
      (let same : i + 0 ≡ i = omega arith in
      subst (λ m. Among (indexed m ∷ q) (lost_items k 0 (each (show (face_lost final_tables)) (each view xs)))) same
      (lost_at 0 xs i x q h e a))) l

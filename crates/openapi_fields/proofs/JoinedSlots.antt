-- Two lists of slots joined into one: what they are written as, what is unwritable in them, and that they share no name.
use Rattle.std.proofs.Common.{◌≡◌, ℕ, zero, suc, Bool, true, false, ◌&&◌, ◌||◌, List, [], ◌∷◌, ◌++◌, Some, slice_get}
use Rattle.std.proofs.Common.{refl, sym, ap, ◌∙◌, subst}
use Rattle.std.proofs.lemmas.Bool.{and_parts}
use Rattle.openapi_map.specs.Entries.{Entries}
use Rattle.openapi_node.specs.Fault.{place_of}
use Rattle.openapi_node.specs.Place.{Place}
use Rattle.openapi_node.specs.Tree.{Tree}
use Rattle.openapi_node.specs.declared.fault.Cause.{Cause}
use Rattle.openapi_node.specs.declared.fault.Cause.TheVariants.{Missing, MissingEither, WrongKind, NotAllowed}
use Rattle.openapi_node.specs.declared.fault.Cause.TheVariants.{UnknownVariant, NameNotWritable, NotWhole, Memory}
use Rattle.openapi_node.specs.declared.fault.Fault.{Fault}
use Rattle.openapi_tables.specs.Prelude.{join, every, Row, takes, apart, final_tables, Slot, slots_apart, slots_print}
use Rattle.openapi_tables.specs.Prelude.{slots_lost, untied, taken, all_taken, IsWritten, Among}
use Rattle.openapi_tables.proofs.ByRowLaws.{among_left, among_right}
use Rattle.openapi_tables.proofs.RowLaws.{apart_back}
use Rattle.openapi_tables.proofs.SlotLists.{all_taken-append, all_taken-first, get_none, or_true, slots_lost-join}
use Rattle.openapi_tables.proofs.SlotLists.{slots_print-join, untied-join}
use Rattle.openapi_fields.specs.Returned.{NotWritable, NotWritableBy}
use Rattle.openapi_fields.specs.Writing.{AreNew}

-- a name that the second of two lists of slots takes is taken by the joined list
taken-second : (xs ys : List Slot) (n : List ℕ) → taken ys n ≡ true → taken (join xs ys) n ≡ true
unfolding taken
taken-second [] ys n h = h
taken-second (x ∷ xs) ys n h =
    ap (λ b. takes x.0 n || b) (taken-second xs ys n h) ∙ or_true (takes x.0 n)

all_taken-second : (xs ys : List Slot) (es : Entries Tree) → all_taken ys es ≡ true → all_taken (join xs ys) es ≡ true
unfolding all_taken
all_taken-second xs ys [] h = refl
all_taken-second xs ys (e ∷ es) h =
    let p = and_parts (taken ys e.0) (all_taken ys es) h in
    (λ i. taken-second xs ys e.0 p.0 i && all_taken-second xs ys es p.1 i)

-- if each of two lists of slots is written, the members of the first, followed by those of the second, are what the joined
-- list is written as
pub written_behind : (xs ys : List Slot) (out more : Entries Tree) → IsWritten final_tables xs out
    → IsWritten final_tables ys more → IsWritten final_tables (join xs ys) (out ++ more)
written_behind xs ys out more h g =
    record {
      members = (λ i. h.members i ++ g.members i)
          ∙ sym (untied-join (slots_print final_tables xs) (slots_print final_tables ys))
          ∙ ap untied (sym (slots_print-join final_tables xs ys));
      nothing_lost = slots_lost-join final_tables xs ys ∙ (λ i. join (h.nothing_lost i) (g.nothing_lost i));
      names = all_taken-append (join xs ys) out more (all_taken-first xs ys out h.names)
          (all_taken-second xs ys more g.names);
    }

-- what is unwritable in the first of two lists of slots is unwritable in the joined list
pub loses_first : (xs ys : List Slot) (q : Place) → Among q (slots_lost final_tables xs)
    → Among q (slots_lost final_tables (join xs ys))
loses_first xs ys q h =
    subst (λ ps. Among q ps) (sym (slots_lost-join final_tables xs ys))
    (among_left q (slots_lost final_tables xs) (slots_lost final_tables ys) h)

-- what is unwritable in the second of two lists of slots is unwritable in the joined list
pub loses_second : (xs ys : List Slot) (q : Place) → Among q (slots_lost final_tables ys)
    → Among q (slots_lost final_tables (join xs ys))
loses_second xs ys q h =
    subst (λ ps. Among q ps) (sym (slots_lost-join final_tables xs ys))
    (among_right q (slots_lost final_tables xs) (slots_lost final_tables ys) h)

-- if the locations `qs` include the locations `ps`, an error of a writer about `ps` is one about `qs`
pub loses_wider : (f : Fault) (ps qs : List Place) → ((q : Place) → Among q ps → Among q qs) → NotWritable f ps → NotWritable f qs
loses_wider f ps qs wider h = go f.cause h
  where
    go : (c : Cause) → NotWritableBy c (place_of f) ps → NotWritableBy c (place_of f) qs
    go (Missing n) h = h
    go (MissingEither n m) h = h
    go (WrongKind w) h = h
    go NotAllowed h = h
    go UnknownVariant h = h
    go NameNotWritable h = wider (place_of f) h
    go NotWhole h = h
    go Memory h = h

-- a row that takes no name in common with the row of any slot takes no name that the slots take
untaken : (w : Row) (ys : List Slot) (n : List ℕ) → every (λ (y : Slot). apart w y.0) ys ≡ true → taken ys n ≡ true
    → takes w n ≡ false
unfolding taken
untaken w [] n h t = cc
untaken w (y ∷ ys) n h t =
    let p = and_parts (apart w y.0) (every (λ (y : Slot). apart w y.0) ys) h in
    go p.0 (untaken w ys n p.1) (takes y.0 n) refl t
  where
    go : apart w y.0 ≡ true → (taken ys n ≡ true → takes w n ≡ false) → (b : Bool) → takes y.0 n ≡ b
        → (b || taken ys n) ≡ true → takes w n ≡ false
    go h more true e q = apart_back w y.0 n h e
    go h more false e q = more q

every-second : {A : Type 0} (q : A → Bool) (xs ys : List A) → every q (join xs ys) ≡ true → every q ys ≡ true
every-second q [] ys h = h
every-second q (x ∷ xs) ys h = every-second q xs ys (and_parts (q x) (every q (join xs ys)) h).1

-- if no name is taken by two of the joined slots, a name that the second list takes is not taken by the first
apart_names : (xs ys : List Slot) (n : List ℕ) → slots_apart (join xs ys) ≡ true → taken ys n ≡ true
    → taken xs n ≡ false
unfolding taken
apart_names [] ys n a t = refl
apart_names (x ∷ xs) ys n a t =
    let p = and_parts (every (λ (y : Slot). apart x.0 y.0) (join xs ys)) (slots_apart (join xs ys)) a in
    (λ i. untaken x.0 ys n (every-second (λ (y : Slot). apart x.0 y.0) xs ys p.0) t i || apart_names xs ys n p.1 t i)

taken_name : (ys : List Slot) (es : Entries Tree) (j : ℕ) (e : List ℕ × Tree) → all_taken ys es ≡ true
    → slice_get es j ≡ Some e → taken ys e.0 ≡ true
unfolding all_taken
taken_name ys [] j e h at = cc
taken_name ys (d ∷ es) zero e h at =
    let same : d ≡ e = cc in
    subst (λ (x : List ℕ × Tree). taken ys x.0 ≡ true) same (and_parts (taken ys d.0) (all_taken ys es) h).0
taken_name ys (d ∷ es) (suc j) e h at =
    taken_name ys es j e (and_parts (taken ys d.0) (all_taken ys es) h).1 at

-- if no name is taken by two of the joined slots, no name of the members of the second list is among those of the first
pub new_behind : (xs ys : List Slot) (out more : Entries Tree) → slots_apart (join xs ys) ≡ true
    → IsWritten final_tables xs out → IsWritten final_tables ys more → AreNew more out
new_behind xs ys out more a h g j e at =
    get_none xs out e.0 h.names (apart_names xs ys e.0 a (taken_name ys more j e g.names at))

-- `OrderedMap` as a `Former` of its values, so that a type may contain a map whose values are of that same type.
use Rattle.std.specs.Prelude.{◌≡◌, List, [], Option, Some, None, String}
use mathlib.Core.Path.{refl, sym, ap, subst, ◌∙◌}
use lib.ListN.{length-map}
use mathlib.Core.Former.{Former, this, const, pair, or, list, via, children}
use mathlib.Core.Logic.{◌⊎◌, inl, inr}
use base.Fml.{ftrue}
use base.Stored.{gnil}
use denote.Memory.{part_of}
use denote.RawPtr.{Ptr}
use denote.Sharing.{nothing}
use denote.RattleType.{RattleType}
use denote.HoleLaws.{Alike}
use denote.HolePlaces.{Recodes, struct_places, enum_places, eachs, laid, one_value}
use denote.Hole.Carrier.{listed}
use denote.Hole.Fix.{over}
use denote.Param.Weighed.{Weighed, most}
use denote.Model.Placed.{held, view_places_where}
use Rattle.std.specs.List.{IsDistinct}
use Rattle.std.specs.Str.{bytes_eq}
use Rattle.std.specs.Map.{keys_of, values_of}
use Rattle.std.specs.declared.alloc.Global.{Global}
use Rattle.std.specs.declared.boxed.Box.{Box}
use Rattle.std.specs.declared.vec.Vec.{Vec}
use Rattle.std.specs.declared.cmp.PartialEq as eq
use Rattle.std.specs.formers.vec.Vec as vec
use Rattle.std.specs.contracts.boxed.Box as box
use Rattle.std.specs.contracts.option.Option as option
use Rattle.std.specs.contracts.alloc.Global as heap
use Rattle.std.specs.contracts.impls.GlobalAllocator.TheImpl.{ghosts}
use Rattle.openapi_map.specs.Entries.{Entries, names_of}
use Rattle.openapi_map.specs.Held.{kept, IsHeldConsistent}
use Rattle.openapi_map.specs.declared.Held.{Held}
use Rattle.openapi_map.specs.Equality.{entries_eq}
use Rattle.openapi_map.specs.declared.lookup.Finder.{Finder}
use Rattle.openapi_map.specs.Former.{entry, entries_puts, values_listed, entries_recoded}
use Rattle.openapi_map.specs.Former.{zip-map, zip-held, length-names_of, keys_of-map, entries_eq-map}
use Rattle.openapi_map.specs.Former.{IsKept, IsKept-prop}
use Rattle.openapi_map.specs.declared.OrderedMap.TheInside.{Inside}
use Rattle.openapi_map.specs.declared.OrderedMap.TheView.{view, invariant}
use Rattle.openapi_map.specs.contracts.Held as H
use Rattle.openapi_map.specs.contracts.OrderedMap as C
use Rattle.openapi_map.specs.contracts.OrderedMap.TheInside as I

abbrev pub the_former : Former {0} → Former {0}
the_former g = list (entry g)

abbrev pub the_weighed : {g : Former {0}} → Weighed g → Weighed (the_former g)
the_weighed w = record {
  weight = λ X μ es. most (w.weight X μ) (values_of es);
  puts = λ X μ es. entries_puts w X μ es;
}

pub the_empty : Entries ⊥
the_empty = []

abbrev pub the_items : (X : Type 0) → Entries X → List X
the_items X es = values_of es

pub the_items_listed : (X : Type 0) (es : Entries X)
    → listed _ (children (the_former this) X es) ≡ the_items X es
the_items_listed X es = values_listed X es

-- the contents that the code stores for a map
abbrev helds : Former {0}
helds =
    via (pair (const (Vec (String Global) Global)) (pair (vec.the_former this Global) (const Finder))) Held
    (λ X a. (a.names, (a.values, a.finder)))
    (λ X v. record { names = v.0; values = v.1.0; finder = v.1.1 }) (λ X a. refl) (λ X v. refl)

abbrev with_value : {X Y : Type 0} → Box X Global → Y → Box Y Global
with_value b y = record { ptr = b.ptr; alloc = b.alloc; value = y }

abbrev boxes : Former {0}
boxes =
    via (pair (const (Ptr × Global)) helds) (λ X. Box (Held X) Global)
    (λ X b. ((b.ptr, b.alloc), b.value)) (λ X v. record { ptr = v.0.0; alloc = v.0.1; value = v.1 })
    (λ X b. refl) (λ X v. refl)

module _ {B : Type 0} where
  abbrev split : Option B → Unit {0} ⊎ B
  split None = inl tt
  split (Some b) = inr b

  abbrev join : Unit {0} ⊎ B → Option B
  join (inl u) = None
  join (inr b) = Some b

  join-split : (o : Option B) → join (split o) ≡ o
  join-split None = refl
  join-split (Some b) = refl

  split-join : (o : Unit {0} ⊎ B) → split (join o) ≡ o
  split-join (inl u) = refl
  split-join (inr b) = refl

abbrev options : Former {0}
options =
    via (or (const (Unit {0})) boxes) (λ X. Option (Box (Held X) Global))
    (λ X. split) (λ X. join) (λ X. join-split) (λ X. split-join)

abbrev fields : Former {0}
fields =
    via (pair options (const Global)) Inside
    (λ X a. (a.held, a.alloc)) (λ X v. record { held = v.0; alloc = v.1 }) (λ X a. refl) (λ X v. refl)

module _ {X Y : Type 0} (h : X → Y) where
  abbrev on_held : Held X → Held Y
  on_held d = record { names = d.names; values = vec.mapped h d.values; finder = d.finder }

  abbrev on_box : Box (Held X) Global → Box (Held Y) Global
  on_box b = with_value b (on_held b.value)

  abbrev on_option : Option (Box (Held X) Global) → Option (Box (Held Y) Global)
  on_option None = None
  on_option (Some b) = Some (on_box b)

  over_option : (o : Option (Box (Held X) Global)) → options.map X Y h o ≡ on_option o
  over_option None = refl
  over_option (Some b) = refl

  -- the view commutes with mapping the values
  natural : (o : Option (Box (Held X) Global))
      → kept (options.map X Y h o) ≡ (the_former this).map X Y h (kept o)
  natural None = refl
  natural (Some b) = zip-map h (names_of b.value.names.items) b.value.values.items

  -- mapping the values also preserves what holds of the fields
  names : (o : Option (Box (Held X) Global)) → keys_of (kept (options.map X Y h o)) ≡ keys_of (kept o)
  names o = ap keys_of (natural o) ∙ keys_of-map h (kept o)

  consistent-to : (o : Option (Box (Held X) Global)) → IsHeldConsistent o → IsHeldConsistent (options.map X Y h o)
  consistent-to None s = s
  consistent-to (Some b) s = record { even = length-map b.value.values.items h ∙ s.even; index = s.index }

  consistent-from : (o : Option (Box (Held X) Global)) → IsHeldConsistent (options.map X Y h o) → IsHeldConsistent o
  consistent-from None s = s
  consistent-from (Some b) s = record { even = sym (length-map b.value.values.items h) ∙ s.even; index = s.index }

  IsKept-to : (o : Option (Box (Held X) Global)) → IsKept o → IsKept (options.map X Y h o)
  IsKept-to o s = (subst (IsDistinct bytes_eq) (sym (names o)) s.0, consistent-to o s.1)

  IsKept-from : (o : Option (Box (Held X) Global)) → IsKept (options.map X Y h o) → IsKept o
  IsKept-from o s = (subst (IsDistinct bytes_eq) (names o) s.0, consistent-from o s.1)

-- the view holds the same values as the fields
keeps : (X : Type 0) (o : Option (Box (Held X) Global)) (z : Global) → IsHeldConsistent o
    → held (the_former this) X (kept o) ≡ held fields X (record { held = o; alloc = z })
keeps X None z s = refl
keeps X (Some b) z s =
    zip-held X (names_of b.value.names.items) b.value.values.items (s.even ∙ sym (length-names_of b.value.names.items))

abbrev box_of : RattleType → RattleType
box_of R = box.the_row R heap.the_row ghosts

box_places : (R R' : RattleType) (h : R.Denot → R'.Denot) → Alike R R' h
    → Alike (box_of R) (box_of R') (λ b. with_value b (h b.value))
unfolding part_of
box_places R R' h a = record {
  mir_same = λ i. (box_of (one_value R (a.mir_same i) (λ _. ftrue) (λ _ _. nothing) gnil)).mir;
  own_same = λ b i.
      (box_of (one_value R (a.mir_same i) (a.own_same b.value i) (a.shr_same b.value i) gnil)).own_val (with_value b tt);
  shr_same = λ b i.
      (box_of (one_value R (a.mir_same i) (a.own_same b.value i) (a.shr_same b.value i) gnil)).shr_at (with_value b tt);
}

module _ (R R' : RattleType) (h : R.Denot → R'.Denot) where
  held_places : Alike R R' h → Alike (H.the_row R) (H.the_row R') (on_held h)
  held_places a =
      struct_places (H.the_type R) (H.the_type R') (λ n. n, (vec.mapped h, (λ n. n, tt))) _ (λ d. refl) refl (
        (refl, (λ n. refl, λ n. refl)),
        (
          laid _ _ _ (vec.the_places heap.the_row ghosts R R' h a),
          ((refl, (λ n. refl, λ n. refl)), tt),
        ),
      )

  abbrev boxed : RattleType → RattleType
  boxed S = box_of (H.the_row S)

  variant : (o : Option (Box (Held R.Denot) Global)) → (option.enum (boxed R')).as_values (on_option h o)
      ≡ eachs (option.enum (boxed R)).parts (option.enum (boxed R')).parts (tt, ((on_box h, tt), tt))
      ((option.enum (boxed R)).as_values o)
  variant None = refl
  variant (Some b) = refl

  option_places : Alike R R' h → Alike (option.the_row (boxed R)) (option.the_row (boxed R')) (on_option h)
  option_places a =
      enum_places (option.enum (boxed R)) (option.enum (boxed R')) (tt, ((on_box h, tt), tt)) (on_option h) variant refl
      (tt, ((laid _ _ _ (box_places (H.the_row R) (H.the_row R') (on_held h) (held_places a)), tt), tt))

  pub the_places : Alike R R' h
      → Alike (C.the_row R) (C.the_row R') ((the_former this).map R.Denot R'.Denot h)
  the_places a =
      view_places_where fields (the_former this) view
      (λ X Y k u. natural k u.held) (λ X u. IsHeldConsistent u.held) (λ X Y k u. consistent-from k u.held)
      (λ X u. keeps X u.held u.alloc)
      R.Denot R'.Denot h (C.the_row R).coded (C.the_row R').coded
      (invariant R.Denot) (invariant R'.Denot)
      (λ u. IsKept-prop u.held) (λ u. IsKept-prop u.held)
      (λ u. IsKept-to h u.held) (λ u. IsKept-from h u.held) (λ u s. s.1)
      (over (I.the_row R)) (over (I.the_row R'))
      (struct_places (I.the_type R) (I.the_type R') (on_option h, (λ n. n, tt)) _
      (λ d i. (over_option h d.held i, (d.alloc, tt))) refl
      (laid _ _ _ (option_places a), ((refl, (λ n. refl, λ n. refl)), tt)))

  pub the_codes_placed : Recodes R R' h
      → Recodes (C.the_row R) (C.the_row R') ((the_former this).map R.Denot R'.Denot h)
  the_codes_placed e m = entries_recoded R R' h e m

-- two maps of mapped values are equal exactly if the maps are equal by their mapped values
pub the_eq_natural : (X Y : Type 0) (h : X → Y) (V : eq.Ghosts Y) (a b : Entries X)
    → entries_eq V.eq ((the_former this).map X Y h a) ((the_former this).map X Y h b)
    ≡ entries_eq (λ x y. V.eq (h x) (h y)) a b
the_eq_natural X Y h V a b = entries_eq-map h V.eq a b

-- What a row writes for members that are sorted by name, whose values are all `Ready`.
use Rattle.std.proofs.Common.{◌≡◌, ℕ, List, [], ◌∷◌, Bool, true, false, cond, not, ◌&&◌, ◌||◌, ◌⊎◌, inl, inr, refl, sym, ap, subst, ◌∙◌}
use Rattle.std.proofs.lemmas.Bool.{and_parts}
use Rattle.openapi_node.specs.Tree.{Tree, list, object}
use Rattle.openapi_json.specs.Writing.{tree_by_name}
use Rattle.openapi_tables.specs.Prelude.{Kind, Tables, Row, Class, Mode, class, constant, either, flagged, format, formatted, listed}
use Rattle.openapi_tables.specs.Prelude.{map_of, nullable, optional, required, row, styled, conforms, form, clean, print, is_null}
use Rattle.openapi_tables.specs.Prelude.{row_print, class_form, default_of, gather, Key, key_in, Form, Pair, slot_of_own, is_silent}
use Rattle.openapi_tables.specs.Prelude.{mode_fits, row_sound, sound, members_in, one, each, every, same_text, Entry, Seen}
use Rattle.openapi_tables.proofs.FaultLaws.{judged}
use Rattle.openapi_tables.proofs.KeyLaws.{Both, Both-gather}
use Rattle.openapi_tables.proofs.ListLaws.{Each}
use Rattle.openapi_tables.proofs.PlainLaws.{clean-plain, is_plain}
use Rattle.openapi_tables.proofs.PrintLaws.{entry_of, print-map, printed}
use Rattle.openapi_tables.proofs.ReadLaws.{class_form-reads, pair_of, reads}
use Rattle.openapi_tables.proofs.ReadProper.{RowReads}
use Rattle.openapi_tables.proofs.SoundLaws.{sound_pick}
use Rattle.openapi_tables.proofs.TreeLaws.{members_list-of}
use Rattle.openapi_text.proofs.Kept.{keeps}
use Rattle.openapi_text.proofs.SameByName.{Same, fixed_same, flat_fixed, kind_in}

-- ---- kinds whose normalized nodes are sorted by name if the nodes are
abbrev pub is_flat : Kind → Bool
is_flat (format ws b) = true
is_flat k = is_plain k

plain_value : (T : Tables) (k : Kind) (v : Tree) → is_plain k ≡ true → tree_by_name v ≡ v
    → tree_by_name (clean T k v) ≡ clean T k v
plain_value T k v h s = subst (λ u. tree_by_name u ≡ u) (sym (clean-plain T v k h)) s

pub flat_value : (T : Tables) (k : Kind) (v : Tree) → is_flat k ≡ true → tree_by_name v ≡ v → conforms T k v ≡ true
    → tree_by_name (clean T k v) ≡ clean T k v
flat_value T (format ws b) (list ts) h s c = cc
flat_value T (format ws b) (object ms) h s c = cc
flat_value T (format ws b) v h s c = flat_fixed (clean T (format ws b) v) (keeps T v (format ws b)).0
flat_value T k v h s c = plain_value T k v h s

-- ---- the normalized node of a value
-- a value that is sorted by name, and whose normalized node is `Same` under each well-made kind to which it conforms
abbrev pub Ready : (T : Tables) → Tree → Type 0
Ready T v =
    (tree_by_name v ≡ v) × ((k : Kind) → sound T k ≡ true → conforms T k v ≡ true → Same T k (clean T k v))

-- a value that is sorted by name, or is `Same` under a kind that is not flat
abbrev pub Made : (T : Tables) → Kind → Tree → Type 0
Made T k v = (tree_by_name v ≡ v) ⊎ ((is_flat k ≡ false) × Same T k v)

pub made_same : (T : Tables) (k : Kind) (v : Tree) → Made T k v → Same T k v
made_same T k v (inl e) = fixed_same T k v e
made_same T k v (inr p) = p.1

made_of : (T : Tables) (k : Kind) (v : Tree) → Ready T v → sound T k ≡ true → conforms T k v ≡ true → Made T k (clean T k v)
made_of T k v r s c = at (is_flat k) refl
  where
    at : (b : Bool) → is_flat k ≡ b → Made T k (clean T k v)
    at true e = inl (flat_value T k v e r.0 c)
    at false e = inr (e, r.1 k s c)

abbrev pub AllMade : (T : Tables) → Row → List (Entry Tree) → Type 0
AllMade T w l = Each (λ (e : Entry Tree). Made T (kind_in w e.name) e.value) l

-- ---- what a row writes
default_made : (T : Tables) (n : List ℕ) (m : Mode) (k : Kind)
    → AllMade T (row n m k) (row_print (row n m k) (printed T (default_of m k)))
default_made T n required k = (inl refl, tt)
default_made T n optional k = tt
default_made T n nullable k = (inl refl, tt)
default_made T n listed (map_of k) = tt
default_made T n listed k = tt
default_made T n flagged k = tt
default_made T n (styled s) k = (inl refl, tt)
default_made T n formatted k = tt

value_made : (T : Tables) (n : List ℕ) (m : Mode) (k : Kind) (v : Tree) → Ready T v → sound T k ≡ true
    → (is_null v || conforms T k v) ≡ true → (b : Bool) → is_null v ≡ b
    → AllMade T (row n m k) (row_print (row n m k) (printed T (cond b (default_of m k) (form T k v))))
value_made T n m k v r s h true e = default_made T n m k
value_made T n m k v r s h false e = unless (is_silent m (form T k v))
  where
    unless : (c : Bool) → AllMade T (row n m k) (cond c [] (one n (clean T k v)))
    unless true = tt
    unless false = (made_of T k v r s (sym (ap (λ b. b || conforms T k v) e) ∙ h), tt)

module _ (T : Tables) (k : Kind) where
  abbrev MadePair : Pair Form → Type 0
  MadePair e = Both (λ (q : Key). Unit {0}) (λ (f : Form). Made T k (print T k f)) e

  pairs_made : (g : List ℕ → Key) (l : List (Entry Tree)) → sound T k ≡ true → Each (λ (e : Entry Tree). Ready T e.value) l
      → every (λ (e : Entry (Seen (Kind → Bool))). e.value.answer k) (judged T l) ≡ true
      → Each MadePair (each (pair_of T g k) l)
  pairs_made g [] s d h = tt
  pairs_made g (e ∷ l) s d h =
      let p = and_parts (conforms T k e.value) (every (λ (x : Entry (Seen (Kind → Bool))). x.value.answer k) (judged T l)) h in
      ((tt, made_of T k e.value d.0 s p.0), pairs_made g l s d.1 p.1)

  entries_made : (es : List (Pair Form)) → Each MadePair es
      → Each (λ (e : Entry Tree). Made T k e.value) (each (entry_of T k) es)
  entries_made [] h = tt
  entries_made (e ∷ es) h = (h.0.1, entries_made es h.1)

-- what the row of a class writes for the members that it read
pub class_printed : (T : Tables) (c : Class) (k : Kind) (l : List (Entry Tree))
    → row_print (class c k) (printed T (class_form c k (reads T l)))
    ≡ each (entry_of T k) (gather c (each (pair_of T (key_in c) k) l))
class_printed T c k l =
    let m = each (pair_of T (key_in c) k) l in
    ap (λ f. row_print (class c k) (printed T f)) (class_form-reads T c k l)
    ∙ ap members_in (print-map T k (gather c m)) ∙ members_list-of (each (entry_of T k) (gather c m))

pub row_made : (T : Tables) (w : Row) (l : List (Entry Tree)) → row_sound T w ≡ true
    → Each (λ (e : Entry Tree). Ready T e.value) l → RowReads T l w
    → AllMade T w (row_print w (printed T (slot_of_own w (reads T l))))
row_made T (row n m k) [] s d h = default_made T n m k
row_made T (row n m k) (e ∷ l) s d h =
    value_made T n m k e.value d.0 (and_parts (mode_fits m k) (sound T k) s).1 h.0 (is_null e.value) refl
row_made T (either a j b k) [] s d h = tt
row_made T (either a j b k) (e ∷ l) s d h =
    let q = and_parts (sound T j && sound T k) (not (same_text a b)) s in
    let r = and_parts (sound T j) (sound T k) q.0 in
    (made_of T (cond (same_text a e.name) j k) e.value d.0 (sound_pick T (same_text a e.name) j k r.0 r.1) h, tt)
row_made T (class c k) l s d h =
    subst (λ x. AllMade T (class c k) x) (sym (class_printed T c k l))
    (entries_made T k (gather c (each (pair_of T (key_in c) k) l))
    (Both-gather (λ (q : Key). Unit {0}) (λ (f : Form). Made T k (print T k f)) c (each (pair_of T (key_in c) k) l)
    (pairs_made T k (key_in c) l s d h)))
row_made T (constant n v) l s d h = (inl refl, tt)

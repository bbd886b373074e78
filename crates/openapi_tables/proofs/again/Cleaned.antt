-- A form that is written and read again is in stable form, if the form that is read stays.
use Rattle.std.proofs.Common.{true, ◌≡◌, sym, ap, ◌∙◌}
use Rattle.openapi_node.specs.Tree.{Tree}
use Rattle.openapi_tables.specs.Prelude.{Kind, Tables, Form, form, print, clean, again, sound, tables_sound, stays}
use Rattle.openapi_tables.specs.Prelude.{conforms, proper}
use Rattle.openapi_tables.proofs.again.ReadAgain.{read_again}
use Rattle.std.specs.Prelude.{◌↔◌}
use Rattle.openapi_tables.proofs.again.AllSettle.{calm_all}
use Rattle.openapi_tables.proofs.AllReadProper.{read_proper}
use Rattle.openapi_tables.proofs.Writes.{writes_all}

pub settles_once : (T : Tables) (W : tables_sound T ≡ true) (k : Kind) (f : Form) → sound T k ≡ true
    → stays T k (again T k f) ≡ true → again T k (again T k f) ≡ again T k f
settles_once T W k f s st = read_again T W (print T k f) k s st

-- if the form of the normalized node stays, normalizing a third time changes nothing
pub cleans_once : (T : Tables) (W : tables_sound T ≡ true) (k : Kind) (t : Tree) → sound T k ≡ true
    → stays T k (again T k (form T k t)) ≡ true → clean T k (clean T k (clean T k t)) ≡ clean T k (clean T k t)
cleans_once T W k t s st = ap (print T k) (settles_once T W k (form T k t) s st)

-- two nodes that are the same after normalizing twice are read as the same form after normalizing once, if these forms
-- stay
pub same_cleaned : (T : Tables) (W : tables_sound T ≡ true) (k : Kind) (t u : Tree) → sound T k ≡ true
    → stays T k (again T k (form T k t)) ≡ true → stays T k (again T k (form T k u)) ≡ true
    → clean T k (clean T k t) ≡ clean T k (clean T k u) → form T k (clean T k t) ≡ form T k (clean T k u)
same_cleaned T W k t u s st su h = sym (settles_once T W k (form T k t) s st) ∙ ap (form T k) h
    ∙ settles_once T W k (form T k u) s su

-- a proper form that is written and read once is in stable form
pub settled : (T : Tables) (W : tables_sound T ≡ true) (k : Kind) (f : Form) → sound T k ≡ true → proper T k f ≡ true
    → again T k (again T k f) ≡ again T k f
settled T W k f s h = settles_once T W k f s (calm_all T W f k s h)

-- a proper form that is written and read again is proper
pub proper_again : (T : Tables) (W : tables_sound T ≡ true) (k : Kind) (f : Form) → sound T k ≡ true
    → proper T k f ≡ true → proper T k (again T k f) ≡ true
proper_again T W k f s h = read_proper T W (print T k f) k s (writes_all T W f k s h)

stays_again : (T : Tables) (W : tables_sound T ≡ true) (k : Kind) (t : Tree) → sound T k ≡ true
    → conforms T k t ≡ true → stays T k (again T k (form T k t)) ≡ true
stays_again T W k t s h = calm_all T W (form T k t) k s (read_proper T W t k s h)

-- normalizing a node that conforms a third time changes nothing
pub cleaned_thrice : (T : Tables) (W : tables_sound T ≡ true) (k : Kind) (t : Tree) → sound T k ≡ true
    → conforms T k t ≡ true → clean T k (clean T k (clean T k t)) ≡ clean T k (clean T k t)
cleaned_thrice T W k t s h = cleans_once T W k t s (stays_again T W k t s h)

-- two nodes that conform are the same after normalizing twice if and only if the same form is read from both after
-- normalizing once
pub cleaned_same : (T : Tables) (W : tables_sound T ≡ true) (k : Kind) (t u : Tree) → sound T k ≡ true
    → conforms T k t ≡ true → conforms T k u ≡ true
    → (clean T k (clean T k t) ≡ clean T k (clean T k u)) ↔ (form T k (clean T k t) ≡ form T k (clean T k u))
cleaned_same T W k t u s h g =
    (same_cleaned T W k t u s (stays_again T W k t s h) (stays_again T W k u s g), λ x. ap (print T k) x)

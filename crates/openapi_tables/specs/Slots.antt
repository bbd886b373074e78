-- An object as it is written, slot by slot, for the contracts of writers. A slot is a row and the form that is written
-- for it.
use Rattle.std.specs.Prelude.{◌≡◌, ℕ, Bool, true, false, cond, ◌&&◌, ◌||◌, List, [], ◌∷◌, Option, Some, None}
use Rattle.openapi_node.specs.Place.{Place}
use Rattle.openapi_node.specs.Tree.{Tree}
use Rattle.openapi_tables.specs.Lists.{join, every}
use Rattle.openapi_tables.specs.Tree.{Entry}
use Rattle.openapi_tables.specs.Kind.{Row, takes, Tables}
use Rattle.openapi_tables.specs.Sound.{apart}
use Rattle.openapi_tables.specs.Form.{Form, of_form, Pair, name}
use Rattle.openapi_tables.specs.Print.{Prints, face_print, row_print}
use Rattle.openapi_tables.specs.Unwritable.{Lost, face_lost, row_lost}

-- a row and the form that is written for it
abbrev pub Slot : Type 0
Slot = Row × Form

-- rows and forms in pairs, as far as both lists go
abbrev pub slots : List Row → List Form → List Slot
slots [] fs = []
slots (w ∷ ws) [] = []
slots (w ∷ ws) (f ∷ fs) = (w, f) ∷ slots ws fs

-- the first slot whose row passes a test
abbrev pub slot_where : (Row → Bool) → List Slot → Option Slot
slot_where p [] = None
slot_where p (s ∷ ss) = cond (p s.0) (Some s) (slot_where p ss)

-- the slots before the first one whose row passes a test, or all if there is none
abbrev pub before : (Row → Bool) → List Slot → List Slot
before p [] = []
before p (s ∷ ss) = cond (p s.0) [] (s ∷ before p ss)

-- the slots up to and including the first one whose row passes a test, or all if there is none
abbrev pub through : (Row → Bool) → List Slot → List Slot
through p [] = []
through p (s ∷ ss) = s ∷ cond (p s.0) [] (through p ss)

-- whether no name is taken by the rows of two slots
abbrev pub slots_apart : List Slot → Bool
slots_apart [] = true
slots_apart (s ∷ ss) = every (λ x. apart s.0 x.0) ss && slots_apart ss

-- a form, with the node that it is written as under each kind
abbrev pub printed : Tables → Form → Prints
printed T f = record { form = f; answer = of_form (face_print T) f }

-- a form, with the locations of its unwritable names and codes under each kind
abbrev pub lost : Tables → Form → Lost
lost T f = record { form = f; answer = of_form (face_lost T) f }

-- the members that slots are written as
unfoldable pub slots_print : Tables → List Slot → List (Entry Tree)
slots_print T [] = []
slots_print T (s ∷ ss) = join (row_print s.0 (printed T s.1)) (slots_print T ss)

-- the locations of the unwritable names and codes in slots
unfoldable pub slots_lost : Tables → List Slot → List Place
slots_lost T [] = []
slots_lost T (s ∷ ss) = join (row_lost s.0 (lost T s.1)) (slots_lost T ss)

-- entries as pairs of a name and a node
abbrev pub untied : List (Entry Tree) → List (List ℕ × Tree)
untied [] = []
untied (e ∷ es) = (e.name, e.value) ∷ untied es

-- whether the row of one of the slots takes a name
unfoldable pub taken : List Slot → List ℕ → Bool
taken [] n = false
taken (s ∷ ss) n = takes s.0 n || taken ss n

-- whether each name in a list of pairs is taken by the row of one of the slots
unfoldable pub all_taken : List Slot → List (List ℕ × Tree) → Bool
all_taken ss [] = true
all_taken ss (e ∷ es) = taken ss e.0 && all_taken ss es

-- The members are those that the slots are written as, nothing in the slots is unwritable, and each name is taken by a
-- row.
pub record IsWritten (T : Tables) (ss : List Slot) (out : List (List ℕ × Tree)) : Type 0 where
  pub members : out ≡ untied (slots_print T ss)
  pub nothing_lost : slots_lost T ss ≡ []
  pub names : all_taken ss out ≡ true

-- the entries of a map of names as those of a form, where `view` returns the form of a value
abbrev pub pairs_of : {X : Type 0} → (X → Form) → List (List ℕ × X) → List (Pair Form)
pairs_of view [] = []
pairs_of view (e ∷ es) = record { key = name e.0; value = view e.1 } ∷ pairs_of view es

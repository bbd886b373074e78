-- The locations at which a form holds a name or a code that would not be read again from what it is written as. A
-- writer returns an error at such a location.
use Rattle.std.specs.Prelude.{ℕ, suc, cond, List, [], ◌∷◌}
use Rattle.openapi_tables.specs.Lists.{join, same_text}
use Rattle.openapi_tables.specs.Kind.{Kind, list_of, map_of, ref_to, status_code, Class, status_names, Row, row, either}
use Rattle.openapi_tables.specs.Kind.{class, constant, text_of, Tables}
use Rattle.openapi_tables.specs.Members.{rows_of}
use Rattle.openapi_tables.specs.Form.{Form, deciding, named, coded, Pair, Face, f_code, f_item, f_sequence, f_named}
use Rattle.openapi_tables.specs.Form.{f_deciding, f_fields, Shown, of_form, Named, no_named, under}
use Rattle.openapi_tables.specs.Print.{text_of_key, bare}
use Rattle.openapi_tables.specs.Proper.{is_written}
use Rattle.openapi_node.specs.Place.{Step, named as at_name, indexed as at_index}

-- locations of names and codes
abbrev pub Places : Type 0
Places = List (List Step)

-- a form, with the locations of its unwritable names and codes under each kind
abbrev pub Lost : Type 0
Lost = Shown (Kind → Places)

-- locations with one more step at the front of each
abbrev pub each_below : Step → Places → Places
each_below s [] = []
each_below s (p ∷ ps) = (s ∷ p) ∷ each_below s ps

-- the unwritable locations in the elements of a list, whose indexes begin with `i`
abbrev pub lost_items : Kind → ℕ → List Lost → Places
lost_items k i [] = []
lost_items k i (p ∷ ps) = join (each_below (at_index i) (p.answer k)) (lost_items k (suc i) ps)

-- the unwritable locations in the entries of a map
abbrev pub lost_pairs : Kind → List (Pair Lost) → Places
lost_pairs k [] = []
lost_pairs k (e ∷ es) = join (each_below (at_name (text_of_key e.key)) (e.value.answer k)) (lost_pairs k es)

-- the locations of the unwritable keys of a class
abbrev pub lost_keys : Class → Named → Places
lost_keys c no_named = []
lost_keys c (under n f es) = cond (is_written c n) (lost_keys c es) ((at_name (text_of_key n) ∷ []) ∷ lost_keys c es)

-- the locations of the keys in a slot that cannot be written as names of its class
abbrev pub keys_of_slot : Class → Form → Places
keys_of_slot c (named es) = lost_keys c es
keys_of_slot c f = []

-- the unwritable locations at the one of two names that was read
abbrev pub lost_either : List ℕ → Kind → Kind → Lost → Form → Places
lost_either a j k p (deciding n f) = each_below (at_name n) (p.answer (cond (same_text a n) j k))
lost_either a j k p f = []

-- the unwritable locations in the slot of a row
abbrev pub row_lost : Row → Lost → Places
row_lost (row n m k) p = each_below (at_name n) (p.answer k)
row_lost (either a j b k) p = lost_either a j k p p.form
row_lost (class c k) p = join (keys_of_slot c p.form) (p.answer (map_of k))
row_lost (constant n v) p = []

-- the unwritable locations in the slots of rows
abbrev pub rows_lost : List Row → List Lost → Places
rows_lost [] ps = []
rows_lost (w ∷ ws) [] = []
rows_lost (w ∷ ws) (p ∷ ps) = join (row_lost w p) (rows_lost ws ps)

-- the unwritable locations in a root, under a kind without alternatives (see `bare`)
abbrev pub bare_lost : (T : Tables) → Face Lost → Kind → Places
bare_lost T (f_code c) status_code = cond (is_written status_names (coded c)) [] ((at_name (text_of c) ∷ []) ∷ [])
bare_lost T (f_item p) (ref_to k) = p.answer k
bare_lost T (f_sequence ps) (list_of k) = lost_items k 0 ps
bare_lost T (f_named es) (map_of k) = lost_pairs k es
bare_lost T (f_fields c ps) k = rows_lost (rows_of T k c) ps
bare_lost T f k = []

-- the unwritable locations in a root. Those of a slot of two names are those of the form that it contains
abbrev pub face_lost : (T : Tables) → Face Lost → Kind → Places
face_lost T (f_deciding n p) k = p.answer k
face_lost T p k = bare_lost T p (bare k)

-- the locations of all unwritable names and codes of a form under a kind
abbrev pub unwritable : (T : Tables) → Kind → Form → Places
unwritable T k f = of_form (face_lost T) f k

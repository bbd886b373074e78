-- What is to be reported about the numbers of a document that no node can hold.
use Rattle.std.specs.Prelude.{◌≡◌, ℕ, Bool, true, false, ◌&&◌, ◌==◌, cond, List, [], ◌∷◌, ◌++◌, codes, decimal, flat_map, is_some, map}
use Rattle.std.specs.List.{list_any}
use Rattle.std.specs.Str.{bytes_eq}
use Rattle.openapi_map.specs.Entries.{Entries, get}
use Rattle.openapi_node.specs.Fault.{step_of}
use Rattle.openapi_node.specs.Place.{Place, Step, named, indexed}
use Rattle.openapi_node.specs.Tree.{Tree}
use Rattle.openapi_tables.specs.Kind.{by, open_api}
use Rattle.openapi_json.specs.Zeros.{NumberAt}
use Rattle.openapi_faults.specs.Limited.{limited_in}
use Rattle.openapi_findings.specs.Stated.{Statement, errors_in}
use Rattle.openapi_findings.specs.declared.code.Code.TheVariants as code
use Rattle.openapi_findings.specs.declared.places.PlaceIndex.{PlaceIndex}

-- whether two steps are the same, and two locations
abbrev pub same_step : Step → Step → Bool
same_step (named m) (named n) = bytes_eq m n
same_step (named m) (indexed j) = false
same_step (indexed i) (named n) = false
same_step (indexed i) (indexed j) = i == j

abbrev pub same_place : Place → Place → Bool
same_place [] [] = true
same_place [] (t ∷ q) = false
same_place (s ∷ p) [] = false
same_place (s ∷ p) (t ∷ q) = same_step s t && same_place p q

-- whether a location is one of these
abbrev pub is_among : Place → List Place → Bool
is_among p ps = list_any (same_place p) ps

-- What is to be reported about a number that no node can hold. Where a number within limits is required, `NotWhole` is
-- reported. Otherwise, nothing is added where another error is reported anyway, and `Fraction` is reported elsewhere.
abbrev pub stated_by : Bool → Bool → Place → List Statement
stated_by is_limited is_wrong p =
    cond is_limited ((p, code.NotWhole) ∷ []) (cond is_wrong [] ((p, code.Fraction) ∷ []))

-- the same, given the locations at which numbers within limits are required and the locations of errors
abbrev pub number_stated : List Place → List Place → NumberAt → List Statement
number_stated limited wrong n = stated_by (is_among n.0 limited) (is_among n.0 wrong) n.0

-- the locations of statements
abbrev pub places_of : List Statement → List Place
places_of ss = map (λ s. s.0) ss

-- what is to be reported about these numbers of a document
abbrev pub numbers_stated : Tree → List NumberAt → List Statement
numbers_stated t ns = flat_map (number_stated (limited_in (by open_api) t) (places_of (errors_in t))) ns

-- ---- for private clauses: the search for a location

-- the key of a step, and of a location: equal locations have the same key, and different ones may have the same key
abbrev pub step_key : Step → List ℕ
step_key (named n) = codes "/" ++ n
step_key (indexed i) = codes "/" ++ decimal i

abbrev pub key_text : Place → List ℕ
key_text p = flat_map step_key p

-- the names in a map are exactly the keys of these locations
abbrev pub HasKeys : List Place → Entries ℕ → Type 0
HasKeys ps m = (b : List ℕ) → is_some (get b m) ≡ list_any (λ p. bytes_eq b (key_text p)) ps

-- the locations of a `PlaceIndex`
abbrev pub places_in : PlaceIndex → List Place
places_in it = map (λ p. map step_of p.now) it.places.now

-- the names in the map of a `PlaceIndex` are exactly the keys of its locations
abbrev pub IsIndexed : PlaceIndex → Type 0
IsIndexed it = HasKeys (places_in it) it.keys.now

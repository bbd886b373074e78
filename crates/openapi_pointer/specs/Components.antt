-- References to components (OpenAPI 3.0.3, section 4.7.7): `#/components/SECTION/NAME`.
use Rattle.std.specs.Prelude.{ℕ, cond, ◌&&◌, List, [], ◌∷◌, codes, drop, Option, Some, None, option_and_then}
use Rattle.std.specs.Str.{bytes_eq, is_utf8}
use Rattle.percent_encoding.specs.Percent.{percent_decode}
use Rattle.openapi_tables.specs.Kind.{begins}
use Rattle.openapi_pointer.specs.Tokens.{name_in, tokens_in}

-- the third token of three, if the first is `components` and the second the section
abbrev pub token_below : List ℕ → List (List ℕ) → Option (List ℕ)
token_below section [] = None
token_below section (c ∷ []) = None
token_below section (c ∷ s ∷ []) = None
token_below section (c ∷ s ∷ token ∷ []) = cond (bytes_eq c (codes "components") && bytes_eq s section) (Some token) None
token_below section (c ∷ s ∷ token ∷ more ∷ tokens) = None

-- the name that this token represents, in a pointer that is given without its first `/`
abbrev pub name_below : List ℕ → List ℕ → Option (List ℕ)
name_below section pointer = option_and_then name_in (token_below section (tokens_in pointer))

-- the same for the fragment of a URI after `#/`: a pointer in UTF-8, with percent-encoding
abbrev pub name_in_fragment : List ℕ → List ℕ → Option (List ℕ)
name_in_fragment section fragment =
    cond (is_utf8 (percent_decode fragment)) (name_below section (percent_decode fragment)) None

-- the name of the component to which a reference leads in a section, if the reference is `#/components/SECTION/NAME`
abbrev pub component_name : List ℕ → List ℕ → Option (List ℕ)
component_name section reference = cond (begins (codes "#/") reference) (name_in_fragment section (drop 2 reference)) None

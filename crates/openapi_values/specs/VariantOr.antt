-- Texts that may be a known word.
use Rattle.std.specs.Prelude.{◌≡◌, ℕ, List, Bool, true, false, cond, Option, Some, None, Result, Ok, Err}
use Rattle.std.specs.Prelude.{String, string_bytes, IsNone, IsSomeAnd}
use Rattle.openapi_tables.specs.Form.{Form, known, other, unset}
use Rattle.openapi_tables.specs.Lists.{has}
use Rattle.openapi_values.specs.declared.variant_or.VariantOrUnknown.{VariantOrUnknown}
use Rattle.openapi_values.specs.declared.variant_or.VariantOrUnknown.TheVariants as v
use Rattle.openapi_values.specs.declared.variant_or.VariantOrUnknownOrEmpty.{VariantOrUnknownOrEmpty}
use Rattle.openapi_values.specs.declared.variant_or.VariantOrUnknownOrEmpty.TheVariants as o

-- a value that a text may be read as: an item that parsing the text may return, or the text itself if parsing it may return
-- an error
abbrev pub IsVariantOf : {X E : Type 0} → (List ℕ → Result X E → Type 0)
    → List ℕ → VariantOrUnknown X → Type 0
IsVariantOf gives text (v.Item x) = gives text (Ok x)
IsVariantOf {X} {E} gives text (v.Unknown s) = (string_bytes s ≡ text) × ((e : E) × gives text (Err e))

-- a value that an optional text may be read as: as above for a text, and `Empty` if there is none
abbrev pub IsVariantOrEmptyOf : {X E A : Type 0} → (List ℕ → Result X E → Type 0)
    → Option (String A) → VariantOrUnknownOrEmpty X → Type 0
IsVariantOrEmptyOf gives text (o.Item x) = IsSomeAnd text (λ s. gives (string_bytes s) (Ok x))
IsVariantOrEmptyOf {X} {E} gives text (o.Unknown u) =
    IsSomeAnd text (λ s. (string_bytes u ≡ string_bytes s) × ((e : E) × gives (string_bytes s) (Err e)))
IsVariantOrEmptyOf gives text o.Empty = IsNone text

-- the value as one of the type that also has `Empty`
abbrev pub or_empty : {X : Type 0} → VariantOrUnknown X → VariantOrUnknownOrEmpty X
or_empty (v.Item x) = o.Item x
or_empty (v.Unknown s) = o.Unknown s

-- whether a value is empty
abbrev pub is_empty : {X : Type 0} → VariantOrUnknownOrEmpty X → Bool
is_empty (o.Item x) = false
is_empty (o.Unknown s) = false
is_empty o.Empty = true

-- the text of a value, by the word of each item
abbrev pub variant_text : {X : Type 0} → (X → List ℕ) → VariantOrUnknown X → List ℕ
variant_text word (v.Item x) = word x
variant_text word (v.Unknown s) = string_bytes s

-- the text of a value that is not empty, by the word of each item
abbrev pub variant_or_empty_text : {X : Type 0} → (X → List ℕ) → VariantOrUnknownOrEmpty X → Option (List ℕ)
variant_or_empty_text word (o.Item x) = Some (word x)
variant_or_empty_text word (o.Unknown s) = Some (string_bytes s)
variant_or_empty_text word o.Empty = None

-- the form of a text as a format with known words: known or other, each with the text
abbrev pub format_form : List (List ℕ) → List ℕ → Form
format_form words text = cond (has words text) (known text) (other text)

-- the form of a value, by the word of each item
abbrev pub variant_form : {X : Type 0} → (X → List ℕ) → VariantOrUnknown X → Form
variant_form word (v.Item x) = known (word x)
variant_form word (v.Unknown s) = other (string_bytes s)

-- the form of a value that may be empty, by the word of each item
abbrev pub variant_or_empty_form : {X : Type 0} → (X → List ℕ) → VariantOrUnknownOrEmpty X → Form
variant_or_empty_form word (o.Item x) = known (word x)
variant_or_empty_form word (o.Unknown s) = other (string_bytes s)
variant_or_empty_form word o.Empty = unset

-- The part of a text that is shown: a line, or a part of one.
use Rattle.std.specs.Prelude.{ℕ, ◌+◌, ◌-◌, min, Bool, not, ◌&&◌, ◌||◌, ◌==◌, nat_le, nat_lt, if◌then◌else◌, List, [], ◌∷◌, drop, length, reverse, slice_index, slice_range, take}
use Rattle.std.specs.Fmt.{is_char_start}
use Rattle.std.specs.Str.Lossy.{utf8_valid_len}
use Rattle.openapi_findings.specs.declared.excerpt.Excerpt.{Excerpt}

-- the longest prefix of some bytes that is valid UTF-8
abbrev pub valid_text : List ℕ → List ℕ
valid_text bs = take (utf8_valid_len bs) bs

-- how many of n characters are left after a byte: one less if the byte begins a character
abbrev pub left_behind : ℕ → ℕ → ℕ
left_behind n b = if is_char_start b then n - 1 else n

-- how many of these bytes come before the end of the line that the first is in, at most those of n characters
unfoldable pub front_len : ℕ → List ℕ → ℕ
front_len n [] = 0
front_len n (b ∷ bs) = if b == 10 || (is_char_start b && n == 0) then 0 else front_len (left_behind n b) bs + 1

-- the same backwards: the bytes are in reverse order, so a character ends with its first byte
unfoldable pub back_len : ℕ → List ℕ → ℕ
back_len n [] = 0
back_len n (b ∷ bs) = if b == 10 || n == 0 then 0 else back_len (left_behind n b) bs + 1

-- the offset at which the last n characters before `offset` in its line begin, and that at which the first n from it on end
abbrev pub start_of : List ℕ → ℕ → ℕ → ℕ
start_of bs offset n = offset - back_len n (reverse (take offset bs))

abbrev pub end_of : List ℕ → ℕ → ℕ → ℕ
end_of bs offset n = offset + front_len n (drop offset bs)

-- a line without the carriage return at its end
abbrev pub without_return : List ℕ → List ℕ
without_return line = if slice_index line (length line - 1) == 13 then take (length line - 1) line else line

-- the texts before and after a point of a line, and whether the line begins before the first and continues after the second
pub record Part : Type 0 where
  pub before : List ℕ
  pub after : List ℕ
  pub cut_before : Bool
  pub cut_after : Bool

abbrev pub part_in : Excerpt → Part
part_in e = record { before = e.before.now; after = e.after.now; cut_before = e.is_cut_before; cut_after = e.is_cut_after }

-- the part of a line from `start` to `end`, divided at `offset`
abbrev pub part_between : List ℕ → ℕ → ℕ → ℕ → Part
part_between bs start offset end = record {
  before = valid_text (slice_range bs start offset);
  after = without_return (valid_text (slice_range bs offset end));
  cut_before = nat_lt 0 start && not (slice_index bs (start - 1) == 10);
  cut_after = nat_lt end (length bs) && not (slice_index bs end == 10);
}

-- the part of a line with at most `before` characters before an offset, and at most `after` from it on
unfoldable pub part_within : List ℕ → ℕ → ℕ → ℕ → Part
part_within bs offset before after = part_between bs (start_of bs offset before) offset (end_of bs offset after)

abbrev pub is_whole : Part → Bool
is_whole p = not p.cut_before && not p.cut_after

-- `wide` if it is a whole line of at most 140 bytes, and otherwise at most 80 characters before the offset and 60 from it on
abbrev pub wide_or : List ℕ → ℕ → Part → Part
wide_or bs offset wide =
    if is_whole wide && nat_le (length wide.before + length wide.after) 140 then wide else part_within bs offset 80 60

-- the part of a line around an offset, or around the end of the text if that is before the offset
unfoldable pub part_around : List ℕ → ℕ → Part
part_around bs offset = let at = min offset (length bs) in wide_or bs at (part_within bs at 140 140)

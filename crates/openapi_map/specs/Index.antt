-- What finds the names of a map: marks of few names, or for many names an index of their places by hash. The place of a name
-- is its position among the names.
use Rattle.std.specs.Prelude.{◌≡◌, ℕ, zero, suc, ◌+◌, ◌-◌, ◌*◌, ◌%◌, ◌<◌, ◌≤◌, List, [], ◌∷◌, length, get_or, slice_index}
use Rattle.std.specs.Prelude.{Bool, cond, eqb, nat_lt, bit_and}
use Rattle.std.specs.Hash.FoldHasher as folding
use Rattle.std.specs.Int.{bit_at}
use Rattle.std.specs.Vec.{vec_len, vec_capacity}
use Rattle.openapi_map.specs.declared.index.NameIndex.{NameIndex}
use Rattle.openapi_map.specs.declared.lookup.Finder.{Finder}
use Rattle.openapi_map.specs.declared.lookup.Finder.TheVariants.{Few, Many}

-- the bucket of a name, out of `n` buckets
unfoldable pub bucket : ℕ → List ℕ → ℕ
bucket n name = bit_and (folding.finish (folding.write folding.initial name)) (n - 1)

-- whether the name at place `k` falls into bucket `b`, out of `n` buckets
abbrev pub falls_into : ℕ → ℕ → List (List ℕ) → ℕ → Bool
falls_into n b names k = eqb (bucket n (get_or names k [])) b

-- 1 + the last place below `k` whose name falls into bucket `b`, out of `n` buckets, or 0 if there is none
unfoldable pub link_at : ℕ → ℕ → List (List ℕ) → ℕ → ℕ
link_at n b names zero = 0
link_at n b names (suc k) = cond (falls_into n b names k) (suc k) (link_at n b names k)

-- the index has the links of the names. A link is 1 + the place to which it leads, or 0 if there is none
pub record IsIndex (names : List (List ℕ)) (index : NameIndex) : Type 0 where
  -- there is at least one bucket
  pub some_bucket : 0 < vec_len index.heads
  -- each bucket is linked to the last place whose name falls into it
  pub heads : (b : ℕ) → b < vec_len index.heads
      → slice_index index.heads.items b ≡ link_at (vec_len index.heads) b names (length names)
  -- there is a link for each place
  pub len : vec_len index.next ≡ length names
  -- each link leads to the last place before its own whose name falls into the same bucket
  pub next : (p : ℕ) → p < length names → slice_index index.next.items p
      ≡ link_at (vec_len index.heads) (bucket (vec_len index.heads) (get_or names p [])) names p

-- the mark of a name, one of 64, computed from its length and its first byte
abbrev pub mark : List ℕ → ℕ
mark name = (length name + 8 * slice_index name 0) % 64

-- the bit of the mark of each name is set
abbrev pub AreMarked : List (List ℕ) → ℕ → Type 0
AreMarked [] marks = Unit {0}
AreMarked (n ∷ ns) marks = (bit_at marks (mark n) ≡ 1) × AreMarked ns marks

-- the finder finds these names: it has their marks, or it is an index of them
abbrev pub IsIndexAt : List (List ℕ) → Finder → Type 0
IsIndexAt names (Few marks) = AreMarked names marks
IsIndexAt names (Many b) = IsIndex names b.value

-- the finder has marks, or it is an index with a link for the place
abbrev pub HasPlace : ℕ → Finder → Type 0
HasPlace i (Few marks) = Unit {0}
HasPlace i (Many b) = i < vec_len b.value.next

-- the finder has marks, or it is an index with a bucket and with capacity for `n` names
abbrev pub HasRoomFor : ℕ → Finder → Type 0
HasRoomFor n (Few marks) = Unit {0}
HasRoomFor n (Many b) = (0 < vec_len b.value.heads) × (n ≤ vec_capacity b.value.next)

-- there is capacity for one more place
abbrev pub HasRoom : NameIndex → Type 0
HasRoom index = vec_len index.next < vec_capacity index.next

-- what a link becomes when a place is removed. A link to the place becomes `before`, the link that the place had. A link to
-- a later place is reduced by 1, as those places are
abbrev pub moved_link : ℕ → ℕ → ℕ → ℕ
moved_link place before link = cond (nat_lt place link) (cond (eqb (link - 1) place) before (link - 1)) link

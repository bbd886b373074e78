use Rattle.std.proofs.Common.{◌≡◌, ℕ, ◌<◌, ◌≤◌, slice_index}
use Rattle.openapi_map.specs.Index.{moved_link}
use Rattle.openapi_map.proofs.index.move_links.Given as goal

-- the links before the index are moved, and the others are as they were
abbrev pub invariant-loop-link : goal.invariant-loop-link
invariant-loop-link l = record {
  moved : (k : ℕ) → k < l.link-index → slice_index l.link-items k ≡ moved_link l.place l.before (slice_index l.fn.links.items k);
  kept : (k : ℕ) → l.link-index ≤ k → slice_index l.link-items k ≡ slice_index l.fn.links.items k;
}

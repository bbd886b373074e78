use Rattle.std.proofs.Common.{◌≡◌, ◌≤◌, ◌-◌, vec_len}
use Rattle.std.specs.Map.Calls.{CalledAtPair}
use Rattle.openapi_map.specs.Entries.{entries_of}
use Rattle.openapi_map.proofs.RetainLemmas.{Sifted}
use Rattle.openapi_map.proofs.retain.retain_columns.Given as goal

abbrev pub invariant-loop-place : goal.invariant-loop-place
invariant-loop-place g l =
    goal.F-IsAlwaysCallable g l.keep
    × ((l.len ≡ vec_len l.names) × (vec_len l.values ≡ vec_len l.names) × (l.kept ≤ l.place) × (l.place ≤ l.len))
    × Sifted (CalledAtPair g.F.FnMut) l.fn.keep (entries_of l.fn.names.items l.fn.values.items) l.keep
    (entries_of l.names.items l.values.items) l.kept l.place

abbrev pub decreases-loop-place : goal.decreases-loop-place
decreases-loop-place g l = l.len - l.place

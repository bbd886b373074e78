-- The entries that were iterated over so far are inserted.
use Rattle.std.proofs.Common.{◌≡◌, map}
use Rattle.std.proofs.iter.Next as it
use Rattle.std.specs.Iterator.{EndsFrom, items_left}
use Rattle.openapi_map.specs.Entries.{insert_all, owned_entry}
use Rattle.openapi_map.proofs.collect.OrderedMapExtendTuple2String.extend.Given as goal

abbrev pub invariant-loop-entry : goal.invariant-loop-entry
invariant-loop-entry g l =
    it.Ran g.I.IntoIter.Iterator.can_next (EndsFrom g.I.IntoIter.Iterator.remaining)
    (items_left g.I.IntoIter.Iterator.remaining) g.I.IntoIter.Iterator.next_gives
    (λ es. l.self ≡ insert_all l.fn.self (map owned_entry es)) l.initial.rest l.rest

abbrev pub decreases-loop-entry : goal.decreases-loop-entry
decreases-loop-entry g l = items_left g.I.IntoIter.Iterator.remaining l.rest

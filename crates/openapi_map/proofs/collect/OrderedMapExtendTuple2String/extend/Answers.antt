use Rattle.std.proofs.Common.{◌≡◌, List, String, [], ◌∷◌, ◌++◌, map, refl, sym, ap, ◌∙◌}
use Rattle.std.proofs.iter.Next as it
use Rattle.std.proofs.lemmas.List.{map-append}
use Rattle.std.specs.Iterator.{EndsFrom}
use Rattle.std.specs.Str.{bytes_eq}
use Rattle.std.specs.declared.alloc.Global.{Global}
use Rattle.indexmap.proofs.MapLemmas.{insert_all_push}
use Rattle.openapi_map.specs.Entries.{Entries, insert_all, insert_entry, owned_entry}
use Rattle.openapi_map.proofs.collect.OrderedMapExtendTuple2String.extend.Goals as goal

-- one more entry is inserted
put-next : {V : Type 0} (old now new : Entries V) (seen : List (String Global × V)) (x : String Global × V)
    → now ≡ insert_all old (map owned_entry seen) → new ≡ insert_entry now (owned_entry x).0 (owned_entry x).1
    → new ≡ insert_all old (map owned_entry (seen ++ x ∷ []))
put-next old now new seen x before put =
    put ∙ ap (λ es. insert_entry es (owned_entry x).0 (owned_entry x).1) before
    ∙ sym (insert_all_push bytes_eq old (map owned_entry seen) (owned_entry x))
    ∙ ap (insert_all old) (sym (map-append owned_entry seen (x ∷ [])))

pub loop-entry-init : goal.loop-entry-init
loop-entry-init g c =
    let asked : (s : g.row.I-IntoIter.Denot) → g.I.IntoIterator.into_iter_gives c.args.iter s
    → g.I.IntoIter.Iterator.can_next s × EndsFrom g.I.IntoIter.Iterator.remaining s
    × it.Along g.I.IntoIter.Iterator.next_gives s (λ _. Unit {0}) = search in
    let made = asked c.into_iter-rest.result c.into_iter-rest.ensures.into_iter_gives in
    it.begun made.0 made.1 refl

pub loop-entry-preserved-in_ok-insert : goal.loop-entry-preserved-in_ok-insert
loop-entry-preserved-in_ok-insert g c =
    let inv = c.loop-entry.invariant in
    let x = c.in-Some.entry in
    it.again inv x c.in-Some.is (c.next.ensures.steps, c.next.ensures.goes)
    (put-next c.args.self.now c.loop-entry.self c.insert.new.self inv.seen x inv.holds c.in_ok-insert.ensures.entries)

pub loop-entry-preserved : goal.loop-entry-preserved
loop-entry-preserved g c =
    let inv = c.loop-entry.invariant in
    let x = c.in-Some.entry in
    it.again inv x c.in-Some.is (c.next.ensures.steps, c.next.ensures.goes)
    (put-next c.args.self.now c.loop-entry.self c.insert.new.self inv.seen x inv.holds c.in_ok-insert.ensures.entries)

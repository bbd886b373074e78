use Rattle.std.proofs.Common.{subst, sym, ◌∙◌}
use Rattle.std.specs.Str.{bytes_eq}
use Rattle.openapi_map.specs.Entries.{names_of}
use Rattle.openapi_map.specs.Index.{IsIndexAt, IsIndex}
use Rattle.openapi_map.proofs.IndexLemmas.{none-position}
use Rattle.openapi_map.proofs.MarkLemmas.{unmarked}
use Rattle.openapi_map.proofs.EntryLemmas.{position-names_of}
use Rattle.openapi_map.proofs.lookup.place_of.Goals as goal

pub place_of-requires-clause-index : goal.place_of-requires-clause-index
place_of-requires-clause-index c =
    let names = names_of c.args.names.now.items in
    subst (IsIndex names) (sym c.deref.ensures) (subst (IsIndexAt names) c.in-Many.is c.requires.index)

pub returns-then-has_mark : goal.returns-then-has_mark
returns-then-has_mark c = c.place_along.ensures ∙ position-names_of (bytes_eq c.args.name.now) c.args.names.now.items

pub returns-else-has_mark : goal.returns-else-has_mark
returns-else-has_mark c =
    let name = c.args.name.now in
    let names = names_of c.args.names.now.items in
    let marked = subst (IsIndexAt names) c.in-Few.is c.requires.index in
    none-position name names (unmarked name names c.in-Few.marks marked (sym c.has_mark.ensures ∙ c.if-has_mark.false))

use Rattle.std.proofs.Common.{◌++◌, ◌∷◌, [], sym, subst}
use Rattle.openapi_map.specs.Entries.{names_of}
use Rattle.openapi_map.specs.Index.{AreMarked, IsIndexAt}
use Rattle.openapi_map.proofs.MarkLemmas.{marked-push}
use Rattle.openapi_map.proofs.lookup.add_name.Goals as goal

pub returns-then-len-lt-UNINDEXED_LIMIT-clause-ok : goal.returns-then-len-lt-UNINDEXED_LIMIT-clause-ok
returns-then-len-lt-UNINDEXED_LIMIT-clause-ok c =
    let name = c.args.name.now in
    let names = names_of c.args.names.now.items in
    let marked = subst (IsIndexAt names) c.in-Few.is c.requires in
    subst (AreMarked (names ++ name ∷ [])) (sym c.with_mark.ensures) (marked-push names name c.in-Few.marks marked)

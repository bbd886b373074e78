use Rattle.std.proofs.Common.{remove, sym, subst}
use Rattle.openapi_map.specs.Index.{IsIndexAt, IsIndex}
use Rattle.openapi_map.proofs.MarkLemmas.{marked-remove}
use Rattle.openapi_map.proofs.lookup.drop_name.Goals as goal

pub returns-in-Many : goal.returns-in-Many
returns-in-Many c all is =
    c.unlink.ensures all (subst (IsIndex all) (sym c.deref_mut.ensures.value) (subst (IsIndexAt all) c.in-Many.is is))

pub returns-in-Few : goal.returns-in-Few
returns-in-Few c all is =
    let place = c.args.place in
    subst (IsIndexAt (remove all place)) (sym c.in-Few.is) (marked-remove all place _ (subst (IsIndexAt all) c.in-Few.is is))

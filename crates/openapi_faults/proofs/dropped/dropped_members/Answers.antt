use Rattle.openapi_tables.specs.Faults.{asked}
use Rattle.openapi_tables.specs.Tables.{final_tables}
use Rattle.openapi_faults.specs.Dropped.{dropped_at, dropped_of}
use Rattle.openapi_faults.specs.Meaning.{kind_of}
use Rattle.openapi_faults.specs.declared.dropped.DroppedFinder.{DroppedFinder}
use Rattle.openapi_faults.proofs.Adding.{folds_all}
use Rattle.openapi_faults.proofs.dropped.dropped_members.Goals as goal

pub returns-clause-dropped : goal.returns-clause-dropped
returns-clause-dropped c =
    folds_all (λ (f : DroppedFinder). f.found.items) dropped_of dropped_at
    (asked final_tables (kind_of c.args.kind) c.args.node.now) (record { alloc = c.args.alloc; found = c.new.result })
    c.in_ok-found.field-0 c.new.ensures.items c.in_ok-found.ensures.visits

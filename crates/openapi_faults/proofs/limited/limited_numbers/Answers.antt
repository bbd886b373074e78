use Rattle.openapi_tables.specs.Faults.{asked}
use Rattle.openapi_tables.specs.Tables.{final_tables}
use Rattle.openapi_faults.specs.Meaning.{kind_of}
use Rattle.openapi_faults.specs.Limited.{limited_at, limited_place}
use Rattle.openapi_faults.specs.declared.limited.LimitedFinder.{LimitedFinder}
use Rattle.openapi_faults.proofs.Adding.{folds_all}
use Rattle.openapi_faults.proofs.limited.limited_numbers.Goals as goal

pub returns-clause-places : goal.returns-clause-places
returns-clause-places c =
    folds_all (λ (f : LimitedFinder). f.found.items) limited_place limited_at
    (asked final_tables (kind_of c.args.kind) c.args.node.now) (record { alloc = c.args.alloc; found = c.new.result })
    c.in_ok-found.field-0 c.new.ensures.items c.in_ok-found.ensures.visits

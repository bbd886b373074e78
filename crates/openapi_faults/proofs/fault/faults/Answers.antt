use Rattle.std.proofs.Common.{◌∙◌}
use Rattle.openapi_tables.specs.Faults.{asked, causes}
use Rattle.openapi_tables.specs.Tables.{final_tables}
use Rattle.openapi_faults.specs.Meaning.{kind_of}
use Rattle.openapi_faults.specs.Told.{at, fault_in}
use Rattle.openapi_faults.specs.declared.fault.Finder.{Finder}
use Rattle.openapi_faults.proofs.Adding.{folds_all}
use Rattle.openapi_faults.proofs.Telling.{known_each}
use Rattle.openapi_faults.proofs.fault.faults.Goals as goal

pub returns-clause-told : goal.returns-clause-told
returns-clause-told c =
    folds_all (λ (f : Finder). f.found.items) fault_in (λ a. at a.place (causes final_tables a.kind a.tree))
    (asked final_tables (kind_of c.args.kind) c.args.node.now) (record { alloc = c.args.alloc; found = c.new.result })
    c.in_ok-found.field-0 c.new.ensures.items c.in_ok-found.ensures.visits
    ∙ known_each (asked final_tables (kind_of c.args.kind) c.args.node.now)

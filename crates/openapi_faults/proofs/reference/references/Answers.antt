use Rattle.openapi_tables.specs.Faults.{asked}
use Rattle.openapi_tables.specs.Tables.{final_tables}
use Rattle.openapi_faults.specs.Meaning.{kind_of}
use Rattle.openapi_faults.specs.References.{reference_of, references_at}
use Rattle.openapi_faults.specs.declared.reference.ReferenceFinder.{ReferenceFinder}
use Rattle.openapi_faults.proofs.Adding.{folds_all}
use Rattle.openapi_faults.proofs.reference.references.Goals as goal

pub returns-clause-references : goal.returns-clause-references
returns-clause-references c =
    folds_all (λ (f : ReferenceFinder). f.found.items) reference_of references_at
    (asked final_tables (kind_of c.args.kind) c.args.node.now) (record { alloc = c.args.alloc; found = c.new.result })
    c.in_ok-found.field-0 c.new.ensures.items c.in_ok-found.ensures.visits

use Rattle.openapi_node.specs.Place.{named}
use Rattle.openapi_tables.specs.Prelude.{final_tables, unwritable}
use Rattle.openapi_fields.proofs.Losing.{below}
use Rattle.openapi_fields.proofs.put_rows.put_value.Goals as goal

pub returns-in-Ok-clause-err : goal.returns-in-Ok-clause-err
returns-in-Ok-clause-err g c =
    below c.put.result (named c.args.name.now) (unwritable final_tables g.T.FromNode.kind (g.T.FromNode.form_of
    c.args.value.now))
    c.put.ensures.err

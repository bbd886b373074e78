use Rattle.openapi_tables.specs.Tree.{members_list}
use Rattle.openapi_schema.proofs.KindSorts.{mask_read, type_in}
use Rattle.openapi_schema.proofs.kind_names.named_sort.Goals as goal

pub returns : goal.returns
returns c = λ ms rows.
    c.by_names.ensures (members_list ms)
    (mask_read c.args.names.now ms c.present_names.result.bits rows c.present_names.ensures)
    (rw c.lent.ensures (type_in c.args.names.now ms rows))

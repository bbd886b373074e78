use Rattle.openapi_fields.proofs.Losing.{none_mapped}
use Rattle.openapi_fields.proofs.implied.OrderedMapImplied.is_left_out.Goals as goal

pub returns : goal.returns
returns g c = none_mapped g.T.FromNode.form_of c.is_empty.result c.args.self.now c.is_empty.ensures

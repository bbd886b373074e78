use Rattle.openapi_schema.proofs.TypeLaws.{type_again}
use Rattle.openapi_schema.proofs.members.type_word.Goals as goal

pub returns : goal.returns
returns c = rw (c.as_str.ensures, c.type_name.ensures) (type_again c.args.typ.now)

use Rattle.openapi_pointer.proofs.Tokens.{escapes_none}
use Rattle.openapi_pointer.proofs.token.escaped.Goals as goal

pub returns-in-None-clause-character : goal.returns-in-None-clause-character
unfolding lib.Utf8.encode
returns-in-None-clause-character c = escapes_none c.args.text.now c.in_default.ensures.cases c.in-None.ensures.cases

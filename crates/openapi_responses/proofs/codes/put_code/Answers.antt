use Rattle.std.proofs.Common.{◌∙◌}
use Rattle.openapi_responses.proofs.CodeWriting.{value_loses}
use Rattle.openapi_responses.proofs.codes.put_code.Goals as goal

pub returns-clause-err : goal.returns-clause-err
returns-clause-err g c =
    value_loses g.T.FromNode.form_of g.T.FromNode.kind c.args.code.now c.args.value.now c.as_str-2.result.now
    (c.as_str-2.ensures.value ∙ c.in-Ok.ensures.ok) c.put_value.result c.put_value.ensures.err

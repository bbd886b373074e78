use Rattle.std.proofs.Common.{◌≡◌, ◌∙◌, ap, length, rules}
use Rattle.std.specs.Prelude.{◌==◌}
use Rattle.openapi_fields.proofs.Losing.{none_listed}
use Rattle.openapi_fields.proofs.implied.VecImplied.is_left_out.Goals as goal

pub returns : goal.returns
returns g c =
    let same : c.as_slice.result.now ≡ c.args.self.now.items = search rules in
    c.is_empty.ensures ∙ ap (λ xs. length xs == 0) same ∙ none_listed g.T.FromNode.form_of c.args.self.now.items

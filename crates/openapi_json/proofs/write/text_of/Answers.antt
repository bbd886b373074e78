use Rattle.std.proofs.Common.{◌≡◌, ◌++◌, [], ap, ◌∙◌}
use Rattle.std.specs.String.{string_bytes}
use Rattle.json.specs.Print.{print}
use Rattle.serde_json.proofs.Texts.{print-outline}
use Rattle.openapi_json.specs.Writing.{data_in, data_tokens}
use Rattle.openapi_json.proofs.write.text_of.Goals as goal

pub returns-in-Ok-clause-text : goal.returns-in-Ok-clause-text
returns-in-Ok-clause-text c =
    let d = data_in c.args.order c.args.node.now in
    let w = c.write_node.new.out in
    let none : w.before ≡ [] = c.in_ok-write_node.ensures.before ∙ c.new-out.ensures.before ∙ c.in_ok-with_capacity.ensures.items in
    let tokens : w.tokens ≡ data_tokens d = c.in_ok-write_node.ensures.ok ∙ ap (λ ts. ts ++ data_tokens d) c.new-out.ensures.tokens in
    let held : string_bytes c.in-Ok.text ≡ c.into_inner.result.items = ap (λ v. v.items) c.in-Ok.ensures.ok in
    held ∙ c.into_inner.ensures.items ∙ (λ j. none j ++ print (tokens j)) ∙ print-outline d

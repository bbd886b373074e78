use Rattle.std.proofs.Common.{◌≡◌, IfOk, string_bytes, sym, subst}
use Rattle.serde_json.specs.Written.{compact_text}
use Rattle.openapi_json.proofs.ByName.{named_again}
use Rattle.openapi_json.proofs.Sorted.{data-by_name}
use Rattle.openapi_json.proofs.write.json_from_node.Goals as goal

pub returns-clause-text : goal.returns-clause-text
returns-clause-text c =
    subst (λ d. IfOk c.text_of.result (λ s. string_bytes s ≡ compact_text d)) (sym (data-by_name c.args.node.now))
    c.text_of.ensures.text

pub returns-clause-reads_back : goal.returns-clause-reads_back
returns-clause-reads_back c =
    named_again c.text_of.result c.args.node.now
    (subst (λ d. IfOk c.text_of.result (λ s. string_bytes s ≡ compact_text d)) (sym (data-by_name c.args.node.now))
    c.text_of.ensures.text) c.text_of.ensures.whole

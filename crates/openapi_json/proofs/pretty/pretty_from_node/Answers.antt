use Rattle.std.proofs.Common.{◌≡◌, IfOk, string_bytes, sym, subst, ap, ◌∙◌}
use Rattle.json.specs.Layout.{pretty}
use Rattle.json.specs.Lex.{tokens}
use Rattle.serde_json.specs.Written.{compact_text, outline}
use Rattle.openapi_node.specs.Json.{data_of}
use Rattle.openapi_json.specs.Scanned.{AreGood}
use Rattle.openapi_json.proofs.ByName.{named_tokens, read_again_by_name}
use Rattle.openapi_json.proofs.Positions.{good_tokens}
use Rattle.openapi_json.proofs.Sorted.{data-by_name}
use Rattle.openapi_json.proofs.pretty.pretty_from_node.Goals as goal

pub spread-requires : goal.spread-requires
spread-requires c =
    let it = c.in_ok-text.ensures in
    let t = c.args.node.now in
    let is = ap tokens (c.as_str.ensures.value ∙ it.text ∙ ap compact_text (sym (data-by_name t))) ∙ named_tokens t it.whole in
    subst AreGood (sym is) (good_tokens (outline (data_of t)))

pub returns-clause-text : goal.returns-clause-text
returns-clause-text c =
    let it = c.in_ok-text.ensures in
    let t = c.args.node.now in
    let is = ap tokens (c.as_str.ensures.value ∙ it.text ∙ ap compact_text (sym (data-by_name t))) ∙ named_tokens t it.whole in
    subst (λ ts. IfOk c.spread.result (λ s. string_bytes s ≡ pretty ts)) is c.spread.ensures.text

pub returns-clause-reads_back : goal.returns-clause-reads_back
returns-clause-reads_back c =
    let it = c.in_ok-text.ensures in
    let t = c.args.node.now in
    let is = ap tokens (c.as_str.ensures.value ∙ it.text ∙ ap compact_text (sym (data-by_name t))) ∙ named_tokens t it.whole in
    read_again_by_name c.spread.result t
    (subst (λ ts. IfOk c.spread.result (λ s. tokens (string_bytes s) ≡ ts)) is c.spread.ensures.same) it.whole

use Rattle.std.proofs.Common.{◌≡◌, IfOk, string_bytes, sym, subst, ◌∙◌}
use Rattle.json.specs.Layout.{pretty}
use Rattle.json.specs.Lex.{tokens}
use Rattle.serde_json.specs.Written.{outline}
use Rattle.openapi_json.specs.Scanned.{AreGood}
use Rattle.openapi_json.specs.Writing.{data_in_order}
use Rattle.openapi_json.proofs.Positions.{good_tokens}
use Rattle.openapi_json.proofs.ReadBack.{spelled, written_again}
use Rattle.openapi_json.proofs.pretty.pretty_from_node_in_order.Goals as goal

pub spread-requires : goal.spread-requires
spread-requires c =
    let it = c.in_ok-text.ensures in
    let t = c.args.node.now in
    let is = spelled c.as_str.result.now t (c.as_str.ensures.value ∙ it.text) c.names_differ.ensures it.whole in
    subst AreGood (sym is) (good_tokens (outline (data_in_order t)))

pub returns-clause-text : goal.returns-clause-text
returns-clause-text c =
    let it = c.in_ok-text.ensures in
    let t = c.args.node.now in
    let is = spelled c.as_str.result.now t (c.as_str.ensures.value ∙ it.text) c.names_differ.ensures it.whole in
    subst (λ ts. IfOk c.spread.result (λ s. string_bytes s ≡ pretty ts)) is c.spread.ensures.text

pub returns-clause-reads_back : goal.returns-clause-reads_back
returns-clause-reads_back c =
    let it = c.in_ok-text.ensures in
    let t = c.args.node.now in
    let is = spelled c.as_str.result.now t (c.as_str.ensures.value ∙ it.text) c.names_differ.ensures it.whole in
    written_again c.spread.result t c.names_differ.ensures
    (subst (λ ts. IfOk c.spread.result (λ s. tokens (string_bytes s) ≡ ts)) is c.spread.ensures.same) it.whole

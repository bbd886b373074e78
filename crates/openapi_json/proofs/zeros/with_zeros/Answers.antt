use Rattle.std.proofs.Common.{sym, ap, ◌∙◌}
use Rattle.json.specs.Value.{value_view}
use Rattle.openapi_json.specs.Ordered.{parsed}
use Rattle.openapi_json.proofs.Ordered.{in_order_of, read_of}
use Rattle.openapi_json.proofs.Unheld.{read_without}
use Rattle.openapi_json.proofs.zeros.with_zeros.Goals as goal

pub returns-in-Ok-parts_of-clause-ok : goal.returns-in-Ok-parts_of-clause-ok
returns-in-Ok-parts_of-clause-ok c =
    let j = value_view c.in-Ok-read_value.value in
    let text = c.in-Ok.ensures.cases in
    let bytes = c.args.bytes.now in
    let reads = ap parsed (sym text.0) ∙ c.in-Ok-read_value.ensures.ok in
    let parts = c.in-Ok-parts_of in
    let read = c.requires in
    record {
      utf8 = text.1;
      value = j;
      reads = reads;
      tree = parts.ensures.node;
      numbers = parts.ensures.numbers;
      whole = λ none. in_order_of bytes j parts.parts.node text.1 reads parts.ensures.node
          (read_without j read.0 (sym (read_of bytes j reads) ∙ read.1) (sym parts.ensures.numbers ∙ none));
    }

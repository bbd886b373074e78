use Rattle.std.proofs.Common.{map, sym, ap, ◌∙◌}
use Rattle.openapi_node.specs.Fault.{step_of}
use Rattle.openapi_json.specs.Zeros.{replaced_of}
use Rattle.openapi_json.proofs.Unheld.{whole_text}
use Rattle.openapi_json.proofs.zeros.number_at.Goals as goal

pub returns-in-Some : goal.returns-in-Some
returns-in-Some c =
    ap (map replaced_of) c.new.ensures.items
    ∙ sym (whole_text (map step_of c.args.place.now) c.args.text.now _ c.in-Some.ensures.some)

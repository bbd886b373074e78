use Rattle.std.proofs.Common.{◌++◌, map, sym, ap, ◌∙◌}
use Rattle.json.specs.Json.{document}
use Rattle.openapi_findings.specs.Stated.{statement_of}
use Rattle.openapi_findings.proofs.Adding.{adds_none}
use Rattle.openapi_findings.proofs.Repeating.{none_in_text}
use Rattle.openapi_findings.proofs.repeated_reports.report_repeated.Goals as goal

pub returns-in-Ok-parse_strict : goal.returns-in-Ok-parse_strict
returns-in-Ok-parse_strict c =
    let text = c.in-Ok.ensures.cases in
    let read = c.in-Ok-parse_strict.ensures in
    λ j is.
    adds_none statement_of c.args.reports.now.items
    ∙ ap (λ ss. map statement_of c.args.reports.now.items ++ ss)
    (sym (none_in_text c.args.bytes.now j _ is (ap document (sym text.0) ∙ read.ok) read.unique))

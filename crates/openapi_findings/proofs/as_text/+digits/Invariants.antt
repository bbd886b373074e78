use Rattle.openapi_findings.proofs.as_text.+digits.Given as goal

abbrev pub decreases-digits : goal.decreases-digits
decreases-digits l = l.number

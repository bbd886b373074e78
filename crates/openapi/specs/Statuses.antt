-- The exit status of `openapi check`.
use Rattle.std.specs.Prelude.{ℕ, max, Bool, if◌then◌else◌, List, [], ◌∷◌, map}
use Rattle.openapi_findings.specs.Stated.{severity_of}
use Rattle.openapi_findings.specs.declared.code.Code.{Code}
use Rattle.openapi_findings.specs.declared.code.Code.TheVariants as code
use Rattle.openapi_findings.specs.declared.code.Severity.{Severity}
use Rattle.openapi_findings.specs.declared.code.Severity.TheVariants as severity
use Rattle.openapi_findings.specs.declared.finding.Finding.{Finding}

-- the status for findings of a severity: 1 for errors, and for warnings if these are denied
abbrev pub severity_status : Bool → Severity → ℕ
severity_status deny severity.Error = 1
severity_status deny severity.Warning = if deny then 1 else 0
severity_status deny severity.Note = 0

-- the status for findings of a code: 2 if the text is no JSON
abbrev pub code_status : Bool → Code → ℕ
code_status deny code.NotJson = 2
code_status deny c = severity_status deny (severity_of c)

abbrev pub finding_status : Bool → Finding → ℕ
finding_status deny f = code_status deny f.code

-- the highest of some numbers, or 0 if there is none
abbrev pub highest : List ℕ → ℕ
highest [] = 0
highest (n ∷ ns) = max n (highest ns)

-- the status for the findings of a file
abbrev pub file_status : Bool → List Finding → ℕ
file_status deny fs = highest (map (finding_status deny) fs)

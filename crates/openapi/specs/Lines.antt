-- The findings of a file, as `openapi check` prints them.
use Rattle.std.specs.Prelude.{ℕ, List, [], ◌∷◌, ◌++◌, flat_map}
use Rattle.openapi_findings.specs.Printed.{github_text, json_text, person_text}
use Rattle.openapi_findings.specs.declared.finding.Finding.{Finding}
use Rattle.openapi.specs.declared.output.Format.{Format}
use Rattle.openapi.specs.declared.output.Format.TheVariants.{Github, Json, Text}

-- a finding in a format
abbrev pub finding_text : Format → List ℕ → List ℕ → Finding → List ℕ
finding_text Text file bytes f = person_text file bytes f
finding_text Json file bytes f = json_text file f
finding_text Github file bytes f = github_text file f

-- the same with a line feed
abbrev pub finding_line : Format → List ℕ → List ℕ → Finding → List ℕ
finding_line format file bytes f = finding_text format file bytes f ++ 10 ∷ []

-- one finding after another one
abbrev pub findings_text : Format → List ℕ → List ℕ → List Finding → List ℕ
findings_text format file bytes fs = flat_map (finding_line format file bytes) fs

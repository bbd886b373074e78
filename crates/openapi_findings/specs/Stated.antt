-- What is to be reported about a document: codes, each at a location.
use Rattle.std.specs.Prelude.{ℕ, Bool, true, false, cond, List, [], ◌∷◌, ◌++◌, Option, Some, None, codes, map, option_and_then}
use Rattle.openapi_node.specs.Fault.{step_of}
use Rattle.openapi_node.specs.Place.{Place, named}
use Rattle.openapi_node.specs.Tree.{Tree, object, Members, find, text_in}
use Rattle.openapi_node.specs.declared.fault.Cause as declared
use Rattle.openapi_node.specs.declared.fault.Cause.TheVariants as refused
use Rattle.openapi_tables.specs.Faults.{Cause, missing, missing_either, wrong_kind, not_allowed, unknown_variant}
use Rattle.openapi_tables.specs.Kind.{Kind, begins, by, open_api}
use Rattle.openapi_tables.specs.Lists.{each, flat}
use Rattle.openapi_tables.specs.Tables.{final_tables}
use Rattle.openapi_faults.specs.Dropped.{dropped_in}
use Rattle.openapi_faults.specs.References.{references_in}
use Rattle.openapi_faults.specs.Told.{cause_in, told}
use Rattle.openapi_faults.specs.declared.dropped.DropReason.{DropReason}
use Rattle.openapi_faults.specs.declared.dropped.DropReason.TheVariants as reason
use Rattle.openapi_findings.specs.Pointers.{leads_to_value}
use Rattle.openapi_findings.specs.declared.code.Code.{Code}
use Rattle.openapi_findings.specs.declared.code.Code.TheVariants as code
use Rattle.openapi_findings.specs.declared.code.Severity.{Severity}
use Rattle.openapi_findings.specs.declared.code.Severity.TheVariants as severity
use Rattle.openapi_findings.specs.declared.report.Report.{Report}

-- how severe the findings of a code are
abbrev pub severity_of : Code → Severity
severity_of code.UnknownMember = severity.Warning
severity_of code.BesideRef = severity.Warning
severity_of code.SecondOfTwo = severity.Warning
severity_of code.UnresolvedReference = severity.Warning
severity_of code.RepeatedName = severity.Warning
severity_of code.Fraction = severity.Note
severity_of c = severity.Error

-- the words that are printed for a severity and for a code
abbrev pub severity_word : Severity → List ℕ
severity_word severity.Error = codes "error"
severity_word severity.Warning = codes "warning"
severity_word severity.Note = codes "note"

abbrev pub code_word : Code → List ℕ
code_word code.NotJson = codes "not-json"
code_word code.NotWhole = codes "not-whole"
code_word code.Version = codes "version"
code_word code.MissingMember = codes "missing-member"
code_word code.MissingEither = codes "missing-either"
code_word code.WrongType = codes "wrong-type"
code_word code.ValueNotAllowed = codes "value-not-allowed"
code_word code.UnknownValue = codes "unknown-value"
code_word code.UnknownMember = codes "unknown-member"
code_word code.BesideRef = codes "beside-ref"
code_word code.SecondOfTwo = codes "second-of-two"
code_word code.UnresolvedReference = codes "unresolved-reference"
code_word code.RepeatedName = codes "repeated-name"
code_word code.Fraction = codes "fraction"

-- whether the findings of a code are about a member as a whole, with its name
abbrev pub is_about_member : Code → Bool
is_about_member code.UnknownMember = true
is_about_member code.BesideRef = true
is_about_member code.SecondOfTwo = true
is_about_member code.RepeatedName = true
is_about_member c = false

-- a location, and what is to be reported there
abbrev pub Statement : Type 0
Statement = Place × Code

-- the location of a report, and what it states
abbrev pub place_in_report : Report → Place
place_in_report r = map step_of r.place.items

abbrev pub statement_of : Report → Statement
statement_of r = (place_in_report r, r.code)

-- ---- the version

-- the text of the member of a name
abbrev pub text_at : List ℕ → Members → Option (List ℕ)
text_at n ms = option_and_then text_in (find n ms)

abbrev pub version_at : List ℕ → List Statement
version_at n = (named n ∷ [], code.Version) ∷ []

-- what is to be reported about the version, given the texts of `swagger` and of `openapi`
abbrev pub versions : Option (List ℕ) → Option (List ℕ) → List Statement
versions (Some s) o = version_at (codes "swagger")
versions None None = []
versions None (Some v) = cond (begins (codes "3.0.") v) [] (version_at (codes "openapi"))

-- what is to be reported about a document of another version than 3.0.x: one with a text under `swagger`, or else with a
-- text under `openapi` that does not begin with `3.0.`
abbrev pub version_in : Tree → List Statement
version_in (object ms) = versions (text_at (codes "swagger") ms) (text_at (codes "openapi") ms)
version_in t = []

-- ---- faults

-- the code of a cause of the tables; for any other cause, the code of a value that is not allowed
abbrev pub cause_code : Option Cause → Code
cause_code (Some (missing n)) = code.MissingMember
cause_code (Some (missing_either n m)) = code.MissingEither
cause_code (Some (wrong_kind w)) = code.WrongType
cause_code (Some not_allowed) = code.ValueNotAllowed
cause_code (Some unknown_variant) = code.UnknownValue
cause_code None = code.ValueNotAllowed

-- the code of the cause of an error; `NotWhole` has its own, since it is not a cause of the tables
abbrev pub refusal_code : declared.Cause → Code
refusal_code refused.NotWhole = code.NotWhole
refusal_code c = cause_code (cause_in c)

abbrev pub fault_stated : Place × Cause → Statement
fault_stated f = (f.0, cause_code (Some f.1))

abbrev pub faults_in : Tree → List Statement
faults_in t = each fault_stated (told final_tables (by open_api) t)

-- ---- errors

-- the errors of a document, except for those about numbers that are not whole
abbrev pub errors_in : Tree → List Statement
errors_in t = version_in t ++ faults_in t

-- ---- members that have no effect

abbrev pub reason_code : DropReason → Code
reason_code reason.UnknownMember = code.UnknownMember
reason_code reason.SecondOfTwo = code.SecondOfTwo
reason_code reason.BesideReference = code.BesideRef

abbrev pub dropped_stated : Place × DropReason → Statement
dropped_stated d = (d.0, reason_code d.1)

abbrev pub losses_in : Tree → List Statement
losses_in t = map dropped_stated (dropped_in (by open_api) t)

-- ---- references

-- the statement that a reference leads to no value, at the location of its `$ref`
abbrev pub unresolved_at : Place × List ℕ × Kind → Statement
unresolved_at r = (r.0 ++ named (codes "$ref") ∷ [], code.UnresolvedReference)

-- what is to be reported about a reference in a document: nothing if it leads to a value or is not within the document
abbrev pub reference_stated : Tree → Place × List ℕ × Kind → List Statement
reference_stated t r = cond (leads_to_value r.1 t) [] (unresolved_at r ∷ [])

-- the statements about the references within a document that lead to no value
abbrev pub unresolved_in : Tree → List Statement
unresolved_in t = flat (each (reference_stated t) (references_in (by open_api) t))

-- ---- names that occur more than once

abbrev pub repeated_at : Place → Statement
repeated_at p = (p, code.RepeatedName)

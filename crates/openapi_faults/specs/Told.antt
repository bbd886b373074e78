-- The faults of a value: the causes that it or a value inside it breaks, each with its location.
use Rattle.std.specs.Prelude.{◌≡◌, ℕ, Bool, true, false, List, [], ◌∷◌, Option, Some, None, map, option_to_list}
use Rattle.openapi_node.specs.Fault.{place_of}
use Rattle.openapi_node.specs.Place.{Place}
use Rattle.openapi_node.specs.Tree.{Tree, null, flag, whole, text, list, object}
use Rattle.openapi_node.specs.declared.fault.Cause as declared
use Rattle.openapi_node.specs.declared.fault.Cause.TheVariants as d
use Rattle.openapi_node.specs.declared.fault.Expected.{Expected}
use Rattle.openapi_node.specs.declared.fault.Expected.TheVariants as e
use Rattle.openapi_node.specs.declared.fault.Fault.{Fault}
use Rattle.openapi_tables.specs.Faults.{Asking, Cause, asked, causes, missing, missing_either, not_allowed}
use Rattle.openapi_tables.specs.Faults.{row_misses, unknown_variant, unless, wrong_kind}
use Rattle.openapi_tables.specs.Kind.{Kind, Limits, Tables, by, one_of, within}
use Rattle.openapi_tables.specs.Lists.{each, flat}
use Rattle.openapi_tables.specs.Tables.{final_tables}
use Rattle.openapi_tables.specs.Tree.{members_list}

-- the faults under tables: each cause that is broken, with the location of the value that breaks it, in the order of `asked`
abbrev pub told_at : Tables → Asking → List (Place × Cause)
told_at T a = each (λ c. (a.place, c)) (causes T a.kind a.tree)

abbrev pub told : Tables → Kind → Tree → List (Place × Cause)
told T k t = flat (each (told_at T) (asked T k t))

-- the cause of the tables that a declared cause represents; three declared causes represent none
abbrev pub cause_in : declared.Cause → Option Cause
cause_in (d.Missing n) = Some (missing n.now)
cause_in (d.MissingEither n m) = Some (missing_either n.now m.now)
cause_in (d.WrongKind w) = Some (wrong_kind w)
cause_in d.NotAllowed = Some not_allowed
cause_in d.UnknownVariant = Some unknown_variant
cause_in d.NameNotWritable = None
cause_in d.NotWhole = None
cause_in d.Memory = None

-- a fault, as its location and its cause
abbrev pub fault_in : Fault → Place × Option Cause
fault_in f = (place_of f, cause_in f.cause)

-- the same for a location with a cause of the tables
abbrev pub known : Place × Cause → Place × Option Cause
known f = (f.0, Some f.1)

-- the faults of a list have these locations and causes, in this order
abbrev pub AreFaults : List Fault → List (Place × Cause) → Type 0
AreFaults fs cs = map fault_in fs ≡ each known cs

-- the causes of a list are the one that `o` represents, or none if `o` is `None`
abbrev pub Gives : Option declared.Cause → List Cause → Type 0
Gives o cs = map cause_in (option_to_list o) ≡ each Some cs

-- causes, each with the same location, as `fault_in` gives them
abbrev pub at : Place → List Cause → List (Place × Option Cause)
at p cs = each (λ c. (p, Some c)) cs

-- a declared cause with its location, as `fault_in` gives it; none if there is no cause
abbrev pub given : Place → Option declared.Cause → List (Place × Option Cause)
given p None = []
given p (Some c) = (p, cause_in c) ∷ []

-- ---- the causes of a value, in parts

-- the causes that a value breaks by itself, without those for members that an object lacks by the rows of a table
abbrev pub own_causes : Kind → Tree → List Cause
own_causes (by i) (object ms) = []
own_causes k t = causes final_tables k t

-- the causes for members that an object lacks by the rows of a table
abbrev pub row_causes : Kind → Tree → List Cause
row_causes (by i) (object ms) = flat (each (row_misses (members_list ms)) (final_tables i))
row_causes k t = []

-- whether a value is of an expected kind
abbrev pub is_expected : Expected → Tree → Bool
is_expected e.Text (text s) = true
is_expected e.Flag (flag b) = true
is_expected e.Whole (whole z) = true
is_expected e.List (list ts) = true
is_expected e.Object (object ms) = true
is_expected e.TextOrNull null = true
is_expected e.TextOrNull (text s) = true
is_expected e.WholeOrNull null = true
is_expected e.WholeOrNull (whole z) = true
is_expected e.FlagOrNull null = true
is_expected e.FlagOrNull (flag b) = true
is_expected e.FlagOrObject (flag b) = true
is_expected e.FlagOrObject (object ms) = true
is_expected e.TextOrWhole (text s) = true
is_expected e.TextOrWhole (whole z) = true
is_expected w t = false

-- the cause for a value that is not of an expected kind; none for other values
abbrev pub unless_expected : Expected → Tree → List Cause
unless_expected w t = unless (is_expected w t) (wrong_kind w)

-- the cause for a whole number that is out of limits, or for another value that is not of an expected kind
abbrev pub number_causes : Expected → Limits → Tree → List Cause
number_causes w l (whole z) = unless (within l z) not_allowed
number_causes w l t = unless_expected w t

-- the words that a kind allows, if it is a set of words; none for other kinds
abbrev pub words_in : Kind → List (List ℕ)
words_in (one_of ws) = ws
words_in k = []

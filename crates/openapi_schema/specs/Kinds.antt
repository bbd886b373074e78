-- How the kind of a schema corresponds to the values under its kind names.
use Rattle.std.specs.Prelude.{◌≡◌, ℕ, ℤ, Bool, true, false, ◌&&◌, List, [], Option, Some, None, Result, Ok, Err}
use Rattle.std.specs.Global.{Vec}
use Rattle.std.specs.Borrow.{Bor}
use Rattle.openapi_node.specs.Tree.{Tree, whole, items_of, items_size}
use Rattle.openapi_node.specs.declared.fault.Fault.{Fault}
use Rattle.openapi_node.specs.Tree.{Members}
use Rattle.openapi_tables.specs.ByRow.{AreRows}
use Rattle.openapi_tables.specs.Lists.{every}
use Rattle.openapi_tables.specs.Tables.{final_tables}
use Rattle.openapi_tables.specs.Tree.{members_list}
use Rattle.openapi_tables.specs.Members.{Sort, sort_of, is_null_or_signed}
use Rattle.openapi_tables.specs.Form.{Form, sequence, no_forms}
use Rattle.openapi_fields.specs.Forms.{optional_form}
use Rattle.openapi_schema_types.specs.Masks.{sort_by_names}
use Rattle.openapi_schema.specs.RawSlots.{or_else, optional_rows, sort_slots}
use Rattle.openapi_schema.specs.SchemaForms.{list_form, entry_form, schema_kind_rows}
use Rattle.openapi_schema.specs.KindNames.{trees_form, kind_forms}
use Rattle.openapi_schema.specs.declared.kind_names.KindNames.{KindNames}
use Rattle.openapi_schema.specs.declared.schema.SchemaKind.{SchemaKind}
use Rattle.openapi_schema.specs.declared.kinds.Limits.{Limits}

-- the nodes that an optional borrow refers to
abbrev pub trees_in : Option (Bor (List Tree)) → Option (List Tree)
trees_in None = None
trees_in (Some nodes) = Some nodes.now

-- whether all nodes pass a test; true for `None`
abbrev pub entries_test : (Tree → Bool) → Option (List Tree) → Bool
entries_test p None = true
entries_test p (Some ts) = every p ts

-- the form of an enumeration; that of the empty list for `None`
abbrev pub enumeration_slot : Option (List Tree) → Form
enumeration_slot o = or_else (sequence no_forms) (optional_form trees_form o)

-- `Ok(Some(v))`: all entries pass the test, and `v` holds their values. `Ok(None)`: some entry does not pass.
-- `Err`: nothing is required
abbrev pub EnumerationReadAs : {X : Type 0} → (Tree → Bool) → (X → Tree) → Result (Option (Vec (Option X))) Fault
    → Option (List Tree) → Type 0
EnumerationReadAs test tree_in (Ok None) o = entries_test test o ≡ false
EnumerationReadAs test tree_in (Ok (Some v)) o = (entries_test test o ≡ true) × (list_form (entry_form tree_in) v
    ≡ enumeration_slot o)
EnumerationReadAs test tree_in (Err f) o = Unit {0}

-- the values are the entries of `enum`; none if `enum` is missing
abbrev pub IsEnumeration : {X : Type 0} → (X → Tree) → Vec (Option X) → KindNames → Type 0
IsEnumeration tree_in v a = list_form (entry_form tree_in) v ≡ or_else (sequence no_forms) (optional_form
    (λ nodes. trees_form nodes.now) a.enumeration)

-- the kind `k` is of the sort `s`, and has the forms of that sort for the values under the kind names
abbrev pub IsKindOf : Sort → SchemaKind → KindNames → Type 0
IsKindOf s k a = schema_kind_rows k ≡ (s, sort_slots s (kind_forms a))

-- the number of values in the nodes, including nested ones; 0 for `None`
abbrev pub entries_weight : Option (List Tree) → ℕ
entries_weight None = 0
entries_weight (Some ts) = items_size (items_of ts)

-- the number of values in the entries of an enumeration that was read with the kind names; 0 for an error
abbrev pub entries_left : Result KindNames Fault → ℕ
entries_left (Ok a) = entries_weight (trees_in a.enumeration)
entries_left (Err f) = 0

-- whether a limit is in the range of `i64`; true for `None`
abbrev pub limit_test : Option ℤ → Bool
limit_test None = true
limit_test (Some z) = is_null_or_signed (whole z)

-- `Some` holds the limit, which is in the range; `None` means that the limit is not in the range
abbrev pub LimitReadAs : Option (Option ℤ) → Option ℤ → Type 0
LimitReadAs None o = limit_test o ≡ false
LimitReadAs (Some p) o = (limit_test o ≡ true) × (p ≡ o)

-- whether `multipleOf`, `minimum` and `maximum` are in the range of `i64`, if they are present
abbrev pub limits_test : KindNames → Bool
limits_test a = limit_test a.plain.multiple_of && limit_test a.plain.minimum && limit_test a.plain.maximum

-- `Some` holds these limits, which are all in the range; `None` means that one of them is not in the range
abbrev pub LimitsReadAs : Option Limits → KindNames → Type 0
LimitsReadAs None a = limits_test a ≡ false
LimitsReadAs (Some x) a =
    (limits_test a ≡ true) × (x.multiple_of ≡ a.plain.multiple_of) × (x.minimum ≡ a.plain.minimum) × (x.maximum ≡ a.plain.maximum)

-- the nodes; the empty list for `None`
abbrev pub trees_or_none : Option (List Tree) → List Tree
trees_or_none None = []
trees_or_none (Some ts) = ts

-- `k` is the kind of any members from which the kind names are read as `a`, if `sort_by_names` of these members
-- is the sort `s`
abbrev pub IsKindBy : Sort → SchemaKind → KindNames → Type 0
IsKindBy s k a =
    (ms : Members) → AreRows final_tables optional_rows (kind_forms a) ms → s ≡ sort_by_names (members_list ms)
    → IsKindOf (sort_of (members_list ms)) k a

-- `k` is the kind of any members from which the kind names are read as `a`
abbrev pub IsKind : SchemaKind → KindNames → Type 0
IsKind k a =
    (ms : Members) → AreRows final_tables optional_rows (kind_forms a) ms
    → IsKindOf (sort_of (members_list ms)) k a

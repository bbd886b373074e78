-- The members of objects that reading drops, each at its location, and why.
use Rattle.std.specs.Prelude.{ℕ, Bool, false, not, ◌&&◌, ◌||◌, cond, List, [], ◌∷◌, ◌++◌, Option, Some, None, codes, map}
use Rattle.std.specs.List.{list_any}
use Rattle.openapi_node.specs.Fault.{step_of}
use Rattle.openapi_node.specs.Place.{Place, named}
use Rattle.openapi_node.specs.Tree.{Tree, object, Members}
use Rattle.openapi_tables.specs.Faults.{Asking, asked}
use Rattle.openapi_tables.specs.Kind as kind
use Rattle.openapi_tables.specs.Kind.{Kind, Row, TableName, either, takes}
use Rattle.openapi_tables.specs.Lists.{each, flat, same_text}
use Rattle.openapi_tables.specs.Members.{own}
use Rattle.openapi_tables.specs.Tables.{final_tables}
use Rattle.openapi_tables.specs.Tree.{Entry, members_list}
use Rattle.openapi_faults.specs.Walk.{reference_text}
use Rattle.openapi_faults.specs.declared.dropped.DropReason.{DropReason}
use Rattle.openapi_faults.specs.declared.dropped.DropReason.TheVariants.{UnknownMember, SecondOfTwo, BesideReference}
use Rattle.openapi_faults.specs.declared.dropped.Dropped.{Dropped}

-- the name of the tag whose text selects a table, if a tag selects it
abbrev pub tag_of_table : TableName → Option (List ℕ)
tag_of_table kind.query_parameter = Some (codes "in")
tag_of_table kind.header_parameter = Some (codes "in")
tag_of_table kind.path_parameter = Some (codes "in")
tag_of_table kind.cookie_parameter = Some (codes "in")
tag_of_table kind.api_key_scheme = Some (codes "type")
tag_of_table kind.http_scheme = Some (codes "type")
tag_of_table kind.oauth2_scheme = Some (codes "type")
tag_of_table kind.open_id_connect_scheme = Some (codes "type")
tag_of_table kind.string_type = Some (codes "type")
tag_of_table kind.number_type = Some (codes "type")
tag_of_table kind.integer_type = Some (codes "type")
tag_of_table kind.object_type = Some (codes "type")
tag_of_table kind.array_type = Some (codes "type")
tag_of_table kind.boolean_type = Some (codes "type")
tag_of_table i = None

-- whether a name is that of the tag; false if there is no tag
abbrev pub is_tag : Option (List ℕ) → List ℕ → Bool
is_tag None n = false
is_tag (Some m) n = same_text m n

-- whether one of the rows takes the member of a name
abbrev pub is_taken : List Row → List ℕ → Bool
is_taken ws n = list_any (λ w. takes w n) ws

-- whether the first of some members has a name; false if there are none
abbrev pub is_first : List (Entry Tree) → List ℕ → Bool
is_first [] n = false
is_first (e ∷ es) n = same_text e.name n

-- whether a row of two names takes the name `n`, and the first member that the row takes is not named `n` (or it takes none)
abbrev pub takes_second : List (Entry Tree) → List ℕ → Row → Bool
takes_second es n (either a j b k) = takes (either a j b k) n && not (is_first (own (either a j b k) es) n)
takes_second es n w = false

-- why reading an object by a table drops the member of a name, if it does
abbrev pub why_lost : TableName → List (Entry Tree) → List ℕ → Option DropReason
why_lost i es n =
    cond (is_taken (final_tables i) n)
    (cond (list_any (takes_second es n) (final_tables i)) (Some SecondOfTwo) None)
    (cond (is_tag (tag_of_table i) n) None (Some UnknownMember))

-- the reason to drop a member: its name is unknown, unless a row takes it
abbrev pub unless_taken : Bool → Option DropReason
unless_taken b = cond b None (Some UnknownMember)

-- why a member of an object is dropped, if the object is a reference: it is beside `$ref`, and not `$ref` itself
abbrev pub why_beside : Option (List ℕ) → List ℕ → Option DropReason
why_beside None n = None
why_beside (Some s) n = cond (same_text (codes "$ref") n) None (Some BesideReference)

-- why reading an object as a kind drops the member of a name, if it does. The reason depends on the table of the kind. For a
-- schema it depends on the rows for all schemas, if the kind has them, and on those that distinguish the types of schemas. A
-- reference drops the members beside `$ref`
abbrev pub why_dropped : Kind → Members → List ℕ → Option DropReason
why_dropped (kind.by i) ms n = why_lost i (members_list ms) n
why_dropped kind.a_schema ms n =
    unless_taken (is_taken (final_tables kind.schema_data) n || is_taken (final_tables kind.any_schema) n)
why_dropped kind.a_schema_kind ms n = unless_taken (is_taken (final_tables kind.any_schema) n)
why_dropped (kind.ref_to k) ms n = why_beside (reference_text (kind.ref_to k) (object ms)) n
why_dropped k ms n = None

-- the location of a member and the reason to drop it, if there is one
abbrev pub dropped_if : Place → Option DropReason → List (Place × DropReason)
dropped_if p None = []
dropped_if p (Some r) = (p, r) ∷ []

-- the members that reading an object as a kind drops, each at its location and with the reason, in the order of the object
abbrev pub drops : Place → Kind → Tree → List (Place × DropReason)
drops p k (object ms) =
    flat (each (λ e. dropped_if (p ++ (named e.name ∷ [])) (why_dropped k ms e.name)) (members_list ms))
drops p k t = []

abbrev pub dropped_at : Asking → List (Place × DropReason)
dropped_at a = drops a.place a.kind a.tree

-- all members that reading a value as a kind drops, in the order of `asked`
abbrev pub dropped_in : Kind → Tree → List (Place × DropReason)
dropped_in k t = flat (each dropped_at (asked final_tables k t))

-- the location and the reason that a `Dropped` contains
abbrev pub dropped_of : Dropped → Place × DropReason
dropped_of d = (map step_of d.place.items, d.why)

-- The rows of the kind names: those of the names whose values hold no schema and no JSON value, and the others.
use Rattle.std.proofs.Common.{◌≡◌, ℕ, ◌+◌, List, Result, Ok, Err, IfOk, codes, refl, arith, subst, sym}
use Rattle.openapi_node.specs.Tree.{Members}
use Rattle.openapi_node.specs.declared.fault.Fault.{Fault}
use Rattle.openapi_tables.specs.Prelude.{join, any_tree, flag_or_schema, ref_to, list_of, map_of, a_schema, Kind, Form}
use Rattle.openapi_tables.specs.Prelude.{any_flag, any_text, number, sizes, unlimited, optional, Row, row, any_rows}
use Rattle.openapi_tables.specs.Prelude.{final_tables, rows_weight, row_weight}
use Rattle.openapi_fields.specs.Joined.{joined}
use Rattle.openapi_fields.specs.Reading.{PartReadAs}
use Rattle.openapi_fields.proofs.JoinedRows.{rows_join}
use Rattle.openapi_schema.specs.PlainNames.{plain_rows}
use Rattle.openapi_schema.specs.RawSlots.{optional_rows}

both_parts : {X Y : Type 0} (forms : X → List Form) (more : Y → List Form) (r : Result X Fault) (s : Result Y Fault)
    (k : Kind) (ws vs : List Row) (ms : Members) → PartReadAs forms r k ws ms → PartReadAs more s k vs ms
    → PartReadAs (λ v. join (more v.1) (forms v.0)) (joined r s) k (join vs ws) ms
both_parts forms more (Ok x) (Ok y) k ws vs ms h g = rows_join final_tables vs ws (more y) (forms x) ms g h
both_parts forms more (Ok x) (Err e) k ws vs ms h g = g
both_parts forms more (Err e) s k ws vs ms h g = h

-- the joined results of some rows and of some more rows are what all these rows give, with the latter first
pub part_joined : {X Y : Type 0} (forms : X → List Form) (more : Y → List Form) (r : Result X Fault) (s : Result Y Fault)
    (t : Result (X × Y) Fault) (k : Kind) (ws vs : List Row) (ms : Members) → t ≡ joined r s
    → PartReadAs forms r k ws ms → PartReadAs more s k vs ms
    → PartReadAs (λ v. join (more v.1) (forms v.0)) t k (join vs ws) ms
part_joined forms more r s t k ws vs ms is h g =
    subst (λ a. PartReadAs (λ v. join (more v.1) (forms v.0)) a k (join vs ws) ms) (sym is)
    (both_parts forms more r s k ws vs ms h g)

last_of_both : {X Y : Type 0} (P : Y → Type 0) (r : Result X Fault) (s : Result Y Fault) → IfOk s P
    → IfOk (joined r s) (λ v. P v.1)
last_of_both P (Ok x) (Ok y) h = h
last_of_both P (Ok x) (Err e) h = h
last_of_both P (Err e) s h = tt

-- what holds of the last value holds of it in the joined result
pub last_holds : {X Y : Type 0} (P : Y → Type 0) (r : Result X Fault) (s : Result Y Fault) (t : Result (X × Y) Fault)
    → t ≡ joined r s → IfOk s P → IfOk t (λ v. P v.1)
last_holds P r s t is h = subst (λ a. IfOk a (λ v. P v.1)) (sym is) (last_of_both P r s h)

first_of_both : {X Y : Type 0} (P : X → Type 0) (r : Result X Fault) (s : Result Y Fault) → IfOk r P
    → IfOk (joined r s) (λ v. P v.0)
first_of_both P (Ok x) (Ok y) h = h
first_of_both P (Ok x) (Err e) h = tt
first_of_both P (Err e) s h = tt

-- what holds of the values before it holds of them in the joined result
pub first_holds : {X Y : Type 0} (P : X → Type 0) (r : Result X Fault) (s : Result Y Fault) (t : Result (X × Y) Fault)
    → t ≡ joined r s → IfOk r P → IfOk t (λ v. P v.0)
first_holds P r s t is h = subst (λ a. IfOk a (λ v. P v.0)) (sym is) (first_of_both P r s h)

-- the rows of the former hold as many values as each of them
pub plain_weight : (ms : Members) → rows_weight plain_rows ms
    ≡ row_weight (row (codes "type") optional any_text) ms
    + (row_weight (row (codes "pattern") optional any_text) ms
    + (row_weight (row (codes "multipleOf") optional (number unlimited)) ms
    + (row_weight (row (codes "exclusiveMinimum") optional any_flag) ms
    + (row_weight (row (codes "exclusiveMaximum") optional any_flag) ms
    + (row_weight (row (codes "minimum") optional (number unlimited)) ms
    + (row_weight (row (codes "maximum") optional (number unlimited)) ms
    + (row_weight (row (codes "required") optional (list_of any_text)) ms
    + (row_weight (row (codes "minProperties") optional (number sizes)) ms
    + (row_weight (row (codes "maxProperties") optional (number sizes)) ms
    + (row_weight (row (codes "minItems") optional (number sizes)) ms
    + (row_weight (row (codes "maxItems") optional (number sizes)) ms
    + (row_weight (row (codes "uniqueItems") optional any_flag) ms
    + (row_weight (row (codes "format") optional any_text) ms
    + (row_weight (row (codes "minLength") optional (number sizes)) ms
    + (row_weight (row (codes "maxLength") optional (number sizes)) ms + 0)))))))))))))))
unfolding plain_rows optional_rows any_rows
plain_weight ms = refl

moved : (a b c d e f g h i j k l m n o p q r s t u v w x : ℕ)
    → a + (b + (c + (d + (e + (f + (g + (h + (i + (j + (k + (l + (m + (n + (o + (p + (q + (r + (s + (t + (u + (v + (w + (x + 0)))))))))))))))))))))))
    ≡ a + (b + (c + (d + (e + (f + (g + (i + (k + (l + (n + (o + (p + (r + (s + (t + 0)))))))))))))))
    + h + j + m + q + u + v + w + x
moved a b c d e f g h i j k l m n o p q r s t u v w x = omega arith

-- the rows of all kind names hold as many values as those of the former and the eight others
pub names_weight : (ms : Members) → rows_weight optional_rows ms
    ≡ rows_weight plain_rows ms + row_weight (row (codes "properties") optional (map_of (ref_to a_schema))) ms
    + row_weight (row (codes "additionalProperties") optional flag_or_schema) ms
    + row_weight (row (codes "items") optional (ref_to a_schema)) ms
    + row_weight (row (codes "enum") optional (list_of any_tree)) ms
    + row_weight (row (codes "oneOf") optional (list_of (ref_to a_schema))) ms
    + row_weight (row (codes "allOf") optional (list_of (ref_to a_schema))) ms
    + row_weight (row (codes "anyOf") optional (list_of (ref_to a_schema))) ms
    + row_weight (row (codes "not") optional (ref_to a_schema)) ms
unfolding plain_rows optional_rows any_rows
names_weight ms = moved _ _ _ _ _ _ _ _ _ _ _ _ _ _ _ _ _ _ _ _ _ _ _ _

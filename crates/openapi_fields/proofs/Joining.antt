-- Results that are joined into one, and what they mean for the rows of an object.
use Rattle.std.proofs.Common.{◌≡◌, List, [], ◌∷◌, Result, Ok, Err, subst, sym}
use Rattle.openapi_node.specs.Tree.{Members}
use Rattle.openapi_node.specs.declared.fault.Fault.{Fault}
use Rattle.openapi_tables.specs.Form.{Form}
use Rattle.openapi_tables.specs.Kind.{Kind, Row}
use Rattle.openapi_fields.specs.Joined.{joined}
use Rattle.openapi_fields.specs.Reading.{PartReadAs}
use Rattle.openapi_fields.specs.Returned.{RowReadAs}

-- what one row gives is what a list of one row gives
pub row_first : {X : Type 0} (view : X → Form) (r : Result X Fault) (k : Kind) (w : Row) (ms : Members)
    → RowReadAs view r k w ms → PartReadAs (λ x. view x ∷ []) r k (w ∷ []) ms
row_first view (Ok x) k w ms h = (h, tt)
row_first view (Err f) k w ms h = h

both_read : {X Y : Type 0} (forms : X → List Form) (view : Y → Form) (r : Result X Fault) (s : Result Y Fault) (k : Kind)
    (ws : List Row) (w : Row) (ms : Members) → PartReadAs forms r k ws ms → RowReadAs view s k w ms
    → PartReadAs (λ v. view v.1 ∷ forms v.0) (joined r s) k (w ∷ ws) ms
both_read forms view (Ok x) (Ok y) k ws w ms h g = (g, h)
both_read forms view (Ok x) (Err e) k ws w ms h g = g
both_read forms view (Err e) s k ws w ms h g = h

-- the joined results of some rows and of one more row are what all these rows give, with the one more row first
pub row_joined : {X Y : Type 0} (forms : X → List Form) (view : Y → Form) (r : Result X Fault) (s : Result Y Fault)
    (t : Result (X × Y) Fault) (k : Kind) (ws : List Row) (w : Row) (ms : Members) → t ≡ joined r s
    → PartReadAs forms r k ws ms → RowReadAs view s k w ms → PartReadAs (λ v. view v.1 ∷ forms v.0) t k (w ∷ ws) ms
row_joined forms view r s t k ws w ms is h g =
    subst (λ a. PartReadAs (λ v. view v.1 ∷ forms v.0) a k (w ∷ ws) ms) (sym is) (both_read forms view r s k ws w ms h g)

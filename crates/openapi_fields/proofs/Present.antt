-- Members that exist and are not null, given the views of them.
use Rattle.std.proofs.Common.{◌≡◌, ℕ, false, List, Option, Some, None, Result, Ok, Err, refl, ap, ◌∙◌}
use Rattle.openapi_node.specs.Tree.{Tree}
use Rattle.openapi_node.specs.View.{shown}
use Rattle.openapi_node.specs.declared.fault.Fault.{Fault}
use Rattle.openapi_node.specs.declared.node.View.{View}
use Rattle.openapi_node.specs.declared.node.View.TheVariants as v
use Rattle.openapi_tables.specs.Prelude.{Kind, is_null, Form}
use Rattle.openapi_fields.specs.Returned.{ReadAs, MemberReadAs}
use Rattle.openapi_fields.specs.Presence.{AtMember}

-- what was read from a node is what is read from the member that it is the value of
pub at_member : {X : Type 0} → (view : X → Form) (n : List ℕ) (k : Kind) (t : Tree) (r : Result X Fault)
    (s : Result (Option X) Fault) → AtMember n r s → ReadAs view r k t → MemberReadAs view s k n (Some t)
at_member view n k t (Ok x) (Ok (Some y)) e h = (h.0, h.1 ∙ ap view e)
at_member view n k t (Err d) (Err f) e h = (d, e, h)
at_member view n k t r (Ok None) e h = absurd e
at_member view n k t r s e h = absurd e

-- a view that is not of null is of a node other than null
pub shown_there : (w : View) → (w ≡ v.Null → ⊥) → is_null (shown w) ≡ false
shown_there v.Null h = absurd (h refl)
shown_there w h = refl

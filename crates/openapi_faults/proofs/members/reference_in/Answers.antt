use Rattle.std.proofs.Common.{◌≡◌, Some, None, sym, ap, ◌∙◌, codes}
use Rattle.std.specs.Borrow.{Bor}
use Rattle.openapi_map.specs.declared.OrderedMap.{OrderedMap}
use Rattle.openapi_node.specs.Tree.{Tree, find, members_of, text_in}
use Rattle.openapi_node.specs.View.{shown}
use Rattle.openapi_node.specs.declared.node.Node.{Node}
use Rattle.openapi_node.specs.declared.node.View.{View}
use Rattle.openapi_node.specs.declared.node.View.TheVariants.{Object}
use Rattle.openapi_tables.specs.Kind.{Kind, ref_to}
use Rattle.openapi_fields.proofs.Referring.{held_found, held_missing}
use Rattle.openapi_faults.specs.Walk.{reference_text}
use Rattle.openapi_faults.proofs.members.reference_in.Goals as goal

module _ (k j : Kind) (e : k ≡ ref_to j) (v : View) (m : Bor (OrderedMap Node)) (is : v ≡ Object m) where
  there : (u : Tree) → Some u ≡ find (codes "$ref") (members_of m.now) → text_in u ≡ reference_text k (shown v)
  there u h =
      sym (ap (λ x. reference_text x (shown v)) e ∙ ap (λ w. reference_text (ref_to j) (shown w)) is
      ∙ ap text_in (held_found (codes "$ref") (members_of m.now) u (sym h)))

  gone : None ≡ find (codes "$ref") (members_of m.now) → None ≡ reference_text k (shown v)
  gone h =
      sym (ap (λ x. reference_text x (shown v)) e ∙ ap (λ w. reference_text (ref_to j) (shown w)) is
      ∙ ap text_in (held_missing (codes "$ref") (members_of m.now) (sym h)))

pub returns-in-Some-clause-text : goal.returns-in-Some-clause-text
returns-in-Some-clause-text c =
    c.as_text.ensures ∙ ap text_in c.open.ensures.shown
    ∙ there _ _ c.in-Item.ensures c.args.view.now c.in-Object.members c.in-Object.is c.in-Some.member.now c.in-Some.ensures.found

pub returns-in-None-clause-text : goal.returns-in-None-clause-text
returns-in-None-clause-text c = gone _ _ c.in-Item.ensures c.args.view.now c.in-Object.members c.in-Object.is c.in-None.ensures.found

use Rattle.std.proofs.Common.{sym, ap, ◌∙◌, codes}
use Rattle.openapi_node.specs.Tree.{members_of}
use Rattle.openapi_node.specs.View.{shown}
use Rattle.openapi_tables.specs.Conforms.{text_in}
use Rattle.openapi_fields.proofs.Referring.{held_found, held_missing, no_text_in}
use Rattle.openapi_fields.proofs.references.reference_text.Goals as goal

pub returns-in_default-find_member-clause-text : goal.returns-in_default-find_member-clause-text
returns-in_default-find_member-clause-text c =
    rw c.in-Object.is (sym (ap text_in (held_missing (codes "$ref") (members_of c.in-Object.members.now)
    (sym c.in_default-find_member.ensures.found))))

pub returns-in-Text-clause-text : goal.returns-in-Text-clause-text
returns-in-Text-clause-text c =
    rw c.in-Object.is (sym (ap text_in (held_found (codes "$ref") (members_of c.in-Object.members.now)
    c.in-Some.node.now (sym c.in-Some.ensures.found)
    ∙ sym c.open.ensures.shown ∙ ap shown c.in-Text.is)))

pub returns-in_default-open-clause-text : goal.returns-in_default-open-clause-text
returns-in_default-open-clause-text c =
    rw c.in-Object.is (sym (ap text_in (held_found (codes "$ref") (members_of c.in-Object.members.now)
    c.in-Some.node.now (sym c.in-Some.ensures.found) ∙ sym c.open.ensures.shown)
    ∙ no_text_in c.open.result c.in_default-open.not-Text))

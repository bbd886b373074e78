use Rattle.std.proofs.Common.{◌∙◌, ap, refl, arith, codes}
use Rattle.openapi_node.specs.Tree.{text, members_of}
use Rattle.openapi_node.specs.View.{shown}
use Rattle.openapi_node.specs.declared.fault.Expected.TheVariants as words
use Rattle.openapi_tables.specs.Prelude.{one_of, parameter}
use Rattle.openapi_fields.proofs.Below.{wrong_view}
use Rattle.openapi_fields.proofs.Tagging.{not_tagged, parameter_sound, tag_weight, tagged_read}
use Rattle.openapi_parameters.specs.Parameters.{parameter_cases, parameter_location_word, parameter_locations}
use Rattle.openapi_parameters.specs.Parameters.{parameter_rows, parameter_word}
use Rattle.openapi_parameters.proofs.parameter.ParameterFromNode.from_view.Goals as goal

pub returns-in_default : goal.returns-in_default
returns-in_default c =
    wrong_view c.new.result words.Object parameter (shown c.args.view.now) _ c.new.ensures.place
    c.new.ensures.cause (not_tagged (codes "in") parameter_cases c.args.view.now c.in_default.not-Object)

pub returns-in-Err-clause-count : goal.returns-in-Err-clause-count
returns-in-Err-clause-count c =
    rw c.in-Object.is ((
      omega (arith, c.tag.ensures.count.0),
      omega (
        arith,
        c.tag.ensures.count.1,
        tag_weight (codes "in") (one_of parameter_locations) (members_of c.in-Object.members.now),
      ),
    ))

pub returns-in-Ok-Query : goal.returns-in-Ok-Query
returns-in-Ok-Query c =
    rw c.in-Object.is (tagged_read (codes "in") parameter_cases (codes "query") (members_of c.in-Object.members.now)
    (c.in-Ok-Query.ensures.reads ∙ ap (λ l. text (parameter_location_word l)) c.in-Ok-Query.field-0-is) refl parameter_word
    parameter_rows (one_of parameter_locations) c.read_query.result parameter_sound c.tag.ensures.count c.read_query.ensures)

pub returns-in-Ok-Header : goal.returns-in-Ok-Header
returns-in-Ok-Header c =
    rw c.in-Object.is (tagged_read (codes "in") parameter_cases (codes "header") (members_of c.in-Object.members.now)
    (c.in-Ok-Header.ensures.reads ∙ ap (λ l. text (parameter_location_word l)) c.in-Ok-Header.field-0-is) refl parameter_word
    parameter_rows (one_of parameter_locations) c.read_header.result parameter_sound c.tag.ensures.count c.read_header.ensures)

pub returns-in-Ok-Path : goal.returns-in-Ok-Path
returns-in-Ok-Path c =
    rw c.in-Object.is (tagged_read (codes "in") parameter_cases (codes "path") (members_of c.in-Object.members.now)
    (c.in-Ok-Path.ensures.reads ∙ ap (λ l. text (parameter_location_word l)) c.in-Ok-Path.field-0-is) refl parameter_word
    parameter_rows (one_of parameter_locations) c.read_path.result parameter_sound c.tag.ensures.count c.read_path.ensures)

pub returns-in-Ok-Cookie : goal.returns-in-Ok-Cookie
returns-in-Ok-Cookie c =
    rw c.in-Object.is (tagged_read (codes "in") parameter_cases (codes "cookie") (members_of c.in-Object.members.now)
    (c.in-Ok-Cookie.ensures.reads ∙ ap (λ l. text (parameter_location_word l)) c.in-Ok-Cookie.field-0-is) refl parameter_word
    parameter_rows (one_of parameter_locations) c.read_cookie.result parameter_sound c.tag.ensures.count c.read_cookie.ensures)

use Rattle.std.proofs.Common.{◌∙◌, ap, refl, arith, codes}
use Rattle.openapi_node.specs.Tree.{text, members_of}
use Rattle.openapi_node.specs.View.{shown}
use Rattle.openapi_node.specs.declared.fault.Expected.TheVariants as words
use Rattle.openapi_tables.specs.Kind as kinds
use Rattle.openapi_tables.specs.Tables.{security_scheme}
use Rattle.openapi_fields.proofs.Below.{wrong_view}
use Rattle.openapi_fields.proofs.Tagging.{tagged_read, tag_weight, not_tagged, security_scheme_sound}
use Rattle.openapi_security.specs.Schemes.{scheme_cases, scheme_types, scheme_type_word, security_scheme_word}
use Rattle.openapi_security.specs.Schemes.{security_scheme_rows}
use Rattle.openapi_security.proofs.security_scheme.SecuritySchemeFromNode.from_view.Goals as goal

pub returns-in_default : goal.returns-in_default
returns-in_default c =
    wrong_view c.new.result words.Object security_scheme (shown c.args.view.now) _ c.new.ensures.place
    c.new.ensures.cause (not_tagged (codes "type") scheme_cases c.args.view.now c.in_default.not-Object)

pub returns-in-Err-clause-count : goal.returns-in-Err-clause-count
returns-in-Err-clause-count c =
    rw c.in-Object.is ((
      omega (arith, c.tag.ensures.count.0),
      omega (
        arith,
        c.tag.ensures.count.1,
        tag_weight (codes "type") (kinds.one_of scheme_types) (members_of c.in-Object.members.now),
      ),
    ))

pub returns-in-Ok-ApiKey : goal.returns-in-Ok-ApiKey
returns-in-Ok-ApiKey c =
    rw c.in-Object.is (tagged_read (codes "type") scheme_cases (codes "apiKey") (members_of c.in-Object.members.now)
    (c.in-Ok-ApiKey.ensures.reads ∙ ap (λ t. text (scheme_type_word t)) c.in-Ok-ApiKey.field-0-is) refl security_scheme_word
    security_scheme_rows (kinds.one_of scheme_types) c.api_key.result security_scheme_sound c.tag.ensures.count c.api_key.ensures)

pub returns-in-Ok-Http : goal.returns-in-Ok-Http
returns-in-Ok-Http c =
    rw c.in-Object.is (tagged_read (codes "type") scheme_cases (codes "http") (members_of c.in-Object.members.now)
    (c.in-Ok-Http.ensures.reads ∙ ap (λ t. text (scheme_type_word t)) c.in-Ok-Http.field-0-is) refl security_scheme_word
    security_scheme_rows (kinds.one_of scheme_types) c.http.result security_scheme_sound c.tag.ensures.count c.http.ensures)

pub returns-in-Ok-OAuth2 : goal.returns-in-Ok-OAuth2
returns-in-Ok-OAuth2 c =
    rw c.in-Object.is (tagged_read (codes "type") scheme_cases (codes "oauth2") (members_of c.in-Object.members.now)
    (c.in-Ok-OAuth2.ensures.reads ∙ ap (λ t. text (scheme_type_word t)) c.in-Ok-OAuth2.field-0-is) refl security_scheme_word
    security_scheme_rows (kinds.one_of scheme_types) c.oauth2.result security_scheme_sound c.tag.ensures.count c.oauth2.ensures)

pub returns-in-Ok-OpenIdConnect : goal.returns-in-Ok-OpenIdConnect
returns-in-Ok-OpenIdConnect c =
    rw c.in-Object.is (tagged_read (codes "type") scheme_cases (codes "openIdConnect") (members_of c.in-Object.members.now)
    (c.in-Ok-OpenIdConnect.ensures.reads ∙ ap (λ t. text (scheme_type_word t)) c.in-Ok-OpenIdConnect.field-0-is) refl security_scheme_word
    security_scheme_rows (kinds.one_of scheme_types) c.open_id_connect.result security_scheme_sound c.tag.ensures.count c.open_id_connect.ensures)

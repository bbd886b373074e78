-- The forms of security schemes and security requirements.
use Rattle.std.specs.Prelude.{◌≡◌, ℕ, true, List, [], ◌∷◌, String, codes}
use Rattle.std.proofs.Common.{refl}
use Rattle.std.specs.Global.{Vec}
use Rattle.std.specs.declared.alloc.Global.{Global}
use Rattle.openapi_map.specs.Entries.{Entries}
use Rattle.openapi_tables.specs.Kind.{Case, http_scheme, api_key_scheme, oauth2_scheme, open_id_connect_scheme}
use Rattle.openapi_tables.specs.Rows.{case}
use Rattle.openapi_tables.specs.Members.{is_case}
use Rattle.openapi_tables.specs.Form.{Form}
use Rattle.openapi_tables.specs.Slots.{Slot}
use Rattle.openapi_values.specs.Words.{word_form, api_key_location_word}
use Rattle.openapi_fields.specs.Forms.{text_form, optional_form, list_form, map_form, extensions_form, record_form}
use Rattle.openapi_fields.specs.Forms.{tagged_form, tagged_slots}
use Rattle.openapi_security.specs.Flows.{oauth2_flows_rows}
use Rattle.openapi_security.specs.declared.security_scheme.SchemeType.{SchemeType}
use Rattle.openapi_security.specs.declared.security_scheme.SchemeType.TheVariants as types
use Rattle.openapi_security.specs.declared.security_scheme.SecurityScheme.{SecurityScheme}
use Rattle.openapi_security.specs.declared.security_scheme.SecurityScheme.TheVariants as schemes

-- the texts of `type` of security schemes, each with its field table
abbrev pub scheme_cases : List Case
scheme_cases =
    case "apiKey" api_key_scheme
    ∷ case "http" http_scheme
    ∷ case "oauth2" oauth2_scheme
    ∷ case "openIdConnect" open_id_connect_scheme
    ∷ []

-- the texts of all types
abbrev pub scheme_types : List (List ℕ)
scheme_types = codes "apiKey" ∷ codes "http" ∷ codes "oauth2" ∷ codes "openIdConnect" ∷ []

-- the text of a type
abbrev pub scheme_type_word : SchemeType → List ℕ
scheme_type_word types.ApiKey = codes "apiKey"
scheme_type_word types.Http = codes "http"
scheme_type_word types.OAuth2 = codes "oauth2"
scheme_type_word types.OpenIdConnect = codes "openIdConnect"

-- the text of `type` of a security scheme
abbrev pub security_scheme_word : SecurityScheme → List ℕ
security_scheme_word (schemes.APIKey l n d e) = codes "apiKey"
security_scheme_word (schemes.HTTP s b d e) = codes "http"
security_scheme_word (schemes.OAuth2 f d e) = codes "oauth2"
security_scheme_word (schemes.OpenIDConnect u d e) = codes "openIdConnect"

-- the forms of its fields, in the order of its field table
abbrev pub security_scheme_rows : SecurityScheme → List Form
security_scheme_rows (schemes.APIKey l n d e) =
    word_form api_key_location_word l ∷ text_form n ∷ optional_form text_form d ∷ extensions_form e ∷ []
security_scheme_rows (schemes.HTTP s b d e) =
    text_form s ∷ optional_form text_form b ∷ optional_form text_form d ∷ extensions_form e ∷ []
security_scheme_rows (schemes.OAuth2 f d e) =
    record_form oauth2_flows_rows f ∷ optional_form text_form d ∷ extensions_form e ∷ []
security_scheme_rows (schemes.OpenIDConnect u d e) =
    text_form u ∷ optional_form text_form d ∷ extensions_form e ∷ []

-- Security Scheme Object
abbrev pub security_scheme_form : SecurityScheme → Form
security_scheme_form = tagged_form security_scheme_word security_scheme_rows

abbrev pub security_scheme_slots : SecurityScheme → List Slot
security_scheme_slots = tagged_slots (codes "type") scheme_cases security_scheme_word security_scheme_rows

-- the text of `type` of a security scheme is one of those in `scheme_cases`
pub security_scheme_known : (x : SecurityScheme) → is_case scheme_cases (security_scheme_word x) ≡ true
security_scheme_known (schemes.APIKey l n d e) = refl
security_scheme_known (schemes.HTTP s b d e) = refl
security_scheme_known (schemes.OAuth2 f d e) = refl
security_scheme_known (schemes.OpenIDConnect u d e) = refl

-- Security Requirement Object
abbrev pub security_requirement_form : Entries (Vec (String Global)) → Form
security_requirement_form = map_form (list_form text_form)

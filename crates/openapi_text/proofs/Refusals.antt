-- An error for any cause but a failed allocation means that the value does not conform.
use Rattle.std.proofs.Common.{◌≡◌, ◌≢◌, false, refl}
use Rattle.openapi_node.specs.Tree.{Tree}
use Rattle.openapi_node.specs.declared.fault.Cause.{Cause}
use Rattle.openapi_node.specs.declared.fault.Cause.TheVariants.{Missing, MissingEither, WrongKind, NotAllowed}
use Rattle.openapi_node.specs.declared.fault.Cause.TheVariants.{UnknownVariant, NameNotWritable, NotWhole, Memory}
use Rattle.openapi_tables.specs.Prelude.{Kind, final_tables, conforms}
use Rattle.openapi_fields.specs.Returned.{RefusesBy}

pub not_conforming : (k : Kind) (t : Tree) (c : Cause) → c ≢ Memory → RefusesBy c k t
    → conforms final_tables k t ≡ false
not_conforming k t (Missing n) other refuses = refuses
not_conforming k t (MissingEither n m) other refuses = refuses
not_conforming k t (WrongKind e) other refuses = refuses
not_conforming k t NotAllowed other refuses = refuses
not_conforming k t UnknownVariant other refuses = refuses
not_conforming k t NameNotWritable other refuses = refuses
not_conforming k t NotWhole other refuses = refuses
not_conforming k t Memory other refuses = absurd (other refl)

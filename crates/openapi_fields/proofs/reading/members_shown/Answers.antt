use Rattle.std.proofs.Common.{refl}
use Rattle.openapi_fields.proofs.EntryReading.{no_members}
use Rattle.openapi_fields.proofs.reading.members_shown.Goals as goal

pub returns-in-Object : goal.returns-in-Object
returns-in-Object c = rw c.in-Object.is refl

pub returns-in_default : goal.returns-in_default
returns-in_default c = λ k t.
    no_members c.new.result c.args.view.now c.in_default.not-Object c.new.ensures.place c.new.ensures.cause k t

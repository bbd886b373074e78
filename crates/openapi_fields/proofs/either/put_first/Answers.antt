use Rattle.std.proofs.Common.{cond, ap, ◌||◌}
use Rattle.openapi_tables.specs.Lists.{same_text}
use Rattle.openapi_tables.proofs.ListLaws.{same_text-refl}
use Rattle.openapi_fields.proofs.Deciding.{decided_new, decided_put, decided_loses}
use Rattle.openapi_fields.proofs.either.put_first.Goals as goal

pub put_value-requires : goal.put_value-requires
put_value-requires g c =
    decided_new (g.R.HasSlots.slots_of c.args.owner.now) c.args.first.now g.A.FromNode.kind c.args.second.now
    g.B.FromNode.kind c.args.first.now (g.A.FromNode.form_of c.args.value.now) c.requires.slot c.args.out.now
    c.requires.before
    (ap (λ b. b || same_text c.args.second.now c.args.first.now) (same_text-refl c.args.first.now))
    (g.R.HasSlots.apart c.args.owner.now)

pub returns-clause-ok : goal.returns-clause-ok
returns-clause-ok g c =
    decided_put (g.R.HasSlots.slots_of c.args.owner.now) c.args.first.now g.A.FromNode.kind c.args.second.now
    g.B.FromNode.kind c.args.first.now (g.A.FromNode.form_of c.args.value.now) c.requires.slot c.args.out.now
    c.requires.before
    (ap (λ b. b || same_text c.args.second.now c.args.first.now) (same_text-refl c.args.first.now)) g.A.FromNode.kind
    (ap (λ b. cond b g.A.FromNode.kind g.B.FromNode.kind) (same_text-refl c.args.first.now))
    c.put_value.result c.put_value.new.out c.put_value.ensures.ok c.put_value.ensures.whole

pub returns-clause-err : goal.returns-clause-err
returns-clause-err g c =
    decided_loses (g.R.HasSlots.slots_of c.args.owner.now) c.args.first.now g.A.FromNode.kind c.args.second.now
    g.B.FromNode.kind c.args.first.now (g.A.FromNode.form_of c.args.value.now) c.requires.slot c.args.out.now
    c.requires.before
    (ap (λ b. b || same_text c.args.second.now c.args.first.now) (same_text-refl c.args.first.now)) g.A.FromNode.kind
    (ap (λ b. cond b g.A.FromNode.kind g.B.FromNode.kind) (same_text-refl c.args.first.now))
    c.put_value.result c.put_value.ensures.err

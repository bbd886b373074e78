use Rattle.std.proofs.Common.{cond, ap, ◌||◌}
use Rattle.openapi_tables.proofs.ListLaws.{same_text-refl}
use Rattle.openapi_fields.proofs.Deciding.{decided_new, decided_put, decided_loses}
use Rattle.openapi_fields.proofs.either.put_second.Goals as goal

pub put_value-requires : goal.put_value-requires
put_value-requires g c =
    decided_new (g.R.HasSlots.slots_of c.args.owner.now) c.args.first.now g.A.FromNode.kind c.args.second.now
    g.B.FromNode.kind c.args.second.now (g.B.FromNode.form_of c.args.value.now) c.requires.slot c.args.out.now
    c.requires.before
    (λ i. c.requires.apart i || same_text-refl c.args.second.now i)
    (g.R.HasSlots.apart c.args.owner.now)

pub returns-clause-ok : goal.returns-clause-ok
returns-clause-ok g c =
    decided_put (g.R.HasSlots.slots_of c.args.owner.now) c.args.first.now g.A.FromNode.kind c.args.second.now
    g.B.FromNode.kind c.args.second.now (g.B.FromNode.form_of c.args.value.now) c.requires.slot c.args.out.now
    c.requires.before
    (λ i. c.requires.apart i || same_text-refl c.args.second.now i) g.B.FromNode.kind
    (ap (λ b. cond b g.A.FromNode.kind g.B.FromNode.kind) c.requires.apart)
    c.put_value.result c.put_value.new.out c.put_value.ensures.ok c.put_value.ensures.whole

pub returns-clause-err : goal.returns-clause-err
returns-clause-err g c =
    decided_loses (g.R.HasSlots.slots_of c.args.owner.now) c.args.first.now g.A.FromNode.kind c.args.second.now
    g.B.FromNode.kind c.args.second.now (g.B.FromNode.form_of c.args.value.now) c.requires.slot c.args.out.now
    c.requires.before
    (λ i. c.requires.apart i || same_text-refl c.args.second.now i) g.B.FromNode.kind
    (ap (λ b. cond b g.A.FromNode.kind g.B.FromNode.kind) c.requires.apart)
    c.put_value.result c.put_value.ensures.err

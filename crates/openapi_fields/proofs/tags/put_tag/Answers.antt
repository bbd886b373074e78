use Rattle.openapi_fields.proofs.Tagging.{tag_new, tag_put}
use Rattle.openapi_fields.proofs.tags.put_tag.Goals as goal

pub put-requires : goal.put-requires
put-requires g c =
    let x = c.args.owner.now in
    tag_new (g.R.HasSlots.slots_of x) c.args.name.now c.args.word.now c.requires.slot c.args.out.now c.requires.before
    (g.R.HasSlots.apart x)

pub returns-in-Ok-clause-ok : goal.returns-in-Ok-clause-ok
returns-in-Ok-clause-ok g c =
    tag_put (g.R.HasSlots.slots_of c.args.owner.now) c.args.name.now c.args.word.now c.requires.slot c.args.out.now
    c.requires.before c.put.result c.put.new.out c.in-Ok.text c.in-Ok.ensures.ok c.put.ensures.ok

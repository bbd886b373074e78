use Rattle.std.proofs.Common.{ap, ◌++◌, ◌∙◌}
use Rattle.openapi_map.specs.Entries.{get}
use Rattle.openapi_fields.specs.Entries.{written_entries}
use Rattle.openapi_fields.proofs.Mapped.{map_written, map_loses}
use Rattle.openapi_fields.proofs.maps.write_map.Goals as goal

pub put_entries-requires : goal.put_entries-requires
put_entries-requires g c = λ n h. ap (get n) c.in-Ok.ensures

pub returns-in-Ok-put_entries : goal.returns-in-Ok-put_entries
returns-in-Ok-put_entries g c =
    map_written g.T.FromNode.form_of g.T.FromNode.kind c.args.values.now c.put_entries.new.out c.object.result
    (c.in-Ok-put_entries.ensures.ok ∙ ap (λ l. l ++ written_entries g.T.FromNode.form_of g.T.FromNode.kind c.args.values.now)
    c.in-Ok.ensures)
    c.in-Ok-put_entries.ensures.whole c.object.ensures

pub returns-in-Err : goal.returns-in-Err
returns-in-Err g c =
    map_loses g.T.FromNode.form_of g.T.FromNode.kind c.args.values.now c.in-Err.fault c.in-Err.ensures.err

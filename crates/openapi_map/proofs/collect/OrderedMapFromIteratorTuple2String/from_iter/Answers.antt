use Rattle.std.proofs.Common.{map, ap, ◌∙◌}
use Rattle.openapi_map.specs.Entries.{insert_all, owned_entry}
use Rattle.openapi_map.proofs.collect.OrderedMapFromIteratorTuple2String.from_iter.Goals as goal

pub returns : goal.returns
returns g c =
    let r = c.in_ok-extend.ensures.ran in
    record {
      ran = (
        r.0,
        r.1,
        r.2,
        (r.4.1.0, r.4.1.1, λ _. (r.4.0, r.4.1.2)),
        r.3 ∙ ap (λ es. insert_all es (map owned_entry r.1)) c.new-map.ensures,
      );
    }

use Rattle.std.proofs.Common.{◌*◌, arith}
use Rattle.openapi_map.specs.Former.{length-names_of}
use Rattle.openapi_map.proofs.IndexLemmas.{IsIndex-none}
use Rattle.openapi_map.proofs.index.NameIndex.of_names.Goals as goal

pub link_all-requires-clause-none : goal.link_all-requires-clause-none
link_all-requires-clause-none c =
    let heads = c.in_ok-vec.field-0 in
    let next = c.in_ok-with_capacity.field-0 in
    IsIndex-none heads next (2 * c.len-buckets.result) (c.in_ok-vec.ensures.items_if_clones_equal (λ y e. e))
    c.in_ok-vec.ensures.len (omega (arith, c.requires, c.len-buckets.ensures)) c.in_ok-with_capacity.ensures.len

pub returns-clause-room : goal.returns-clause-room
returns-clause-room c =
    omega (
      arith,
      c.requires,
      c.link_all.ensures.is.len,
      c.link_all.ensures.capacity,
      length-names_of c.args.names.now.items,
      c.in_ok-with_capacity.ensures.exact,
      c.len-buckets.ensures,
      c.args.names.now.ok.0,
    )

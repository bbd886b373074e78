use Rattle.std.proofs.Common.{ap, arith}
use Rattle.openapi_node.specs.View.{shown}
use Rattle.openapi_node.specs.declared.fault.Expected.TheVariants as words
use Rattle.openapi_tables.specs.Kind.{map_of}
use Rattle.openapi_fields.specs.Entries.{entries_size}
use Rattle.openapi_fields.proofs.Below.{wrong_view, not_map}
use Rattle.openapi_fields.proofs.Mapped.{map_gives, all_chosen, all_size}
use Rattle.openapi_fields.proofs.maps.OrderedMapFromNode.from_view.Goals as goal

pub returns-in-Object-clause-reads : goal.returns-in-Object-clause-reads
returns-in-Object-clause-reads g c =
    rw c.in-Object.is (map_gives g.T.FromNode.form_of g.T.FromNode.kind c.read_entries.result c.in-Object.members.now
    c.read_entries.ensures.reads)

pub returns-in-Object-clause-count : goal.returns-in-Object-clause-count
returns-in-Object-clause-count g c =
    let ms = c.in-Object.members.now in
    rw c.in-Object.is ((omega (arith, c.read_entries.ensures.count.0), omega (arith, c.read_entries.ensures.count.1, ap entries_size (all_chosen ms), all_size ms)))

pub returns-in_default : goal.returns-in_default
returns-in_default g c =
    wrong_view c.new.result words.Object (map_of g.T.FromNode.kind) (shown c.args.view.now) _ c.new.ensures.place
    c.new.ensures.cause (not_map g.T.FromNode.kind c.args.view.now c.in_default.not-Object)

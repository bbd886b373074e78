use Rattle.std.proofs.Common.{◌≡◌, take, vec_capacity}
use Rattle.openapi_map.specs.Entries.{names_of}
use Rattle.openapi_map.specs.Index.{IsIndex}
use Rattle.openapi_map.proofs.index.NameIndex.link_all.Given as goal

abbrev pub invariant-loop-name : goal.invariant-loop-name
invariant-loop-name l = record {
  is : IsIndex (take l.name-index (names_of l.names.items)) l.self;
  room : vec_capacity l.self.next ≡ vec_capacity l.fn.self.next;
}

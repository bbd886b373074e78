use Rattle.std.proofs.Common.{ℕ, List, ◌≤◌, length, vec_len, arith}
use Rattle.openapi_map.specs.Former.{length-names_of}
use Rattle.openapi_map.specs.Index.{HasRoomFor, IsIndexAt}
use Rattle.openapi_map.specs.declared.lookup.Finder.{Finder}
use Rattle.openapi_map.specs.declared.lookup.Finder.TheVariants.{Few, Many}
use Rattle.openapi_map.proofs.Held.retain.Goals as goal

-- there is capacity for as many links as there are names
room : (names : List (List ℕ)) (found : Finder) (n : ℕ) → n ≤ length names → IsIndexAt names found → HasRoomFor n found
room names (Few marks) n le is = tt
room names (Many b) n le is = (is.some_bucket, omega (arith, le, is.len, b.value.next.ok.0))

pub find_again-requires : goal.find_again-requires
find_again-requires g c =
    let names = c.args.self.now.names in
    room _ c.args.self.now.finder (vec_len c.retain_columns.new.names)
    (omega (arith, length-names_of names.items, c.retain_columns.ensures.len, names.ok.0)) c.requires.consistent.index

use Rattle.std.proofs.Common.{◌≡◌, ◌||◌, ℕ, List, drop, is_some, map}
use Rattle.std.specs.List.{list_any}
use Rattle.std.specs.Str.{bytes_eq}
use Rattle.openapi_map.specs.Entries.{get}
use Rattle.openapi_node.specs.Fault.{step_of}
use Rattle.openapi_findings.specs.Numbers.{key_text}
use Rattle.openapi_findings.proofs.places.keys_of.Given as goal

-- the names so far, and the keys of the locations that are left, are those of all
abbrev pub invariant-loop-index : goal.invariant-loop-index
invariant-loop-index l =
    (b : List ℕ)
    → (is_some (get b l.keys) || list_any (λ p. bytes_eq b (key_text p)) (map (λ p. map step_of p.now) (drop l.index l.places)))
    ≡ list_any (λ p. bytes_eq b (key_text p)) (map (λ p. map step_of p.now) l.places)

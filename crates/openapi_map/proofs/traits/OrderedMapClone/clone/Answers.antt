use Rattle.std.proofs.Common.{subst}
use Rattle.openapi_map.specs.Entries.{IsCloneOf}
use Rattle.openapi_map.specs.Held.{kept}
use Rattle.openapi_map.proofs.CloneLemmas.{kept-clone}
use Rattle.openapi_map.proofs.traits.OrderedMapClone.clone.Goals as goal

pub invariant_of-result : goal.invariant_of-result
invariant_of-result g c =
    (kept-clone g.V.Clone.is_clone c.self.inside.held c.in_ok-clone.field-0 c.in_ok-clone.ensures.cases c.self.invariant).0

pub returns : goal.returns
returns g c =
    let cloned = c.in_ok-clone.field-0 in
    let C = g.V.Clone.is_clone in
    record {
      cases = subst (λ es. IsCloneOf C es (kept cloned)) c.self.view_is
          (kept-clone C c.self.inside.held cloned c.in_ok-clone.ensures.cases c.self.invariant).1;
    }

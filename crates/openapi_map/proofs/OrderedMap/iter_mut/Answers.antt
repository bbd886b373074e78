use Rattle.std.proofs.Common.{length, refl, ap, subst, ◌∙◌, arith}
use Rattle.indexmap.specs.Layout.{set_values}
use Rattle.openapi_map.specs.Entries.{HasDistinctNames}
use Rattle.openapi_map.proofs.HeldLemmas.{kept-written, consistent-written, distinct-written, small-kept}
use Rattle.openapi_map.proofs.IterLemmas.{lends_values_in_order}
use Rattle.openapi_map.proofs.ZipLemmas.{keys_of-set_values, length-set_values}
use Rattle.openapi_map.proofs.OrderedMap.iter_mut.Goals as goal

pub invariant_of-self-lent : goal.invariant_of-self-lent
invariant_of-self-lent g c w =
    let o = c.self.inside.held in
    (distinct-written o c.self.invariant.1 c.self.invariant.0 w, consistent-written o c.self.invariant.1 w)

pub returns : goal.returns
returns g c =
    let o = c.self.inside.held in
    let consistent = c.self.invariant.1 in
    let rest = c.lend_entries.ensures.rest ∙ c.self.view_is in (
      (refl, λ w. kept-written o consistent w ∙ ap (λ m. set_values m w) c.self.view_is),
      record {
        writes_back = tt;
        keeps = (keys_of-set_values c.args.self.now, length-set_values c.args.self.now);
        ready = c.lend_entries.ensures.ready;
        rest = rest;
        len = ap length rest;
        values_run = lends_values_in_order _;
        distinct = subst HasDistinctNames c.self.view_is c.self.invariant.0;
        fits = omega (arith, small-kept o consistent, ap length c.self.view_is);
      },
    )

use Rattle.std.proofs.Common.{length, sym, ap, subst, ◌∙◌, arith}
use Rattle.std.proofs.iter.runs.Sources.{from_front}
use Rattle.std.specs.Map.{values_of}
use Rattle.indexmap.specs.Layout.{set_values}
use Rattle.openapi_map.specs.Entries.{HasDistinctNames}
use Rattle.openapi_map.specs.IterMut.{values_mut_rest, values_mut_steps}
use Rattle.openapi_map.proofs.HeldLemmas.{kept-written, consistent-written, distinct-written, small-kept}
use Rattle.openapi_map.proofs.ZipLemmas.{keys_of-set_values, length-set_values, length-values_of}
use Rattle.openapi_map.proofs.OrderedMap.values_mut.Goals as goal

pub invariant_of-self-lent : goal.invariant_of-self-lent
invariant_of-self-lent g c w =
    let o = c.self.inside.held in
    (distinct-written o c.self.invariant.1 c.self.invariant.0 w, consistent-written o c.self.invariant.1 w)

pub returns : goal.returns
returns g c =
    let o = c.self.inside.held in
    let consistent = c.self.invariant.1 in
    let rest = c.iter_mut.ensures.rest ∙ c.lend_values.ensures.values ∙ ap values_of c.self.view_is in (
      (
        sym c.iter_mut.ensures.iter_mut_name,
        λ w. kept-written o consistent w ∙ ap (λ m. set_values m w) c.self.view_is,
      ),
      record {
        writes_back = tt;
        keeps = (keys_of-set_values c.args.self.now, length-set_values c.args.self.now);
        rest = rest;
        len = ap length rest ∙ length-values_of c.args.self.now;
        runs = from_front values_mut_steps (λ y. y.now) values_mut_rest (λ s t h. h.0) (λ s x t h. h);
        distinct = subst HasDistinctNames c.self.view_is c.self.invariant.0;
        fits = omega (arith, small-kept o consistent, ap length c.self.view_is);
      },
    )

use Rattle.std.proofs.Common.{length, ap, subst, ◌∙◌, arith}
use Rattle.openapi_map.specs.Entries.{entries_of, owned_entry, HasDistinctNames}
use Rattle.openapi_map.proofs.HeldLemmas.{small-kept}
use Rattle.openapi_map.proofs.IterLemmas.{shows_in_order, shows_values_in_order}
use Rattle.openapi_map.proofs.iter.OrderedMapIntoIterator.into_iter.Goals as goal

pub returns : goal.returns
returns g c =
    record {
      into_iter_gives = (
        (λ j. entries_of (c.into_iter.ensures.rest j) (c.into_iter-2.ensures.rest j))
            ∙ c.into_columns-names.ensures.entries ∙ c.self.view_is,
        omega (arith, ap length c.self.view_is, small-kept c.self.inside.held c.self.invariant.1),
        subst HasDistinctNames c.self.view_is c.self.invariant.0,
        shows_in_order owned_entry,
        shows_values_in_order owned_entry,
      );
    }

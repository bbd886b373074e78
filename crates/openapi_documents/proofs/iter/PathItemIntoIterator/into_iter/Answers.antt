use Rattle.std.proofs.Common.{refl}
use Rattle.openapi_map.proofs.IterLemmas.{shows_in_order, shows_values_in_order}
use Rattle.openapi_documents.specs.Present.{owned_method}
use Rattle.openapi_documents.proofs.PresentForms.{present_forms}
use Rattle.openapi_documents.proofs.iter.PathItemIntoIterator.into_iter.Goals as goal

pub returns : goal.returns
returns c =
    record {
      into_iter_gives = (
        refl,
        present_forms c.args.self,
        shows_in_order owned_method,
        shows_values_in_order owned_method,
      );
    }

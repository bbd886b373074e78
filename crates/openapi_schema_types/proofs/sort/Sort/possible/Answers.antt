use Rattle.std.proofs.Common.{ap, sym, ◌∙◌}
use Rattle.openapi_tables.specs.Members.{possible_sort}
use Rattle.openapi_schema_types.specs.Masks.{first_of_four}
use Rattle.openapi_schema_types.proofs.sort.Sort.possible.Goals as goal

pub returns-in-None : goal.returns-in-None
unfolding first_of_four
returns-in-None c = λ es h n. c.of_names.ensures es h ∙ ap (λ t. possible_sort t es) (sym (rw c.in-None.is at n))

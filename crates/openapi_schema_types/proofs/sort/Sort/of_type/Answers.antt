use Rattle.std.proofs.Common.{ap, sym, ◌∙◌}
use Rattle.openapi_tables.specs.Members.{named_sort}
use Rattle.openapi_schema_types.proofs.SortByNames.{named_sort-other}
use Rattle.openapi_schema_types.proofs.sort.Sort.of_type.Goals as goal

pub returns-in-Some : goal.returns-in-Some
returns-in-Some c = c.of_name.ensures ∙ ap named_sort (rw c.in-Some.is at c.from_word.ensures.value)

pub returns-in-None : goal.returns-in-None
returns-in-None c = sym (named_sort-other c.args.typ.now (sym (rw c.in-None.is at c.from_word.ensures.found)))

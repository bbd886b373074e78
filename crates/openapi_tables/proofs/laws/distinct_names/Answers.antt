use Rattle.openapi_tables.proofs.DistinctReads.{reads_distinct}
use Rattle.openapi_tables.proofs.DistinctWrites.{writes_named}
use Rattle.openapi_tables.proofs.laws.distinct_names.Goals as goal

pub returns : goal.returns
returns c T k = ((λ t h. reads_distinct T t k h), (λ f W s h d. writes_named T W f k s h d))

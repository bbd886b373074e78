use Rattle.openapi_tables.proofs.again.Cleaned.{cleaned_thrice, cleaned_same}
use Rattle.openapi_tables.proofs.laws.canonical.Goals as goal

pub returns : goal.returns
returns c T k W s = ((λ t h. cleaned_thrice T W k t s h), (λ t u h g. cleaned_same T W k t u s h g))

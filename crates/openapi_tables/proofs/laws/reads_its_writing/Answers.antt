use Rattle.openapi_tables.proofs.again.Cleaned.{proper_again}
use Rattle.openapi_tables.proofs.Size.{small}
use Rattle.openapi_tables.proofs.Writes.{writes_all}
use Rattle.openapi_tables.proofs.AllReadProper.{read_proper}
use Rattle.openapi_tables.proofs.laws.reads_its_writing.Goals as goal

pub returns : goal.returns
returns c T k W s = (
  (λ f h. (writes_all T W f k s h, proper_again T W k f s h)),
  (λ t h. read_proper T W t k s h),
  (λ x t h. small T W x t k s h),
)

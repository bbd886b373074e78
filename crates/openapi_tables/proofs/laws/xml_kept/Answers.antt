use Rattle.openapi_tables.proofs.TablesKept.{xml_kept}
use Rattle.openapi_tables.proofs.laws.xml_kept.Goals as goal

pub returns : goal.returns
returns c k t = xml_kept k t

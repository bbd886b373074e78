use Rattle.std.proofs.Common.{sym, ap}
use Rattle.openapi_tables.specs.Prelude.{print, form, final_tables}
use Rattle.openapi_tables.proofs.AllReadProper.{read_proper}
use Rattle.openapi_tables.proofs.FaultFound.{faults}
use Rattle.openapi_tables.proofs.Size.{small}
use Rattle.openapi_tables.proofs.WellMade.{final_small, final_sound}
use Rattle.openapi_tables.proofs.Writes.{writes_all}
use Rattle.openapi_documents.specs.Headline.{document}
use Rattle.openapi_documents.proofs.Documents.{can_be_written, document_sound, is_first, is_settled}
use Rattle.openapi_documents.proofs.laws.headline.Goals as goal

pub returns : goal.returns
returns c =
    record {
      refused = λ t.
          let both = faults final_tables document t final_sound document_sound in
          (both.1, (λ h. both.0 h.0 h.1 h.2 h.3));
      cleaned = λ t x r. (can_be_written t x r, ap (print final_tables document) (sym r.1));
      read_again = λ t h. (
        writes_all final_tables final_sound (form final_tables document t) document document_sound
            (read_proper final_tables final_sound t document document_sound h),
        small final_tables final_sound final_small t document document_sound h,
      );
      settled = is_settled;
      first = is_first;
    }

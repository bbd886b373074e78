use Rattle.std.proofs.Common.{inl, map}
use Rattle.std.proofs.lemmas.List.Sorted.{All-permutation}
use Rattle.openapi_json.specs.Zeros.{replaced_of}
use Rattle.openapi_findings.specs.Findings.{IsPlaced}
use Rattle.openapi_findings.proofs.Placing.{all_found, if_ok_both}
use Rattle.openapi_findings.proofs.check.of_document.Goals as goal

pub returns : goal.returns
returns c =
    let stated = c.in_ok-reports.ensures c.requires.value c.requires.reads in
    let fs = c.in_ok-findings.findings.items in
    if_ok_both c.sorted.result
    (λ v p o. record {
      stated = inl (record {
        tree = c.args.read.now.node;
        numbers = map replaced_of c.args.read.now.numbers.items;
        reads = c.requires;
        all = all_found _ c.in_ok-reports.reports.items fs v.items stated c.in_ok-findings.ensures.finds p;
      });
      placed = All-permutation (IsPlaced c.args.bytes.now) fs v.items p c.in_ok-findings.ensures.placed;
      in_order = o;
    })
    c.sorted.ensures.permutation c.sorted.ensures.order

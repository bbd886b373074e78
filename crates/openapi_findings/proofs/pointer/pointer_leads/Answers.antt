use Rattle.std.proofs.Common.{lit<, rules}
use Rattle.openapi_findings.proofs.Leading.{leads_end, leads_nowhere, leads_step}
use Rattle.openapi_findings.proofs.pointer.pointer_leads.Goals as goal

pub returns-in_default-2 : goal.returns-in_default-2
returns-in_default-2 c =
    let split = c.in-Some.ensures.byte (lit< tt) (λ w o h. h) in
    leads_nowhere c.args.pointer.now c.loop-token.left.now c.in-Some.token.now c.in-Some.rest.now c.args.document.now c.loop-token.at.now _
    c.loop-token.invariant.leads split.0 split.1 split.2 c.in_ok-value.ensures c.in_default-2.is

pub loop-token-preserved : goal.loop-token-preserved
loop-token-preserved c =
    let split = c.in-Some.ensures.byte (lit< tt) (λ w o h. h) in
    record {
      utf8 = search rules;
      leads = leads_step c.args.pointer.now c.loop-token.left.now c.in-Some.token.now c.in-Some.rest.now c.args.document.now c.loop-token.at.now
          c.in-Some-2.value.now _ c.in-Some-2.value c.loop-token.invariant.leads split.0 split.1 split.2 c.in_ok-value.ensures
          c.in-Some-2.is;
    }

pub returns : goal.returns
returns c =
    leads_end c.args.pointer.now c.loop-token.left.now c.args.document.now c.loop-token.at.now _ _ c.loop-token.invariant.leads
    (c.in_default.ensures.byte (lit< tt) (λ w o h. h)) c.in_ok-value_below.ensures c.is_some.ensures

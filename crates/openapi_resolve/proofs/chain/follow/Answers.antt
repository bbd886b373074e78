use Rattle.std.proofs.Common.{◌+◌, ap, arith, rules}
use Rattle.openapi_resolve.proofs.Chains.{begins, ends_at, ends_nowhere, goes_on, stops}
use Rattle.openapi_resolve.proofs.chain.follow.Goals as goal

pub steps-init : goal.steps-init
steps-init g c =
    record {
      utf8 = c.utf8.reference;
      same = begins c.args.section.now c.args.components.now c.args.reference.now _ (ap (λ n. n + 1) c.len-left.ensures.len);
    }

pub returns-in-None-clause-missing : goal.returns-in-None-clause-missing
returns-in-None-clause-missing g c e =
    ends_nowhere c.args.section.now c.args.components.now c.args.reference.now c.steps.at.now c.steps.left c.in_ok-target.field-0
    c.steps-test.true c.steps.invariant.same c.in_ok-target.ensures c.in-None.is

pub returns-in-Some-Item-clause-found : goal.returns-in-Some-Item-clause-found
returns-in-Some-Item-clause-found g c =
    ends_at c.args.section.now c.args.components.now c.args.reference.now c.steps.at.now c.steps.left c.in_ok-target.field-0
    c.in-Some-Item.field-0 c.in-Some-Item.item c.steps-test.true c.steps.invariant.same c.in_ok-target.ensures c.in-Some-Item.is
    c.in-Some-Item.field-0-is

pub steps-preserved : goal.steps-preserved
steps-preserved g c =
    record {
      utf8 = search rules;
      same = goes_on c.args.section.now c.args.components.now c.args.reference.now c.steps.at.now c.steps.left c.in_ok-target.field-0
          c.in-Some-Reference.field-0 c.in-Some-Reference.reference c.as_str-at.result.now c.steps-test.true c.steps.invariant.same
          c.in_ok-target.ensures c.in-Some-Reference.is c.in-Some-Reference.field-0-is c.as_str-at.ensures.value;
    }

pub returns-clause-missing : goal.returns-clause-missing
returns-clause-missing g c e =
    stops c.args.section.now c.args.components.now c.args.reference.now c.steps.at.now c.steps.left c.steps.invariant.same
    (omega (arith, c.steps-test.false))

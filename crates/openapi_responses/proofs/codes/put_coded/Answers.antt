use Rattle.std.proofs.Common.{◌++◌, ◌∙◌, map, ap, sym}
use Rattle.std.specs.Map.Iter.{deref_pair}
use Rattle.std.proofs.lemmas.Map.Iter.{iter_end}
use Rattle.openapi_responses.proofs.CodeWriting.{members, all_kept, next_split, next_absent, next_members, next_kept}
use Rattle.openapi_responses.proofs.CodeWriting.{codes_put, code_loses}
use Rattle.openapi_responses.proofs.codes.put_coded.Goals as goal

pub put_code-requires : goal.put_code-requires
put_code-requires g c =
    let owner = c.args.owner.now in
    let all = c.args.values.now.entries in
    let given = c.into_iter-code-iterator.ensures.into_iter_gives in
    let split = next_split all c.loop-code.yielded c.into_iter-code-iterator.result c.loop-code.code-iterator
    c.next.new.self c.next.result (c.in-Some.code, c.in-Some.value) given.0 c.loop-code.yielded_by c.in-Some.is
    c.next.ensures.steps in
    next_absent g.T.FromNode.form_of g.T.FromNode.kind (g.R.HasSlots.slots_of owner) all c.requires.slot
    c.args.out.now c.requires.before (g.R.HasSlots.apart owner) given.4 (map deref_pair c.loop-code.yielded)
    c.next.new.self c.in-Some.code.now c.in-Some.value.now split c.loop-code.out c.loop-code.invariant.written
    c.loop-code.invariant.kept

pub loop-code-preserved : goal.loop-code-preserved
loop-code-preserved g c = record {
  written = next_members g.T.FromNode.form_of g.T.FromNode.kind c.loop-code.yielded c.in-Some.code c.in-Some.value
      c.args.out.now c.loop-code.out c.put_code.new.out c.loop-code.invariant.written c.in-Ok.ensures.ok;
  kept = next_kept g.T.FromNode.form_of g.T.FromNode.kind c.loop-code.yielded c.in-Some.code c.in-Some.value
      c.loop-code.invariant.kept c.in-Ok.ensures.writable c.in-Ok.ensures.whole;
}

pub returns-in-Err-clause-err : goal.returns-in-Err-clause-err
returns-in-Err-clause-err g c =
    let all = c.args.values.now.entries in
    let given = c.into_iter-code-iterator.ensures.into_iter_gives in
    let split = next_split all c.loop-code.yielded c.into_iter-code-iterator.result c.loop-code.code-iterator
    c.next.new.self c.next.result (c.in-Some.code, c.in-Some.value) given.0 c.loop-code.yielded_by c.in-Some.is
    c.next.ensures.steps in
    code_loses g.T.FromNode.form_of g.T.FromNode.kind (g.R.HasSlots.slots_of c.args.owner.now) all c.requires.slot
    c.args.out.now c.requires.before (map deref_pair c.loop-code.yielded) c.next.new.self c.in-Some.code.now
    c.in-Some.value.now split c.in-Err.fault c.in-Err.ensures.err

pub returns-clause-ok : goal.returns-clause-ok
returns-clause-ok g c =
    let view = g.T.FromNode.form_of in
    let k = g.T.FromNode.kind in
    let all = c.args.values.now.entries in
    let end = iter_end deref_pair all c.loop-code.yielded c.into_iter-code-iterator.result c.loop-code.code-iterator
    c.next.new.self c.next.result c.into_iter-code-iterator.ensures.into_iter_gives.0 c.loop-code.yielded_by
    c.in-None.is c.next.ensures.steps in
    codes_put view k (g.R.HasSlots.slots_of c.args.owner.now) all c.requires.slot c.args.out.now c.requires.before
    c.loop-code.out (c.loop-code.invariant.written ∙ ap (λ l. c.args.out.now ++ members view k l) end.0)
    (sym (ap (all_kept view k) end.0) ∙ c.loop-code.invariant.kept)

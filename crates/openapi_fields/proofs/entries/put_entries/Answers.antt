use Rattle.std.proofs.Common.{◌≡◌, ◌++◌, ◌∙◌, true, false, refl, sym, ap, arith}
use Rattle.std.proofs.lemmas.List.{take_all}
use Rattle.openapi_tables.specs.Lists.{every}
use Rattle.openapi_tables.proofs.SlotWriting.{nothing_more}
use Rattle.openapi_fields.specs.Entries.{written_entries, all_whole}
use Rattle.openapi_fields.proofs.Written.{next_written, next_named, next_whole, next_absent, entry_loses, name_loses}
use Rattle.openapi_fields.proofs.entries.put_entries.Goals as goal

pub loop-i-init : goal.loop-i-init
loop-i-init g c = record { written = nothing_more c.args.out.now; named = refl; whole = refl }

pub returns-then-not-contains-clause-err : goal.returns-then-not-contains-clause-err
returns-then-not-contains-clause-err g c =
    let n = c.entry_at.result.0.now in
    let no : g.N.Names.test n ≡ false = sym c.contains.ensures ∙ c.if-not-contains.true in
    name_loses g.T.FromNode.form_of g.T.FromNode.kind c.args.values.now c.loop-i.i n c.entry_at.result.1.now
    c.entry_at.ensures g.N.Names.test c.new.result c.at_name.result no c.at_name.ensures c.new.ensures.place
    c.new.ensures.cause

pub put_value-requires : goal.put_value-requires
put_value-requires g c =
    let n = c.entry_at.result.0.now in
    let yes : g.N.Names.test n ≡ true = sym c.contains.ensures ∙ c.if-not-contains.false in
    next_absent g.T.FromNode.form_of g.T.FromNode.kind c.args.values.now c.loop-i.i n c.entry_at.result.1.now
    c.entry_at.ensures c.args.out.now c.loop-i.out (c.requires n yes) c.len-i-end.ensures.distinct
    c.loop-i.invariant.written

pub returns-in-Err-clause-err : goal.returns-in-Err-clause-err
returns-in-Err-clause-err g c =
    entry_loses g.T.FromNode.form_of g.T.FromNode.kind c.args.values.now c.loop-i.i c.entry_at.result.0.now
    c.entry_at.result.1.now c.entry_at.ensures g.N.Names.test c.in-Err.fault c.in-Err.ensures.err

pub loop-i-preserved : goal.loop-i-preserved
loop-i-preserved g c =
    let n = c.entry_at.result.0.now in
    let x = c.entry_at.result.1.now in
    let k = g.T.FromNode.kind in
    let view = g.T.FromNode.form_of in
    let vs = c.args.values.now in
    let i = c.loop-i.i in
    let yes : g.N.Names.test n ≡ true = sym c.contains.ensures ∙ c.if-not-contains.false in
    record {
      written = next_written view k vs i n x c.entry_at.ensures c.args.out.now c.loop-i.out c.put_value.new.out
          c.loop-i.invariant.written c.in-Ok.ensures.ok;
      named = next_named view k vs i n x c.entry_at.ensures g.N.Names.test c.loop-i.invariant.named yes;
      whole = next_whole view k vs i n x c.entry_at.ensures c.loop-i.invariant.whole c.in-Ok.ensures.whole;
    }

pub returns-clause-ok : goal.returns-clause-ok
returns-clause-ok g c =
    let all = take_all c.loop-i.i c.args.values.now (omega arith) in
    c.loop-i.invariant.written
    ∙ ap (λ l. c.args.out.now ++ written_entries g.T.FromNode.form_of g.T.FromNode.kind l) all

pub returns-clause-names : goal.returns-clause-names
returns-clause-names g c =
    sym (ap (every (λ e. g.N.Names.test e.0)) (take_all c.loop-i.i c.args.values.now (omega arith)))
    ∙ c.loop-i.invariant.named

pub returns-clause-whole : goal.returns-clause-whole
returns-clause-whole g c =
    sym (ap (all_whole g.T.FromNode.form_of g.T.FromNode.kind) (take_all c.loop-i.i c.args.values.now (omega arith)))
    ∙ c.loop-i.invariant.whole

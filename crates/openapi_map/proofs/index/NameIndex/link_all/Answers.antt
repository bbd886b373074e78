use Rattle.std.proofs.Common.{◌≤◌, length, take, ap, subst, ◌∙◌, arith}
use Rattle.std.proofs.lemmas.List.{take_all}
use Rattle.openapi_map.specs.Entries.{names_of}
use Rattle.openapi_map.specs.Index.{IsIndex}
use Rattle.openapi_map.specs.Former.{length-names_of}
use Rattle.openapi_map.proofs.EntryLemmas.{names-longer}
use Rattle.openapi_map.proofs.index.NameIndex.link_all.Goals as goal

pub loop-name-preserved : goal.loop-name-preserved
loop-name-preserved c =
    let ns = c.args.names.now.items in
    let i = c.loop-name.name-index in
    let longer = names-longer ns i c.name-item.result
    c.deref-name-items.ensures.value c.loop-name-test.true c.name-item.is c.as_str.ensures.value in
    record {
      is = subst (λ all. IsIndex all c.link_last.new.self) longer
          (c.link_last.ensures.index (take i (names_of ns)) c.loop-name.invariant.is);
      room = c.link_last.ensures.capacity ∙ c.loop-name.invariant.room;
    }

pub returns-clause-is : goal.returns-clause-is
returns-clause-is c =
    let ns = c.args.names.now.items in
    let i = c.loop-name.name-index in
    let past : length (names_of ns) ≤ i =
    omega (arith, c.loop-name-test.false, ap length c.deref-name-items.ensures.value, length-names_of ns) in
    subst (λ all. IsIndex all c.loop-name.self) (take_all i (names_of ns) past) c.loop-name.invariant.is

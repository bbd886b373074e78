use Rattle.std.proofs.Common.{◌≤◌, ◌++◌, ◌∷◌, [], length, take, ap, subst, sym, arith}
use Rattle.std.proofs.lemmas.List.{take_all}
use Rattle.openapi_map.specs.Entries.{names_of}
use Rattle.openapi_map.specs.Index.{AreMarked}
use Rattle.openapi_map.specs.Former.{length-names_of}
use Rattle.openapi_map.proofs.EntryLemmas.{names-longer}
use Rattle.openapi_map.proofs.MarkLemmas.{marked-push}
use Rattle.openapi_map.proofs.lookup.marks_of.Goals as goal

pub loop-name-preserved : goal.loop-name-preserved
loop-name-preserved c =
    let ns = c.args.names.now.items in
    let i = c.loop-name.name-index in
    let before = take i (names_of ns) in
    let name = c.as_str.result.now in
    subst (λ all. AreMarked all c.with_mark-marks.result)
    (names-longer ns i c.name-item.result
    c.deref-name-items.ensures.value c.loop-name-test.true c.name-item.is c.as_str.ensures.value)
    (subst (AreMarked (before ++ name ∷ [])) (sym c.with_mark-marks.ensures)
    (marked-push before name c.loop-name.marks c.loop-name.invariant))

pub returns : goal.returns
returns c =
    let ns = c.args.names.now.items in
    let i = c.loop-name.name-index in
    let past : length (names_of ns) ≤ i =
    omega (arith, c.loop-name-test.false, ap length c.deref-name-items.ensures.value, length-names_of ns) in
    subst (λ all. AreMarked all c.loop-name.marks) (take_all i (names_of ns) past) c.loop-name.invariant

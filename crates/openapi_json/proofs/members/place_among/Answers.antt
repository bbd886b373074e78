use Rattle.std.proofs.Common.{◌≡◌, ◌-◌, arith, map, subst, suc, sym, take}
use Rattle.openapi_map.specs.Entries.{owned_entry}
use Rattle.openapi_json.specs.Gathered.{AllBelow}
use Rattle.openapi_json.proofs.Left.{left_after}
use Rattle.openapi_json.proofs.Order.{below_at, compared, insert_between, insert_same, IsFirst, owned-before, turned}
use Rattle.openapi_json.proofs.members.place_among.Goals as goal

pub returns-in-Less-clause-absent : goal.returns-in-Less-clause-absent
returns-in-Less-clause-absent c =
    let ms = c.args.members.now in
    let es = map owned_entry ms.items in
    let there = owned-before ms.items c.places.place c.places-test.true c.places.invariant.within c.index.ensures in
    let less = compared _ c.as_str.ensures.value c.cmp.ensures c.in-Less.is in
    let next : suc (c.places.place - 1) ≡ c.places.place = omega (arith, c.places-test.true) in
    let upto = below_at c.args.name.now es (c.places.place - 1) _ c.requires there less in
    let below = subst (λ k. AllBelow c.args.name.now (take k es)) next upto in (
      omega (arith, c.places.invariant.within, ms.ok.0),
      λ t. insert_between c.args.name.now t es c.places.place below c.places.invariant.first,
    )

pub returns-in-Equal-clause-found : goal.returns-in-Equal-clause-found
returns-in-Equal-clause-found c =
    let ms = c.args.members.now in
    let there = owned-before ms.items c.places.place c.places-test.true c.places.invariant.within c.index.ensures in
    let same = turned _ c.args.name.now (compared _ c.as_str.ensures.value c.cmp.ensures c.in-Equal.is) in (
      omega (arith, c.places.invariant.within, c.places-test.true, ms.ok.0),
      λ t. insert_same c.args.name.now t (map owned_entry ms.items) (c.places.place - 1) _ c.requires there same,
    )

pub places-preserved : goal.places-preserved
places-preserved c =
    let ms = c.args.members.now.items in
    let there = owned-before ms c.places.place c.places-test.true c.places.invariant.within c.index.ensures in
    let first = turned _ c.args.name.now (compared _ c.as_str.ensures.value c.cmp.ensures c.in-Greater.is) in
    record {
      within = omega (arith, c.places.invariant.within);
      first = subst (IsFirst c.args.name.now) (sym (left_after (map owned_entry ms) (c.places.place - 1) _ there)) first;
    }

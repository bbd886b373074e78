use Rattle.std.proofs.Common.{◌≡◌, ◌-◌, ◌+◌, ◌<◌, length, string_bytes, sym, ap, ◌∙◌, arith}
use Rattle.std.proofs.lemmas.Grind.{get_or_default_zero}
use Rattle.std.specs.Str.{bytes_eq}
use Rattle.openapi_map.specs.Entries.{names_of}
use Rattle.openapi_map.specs.Index.{bucket}
use Rattle.openapi_map.specs.Former.{length-names_of}
use Rattle.openapi_map.proofs.EntryLemmas.{name-get_or}
use Rattle.openapi_map.proofs.IndexLemmas.{Passed-first, Passed-next, next-below, position-found, position-none}
use Rattle.openapi_map.proofs.index.NameIndex.place_of.Goals as goal

pub loop-link-init : goal.loop-link-init
loop-link-init c =
    let index = c.args.self.now in
    let name = c.args.name.now in
    let b = c.bucket_of.result in
    let link = c.index-link.result.now in
    let falls = c.bucket_of.ensures.is ∙ ap (λ n. bucket n name) c.len.ensures in
    let within : b < length index.heads.items =
    omega (arith, c.bucket_of.ensures.within, c.len.ensures, index.heads.ok.0) in
    Passed-first name (names_of c.args.names.now.items) index c.requires.index b link falls
    (omega (arith, within, index.heads.ok.0)) (c.index-link.ensures ∙ get_or_default_zero index.heads.items b link within)

pub index-requires : goal.index-requires
index-requires c =
    let ns = c.args.names.now in
    omega (arith, c.loop-link.invariant.le, c.loop-link-test.true, length-names_of ns.items, ns.ok.0)

pub returns-then-is_name : goal.returns-then-is_name
returns-then-is_name c =
    let ns = c.args.names.now.items in
    let name = c.args.name.now in
    let p = c.loop-link.link - 1 in
    let e = c.index.result.now in
    let within : p < length ns = omega (arith, c.loop-link.invariant.le, c.loop-link-test.true, length-names_of ns) in
    let read = name-get_or ns p e within ∙ ap string_bytes (sym c.index.ensures) in
    position-found name (names_of ns) p c.requires.distinct (omega (arith, within, length-names_of ns))
    (ap (bytes_eq name) read ∙ sym c.is_name.ensures ∙ c.if-is_name.true)

pub loop-link-smaller : goal.loop-link-smaller
loop-link-smaller c =
    let index = c.args.self.now in
    let names = names_of c.args.names.now.items in
    let p = c.loop-link.link - 1 in
    let next = c.index-link-in-loop-link.result.now in
    let within : p < length names = omega (arith, c.loop-link.invariant.le, c.loop-link-test.true) in
    let there : p < length index.next.items = omega (arith, within, c.requires.index.len, index.next.ok.0) in
    let read = c.index-link-in-loop-link.ensures ∙ get_or_default_zero index.next.items p next there in
    omega (arith, next-below c.args.name.now names index c.requires.index p next within read, c.loop-link-test.true)

pub loop-link-preserved : goal.loop-link-preserved
loop-link-preserved c =
    let index = c.args.self.now in
    let ns = c.args.names.now.items in
    let name = c.args.name.now in
    let link = c.loop-link.link in
    let p = link - 1 in
    let e = c.index.result.now in
    let next = c.index-link-in-loop-link.result.now in
    let at : link ≡ p + 1 = omega (arith, c.loop-link-test.true) in
    let within : p < length ns = omega (arith, c.loop-link.invariant.le, at, length-names_of ns) in
    let there : p < length index.next.items =
    omega (arith, within, length-names_of ns, c.requires.index.len, index.next.ok.0) in
    let read = name-get_or ns p e within ∙ ap string_bytes (sym c.index.ensures) in
    Passed-next name (names_of ns) index c.requires.index p link next c.loop-link.invariant at
    (ap (bytes_eq name) read ∙ sym c.is_name.ensures ∙ c.if-is_name.false)
    (c.index-link-in-loop-link.ensures ∙ get_or_default_zero index.next.items p next there)

pub returns : goal.returns
returns c =
    let names = names_of c.args.names.now.items in
    position-none c.args.name.now names _ c.loop-link.link c.loop-link.invariant (omega (arith, c.loop-link-test.false))

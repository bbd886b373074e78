use Rattle.std.proofs.Common.{◌≡◌, ◌<◌, length, slice_index, ap, ◌∙◌, arith}
use Rattle.std.proofs.lemmas.Grind.{get_or_default_zero}
use Rattle.openapi_map.specs.Index.{moved_link}
use Rattle.openapi_map.proofs.IndexLemmas.{IsIndex-remove}
use Rattle.openapi_map.proofs.index.NameIndex.unlink.Goals as goal

pub returns : goal.returns
returns c names is =
    let index = c.args.self.now in
    let i = c.args.place in
    let there : i < length index.next.items = omega (arith, c.requires, index.next.ok.0) in
    let before : c.remove-before.result ≡ slice_index index.next.items i =
    c.remove-before.ensures.value ∙ get_or_default_zero index.next.items i c.remove-before.result there in
    IsIndex-remove names index is i (omega (arith, c.requires, is.len)) c.move_links.new.links c.move_links-2.new.links
    c.move_links.ensures.len (omega (arith, c.move_links-2.ensures.len, c.remove-before.ensures.len))
    (λ b h. c.move_links.ensures.each b h ∙ ap (λ x. moved_link i x (slice_index index.heads.items b)) before)
    (λ p h. c.move_links-2.ensures.each p h
    ∙ (λ j. moved_link i (before j) (slice_index (c.remove-before.ensures.items j) p)))

use Rattle.std.proofs.Common.{◌≡◌, ◌+◌, ◌<◌, length, ap, ◌∙◌, arith}
use Rattle.std.proofs.lemmas.Grind.{get_or_default_zero}
use Rattle.openapi_map.specs.Index.{bucket}
use Rattle.openapi_map.proofs.IndexLemmas.{IsIndex-push}
use Rattle.openapi_map.proofs.index.NameIndex.link_last.Goals as goal

pub returns-clause-index : goal.returns-clause-index
returns-clause-index c names is =
    let name = c.args.name.now in
    let index = c.args.self.now in
    let b = c.bucket_of-bucket.result in
    let falls = c.bucket_of-bucket.ensures.is ∙ ap (λ n. bucket n name) c.len.ensures in
    let counts : c.len-2.result ≡ length names + 1 = omega (arith, c.len-2.ensures, c.push_reserved.ensures.len, is.len) in
    let within : b < length index.heads.items = omega (arith, c.bucket_of-bucket.ensures.within, c.len.ensures, index.heads.ok.0) in
    let read = c.index.ensures ∙ get_or_default_zero index.heads.items b c.index.result.now within in
    IsIndex-push names name index is b c.len-2.result falls (omega arith) counts c.index.result.now c.push_reserved.new.self
    read c.push_reserved.ensures.items c.push_reserved.ensures.len

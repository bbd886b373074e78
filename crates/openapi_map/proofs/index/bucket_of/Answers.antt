use Rattle.std.proofs.Common.{◌≡◌, ◌-◌, bit_and, ap, ◌∙◌}
use Rattle.std.specs.Hash.FoldHasher as folding
use Rattle.openapi_map.specs.Index.{bucket}
use Rattle.openapi_map.proofs.index.bucket_of.Goals as goal

pub returns-clause-is : goal.returns-clause-is
unfolding bucket
returns-clause-is c =
    let fed : c.write.new.self ≡ folding.write folding.initial c.args.name.now =
    c.write.ensures ∙ (λ i. folding.write (c.default-hasher.ensures i) (c.as_bytes.ensures.value i)) in
    ap (λ h. bit_and h (c.args.buckets - 1)) (c.finish.ensures ∙ ap folding.finish fed)

use Rattle.std.proofs.Common.{◌≡◌, [], ◌++◌, sym, ap, subst, rules}
use Rattle.std.proofs.Output.{has_written_append, has_written_of_eq, writes_in_calls_nil}
use Rattle.std.proofs.lemmas.Str.{IsUtf8-past_char}
use Rattle.std.specs.Str.{IsUtf8}
use Rattle.std.specs.Str.Iter.{chars_rest}
use Rattle.openapi_findings.specs.Escaped.{escaped, in_token, written}
use Rattle.openapi_findings.proofs.Writing.{next_char, no_char}
use Rattle.openapi_findings.proofs.escape.Escape.write_token.Goals as goal

pub loop-c-init : goal.loop-c-init
loop-c-init g c =
    let same : chars_rest c.into_iter-c-iterator.result ≡ c.args.name.now = search rules in (
      subst IsUtf8 (sym same) c.utf8.name,
      λ plain. ([], record { wrote = writes_in_calls_nil _ _; plain = plain }, ap (written (in_token (escaped c.args.self))) same),
    )

pub loop-c-preserved : goal.loop-c-preserved
loop-c-preserved g c =
    let l = c.loop-c.invariant in
    let bs = chars_rest c.loop-c.c-iterator in
    let rest = chars_rest c.next.new.self in
    let step = c.in-Some.ensures.steps.0 in (
      IsUtf8-past_char bs rest c.in-Some.c l.0 step,
      λ plain.
          let now = l.1 plain in (
            now.0 ++ in_token (escaped c.args.self) c.in-Some.c,
            has_written_append _ _ _ _ _ _ now.1 (search rules),
            next_char (in_token (escaped c.args.self)) now.0 bs rest _ c.in-Some.c l.0 step now.2,
          ),
    )

pub returns : goal.returns
returns g c plain ok =
    let now = c.loop-c.invariant.1 plain in
    has_written_of_eq _ _ _ _ _ (no_char (in_token (escaped c.args.self)) now.0 (chars_rest c.loop-c.c-iterator) _ c.in-None.ensures.steps.0.0 now.2) now.1

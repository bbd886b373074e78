use Rattle.std.proofs.Common.{string_bytes, arith, lit<, rules}
use Rattle.openapi_pointer.proofs.Tokens.{is_tilde, name_begins, name_ends, name_fails, name_next, shorter_after}
use Rattle.openapi_pointer.proofs.token.name_of.Goals as goal

pub loop-before-init : goal.loop-before-init
loop-before-init c = record { utf8 = c.utf8.token; name = name_begins c.args.token.now _ c.new-name.ensures.bytes }

pub returns-in_default-escaped : goal.returns-in_default-escaped
returns-in_default-escaped c =
    let split = c.in-Some.ensures.byte (lit< tt) (λ w o h. h) in
    name_fails c.args.token.now (string_bytes c.loop-before.name) c.in-Some.after.now c.loop-before.left.now split.1 split.2
    c.in_default-escaped.ensures.character c.loop-before.invariant.name

pub loop-before-smaller : goal.loop-before-smaller
loop-before-smaller c =
    let split = c.in-Some.ensures.byte (lit< tt) (λ w o h. h) in
    omega (arith, shorter_after is_tilde c.loop-before.left.now c.in-Some.after.now split.1 split.2, c.in-Some-escaped.ensures.shorter)

pub loop-before-preserved : goal.loop-before-preserved
loop-before-preserved c =
    let split = c.in-Some.ensures.byte (lit< tt) (λ w o h. h) in
    record {
      utf8 = search rules;
      name = name_next c.args.token.now (string_bytes c.loop-before.name) c.in-Some.before.now c.in-Some.after.now _ _ _ c.loop-before.left.now
          c.in-Some-escaped.rest.now split.0 split.1 split.2 c.in-Some-escaped.ensures.character c.in_ok-push_str.ensures.bytes
          c.in_ok-push.ensures.bytes c.loop-before.invariant.name;
    }

pub returns : goal.returns
returns c =
    name_ends c.args.token.now (string_bytes c.loop-before.name) c.loop-before.left.now _ (c.in_default.ensures.byte (lit< tt) (λ w o h. h))
    c.in_ok-push_str-2.ensures.bytes c.loop-before.invariant.name

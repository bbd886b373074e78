use Rattle.std.proofs.Common.{sym, ap, ◌∙◌, cond, Some, None, lit<}
use Rattle.openapi_pointer.proofs.Components.{four_tokens, one_token, three_tokens, two_tokens}
use Rattle.openapi_pointer.proofs.component.token_below.Goals as goal

pub returns-in_default : goal.returns-in_default
returns-in_default c = one_token c.args.section.now c.args.pointer.now (c.in_default.ensures.byte (lit< tt) (λ w o h. h))

pub returns-in_default-split_once : goal.returns-in_default-split_once
returns-in_default-split_once c =
    let a = c.in-Some.ensures.byte (lit< tt) (λ w o h. h) in
    two_tokens c.args.section.now c.args.pointer.now c.in-Some.first.now c.in-Some.rest.now
    (record { first = a.0; rest = a.1; within = a.2 }) (c.in_default-split_once.ensures.byte (lit< tt) (λ w o h. h))

pub returns-in-Some-split_once-2 : goal.returns-in-Some-split_once-2
returns-in-Some-split_once-2 c =
    let a = c.in-Some.ensures.byte (lit< tt) (λ w o h. h) in
    let b = c.in-Some-split_once.ensures.byte (lit< tt) (λ w o h. h) in
    let d = c.in-Some-split_once-2.ensures.byte (lit< tt) (λ w o h. h) in
    four_tokens c.args.section.now c.args.pointer.now c.in-Some.first.now c.in-Some.rest.now c.in-Some-split_once.second.now
    c.in-Some-split_once.token.now c.in-Some-split_once-2.field-0.0.now c.in-Some-split_once-2.field-0.1.now
    (record { first = a.0; rest = a.1; within = a.2 }) (record { first = b.0; rest = b.1; within = b.2 })
    (record { first = d.0; rest = d.1; within = d.2 })

pub returns-then-is_section : goal.returns-then-is_section
returns-then-is_section c =
    let a = c.in-Some.ensures.byte (lit< tt) (λ w o h. h) in
    let b = c.in-Some-split_once.ensures.byte (lit< tt) (λ w o h. h) in
    sym (ap (λ f. cond f (Some c.in-Some-split_once.token.now) None) c.if-is_section.true)
    ∙ three_tokens c.args.section.now c.args.pointer.now c.in-Some.first.now c.in-Some.rest.now c.in-Some-split_once.second.now
    c.in-Some-split_once.token.now c.is_section.result (record { first = a.0; rest = a.1; within = a.2 })
    (record { first = b.0; rest = b.1; within = b.2 }) (c.in-None.ensures.byte (lit< tt) (λ w o h. h)) c.is_section.ensures

pub returns-else-is_section : goal.returns-else-is_section
returns-else-is_section c =
    let a = c.in-Some.ensures.byte (lit< tt) (λ w o h. h) in
    let b = c.in-Some-split_once.ensures.byte (lit< tt) (λ w o h. h) in
    sym (ap (λ f. cond f (Some c.in-Some-split_once.token.now) None) c.if-is_section.false)
    ∙ three_tokens c.args.section.now c.args.pointer.now c.in-Some.first.now c.in-Some.rest.now c.in-Some-split_once.second.now
    c.in-Some-split_once.token.now c.is_section.result (record { first = a.0; rest = a.1; within = a.2 })
    (record { first = b.0; rest = b.1; within = b.2 }) (c.in-None.ensures.byte (lit< tt) (λ w o h. h)) c.is_section.ensures

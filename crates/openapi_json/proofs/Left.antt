-- The rest of a list after some of its elements, and the tokens of the rest after those that were written.
use Rattle.std.proofs.Common.{◌≡◌, ℕ, ◌+◌, List, [], ◌∷◌, ◌++◌, drop, slice_get, Some, sym, ap, ◌∙◌, append_assoc}
use Rattle.std.proofs.lemmas.List.{drop_more}
use Rattle.std.proofs.lemmas.Option.{get_or_from_slice_get, slice_get_within}
use Rattle.json.specs.Token.{Token}
use Rattle.openapi_map.specs.Entries.{Entries}
use Rattle.openapi_node.specs.Tree.{Tree}
use Rattle.openapi_json.specs.Writing.{data_in, data_tokens, members_data_tokens, standing}
use Rattle.openapi_json.specs.declared.write.Order.{Order}

-- the rest of a list from an index on is the element there, followed by the rest after it
pub left_after : {A : Type 0} (xs : List A) (i : ℕ) (x : A) → slice_get xs i ≡ Some x → drop i xs ≡ x ∷ drop (i + 1) xs
left_after xs i x at =
    drop_more xs i x (slice_get_within xs i x at) ∙ ap (λ y. y ∷ drop (i + 1) xs) (get_or_from_slice_get xs i x x at)

-- after the next member was written, the tokens written and those of the rest are still those of the whole
pub member_next : (o : Order) (old named new whole : List Token) (es : Entries Tree) (e : List ℕ × Tree) (rest : Entries Tree)
    → es ≡ e ∷ rest → named ≡ old ++ Token.key e.0 ∷ [] → new ≡ named ++ data_tokens (data_in o e.1)
    → old ++ members_data_tokens (standing o es) ≡ whole → new ++ members_data_tokens (standing o rest) ≡ whole
member_next o old named new whole es e rest is key put so_far =
    let more = members_data_tokens (standing o rest) in
    ap (λ l. l ++ more) (put ∙ ap (λ l. l ++ data_tokens (data_in o e.1)) key)
    ∙ append_assoc (old ++ Token.key e.0 ∷ []) (data_tokens (data_in o e.1)) more
    ∙ append_assoc old (Token.key e.0 ∷ []) (data_tokens (data_in o e.1) ++ more)
    ∙ ap (λ l. old ++ members_data_tokens (standing o l)) (sym is) ∙ so_far

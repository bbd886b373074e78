-- Members that are appended to others one after another.
use Rattle.std.proofs.Common.{◌≡◌, ℕ, zero, suc, Bool, true, false, cond, List, [], ◌∷◌, ◌++◌, slice_get, Some, None}
use Rattle.std.proofs.Common.{refl, sym, ap, ◌∙◌, subst, bytes_eq}
use Rattle.std.proofs.lemmas.List.{append_assoc}
use Rattle.std.proofs.lemmas.Map.Keys.{IsDistinct-tail}
use Rattle.std.specs.Map.{keys_of}
use Rattle.openapi_map.specs.Entries.{Entries, get, HasDistinctNames}
use Rattle.openapi_map.proofs.EntryLemmas.{absent-next}
use Rattle.openapi_node.specs.Tree.{Tree}
use Rattle.openapi_tables.proofs.SlotLists.{append_nil, get_none-append}
use Rattle.openapi_fields.specs.Writing.{AreNew}

-- a name that is not among entries is not the name of the first of them
not_first : (n : List ℕ) (e : List ℕ × Tree) (es : Entries Tree) → get n (e ∷ es) ≡ None → get n (e ∷ []) ≡ None
not_first n e es h = go (bytes_eq n e.0) h
  where
    go : (b : Bool) → cond b (Some e.1) (get n es) ≡ None → cond b (Some e.1) (get n []) ≡ None
    go true q = cc
    go false q = refl

-- `e` is the first of the entries that are left, `more`. After it is appended to `out`, the result is `new`, and `rest` is
-- left
module _ (out : Entries Tree) (e : List ℕ × Tree) (rest more new : Entries Tree) (is : more ≡ e ∷ rest)
    (put : new ≡ out ++ e ∷ []) where
  -- the result and what is left are together the same members as before
  pub moved_on : new ++ rest ≡ out ++ more
  moved_on = (λ i. put i ++ rest) ∙ append_assoc out (e ∷ []) rest ∙ ap (λ l. out ++ l) (sym is)

  -- if no name in `more` is repeated or is in `out`, no name in `rest` is in `new`
  pub still_new : HasDistinctNames more → AreNew more out → AreNew rest new
  still_new d h j x at =
      let later : slice_get (e ∷ rest) (suc j) ≡ Some x = at in
      let other = not_first x.0 e _ (absent-next (e ∷ rest) (suc j) x (subst HasDistinctNames is d) later) in
      ap (get x.0) put ∙ get_none-append out (e ∷ []) x.0 (h (suc j) x ((λ i. slice_get (is i) (suc j)) ∙ later)) other

  -- if no name in `more` is in `out`, the name of the next entry is not in `out`
  pub first_new : AreNew more out → get e.0 out ≡ None
  first_new h = h zero e (ap (λ l. slice_get l zero) is)

  -- if no name in `more` is repeated, none in `rest` is
  pub still_distinct : HasDistinctNames more → HasDistinctNames rest
  still_distinct d = IsDistinct-tail bytes_eq e.0 (keys_of rest) (subst HasDistinctNames is d)

-- if nothing is left, the result is the first members, followed by all that were to be appended
pub nothing_left : (out first whole more : Entries Tree) → out ++ more ≡ first ++ whole → more ≡ []
    → out ≡ first ++ whole
nothing_left out first whole more h is = sym (append_nil out) ∙ ap (λ l. out ++ l) (sym is) ∙ h

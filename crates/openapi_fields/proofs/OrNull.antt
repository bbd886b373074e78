-- What is read and written if null may replace a value.
use Rattle.std.proofs.Common.{◌≡◌, Bool, true, false, [], ◌∷◌, Result, Ok, Err, refl, sym, ap, ◌∙◌, subst, inl, inr}
use Rattle.openapi_node.specs.Fault.{place_of}
use Rattle.openapi_node.specs.Place.{Place}
use Rattle.openapi_node.specs.Tree.{Tree, null, flag, whole, text}
use Rattle.openapi_node.specs.View.{shown}
use Rattle.openapi_node.specs.declared.fault.Cause.{Cause}
use Rattle.openapi_node.specs.declared.fault.Cause.TheVariants.{Missing, MissingEither, WrongKind, NotAllowed}
use Rattle.openapi_node.specs.declared.fault.Cause.TheVariants.{UnknownVariant, NameNotWritable, NotWhole, Memory}
use Rattle.openapi_node.specs.declared.fault.Expected.{Expected}
use Rattle.openapi_node.specs.declared.fault.Expected.TheVariants as words
use Rattle.openapi_node.specs.declared.fault.Fault.{Fault}
use Rattle.openapi_node.specs.declared.node.Node.{Node}
use Rattle.openapi_node.specs.declared.node.View.{View}
use Rattle.openapi_node.specs.declared.node.View.TheVariants as v
use Rattle.openapi_tables.specs.Prelude.{Kind, any_text, any_flag, number, null_or, within, final_tables, Form}
use Rattle.openapi_tables.specs.Prelude.{deciding, tree_of_root, may_be_null, asked, root_asks, causes, unless}
use Rattle.openapi_tables.specs.Prelude.{wrong_kind, Among, Broken, asking, unwritable}
use Rattle.openapi_tables.specs.Faults as faults
use Rattle.openapi_tables.specs.Faults.{word_or_null}
use Rattle.openapi_tables.proofs.ByRowLaws.{broken_root}
use Rattle.openapi_tables.proofs.PrintLaws.{print-null_or}
use Rattle.openapi_tables.proofs.TreeLaws.{seen_root, tree_of_root-seen}
use Rattle.openapi_fields.specs.Returned.{FailsBy, Fails, NotWritable, WrittenAs}
use Rattle.openapi_fields.proofs.Below.{wrong_here}

-- the unwritable locations of a form are the same if null may replace the value
lost-null_or : (k : Kind) (f : Form) → unwritable final_tables (null_or k) f ≡ unwritable final_tables k f
lost-null_or k (deciding n f) = lost-null_or k f
lost-null_or k f = refl

-- what was written for a form of a kind is also what is written if null may replace the value
pub written_or_null : (k : Kind) (f : Form) (r : Result Node Fault) → WrittenAs k f r → WrittenAs (null_or k) f r
written_or_null k f (Ok n) h = (h.0 ∙ sym (print-null_or final_tables k f), lost-null_or k f ∙ h.1)
written_or_null k f (Err e) h = subst (λ ps. NotWritable e ps) (sym (lost-null_or k f)) h

-- a requirement for the root of a node is a requirement for that node
one_asking : (k : Kind) (t : Tree)
    → asking [] k (tree_of_root (seen_root (root_asks final_tables) t)) ∷ [] ≡ asking [] k t ∷ []
one_asking k t = ap (λ u. asking [] k u ∷ []) (tree_of_root-seen (root_asks final_tables) t)

-- the only requirement of the kind of a string, a flag or a number is that of the kind itself, for the value itself
asks_one : (k : Kind) (t : Tree) → may_be_null k ≡ true → asked final_tables k t ≡ asking [] k t ∷ []
asks_one any_text null m = refl
asks_one any_text t m = one_asking any_text t
asks_one any_flag null m = refl
asks_one any_flag t m = one_asking any_flag t
asks_one (number l) null m = refl
asks_one (number l) t m = one_asking (number l) t
asks_one k t m = cc

-- the causes of a value itself other than `wrong_kind` are also its causes if null may replace it
module _ (c : faults.Cause) (n : (w : Expected) → c ≡ wrong_kind w → ⊥) where
  not_wrong : {Y : Type 0} → (w : Expected) → Among c (wrong_kind w ∷ []) → Y
  not_wrong w (inl e) = absurd (n w e)
  not_wrong w (inr e) = absurd e

  other_cause : (k : Kind) (t : Tree) → may_be_null k ≡ true → Among c (causes final_tables k t)
      → Among c (causes final_tables (null_or k) t)
  other_cause any_text (text s) m h = h
  other_cause any_text t m h = not_wrong words.Text h
  other_cause any_flag (flag b) m h = h
  other_cause any_flag t m h = not_wrong words.Flag h
  other_cause (number l) (whole z) m h = h
  other_cause (number l) t m h = not_wrong words.Whole h
  other_cause k t m h = cc

-- `wrong_kind` is not among the causes for limits: these are `not_allowed` or none
not_outside : {Y : Type 0} → (b : Bool) (w : Expected) → Among (wrong_kind w) (unless b faults.not_allowed) → Y
not_outside true w h = absurd h
not_outside false w (inl e) = cc
not_outside false w (inr e) = absurd e

-- if a value is of the wrong kind and is not null, its cause is that the kind or null is expected if null may replace it
wrong_cause : (k : Kind) (s : View) (w : Expected) → may_be_null k ≡ true → (s ≡ v.Null → ⊥)
    → Among (wrong_kind w) (causes final_tables k (shown s))
    → Among (wrong_kind (word_or_null k)) (causes final_tables (null_or k) (shown s))
wrong_cause any_text v.Null w m n h = absurd (n refl)
wrong_cause any_text (v.Text s) w m n h = absurd h
wrong_cause any_text s w m n h = inl refl
wrong_cause any_flag v.Null w m n h = absurd (n refl)
wrong_cause any_flag (v.Flag b) w m n h = absurd h
wrong_cause any_flag s w m n h = inl refl
wrong_cause (number l) v.Null w m n h = absurd (n refl)
wrong_cause (number l) (v.Whole z) w m n h = not_outside (within l z) w h
wrong_cause (number l) s w m n h = inl refl
wrong_cause k s w m n h = cc

module _ (k : Kind) (t : Tree) (may : may_be_null k ≡ true) where
  own_cause : (p : Place) (c : faults.Cause) → Broken final_tables k t p c
      → (p ≡ []) × Among c (causes final_tables k t)
  own_cause p c b =
      elim (subst (λ as'. Among (asking p b.kind b.tree) as') (asks_one k t may) b.is_asked) [
        | inl e ↦ (ap (λ a. a.place) e, subst (λ a. Among c (causes final_tables a.kind a.tree)) e b.breaks)
        | inr n ↦ absurd n
      ]

  -- a cause other than `wrong_kind` is found at the same location if null may replace the value
  stays : (p : Place) (c : faults.Cause) → ((w : Expected) → c ≡ wrong_kind w → ⊥) → Broken final_tables k t p c
      → Broken final_tables (null_or k) t p c
  stays p c n b =
      let own = own_cause p c b in
      subst (λ q. Broken final_tables (null_or k) t q c) (sym own.0) (broken_root final_tables (null_or k) t c
      (other_cause c n k t may own.1))

  by_cause : (c : Cause) (p : Place) → ((w : Expected) → c ≡ WrongKind w → ⊥) → FailsBy c p k t
      → FailsBy c p (null_or k) t
  by_cause (Missing n) p h b = stays p (faults.missing n.now) (λ w e. cc) b
  by_cause (MissingEither n m) p h b = stays p (faults.missing_either n.now m.now) (λ w e. cc) b
  by_cause (WrongKind w) p h b = absurd (h w refl)
  by_cause NotAllowed p h b = stays p faults.not_allowed (λ w e. cc) b
  by_cause UnknownVariant p h b = stays p faults.unknown_variant (λ w e. cc) b
  by_cause NameNotWritable p h b = b
  by_cause NotWhole p h b = b
  by_cause Memory p h b = b

  -- an error with another cause than `WrongKind` is also an error if null may replace the value
  pub fails_or_null : (f : Fault) → ((w : Expected) → f.cause ≡ WrongKind w → ⊥) → Fails f k t
      → Fails f (null_or k) t
  fails_or_null f n h = by_cause f.cause (place_of f) n h

-- if a value is of the wrong kind and is not null, the error that the kind or null is expected is an error if null may
-- replace it
pub wrong_or_null : (f d : Fault) (w : Expected) (k : Kind) (s : View) → may_be_null k ≡ true → (s ≡ v.Null → ⊥)
    → f.cause ≡ WrongKind w → Fails f k (shown s) → d.place.items ≡ [] → d.cause ≡ WrongKind (word_or_null k)
    → Fails d (null_or k) (shown s)
wrong_or_null f d w k s may n e h p c =
    let b : FailsBy (WrongKind w) (place_of f) k (shown s) = subst (λ x. FailsBy x (place_of f) k (shown s)) e h in
    wrong_here d (word_or_null k) (null_or k) (shown s) p c (wrong_cause k s w may n (own_cause k (shown s) may
    (place_of f) (wrong_kind w) b).1)

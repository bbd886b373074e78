-- A slice of no elements is borrowed, and the value that it is borrowed from stays the same. Assumes `Logic`.
use mathlib.Core.Path.{◌≡◌, refl}
use Prim.Native.Nat.{ℕ}
use lib.Dec.{lit<}
use native.Mathlib.Omega.{arith}
use mathlib.Core.List.{List, [], ◌∷◌}
use lib.ListN.{length}
use seplogic.Ra.Ura.{Ura}
use mir.Syntax.{Lifetime, Args, Body, Fn, named, a_type, seq, assign, place, rv_opd, copy, return}
use mir.MapTy.{inst_fn}
use mir.Val.{Val, vptr}
use base.Logic.{SProp, ent, sep, ex}
use base.Fml.{Lft, GName, Share, ftrue, flft}
use prog.Memory.{Memory}
use prog.Routine.{Routine}
use prog.Wp.{Env, Calls, Loops, WpFn, Tables}
use types.Logic.{Logic, sem}
use types.SemTy.{cells}
use types.Mut.{open_ref}
use contract.Lifetimes.{AllOutlive}
use contract.Monad.{Fun}
use contract.Running.{tables, tables_of}
use sound.WpLaws.{WpFn-mono}
use types.Kit.{Item, ‵, ◌⊛◌, raw, some, later, at_ret, ◌$◌, ◌∵◌, !, qed, by, move, keep, drop, split, split3, join, fsplit, fsplit3, fjoin, use1, use2, updating, await, now, show, group, pick, suffices, frame, done}
use types.Part.{agg}
use types.Run.{stop, addr, lit, and_then, no_more, of_opd, first, blocks, exec, returns, enter}
use types.ByLocal.{alloc_all, pass_all, free_all, look_at, get, through, sets, sets_last, env}
use denote.Builtin.{RefMutOf}
use denote.Exit.{no}
use denote.Param.{param, layouts}
use denote.RattleType.{RattleType, owns}
use denote.Ref.{MutBor, MutRef, mut_vals, mut_Tells}
use denote.Signature.{plain}
use denote.Slice.{MutSlice, Room, slice_val}
use denote.Memory.{mem}
use denote.Array.{Array}
use denote.Follow.{follows}
use denote.FollowSlice.{lends_Elements}
use denote.Steps.{nothing}
use denote.Triple.Clauses.{Clauses, Ended, closing}
use denote.Triple.Entry.{on_entry}
use denote.Triple.Spec.{Meets, triple_of}
use denote.Triple.Table.{entered}
use denote.Triple.Walked.{says, Stays, stay_dropped, walk_of, ends_at, walked, Goes-spent_ref, walk_Meets}
use Rattle.openapi_map.specs.contracts.no_elements.no_elements as F
use Rattle.openapi_map.specs.contracts.no_elements.no_elements.Key.{name as #self}
use Rattle.openapi_map.proofs.no_elements.no_elements.Statement as stated
use Rattle.openapi_map.proofs.no_elements.no_elements.Code as code

-- a `&mut S` is reborrowed as a `&mut [R]` of no elements
module _ {M : Type 1} {𝓤 : Ura M} (𝓛 : Logic 𝓤) (ℓ : Lifetime) (κ : Lft) (q : Share) (b o : ℕ) (γ : GName) (S R : RattleType) (x : S.Denot) where
  open 𝓛 use {H, A}

  abbrev SliceLent : GName → SProp 𝓤
  SliceLent δ = sep 𝓤 (sem 𝓛 ((MutSlice ℓ κ R).own_val (record { ref_ptr = (b, o); ghost_name = δ; now = [] }) (slice_val (b, o) 0 ∷ []))) (sep 𝓤 (A.lft κ q) (sem 𝓛 (follows S (Array R 0) γ δ (λ _. x))))

  abbrev slice_lent : GName → Item 𝓤
  slice_lent δ = ‵ ((MutSlice ℓ κ R).own_val (record { ref_ptr = (b, o); ghost_name = δ; now = [] }) (slice_val (b, o) 0 ∷ [])) ⊛ ‵ (flft κ q) ⊛ ‵ (follows S (Array R 0) γ δ (λ _. x))

  stays : (ws : List R.Denot) → length ws ≡ length {A = R.Denot} [] → ent 𝓤 (sep 𝓤 (sem 𝓛 (cells (mem R) ws b o)) (sem 𝓛 ((mem S).own_at x b o))) (sem 𝓛 ((mem S).own_at x b o))
  stays ws e = qed 𝓛 (‵ (cells (mem R) ws b o) ∷ ‵ ((mem S).own_at x b o) ∷ []) ∵ drop ! $ done !

  lends_none : Room R 0 → (vs : List Val)
      → ent 𝓤 (sep 𝓤 (sem 𝓛 ((MutRef ℓ κ S).own_val (record { ref_ptr = (b, o); ghost_name = γ; now = x }) vs)) (A.lft κ q)) (H.⇛ (ex 𝓤 SliceLent))
  lends_none rm vs = qed 𝓛 (‵ ((MutRef ℓ κ S).own_val (record { ref_ptr = (b, o); ghost_name = γ; now = x }) vs) ∷ ‵ (flft κ q) ∷ []) ∵ updating ! $ fsplit3 ! $ drop ! $
      open_ref ! tt (mem S) {b = b} {o = o} $ nothing ! $ move ! (2 ∷ 3 ∷ 4 ∷ 0 ∷ 1 ∷ []) $ group ! 5 $
      use1 𝓛 (later (some (λ (δ : GName). raw (SliceLent δ))))
      (lends_Elements 𝓛 S R (λ _. x) ℓ κ q b o b o γ [] rm (sem 𝓛 ((mem S).own_at x b o)) stays (S.coded.code x) (S.coded.code x)) $ await ! tt $ pick ! (λ δ.
      now ! $ show ! SliceLent δ $ done !)

module _ (X Y : RattleType) where
  abbrev args : Args
  args = layouts (a_type ∷ a_type ∷ []) (X, (Y, tt))

  abbrev function : Fn
  function = inst_fn args code.function

  abbrev R : RattleType
  R = param 0 X

  abbrev S : RattleType
  S = param 1 Y

  abbrev ended : Ended
  ended = F.ended X Y

  abbrev stayed : Stays ended.signature.params ended.kept
  stayed = (stay_dropped (RefMutOf (0 ∷ []) tt (plain (λ _. S)) (λ _. tt)) no, tt)

abbrev rest : Body
rest = seq (assign (place 0 []) (rv_opd (copy (place 2 [])))) return

module _ (X Y : RattleType) {M : Type 1} {𝓤 : Ura M} (𝓛 : Logic 𝓤) (at_mem : Memory → SProp 𝓤) (run : Routine → Fun 𝓤) where
  open 𝓛 use {H}

  abbrev clauses : Clauses 𝓤 (ended X Y)
  clauses = F.clauses X Y 𝓛 at_mem run

  module _ (C : Calls 𝓤 H) (Λ : Loops 𝓤 H) (κ κT κS : Lft) (q qT qS : Share) (bd : AllOutlive 3 (ended X Y).signature.outlives (κ, (κT, (κS, tt)))) (b o : ℕ) (γ : GName) (x : (S X Y).Denot) where
    abbrev self : MutBor (S X Y).Denot
    self = record { ref_ptr = (b, o); ghost_name = γ; now = x }

    abbrev bound : (walk_of 𝓛 (ended X Y) (stayed X Y) clauses).Ghost
    bound = (((κ, (κT, (κS, tt))), (q, (qT, (qS, tt))), bd, (self, tt), (mut_vals self, tt)), tt)

    abbrev Post : Val → SProp 𝓤
    Post = (walk_of 𝓛 (ended X Y) (stayed X Y) clauses).post bound

    walk : Room (R X Y) 0 → ent 𝓤 (on_entry 𝓛 (ended X Y).signature (κ, (κT, (κS, tt))) (q, (qT, (qS, tt))) (self, tt) (mut_vals self, tt)) (WpFn 𝓤 H C Λ (function X Y) (vptr b o ∷ []) Post)
    walk rm =
        qed 𝓛 ((‵ (flft κ q) ⊛ ‵ (flft κT qT) ⊛ ‵ (flft κS qS) ⊛ ‵ ftrue) ∷ ‵ (owns (MutRef (named 0) κ (S X Y) ∷ []) (self, tt) (mut_vals self, tt)) ∷ []) ∵ enter ! C Λ (function X Y) (vptr b o ∷ []) _ $
        alloc_all ! (λ l. pass_all ! refl ((tt, tt), tt) $
        let En : Env 𝓤 H = env (function X Y).locals l in
        first ! $ blocks ! $
        sets ! (addr ! (through ! refl (stop !))) refl (tt, tt) $
        sets ! (of_opd ! (get ! refl)) refl (tt, tt) $
        sets_last ! (agg ! (and_then ! (get ! refl) (and_then ! (lit ! tt) (no_more !)))) refl (tt, (tt, (record { fits = rm.0 }, tt))) $
        exec ! C Λ En rest (at_ret En Post) $
        sets ! (of_opd ! (get ! refl)) refl (tt, (tt, (record { fits = rm.0 }, tt))) $
        split ! $ move ! (2 ∷ []) $ fsplit ! $ move ! (0 ∷ 2 ∷ []) $
        use2 𝓛 (later (some (slice_lent 𝓛 (named 0) κ q b o γ (S X Y) (R X Y) x))) (lends_none 𝓛 (named 0) κ q b o γ (S X Y) (R X Y) x rm (vptr b o ∷ [])) $ await ! tt $ pick ! (λ δ.
        returns ! (look_at ! 0 refl) $ free_all ! refl $ keep ! (0 ∷ 2 ∷ []) $ split3 ! $
        suffices ! _ (ends_at 𝓛 (ended X Y) (stayed X Y) clauses bound (slice_val (b, o) 0) (record { ref_ptr = (b, o); ghost_name = δ; now = [] }) (tt, tt) (tt, tt)) $
        nothing ! $ nothing ! $ fjoin ! $ join ! $ move ! (1 ∷ 3 ∷ []) $ join ! $ join ! $ frame ! $ says ! refl $ done !))

  meets : (𝓣 : Tables 𝓤 H) → Meets 𝓛 (ended X Y).signature (WpFn 𝓤 H 𝓣.C 𝓣.Λ (function X Y)) (closing 𝓛 (ended X Y) clauses)
  meets 𝓣 =
      walk_Meets 𝓛 (ended X Y) (stayed X Y) (Goes-spent_ref 𝓛 3 (0 ∷ []) tt (plain (λ _. S X Y)), tt) clauses (WpFn 𝓤 H 𝓣.C 𝓣.Λ (function X Y)) (WpFn-mono 𝓤 H 𝓛.laws 𝓣 (function X Y))
      (walked 𝓛 (ended X Y) (stayed X Y) clauses (WpFn 𝓤 H 𝓣.C 𝓣.Λ (function X Y)) (λ κs. (mut_vals, tt)) (λ κs. (mut_Tells (named 0) κs.0 (S X Y), tt))
      (λ κs qs bounds a g are.
      qed 𝓛 (raw (on_entry 𝓛 (ended X Y).signature κs qs a (mut_vals a.0, tt)) ∷ raw ((clauses κs a).requires g) ∷ []) ∵
      keep ! (0 ∷ []) $ by ! (walk 𝓣.C 𝓣.Λ κs.0 κs.1.0 κs.1.1.0 qs.0 qs.1.0 qs.1.1.0 bounds a.0.ref_ptr.0 a.0.ref_ptr.1 a.0.ghost_name a.0.now (lit< tt, omega arith))))

pub no_elements_spec : {M : Type 1} → stated.statement M
unfolding tables_of
no_elements_spec 𝓤 𝓛 𝓜 𝓡 wired X Y L L' =
    let A = 𝓛.A in
    let 𝓣 : Tables 𝓤 𝓛.H = tables_of 𝓤 𝓛.H 𝓜 (tables 𝓤 𝓛.H 𝓜 𝓡 𝓡.env) in
    entered 𝓤 𝓛.H (triple_of 𝓛 (ended X Y).signature (F.spec X Y 𝓛 𝓜.mem 𝓡.returns)) 𝓣.C 𝓣.Λ (#self (args X Y)) (function X Y) (code.unfolded 𝓤 𝓛.H 𝓜 𝓡 wired (X, (Y, tt)))
    (meets X Y 𝓛 𝓜.mem 𝓡.returns 𝓣)

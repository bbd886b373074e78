-- Objects without some of their members: what their rows read and require, and which causes they give.
use Rattle.std.proofs.Common.{◌≡◌, ℕ, Bool, true, false, not, cond, ◌&&◌, ◌||◌, List, [], ◌∷◌, refl, sym, ap, ◌∙◌}
use Rattle.std.proofs.lemmas.Bool.{and_parts}
use Rattle.std.specs.List.{list_any}
use Rattle.openapi_node.specs.Place.{Place, Step, named}
use Rattle.openapi_node.specs.Tree.{Tree}
use Rattle.openapi_tables.specs.Conforms.{conforms, row_holds, root_conforms, skips_null}
use Rattle.openapi_tables.specs.Faults.{asked, asks_members, asks_own, asks_row, asks_rows, below, root_asks}
use Rattle.openapi_tables.specs.Form as forms
use Rattle.openapi_tables.specs.Kind.{Kind, Row, class, constant, either, row, takes}
use Rattle.openapi_tables.specs.Lists.{each, every, join, same_text}
use Rattle.openapi_tables.specs.Members.{is_null, own}
use Rattle.openapi_tables.specs.Read as reading
use Rattle.openapi_tables.specs.Read.{default_of, form, key_in, slot_of_own}
use Rattle.openapi_tables.specs.Sound.{has_members}
use Rattle.openapi_tables.specs.Tables.{final_tables}
use Rattle.openapi_tables.specs.Tree.{Entry}
use Rattle.openapi_tables.proofs.FaultLaws.{askeds, judged, own_judged}
use Rattle.openapi_tables.proofs.ListLaws.{Each}
use Rattle.openapi_tables.proofs.PlainLaws.{is_plain}
use Rattle.openapi_tables.proofs.ReadLaws.{class_form-reads, pair_of, reads, slot_in}
use Rattle.openapi_tables.proofs.RowWrites.{row_holds_lem, row_holds_own}
use Rattle.openapi_faults.specs.Dropped.{dropped_at, dropped_in, is_first, takes_second}
use Rattle.openapi_faults.specs.Without.{inside, without}
use Rattle.openapi_faults.proofs.Gather.{gather, gather_below, gather_join, one_below}
use Rattle.openapi_faults.proofs.DropPlaces.{drops_move}
use Rattle.openapi_faults.proofs.Locations.{left, left_first, null_same, own_left, stays}

-- The value `u` is read as `t` is, none of its members is dropped, and under a plain kind it is `t`.
pub record Alike (k : Kind) (t u : Tree) : Type 0 where
  pub read : form final_tables k u ≡ form final_tables k t
  pub verdict : conforms final_tables k u ≡ conforms final_tables k t
  pub rest : dropped_in k u ≡ []
  pub plain : is_plain k ≡ true → u ≡ t

-- a member stays, and its value is alike
abbrev pub Stays : List Place → Kind → Entry Tree → Type 0
Stays ps k e = (stays ps e ≡ true) × Alike k e.value (without (inside (named e.name) ps) e.value)

-- what a row reads from the members that it takes stays and is alike
abbrev pub Fine : List Place → Row → List (Entry Tree) → Type 0
Fine ps (row n m k) [] = Unit {0}
Fine ps (row n m k) (e ∷ l) = (stays ps e ≡ true)
    × ((skips_null m && is_null e.value) ≡ false → Alike k e.value (without (inside (named e.name) ps) e.value))
Fine ps (either a j b k) [] = Unit {0}
Fine ps (either a j b k) (e ∷ l) = Stays ps (cond (same_text a e.name) j k) e
Fine ps (class c k) l = Each (Stays ps k) l
Fine ps (constant n v) l = Unit {0}

pub and_false : (b : Bool) → (b && false) ≡ false
and_false true = refl
and_false false = refl

pub pick : {A : Type 0} → (b c : Bool) (d x y : A) → b ≡ c → (c ≡ false → x ≡ y) → cond b d x ≡ cond c d y
pick b true d x y e f = ap (λ z. cond z d x) e
pick b false d x y e f = ap (λ z. cond z d x) e ∙ f refl

or_same : (b c x y : Bool) → b ≡ c → (c ≡ false → x ≡ y) → (b || x) ≡ (c || y)
or_same b true x y e f = ap (λ z. z || x) e
or_same b false x y e f = ap (λ z. z || x) e ∙ f refl

-- if nothing is dropped from a value, nothing is dropped from it one step below
pub below_none : (s : Step) (k : Kind) (u : Tree) → dropped_in k u ≡ []
    → gather dropped_at (below s (asked final_tables k u)) ≡ []
below_none s k u h = gather_below dropped_at drops_move s (asked final_tables k u) ∙ ap (each (one_below s)) h

module _ (ps : List Place) where
  -- ---- what a row reads

  pub pairs_fine : (g : List ℕ → forms.Key) (k : Kind) (l : List (Entry Tree)) → Each (Stays ps k) l
      → each (pair_of final_tables g k) (left ps l) ≡ each (pair_of final_tables g k) l
  pairs_fine g k [] h = refl
  pairs_fine g k (e ∷ l) h =
      ap (each (pair_of final_tables g k)) (left_first ps e l h.0.0)
      ∙ ap (λ f. record { key = g e.name; value = f } ∷ each (pair_of final_tables g k) (left ps l)) h.0.1.read
      ∙ ap (λ x. pair_of final_tables g k e ∷ x) (pairs_fine g k l h.1)

  slot_fine : (w : Row) (l : List (Entry Tree)) → Fine ps w l
      → slot_of_own w (reads final_tables (left ps l)) ≡ slot_of_own w (reads final_tables l)
  slot_fine (row n m k) [] h = refl
  slot_fine (row n m k) (e ∷ l) h =
      ap (λ x. slot_of_own (row n m k) (reads final_tables x)) (left_first ps e l h.0)
      ∙ pick (is_null (without (inside (named e.name) ps) e.value)) (is_null e.value) (default_of m k)
      (form final_tables k (without (inside (named e.name) ps) e.value)) (form final_tables k e.value)
      (null_same (inside (named e.name) ps) e.value)
      (λ q. (h.1 (ap (λ b. skips_null m && b) q ∙ and_false (skips_null m))).read)
  slot_fine (either a j b k) [] h = refl
  slot_fine (either a j b k) (e ∷ l) h =
      ap (λ x. slot_of_own (either a j b k) (reads final_tables x)) (left_first ps e l h.0)
      ∙ ap (λ f. forms.deciding e.name f) h.1.read
  slot_fine (class c k) l h =
      class_form-reads final_tables c k (left ps l) ∙ ap (λ x. forms.named (forms.named_of (reading.gather c x))) (pairs_fine (key_in c) k l h)
      ∙ sym (class_form-reads final_tables c k l)
  slot_fine (constant n v) l h = refl

  -- ---- whether a row conforms

  pub all_fine : (k : Kind) (l : List (Entry Tree)) → Each (Stays ps k) l
      → every (λ e. e.value.answer k) (judged final_tables (left ps l)) ≡ every (λ e. e.value.answer k) (judged final_tables l)
  all_fine k [] h = refl
  all_fine k (e ∷ l) h =
      ap (λ x. every (λ e. e.value.answer k) (judged final_tables x)) (left_first ps e l h.0.0)
      ∙ ap (λ b. b && every (λ e. e.value.answer k) (judged final_tables (left ps l))) h.0.1.verdict
      ∙ ap (λ b. conforms final_tables k e.value && b) (all_fine k l h.1)

  holds_fine : (w : Row) (l : List (Entry Tree)) → has_members w ≡ true → Fine ps w l
      → row_holds_own w (judged final_tables (left ps l)) ≡ row_holds_own w (judged final_tables l)
  holds_fine (row n m k) [] o h = refl
  holds_fine (row n m k) (e ∷ l) o h =
      ap (λ x. row_holds_own (row n m k) (judged final_tables x)) (left_first ps e l h.0)
      ∙ or_same (skips_null m && is_null (without (inside (named e.name) ps) e.value)) (skips_null m && is_null e.value)
      (conforms final_tables k (without (inside (named e.name) ps) e.value)) (conforms final_tables k e.value)
      (ap (λ b. skips_null m && b) (null_same (inside (named e.name) ps) e.value)) (λ q. (h.1 q).verdict)
  holds_fine (either a j b k) [] o h = refl
  holds_fine (either a j b k) (e ∷ l) o h =
      ap (λ x. row_holds_own (either a j b k) (judged final_tables x)) (left_first ps e l h.0) ∙ h.1.verdict
  holds_fine (class c k) l o h = all_fine k l h
  holds_fine (constant n v) l o h = cc

  -- ---- what is dropped below a row

  pub none_below : (k : Kind) (l : List (Entry Tree)) → Each (Stays ps k) l
      → gather dropped_at (asks_members k (askeds final_tables (left ps l))) ≡ []
  none_below k [] h = refl
  none_below k (e ∷ l) h =
      let u = without (inside (named e.name) ps) e.value in
      ap (λ x. gather dropped_at (asks_members k (askeds final_tables x))) (left_first ps e l h.0.0)
      ∙ gather_join dropped_at (below (named e.name) (asked final_tables k u)) (asks_members k (askeds final_tables (left ps l)))
      ∙ ap (λ x. join x (gather dropped_at (asks_members k (askeds final_tables (left ps l))))) (below_none (named e.name) k u h.0.1.rest)
      ∙ none_below k l h.1

  asks_fine : (w : Row) (l : List (Entry Tree)) → Fine ps w l
      → gather dropped_at (asks_own w (askeds final_tables (left ps l))) ≡ []
  asks_fine (row n m k) [] h = refl
  asks_fine (row n m k) (e ∷ l) h =
      ap (λ x. gather dropped_at (asks_own (row n m k) (askeds final_tables x))) (left_first ps e l h.0)
      ∙ ap (λ b. gather dropped_at (cond b [] (below (named e.name) (asked final_tables k u))))
      (ap (λ b. skips_null m && b) (null_same (inside (named e.name) ps) e.value))
      ∙ go (skips_null m && is_null e.value) h.1
    where
      u : Tree
      u = without (inside (named e.name) ps) e.value

      go : (c : Bool) → (c ≡ false → Alike k e.value u)
          → gather dropped_at (cond c [] (below (named e.name) (asked final_tables k u))) ≡ []
      go true f = refl
      go false f = below_none (named e.name) k u (f refl).rest
  asks_fine (either a j b k) [] h = refl
  asks_fine (either a j b k) (e ∷ l) h =
      ap (λ x. gather dropped_at (asks_own (either a j b k) (askeds final_tables x))) (left_first ps e l h.0)
      ∙ below_none (named e.name) (cond (same_text a e.name) j k) (without (inside (named e.name) ps) e.value) h.1.rest
  asks_fine (class c k) l h = none_below k l h
  asks_fine (constant n v) [] h = refl
  asks_fine (constant n v) (e ∷ l) h = cc

  -- ---- which of two members is the first

  first_fine : (a b : List ℕ) (j k : Kind) (l : List (Entry Tree)) (n : List ℕ) → Fine ps (either a j b k) l
      → is_first (left ps l) n ≡ is_first l n
  first_fine a b j k [] n h = refl
  first_fine a b j k (e ∷ l) n h = ap (λ x. is_first x n) (left_first ps e l h.0)

  module _ (es : List (Entry Tree)) where
    -- all that rows read stays
    abbrev AllFine : List Row → Type 0
    AllFine ws = Each (λ w. Fine ps w (own w es)) ws

    pub slot_same : (w : Row) → Fine ps w (own w es) → slot_in final_tables (left ps es) w ≡ slot_in final_tables es w
    slot_same w h = ap (λ l. slot_of_own w (reads final_tables l)) (own_left ps w es) ∙ slot_fine w (own w es) h

    pub slots_fine : (ws : List Row) → Each (λ w. Fine ps w (own w es)) ws
        → each (slot_in final_tables (left ps es)) ws ≡ each (slot_in final_tables es) ws
    slots_fine [] h = refl
    slots_fine (w ∷ ws) h =
        ap (λ f. f ∷ each (slot_in final_tables (left ps es)) ws) (slot_same w h.0)
        ∙ ap (λ l. slot_in final_tables es w ∷ l) (slots_fine ws h.1)

    by_own : (w : Row) (l : List (Entry Tree)) → row_holds (judged final_tables l) w ≡ row_holds_own w (judged final_tables (own w l))
    by_own w l = row_holds_lem w (judged final_tables l) ∙ ap (row_holds_own w) (own_judged (root_conforms final_tables) w l)

    pub rows_fine : (ws : List Row) → every has_members ws ≡ true → Each (λ w. Fine ps w (own w es)) ws
        → every (row_holds (judged final_tables (left ps es))) ws ≡ every (row_holds (judged final_tables es)) ws
    rows_fine [] o h = refl
    rows_fine (w ∷ ws) o h =
        let p = and_parts (has_members w) (every has_members ws) o in
        ap (λ b. b && every (row_holds (judged final_tables (left ps es))) ws)
        (by_own w (left ps es) ∙ ap (λ l. row_holds_own w (judged final_tables l)) (own_left ps w es)
        ∙ holds_fine w (own w es) p.0 h.0 ∙ sym (by_own w es))
        ∙ ap (λ b. row_holds (judged final_tables es) w && b) (rows_fine ws p.1 h.1)

    pub none_asked : (ws : List Row) → Each (λ w. Fine ps w (own w es)) ws
        → gather dropped_at (asks_rows (askeds final_tables (left ps es)) ws) ≡ []
    none_asked [] h = refl
    none_asked (w ∷ ws) h =
        let later = asks_rows (askeds final_tables (left ps es)) ws in
        gather_join dropped_at (asks_row (askeds final_tables (left ps es)) w) later
        ∙ ap (λ l. join (gather dropped_at (asks_own w l)) (gather dropped_at later))
        (own_judged (root_asks final_tables) w (left ps es) ∙ ap (askeds final_tables) (own_left ps w es))
        ∙ ap (λ l. join l (gather dropped_at later)) (asks_fine w (own w es) h.0) ∙ none_asked ws h.1

    second_fine : (w : Row) (n : List ℕ) → Fine ps w (own w es) → takes_second (left ps es) n w ≡ takes_second es n w
    second_fine (either a j b k) n h =
        ap (λ b'. takes (either a j b k) n && not b')
        (ap (λ l. is_first l n) (own_left ps (either a j b k) es) ∙ first_fine a b j k (own (either a j b k) es) n h)
    second_fine (row a m k) n h = refl
    second_fine (class c k) n h = refl
    second_fine (constant a v) n h = refl

    pub seconds_fine : (ws : List Row) (n : List ℕ) → Each (λ w. Fine ps w (own w es)) ws
        → list_any (takes_second (left ps es) n) ws ≡ list_any (takes_second es n) ws
    seconds_fine [] n h = refl
    seconds_fine (w ∷ ws) n h =
        ap (λ b. b || list_any (takes_second (left ps es) n) ws) (second_fine w n h.0)
        ∙ ap (λ b. takes_second es n w || b) (seconds_fine ws n h.1)

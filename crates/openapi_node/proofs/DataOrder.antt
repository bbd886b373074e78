-- The members of an object in data are in the order of their names, so the value found at each name determines the object.
use Rattle.std.proofs.Common.{◌≡◌, ℕ, ◌≤◌, List, Option, Some, None, Ordering, Less, Equal, Greater, nat_cmp, is_eq}
use Rattle.std.proofs.Common.{is_some, refl, sym, ap, ◌∙◌, true≢false, arith}
use Rattle.std.proofs.lemmas.Cmp.{nat_list_cmp_total, tied_itself}
use Rattle.std.proofs.lemmas.Map.Text.{is_eq-slice_cmp}
use Rattle.std.proofs.lemmas.Slice.Eq.{bytes_eq-Decides}
use Rattle.std.specs.Cmp.Lexicographic.{slice_cmp}
use Rattle.std.specs.Ordering.{match_ordering, ordering_reverse}
use Rattle.serde_json.specs.Data.{Data, Members, no_members, member, put}
use Rattle.serde_json.specs.Events.{members_len}
use Rattle.serde_json.specs.Find.{get_member}

-- a name is less than those of all members
abbrev pub Below : List ℕ → Members → Type 0
Below k no_members = Unit {0}
Below k (member l d ms) = (slice_cmp nat_cmp k l ≡ Less) × Below k ms

-- each name is less than those after it
abbrev pub InOrder : Members → Type 0
InOrder no_members = Unit {0}
InOrder (member k d ms) = Below k ms × InOrder ms

Below-trans : (k l : List ℕ) (ms : Members) → slice_cmp nat_cmp k l ≡ Less → Below l ms → Below k ms
Below-trans k l no_members h b = tt
Below-trans k l (member m d ms) h b = (nat_list_cmp_total.trans k l m h b.0, Below-trans k l ms h b.1)

Below-put : (k l : List ℕ) (d : Data) (ms : Members) → slice_cmp nat_cmp k l ≡ Less → Below k ms → Below k (put l d ms)
Below-put k l d no_members h b = (h, tt)
Below-put k l d (member m e ms) h b = by (slice_cmp nat_cmp l m) (Below-put k l d ms h b.1)
  where
    by : (o : Ordering) → Below k (put l d ms)
        → Below k (match_ordering o (member l d (member m e ms)) (member m d ms) (member m e (put l d ms)))
    by Less rest = (h, b)
    by Equal rest = b
    by Greater rest = (b.0, rest)

turned : (k l : List ℕ) → slice_cmp nat_cmp k l ≡ Greater → slice_cmp nat_cmp l k ≡ Less
turned k l h = nat_list_cmp_total.antisymm l k ∙ ap ordering_reverse h

-- members in order stay in order if one is put among them
pub InOrder-put : (k : List ℕ) (d : Data) (ms : Members) → InOrder ms → InOrder (put k d ms)
InOrder-put k d no_members o = (tt, tt)
InOrder-put k d (member l e ms) o = by (slice_cmp nat_cmp k l) refl (InOrder-put k d ms o.1)
  where
    by : (r : Ordering) → slice_cmp nat_cmp k l ≡ r → InOrder (put k d ms)
        → InOrder (match_ordering r (member k d (member l e ms)) (member l d ms) (member l e (put k d ms)))
    by Less h rest = ((h, Below-trans k l ms h o.0), o)
    by Equal h rest = o
    by Greater h rest = (Below-put l k d ms (turned k l h) o.0, rest)

missing : (k : List ℕ) (ms : Members) → Below k ms → get_member k ms ≡ None
missing k no_members b = refl
missing k (member l e ms) b = ap (λ o. match_ordering o (get_member k ms) (Some e) (get_member k ms)) b.0
    ∙ missing k ms b.1

first_found : (k : List ℕ) (d : Data) (ms : Members) → get_member k (member k d ms) ≡ Some d
first_found k d ms =
    ap (λ o. match_ordering o (get_member k ms) (Some d) (get_member k ms)) (tied_itself nat_list_cmp_total k)

-- two names that compare as equal are the same
pub tied : (k l : List ℕ) → slice_cmp nat_cmp k l ≡ Equal → k ≡ l
tied k l h = (bytes_eq-Decides k l).0 (sym (is_eq-slice_cmp k l) ∙ ap is_eq h)

skips : (k l : List ℕ) (d : Data) (ms : Members) → (k ≡ l → ⊥) → get_member k (member l d ms) ≡ get_member k ms
skips k l d ms apart = by (slice_cmp nat_cmp k l) refl
  where
    by : (r : Ordering) → slice_cmp nat_cmp k l ≡ r
        → match_ordering r (get_member k ms) (Some d) (get_member k ms) ≡ get_member k ms
    by Less h = refl
    by Equal h = absurd (apart (tied k l h))
    by Greater h = refl

-- a missing value is not found
pub not_both : {A : Type 0} {r : Option A} {x : A} → r ≡ None → r ≡ Some x → ⊥
not_both n s = true≢false (sym (ap is_some s) ∙ ap is_some n)

-- a name that is found among members is not a name that is less than those of all of them
other_name : (k l : List ℕ) (c : Data) (ms : Members) → Below l ms → get_member k ms ≡ Some c → k ≡ l → ⊥
other_name k l c ms b found same = not_both (ap (λ n. get_member n ms) same ∙ missing l ms b) found

-- each member of the first is found in the second
abbrev pub Within : Members → Members → Type 0
Within ms ns = (k : List ℕ) (d : Data) → get_member k ms ≡ Some d → get_member k ns ≡ Some d

-- the first has no more members than the second, and if it has as many it is the second
pub record Fits (ms ns : Members) : Type 0 where
  pub fewer : members_len ms ≤ members_len ns
  pub same : members_len ns ≤ members_len ms → ms ≡ ns

-- members in order that are all found among others in order are no more than these, and the same if as many
pub fits : (ms ns : Members) → InOrder ms → InOrder ns → Within ms ns → Fits ms ns
fits no_members no_members o p within = record { fewer = omega arith; same = λ h. refl }
fits no_members (member l e ns) o p within = record { fewer = omega arith; same = λ h. absurd (omega arith) }
fits (member k d ms) no_members o p within = absurd (not_both refl (within k d (first_found k d ms)))
fits (member k d ms) (member l e ns) o p within =
    by (slice_cmp nat_cmp k l) refl (λ w. fits ms ns o.1 p.1 w) (λ w. fits (member k d ms) ns o p.1 w)
  where
    by : (r : Ordering) → slice_cmp nat_cmp k l ≡ r → (Within ms ns → Fits ms ns)
        → (Within (member k d ms) ns → Fits (member k d ms) ns)
        → Fits (member k d ms) (member l e ns)
    by Less h both later =
        absurd (not_both (missing k (member l e ns) (h, Below-trans k l ns h p.0)) (within k d (first_found k d ms)))
    by Equal h both later =
        let name : k ≡ l = tied k l h in
        let value : Some e ≡ Some d =
        sym (ap (λ o. match_ordering o (get_member k ns) (Some e) (get_member k ns)) h)
        ∙ within k d (first_found k d ms) in
        let inner : Within ms ns =
        λ q c found. let apart : q ≡ k → ⊥ = other_name q k c ms o.0 found in
        sym (skips q l e ns (λ s. apart (s ∙ sym name))) ∙ within q c (skips q k d ms apart ∙ found) in
        let rest = both inner in
        record {
          fewer = omega (arith, rest.fewer);
          same = λ n. let same : ms ≡ ns = rest.same (omega arith) in cc;
        }
    by Greater h both later =
        let below = turned k l h in
        let inner : Within (member k d ms) ns =
        λ q c found. sym (skips q l e ns
        (other_name q l c (member k d ms) (below, Below-trans l k ms below o.0) found)) ∙ within q c found in
        let rest = later inner in
        record { fewer = omega (arith, rest.fewer); same = λ n. absurd (omega (arith, rest.fewer)) }

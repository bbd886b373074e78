-- `told` contains exactly the causes that are broken.
use Rattle.std.proofs.Common.{◌≡◌, ◌⊎◌, ℕ, true, ◌&&◌, List, [], ◌∷◌, Some, refl, sym, ap, ◌∙◌, subst, inl, inr, codes}
use Rattle.openapi_node.specs.Fault.{place_of}
use Rattle.openapi_node.specs.Place.{Place}
use Rattle.openapi_node.specs.Tree.{Tree}
use Rattle.openapi_node.specs.declared.fault.Cause as declared
use Rattle.openapi_node.specs.declared.fault.Cause.TheVariants.{Missing, MissingEither, WrongKind, NotAllowed}
use Rattle.openapi_node.specs.declared.fault.Cause.TheVariants.{UnknownVariant, NameNotWritable, NotWhole, Memory}
use Rattle.openapi_tables.specs.ByRow.{Broken, asking}
use Rattle.openapi_tables.specs.Conforms.{conforms}
use Rattle.openapi_tables.specs.Faults.{Asking, Cause, asked, causes, is_met, missing, missing_either, not_allowed}
use Rattle.openapi_tables.specs.Faults.{unknown_variant, wrong_kind}
use Rattle.openapi_tables.specs.Kind as kind
use Rattle.openapi_tables.specs.Kind.{Kind, TableName}
use Rattle.openapi_tables.specs.Laws.{Among}
use Rattle.openapi_tables.specs.Lists.{each, every, flat, is_empty, join}
use Rattle.openapi_tables.specs.Tables.{final_tables}
use Rattle.openapi_tables.proofs.ByRowLaws.{among_left, among_right}
use Rattle.openapi_tables.proofs.FaultLaw.{conforms-asked}
use Rattle.openapi_tables.proofs.WellMade.{final_sound}
use Rattle.openapi_fields.specs.Returned.{FailsBy}
use Rattle.openapi_faults.specs.Dropped.{tag_of_table}
use Rattle.openapi_faults.specs.Laws.{AllTold, NothingWrong, RefusalTold, TagsOfTables}
use Rattle.openapi_faults.specs.Meaning.{cases_of, kind_of, tag_name}
use Rattle.openapi_faults.specs.Told.{cause_in, known, told, told_at}
use Rattle.openapi_faults.specs.declared.tag.Tag.{Tag}
use Rattle.openapi_faults.specs.declared.tag.Tag.TheVariants as g
use Rattle.openapi_faults.proofs.SoundKinds.{kind_sound}

-- ---- nothing is wrong

empty-join : {A : Type 0} → (xs ys : List A) → is_empty (join xs ys) ≡ (is_empty xs && is_empty ys)
empty-join [] ys = refl
empty-join (x ∷ xs) ys = refl

empty-each : {A B : Type 0} → (f : A → B) (xs : List A) → is_empty (each f xs) ≡ is_empty xs
empty-each f [] = refl
empty-each f (x ∷ xs) = refl

every_told : (as' : List Asking) → every (is_met final_tables) as' ≡ is_empty (flat (each (told_at final_tables) as'))
every_told [] = refl
every_told (a ∷ as') =
    let rest = flat (each (told_at final_tables) as') in
    ap (λ b. is_empty (causes final_tables a.kind a.tree) && b) (every_told as')
    ∙ ap (λ b. b && is_empty rest) (sym (empty-each (λ (c : Cause). (a.place, c)) (causes final_tables a.kind a.tree)))
    ∙ sym (empty-join (told_at final_tables a) rest)

to_empty : {A : Type 0} → (xs : List A) → xs ≡ [] → is_empty xs ≡ true
to_empty xs e = ap is_empty e

from_empty : {A : Type 0} → (xs : List A) → is_empty xs ≡ true → xs ≡ []
from_empty [] h = refl
from_empty (x ∷ xs) h = cc

pub nothing_wrong : NothingWrong
nothing_wrong k t =
    let same : conforms final_tables (kind_of k) t ≡ is_empty (told final_tables (kind_of k) t) =
    conforms-asked final_tables final_sound t (kind_of k) (kind_sound k) ∙ every_told (asked final_tables (kind_of k) t) in (
      λ e. same ∙ to_empty (told final_tables (kind_of k) t) e,
      λ e. from_empty (told final_tables (kind_of k) t) (sym same ∙ e),
    )

-- ---- what is broken

pub among_each : {A B : Type 0} → (f : A → B) (x : A) (xs : List A) → Among x xs → Among (f x) (each f xs)
among_each f x [] h = absurd h
among_each f x (y ∷ xs) (inl e) = inl (ap f e)
among_each f x (y ∷ xs) (inr h) = inr (among_each f x xs h)

pub from_each : {A B : Type 0} → (f : A → B) (y : B) (xs : List A) → Among y (each f xs) → (x : A) × Among x xs × (y ≡ f x)
from_each f y [] h = absurd h
from_each f y (x ∷ xs) (inl e) = (x, inl refl, e)
from_each f y (x ∷ xs) (inr h) = let r = from_each f y xs h in (r.0, inr r.1, r.2)

pub from_join : {A : Type 0} → (x : A) (xs ys : List A) → Among x (join xs ys) → Among x xs ⊎ Among x ys
from_join x [] ys h = inr h
from_join x (y ∷ xs) ys (inl e) = inl (inl e)
from_join x (y ∷ xs) ys (inr h) = elim (from_join x xs ys h) [ inl a ↦ inl (inr a) | inr a ↦ inr a ]

told_of : (a : Asking) (c : Cause) (as' : List Asking) → Among a as' → Among c (causes final_tables a.kind a.tree)
    → Among (a.place, c) (flat (each (told_at final_tables) as'))
told_of a c [] m h = absurd m
told_of a c (b ∷ as') (inl e) h =
    let here : Among (a.place, c) (told_at final_tables a) =
    among_each (λ (d : Cause). (a.place, d)) c (causes final_tables a.kind a.tree) h in
    among_left (a.place, c) (told_at final_tables b) (flat (each (told_at final_tables) as'))
    (subst (λ d. Among (a.place, c) (told_at final_tables d)) e here)
told_of a c (b ∷ as') (inr m) h =
    among_right (a.place, c) (told_at final_tables b) (flat (each (told_at final_tables) as')) (told_of a c as' m h)

record Breaks (as' : List Asking) (p : Place) (c : Cause) : Type 0 where
  by : Asking
  among : Among by as'
  place : p ≡ by.place
  breaks : Among c (causes final_tables by.kind by.tree)

breaks_here : (a : Asking) (as' : List Asking) (p : Place) (c : Cause)
    → ((d : Cause) × Among d (causes final_tables a.kind a.tree) × ◌≡◌ {A = Place × Cause} (p, c) (a.place, d)) → Breaks (a ∷ as') p c
breaks_here a as' p c r =
    record {
      by = a;
      among = inl refl;
      place = ap (λ (q : Place × Cause). q.0) r.2;
      breaks = subst (λ d. Among d (causes final_tables a.kind a.tree)) (sym (ap (λ (q : Place × Cause). q.1) r.2)) r.1;
    }

breaks_later : (a : Asking) (as' : List Asking) (p : Place) (c : Cause) → Breaks as' p c → Breaks (a ∷ as') p c
breaks_later a as' p c b = record { by = b.by; among = inr b.among; place = b.place; breaks = b.breaks }

told_by : (p : Place) (c : Cause) (as' : List Asking) → Among (p, c) (flat (each (told_at final_tables) as')) → Breaks as' p c
told_by p c [] h = absurd h
told_by p c (a ∷ as') h =
    elim (from_join (p, c) (told_at final_tables a) (flat (each (told_at final_tables) as')) h) [
      | inl m ↦ breaks_here a as' p c (from_each (λ (d : Cause). (a.place, d)) (p, c) (causes final_tables a.kind a.tree) m)
      | inr m ↦ breaks_later a as' p c (told_by p c as' m)
    ]

broken_told : (k : Kind) (t : Tree) (p : Place) (c : Cause) → Broken final_tables k t p c → Among (p, c) (told final_tables k t)
broken_told k t p c b = told_of (asking p b.kind b.tree) c (asked final_tables k t) b.is_asked b.breaks

told_broken : (k : Kind) (t : Tree) (p : Place) (c : Cause) → Among (p, c) (told final_tables k t) → Broken final_tables k t p c
told_broken k t p c h =
    let b = told_by p c (asked final_tables k t) h in
    record {
      kind = b.by.kind;
      tree = b.by.tree;
      is_asked = subst (λ q. Among (asking q b.by.kind b.by.tree) (asked final_tables k t)) (sym b.place) b.among;
      breaks = b.breaks;
    }

pub all_told : AllTold
all_told k t p c = (broken_told k t p c, told_broken k t p c)

-- ---- the error of a reader

pub refusal_told : RefusalTold
refusal_told f k t h = go f.cause (place_of f) h
  where
    is : (c : Cause) (p : Place) → Broken final_tables k t p c → Among (p, Some c) (each known (told final_tables k t))
    is c p b = among_each known (p, c) (told final_tables k t) (broken_told k t p c b)

    go : (d : declared.Cause) (p : Place) → FailsBy d p k t
        → (d ≡ Memory) ⊎ Among (p, cause_in d) (each known (told final_tables k t))
    go (Missing n) p b = inr (is (missing n.now) p b)
    go (MissingEither n m) p b = inr (is (missing_either n.now m.now) p b)
    go (WrongKind w) p b = inr (is (wrong_kind w) p b)
    go NotAllowed p b = inr (is not_allowed p b)
    go UnknownVariant p b = inr (is unknown_variant p b)
    go NameNotWritable p b = absurd b
    go NotWhole p b = absurd b
    go Memory p b = inl refl

-- ---- the tags of tables

abbrev IsFound : TableName → List ℕ → Type 0
IsFound i n = (tag : Tag) × (n ≡ tag_name tag) × Among i (each (λ c. c.table) (cases_of tag))

by_tag : (tag : Tag) (i : TableName) → Among i (each (λ c. c.table) (cases_of tag)) → tag_of_table i ≡ Some (tag_name tag)
by_tag g.Parameter i (inl e) = ap tag_of_table e
by_tag g.Parameter i (inr (inl e)) = ap tag_of_table e
by_tag g.Parameter i (inr (inr (inl e))) = ap tag_of_table e
by_tag g.Parameter i (inr (inr (inr (inl e)))) = ap tag_of_table e
by_tag g.Parameter i (inr (inr (inr (inr h)))) = absurd h
by_tag g.SecurityScheme i (inl e) = ap tag_of_table e
by_tag g.SecurityScheme i (inr (inl e)) = ap tag_of_table e
by_tag g.SecurityScheme i (inr (inr (inl e))) = ap tag_of_table e
by_tag g.SecurityScheme i (inr (inr (inr (inl e)))) = ap tag_of_table e
by_tag g.SecurityScheme i (inr (inr (inr (inr h)))) = absurd h
by_tag g.SchemaType i (inl e) = ap tag_of_table e
by_tag g.SchemaType i (inr (inl e)) = ap tag_of_table e
by_tag g.SchemaType i (inr (inr (inl e))) = ap tag_of_table e
by_tag g.SchemaType i (inr (inr (inr (inl e)))) = ap tag_of_table e
by_tag g.SchemaType i (inr (inr (inr (inr (inl e))))) = ap tag_of_table e
by_tag g.SchemaType i (inr (inr (inr (inr (inr (inl e)))))) = ap tag_of_table e
by_tag g.SchemaType i (inr (inr (inr (inr (inr (inr h)))))) = absurd h

named : (m n : List ℕ) → Some m ≡ Some n → n ≡ m
named m n h = cc

found : (i : TableName) (n : List ℕ) → tag_of_table i ≡ Some n → IsFound i n
found kind.query_parameter n h = (g.Parameter, named (codes "in") n h, inl refl)
found kind.header_parameter n h = (g.Parameter, named (codes "in") n h, inr (inl refl))
found kind.path_parameter n h = (g.Parameter, named (codes "in") n h, inr (inr (inl refl)))
found kind.cookie_parameter n h = (g.Parameter, named (codes "in") n h, inr (inr (inr (inl refl))))
found kind.api_key_scheme n h = (g.SecurityScheme, named (codes "type") n h, inl refl)
found kind.http_scheme n h = (g.SecurityScheme, named (codes "type") n h, inr (inl refl))
found kind.oauth2_scheme n h = (g.SecurityScheme, named (codes "type") n h, inr (inr (inl refl)))
found kind.open_id_connect_scheme n h = (g.SecurityScheme, named (codes "type") n h, inr (inr (inr (inl refl))))
found kind.string_type n h = (g.SchemaType, named (codes "type") n h, inl refl)
found kind.number_type n h = (g.SchemaType, named (codes "type") n h, inr (inl refl))
found kind.integer_type n h = (g.SchemaType, named (codes "type") n h, inr (inr (inl refl)))
found kind.object_type n h = (g.SchemaType, named (codes "type") n h, inr (inr (inr (inl refl))))
found kind.array_type n h = (g.SchemaType, named (codes "type") n h, inr (inr (inr (inr (inl refl)))))
found kind.boolean_type n h = (g.SchemaType, named (codes "type") n h, inr (inr (inr (inr (inr (inl refl))))))
found i n h = cc

pub tags_of_tables : TagsOfTables
tags_of_tables i n = (found i n, λ r. by_tag r.0 i r.2 ∙ ap (λ m. Some m) (sym r.1))

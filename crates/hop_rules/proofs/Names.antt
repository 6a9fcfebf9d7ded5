-- What goes by the names of what it is made of.
use Rattle.std.proofs.Common.{◌≡◌, ℕ, Bool, true, false, ◌==◌, ◌||◌, ◌&&◌, not, List, [], ◌∷◌, ◌++◌, Option, Some, None}
use Rattle.std.proofs.Common.{refl, subst, sym, ap, ◌∙◌, map, cond, inl, inr}
use Rattle.std.specs.Prelude.{filter, option_map, if◌then◌else◌, IfSome}
use Rattle.of10_actions.specs.Fields.{RewriteOf}
use Rattle.of10_actions.specs.declared.effects.Tail.{Tail}
use Rattle.of10_actions.specs.declared.effects.Tail.TheVariants.{Nothing, Pass, Link}
use Rattle.std.specs.List.{list_any}
use Rattle.std.specs.Option.{option_and_then}
use Rattle.std.proofs.lemmas.List.Folds.{list_any-append}
use Rattle.rule_ancestry.specs.Holding.{Held, is_outside}
use Rattle.rule_ancestry.proofs.StoreLemmas.{eq-other, eq-same}
use Rattle.std.proofs.lemmas.Bool.{cases_eq}
use Rattle.list_change.specs.Pairing.{made}
use Rattle.list_change.proofs.Kept.{made-without_left, made-without_right}
use Rattle.policy_meaning.specs.Hops.{hop_lone, hop_rule}
use Rattle.policy_meaning.specs.declared.network.Place.{Place}
use Rattle.policy_meaning.specs.declared.rule.Rule.{Rule}
use Rattle.made_rules.specs.Rules.{is_made_of, is_one_of, same_origin}
use Rattle.made_rules.specs.declared.made.Made.{Made}
use Rattle.made_rules.specs.declared.made.Origin.{Origin}
use Rattle.hop_rules.specs.Nodes.{Arrival, arrived, hop_way, leads_there, lone_by, made_alone, made_of_pair, own}
use Rattle.hop_rules.specs.Nodes.{pair_by}
use Rattle.hop_rules.specs.Turns.{gone_at, lost_there}
use Rattle.hop_rules.specs.Standing.{departing, exit_of, leads_back, leaving, over, standing}
use Rattle.hop_rules.specs.declared.exits.Exit.{Exit}
use Rattle.hop_rules.specs.declared.node.Turn.{Turn}
use Rattle.hop_rules.specs.declared.standing.Departure.{Departure}

-- ---- what is lost by one of two lists of names
either-of : (a b c d : Bool) → ((a || b) || (c || d)) ≡ ((a || c) || (b || d))
either-of true b c d = refl
either-of false true true d = refl
either-of false true false d = refl
either-of false false c d = refl

module _ (xs ys : List Origin) where
  any-of-both : (os : List Origin) → list_any (is_one_of (xs ++ ys)) os
      ≡ (list_any (is_one_of xs) os || list_any (is_one_of ys) os)
  any-of-both [] = refl
  any-of-both (o ∷ os) =
      ap (λ z. z || list_any (is_one_of (xs ++ ys)) os) (list_any-append (same_origin o) xs ys)
      ∙ ap (λ z. (is_one_of xs o || is_one_of ys o) || z) (any-of-both os)
      ∙ either-of (is_one_of xs o) (is_one_of ys o) (list_any (is_one_of xs) os) (list_any (is_one_of ys) os)

  neither-cond : {A : Type 0} (a b : Bool) (m : A) (rest : List A)
      → cond (not (a || b)) (m ∷ rest) rest ≡ cond (not a) (cond (not b) (m ∷ rest) rest) rest
  neither-cond true b m rest = refl
  neither-cond false b m rest = refl

  inner : {A : Type 0} (p q : A → Bool) (m : A) (t : Bool) (ms : List A)
      → filter q (cond t (m ∷ filter p ms) (filter p ms))
      ≡ cond t (cond (q m) (m ∷ filter q (filter p ms)) (filter q (filter p ms))) (filter q (filter p ms))
  inner p q m true ms = refl
  inner p q m false ms = refl

  -- what is made of neither
  pub neither : (ms : List Made) → filter (λ m. not (is_made_of (xs ++ ys) m)) ms
      ≡ filter (λ m. not (is_made_of ys m)) (filter (λ m. not (is_made_of xs m)) ms)
  neither [] = refl
  neither (m ∷ ms) =
      let p = λ (m : Made). not (is_made_of xs m) in
      let q = λ (m : Made). not (is_made_of ys m) in
      ap (λ t. cond (not t) (m ∷ filter (λ m. not (is_made_of (xs ++ ys) m)) ms)
      (filter (λ m. not (is_made_of (xs ++ ys) m)) ms)) (any-of-both m.origins)
      ∙ ap (λ z. cond (not (is_made_of xs m || is_made_of ys m)) (m ∷ z) z) (neither ms)
      ∙ neither-cond (is_made_of xs m) (is_made_of ys m) m (filter q (filter p ms))
      ∙ sym (inner p q m (p m) ms)

-- ---- the names of rules of the virtual switch
own-lost : (id : ℕ) (gone : List ℕ) → is_one_of (map own gone) (own id) ≡ list_any (λ x. id == x) gone
own-lost id [] = refl
own-lost id (x ∷ gone) = ap (λ z. (id == x) || z) (own-lost id gone)

arrived-own : (place id : ℕ) (gone : List ℕ) → is_one_of (map own gone) (arrived place id) ≡ false
arrived-own place id [] = refl
arrived-own place id (x ∷ gone) = arrived-own place id gone

own-arrived : (id place : ℕ) (gone : List ℕ) → is_one_of (map (arrived place) gone) (own id) ≡ false
own-arrived id place [] = refl
own-arrived id place (x ∷ gone) = own-arrived id place gone

and-none : (t : Bool) → false ≡ (t && false)
and-none true = refl
and-none false = refl

both-and : (t a b : Bool) → ((t && a) || (t && b)) ≡ (t && (a || b))
both-and true a b = refl
both-and false a b = refl

one-lost : (k id place : ℕ) (gone : List ℕ)
    → is_one_of (map (arrived place) gone) (arrived k id) ≡ ((k == place) && list_any (λ x. id == x) gone)
one-lost k id place [] = and-none (k == place)
one-lost k id place (x ∷ gone) = ap (λ z. ((k == place) && (id == x)) || z) (one-lost k id place gone)
    ∙ both-and (k == place) (id == x) (list_any (λ x. id == x) gone)

and-both : (s t a : Bool) → ((s && a) || (t && a)) ≡ ((s || t) && a)
and-both true t true = refl
and-both true true false = refl
and-both true false false = refl
and-both false t a = refl

pub itself : (i : ℕ) → (i == i) ≡ true
itself i = eq-same i i refl

pub is-same : (k j : ℕ) → (k == j) ≡ true → k ≡ j
is-same k j e = elim (cases_eq j k) [
  | inl s ↦ sym s
  | inr n ↦ absurd (let z : true ≡ false = sym e ∙ eq-other k j n in cc)
]

-- an exit that is found is there
pub or-true : (b c : Bool) → c ≡ true → (b || c) ≡ true
or-true true c e = refl
or-true false c e = e

later-there : (e : Exit) (es : List Exit) (o : Option Exit) → IfSome o (λ (f : Exit). leads_there f.place es ≡ true)
    → IfSome o (λ (f : Exit). leads_there f.place (e ∷ es) ≡ true)
later-there e es None i = tt
later-there e es (Some f) i = or-true (f.place == e.place) _ i

exit-there-by : (e : Exit) (es : List Exit) (o : Option Exit) (t : Bool)
    → IfSome o (λ (f : Exit). leads_there f.place es ≡ true)
    → IfSome (if t then Some e else o) (λ (f : Exit). leads_there f.place (e ∷ es) ≡ true)
exit-there-by e es o true i = rw (itself e.place) refl
exit-there-by e es o false i = later-there e es o i

exit-there : (es : List Exit) (port : ℕ) → IfSome (exit_of es port) (λ (f : Exit). leads_there f.place es ≡ true)
exit-there [] port = tt
exit-there (e ∷ es) port = exit-there-by e es (exit_of es port) (e.port == port) (exit-there es port)

over-exit : (es : List Exit) (r : RewriteOf) (o : Option Exit) → IfSome o (λ (f : Exit). leads_there f.place es ≡ true)
    →
    IfSome (option_map (departing r) o) (λ (l : Departure). leads_there l.exit.place es ≡ true)
over-exit es r None i = tt
over-exit es r (Some e) i = i

over-there : (es : List Exit) (tail : Tail)
    → IfSome (over es tail) (λ (l : Departure). leads_there l.exit.place es ≡ true)
over-there es Nothing = tt
over-there es (Pass r) = tt
over-there es (Link r to) = over-exit es r (exit_of es to) (exit-there es to)

unless-back : (es : List Exit) (o : Option Departure) (t : Bool)
    → IfSome o (λ (l : Departure). leads_there l.exit.place es ≡ true)
    → IfSome (if t then None else o) (λ (l : Departure). leads_there l.exit.place es ≡ true)
unless-back es o true i = tt
unless-back es o false i = i

pub leaving-there : (es : List Exit) (port : ℕ) (tail : Tail)
    → IfSome (leaving es port tail) (λ (l : Departure). leads_there l.exit.place es ≡ true)
leaving-there es port tail = unless-back es (over es tail) (leads_back port tail) (over-there es tail)

module _ (turns : List Turn) where
  own-elsewhere : (id : ℕ) (exits : List Exit) → is_one_of (lost_there turns exits) (own id) ≡ false
  own-elsewhere id [] = refl
  own-elsewhere id (e ∷ exits) =
      list_any-append (same_origin (own id)) (map (arrived e.place) (gone_at turns e.place)) (lost_there turns exits)
      ∙ ap (λ z. z || is_one_of (lost_there turns exits) (own id)) (own-arrived id e.place (gone_at turns e.place))
      ∙ own-elsewhere id exits

  same-place : (k id place : ℕ) (t : Bool) → (k == place) ≡ t
      → (t && list_any (λ x. id == x) (gone_at turns place)) ≡ (t && list_any (λ x. id == x) (gone_at turns k))
  same-place k id place false e = refl
  same-place k id place true e = ap (λ z. list_any (λ x. id == x) (gone_at turns z)) (sym (is-same k place e))

  pub lost-there : (k id : ℕ) (exits : List Exit)
      → is_one_of (lost_there turns exits) (arrived k id)
      ≡ (leads_there k exits && list_any (λ x. id == x) (gone_at turns k))
  lost-there k id [] = refl
  lost-there k id (e ∷ exits) =
      let g = list_any (λ x. id == x) (gone_at turns k) in
      list_any-append (same_origin (arrived k id)) (map (arrived e.place) (gone_at turns e.place))
      (lost_there turns exits)
      ∙ ap (λ z. z || is_one_of (lost_there turns exits) (arrived k id))
      (one-lost k id e.place (gone_at turns e.place) ∙ same-place k id e.place (k == e.place) refl)
      ∙ ap (λ z. ((k == e.place) && g) || z) (lost-there k id exits)
      ∙ and-both (k == e.place) (leads_there k exits) g

-- ---- what a node makes, without some rules of its virtual switch and of the nodes to which its exits lead
module _ (size : ℕ) (h : Held Rule) (c : Made) where
  alone-left : (P : Made → Type 0) → ((r : Rule) → P (made_alone h.id r)) → (a : Rule) (l : Option Departure)
      → lone_by size h.id a l ≡ Some c → P c
  alone-left P f a None s = let t : made_alone h.id (hop_lone size a) ≡ c = cc in subst P t (f (hop_lone size a))
  alone-left P f a (Some l) s = absurd (cc)

  alone-by : (P : Made → Type 0) → ((r : Rule) → P (made_alone h.id r))
      → (exits : List Exit) (port : ℕ) (o : Option Rule)
      → option_and_then (λ (a : Rule). lone_by size h.id a (leaving exits port a.tail)) o ≡ Some c → P c
  alone-by P f exits port None s = absurd (cc)
  alone-by P f exits port (Some a) s = alone-left P f a (leaving exits port a.tail) s

  made-by : (P : Made → Type 0) (y : Arrival) → ((r : Rule) → P (made_of_pair h.id y r)) → (o : Option Rule)
      → option_map (made_of_pair h.id y) o ≡ Some c → P c
  made-by P y f None s = absurd (cc)
  made-by P y f (Some r) s = let t : made_of_pair h.id y r ≡ c = cc in subst P t (f r)

  module _ (exits : List Exit) (y : Arrival) (P : Made → Type 0) (f : leads_there y.place exits ≡ true → (r : Rule)
      → P (made_of_pair h.id y r)) where
    pair-there : (a : Rule) (l : Departure) (t : Bool) → (l.exit.place == y.place) ≡ t
        → leads_there l.exit.place exits ≡ true →
        (if t then option_map (made_of_pair h.id y) (hop_rule size l.rewrite a y.held.item) else None) ≡ Some c → P c
    pair-there a l false e i s = absurd (cc)
    pair-there a l true e i s =
        made-by P y (f (subst (λ k. leads_there k exits ≡ true) (is-same l.exit.place y.place e) i))
        (hop_rule size l.rewrite a y.held.item) s

    pair-left : (a : Rule) (o : Option Departure) → IfSome o (λ l. leads_there l.exit.place exits ≡ true)
        → pair_by size h.id a y o ≡ Some c → P c
    pair-left a None i s = absurd (cc)
    pair-left a (Some l) i s = pair-there a l (l.exit.place == y.place) refl i s

    pair-of : (port : ℕ) (o : Option Rule)
        → option_and_then (λ (a : Rule). pair_by size h.id a y (leaving exits port a.tail)) o ≡ Some c → P c
    pair-of port None s = absurd (cc)
    pair-of port (Some a) s = pair-left a (leaving exits port a.tail) (leaving-there exits port a.tail) s

-- ---- the two ways in which a rule is named
abbrev without-own : List ℕ → Made → Bool
without-own gone m = not (is_made_of (map own gone) m)

abbrev without-there : List Turn → List Exit → Made → Bool
without-there turns exits m = not (is_made_of (lost_there turns exits) m)

abbrev pub stays-there : List Turn → Arrival → Bool
stays-there turns y = is_outside (gone_at turns y.place) y.held

or-none : (b : Bool) → (b || false) ≡ b
or-none true = refl
or-none false = refl

module _ (at : Place) (size : ℕ) (exits : List Exit) where
  -- what a node makes, of which some names are lost, is what it makes of what stays
  pub made-without : (gone : List ℕ) (turns : List Turn) (rules : List (Held Rule)) (ys : List Arrival) →
      filter (λ m. not (is_made_of (map own gone ++ lost_there turns exits) m)) (made (hop_way at size exits) rules ys)
      ≡ made (hop_way at size exits) (filter (is_outside gone) rules) (filter (stays-there turns) ys)
  made-without gone turns rules ys =
      let w = hop_way at size exits in
      neither (map own gone) (lost_there turns exits) (made w rules ys)
      ∙ ap (filter (without-there turns exits))
      (made-without_left w (without-own gone) (is_outside gone)
      (λ h c e. alone-by size h c (λ m. without-own gone m ≡ is_outside gone h)
      (λ r. ap not (or-none _ ∙ own-lost h.id gone)) exits at.port (standing at h.item) e)
      (λ h y c e. pair-of size h c exits y (λ m. without-own gone m ≡ is_outside gone h)
      (λ i r. ap not (ap (λ z. is_one_of (map own gone) (own h.id) || z)
      (ap (λ z. z || false) (arrived-own y.place y.held.id gone)) ∙ or-none _ ∙ own-lost h.id gone)) at.port
      (standing at h.item) e)
      (λ y c e. absurd (cc)) rules ys)
      ∙ made-without_right w (without-there turns exits) (stays-there turns)
      (λ h c e. alone-by size h c (λ m. without-there turns exits m ≡ true)
      (λ r. ap not (or-none _ ∙ own-elsewhere turns h.id exits)) exits at.port (standing at h.item) e)
      (λ h y c e. pair-of size h c exits y (λ m. without-there turns exits m ≡ stays-there turns y)
      (λ i r. ap not (ap (λ z. z || (is_one_of (lost_there turns exits) (arrived y.place y.held.id) || false))
      (own-elsewhere turns h.id exits)
      ∙ or-none _ ∙ lost-there turns y.place y.held.id exits
      ∙ ap (λ z. z && list_any (λ x. y.held.id == x) (gone_at turns y.place)) i)) at.port (standing at h.item) e)
      (λ y c e. absurd (cc)) (filter (is_outside gone) rules) ys

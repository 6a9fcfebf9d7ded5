-- What a rule makes with those to which the exits of its virtual switch lead: all is with those of its own exit.
use Rattle.std.proofs.Common.{◌≡◌, ℕ, Bool, true, false, ◌==◌, ◌||◌, List, [], ◌∷◌, ◌++◌, Option, Some, None, refl}
use Rattle.std.proofs.Common.{subst, sym, ap, ◌∙◌, map}
use Rattle.std.specs.Prelude.{filter_map, option_map, if◌then◌else◌, IfSome}
use Rattle.std.specs.List.{AllByRecursion, cons_option}
use Rattle.std.proofs.lemmas.List.{append-nil}
use Rattle.std.proofs.lemmas.List.Elements.{filter_map-append}
use Rattle.of10_actions.specs.Fields.{RewriteOf}
use Rattle.of10_actions.specs.declared.effects.Tail.{Tail}
use Rattle.of10_actions.specs.declared.effects.Tail.TheVariants.{Nothing, Pass, Link}
use Rattle.rule_ancestry.specs.Holding.{Held, item_of}
use Rattle.policy_meaning.specs.Hops.{hop_rule}
use Rattle.policy_meaning.specs.declared.rule.Rule.{Rule}
use Rattle.made_rules.specs.Rules.{rule_of, rules_in}
use Rattle.made_rules.specs.declared.made.Made.{Made}
use Rattle.hop_rules.specs.Nodes.{Arrival, NodeOf, Once, arrivals, arrive, arriving, held_at, leads_there, made_of_pair}
use Rattle.hop_rules.specs.Nodes.{pair_by}
use Rattle.hop_rules.specs.Standing.{departing, exit_of, leads_back, leaving, over}
use Rattle.hop_rules.specs.declared.exits.Exit.{Exit}
use Rattle.hop_rules.specs.declared.standing.Departure.{Departure}
use Rattle.hop_rules.proofs.Names.{is-same}

-- ---- of what holds of each exit
module _ (P : Exit → Type 0) where
  exit-step : (e : Exit) (o : Option Exit) (t : Bool) → P e → IfSome o P → IfSome (if t then Some e else o) P
  exit-step e o true p i = p
  exit-step e o false p i = i

  exit-all : (es : List Exit) (port : ℕ) → AllByRecursion P es → IfSome (exit_of es port) P
  exit-all [] port a = tt
  exit-all (e ∷ es) port a = exit-step e (exit_of es port) (e.port == port) a.0 (exit-all es port a.1)

  over-one : (r : RewriteOf) (o : Option Exit) → IfSome o P
      → IfSome (option_map (departing r) o) (λ (l : Departure). P l.exit)
  over-one r None i = tt
  over-one r (Some e) i = i

  over-all : (es : List Exit) (tail : Tail) → AllByRecursion P es → IfSome (over es tail) (λ (l : Departure). P l.exit)
  over-all es Nothing a = tt
  over-all es (Pass r) a = tt
  over-all es (Link r to) a = over-one r (exit_of es to) (exit-all es to a)

  back-all : (o : Option Departure) (t : Bool) → IfSome o (λ (l : Departure). P l.exit)
      → IfSome (if t then None else o) (λ (l : Departure). P l.exit)
  back-all o true i = tt
  back-all o false i = i

  pub leaving-all : (es : List Exit) (port : ℕ) (tail : Tail) → AllByRecursion P es
      → IfSome (leaving es port tail) (λ (l : Departure). P l.exit)
  leaving-all es port tail a = back-all (over es tail) (leads_back port tail) (over-all es tail a)

-- ---- what a rule makes with the rules to which an exit leads
module _ (size id : ℕ) (a : Rule) (l : Departure) where
  -- the rule of a pair with one that comes to the place of its link
  abbrev pairing : Arrival → Option Made
  pairing y = pair_by size id a y (Some l)

  abbrev hopping : Rule → Option Rule
  hopping b = hop_rule size l.rewrite a b

  elsewhere-at : (place : ℕ) (h : Held Rule) (t : Bool) → (l.exit.place == place) ≡ t → t ≡ false
      → pairing (record { place = place; held = h }) ≡ None
  elsewhere-at place h t e f =
      ap (λ t. if t then option_map (made_of_pair id (record { place = place; held = h })) (hopping h.item) else None)
      (e ∙ f)

  elsewhere : (place : ℕ) (hs : List (Held Rule)) → (l.exit.place == place) ≡ false
      → filter_map pairing (map (λ h. record { place = place; held = h }) hs) ≡ []
  elsewhere place [] e = refl
  elsewhere place (h ∷ hs) e =
      ap (λ z. cons_option z (filter_map pairing (map (λ h. record { place = place; held = h }) hs)))
      (elsewhere-at place h (l.exit.place == place) refl e) ∙ elsewhere place hs e

  here-one : (place : ℕ) (h : Held Rule) (rest : List Made) (rules : List Rule) (o : Option Rule) → hopping h.item ≡ o
      → pairing (record { place = place; held = h })
      ≡ option_map (made_of_pair id (record { place = place; held = h })) o →
      map rule_of rest ≡ rules → map rule_of (cons_option (pairing (record { place = place; held = h })) rest)
      ≡ cons_option (hopping h.item) rules
  here-one place h rest rules None e f g = ap (λ z. map rule_of (cons_option z rest)) f ∙ g
      ∙ sym (ap (λ z. cons_option z rules) e)
  here-one place h rest rules (Some r) e f g = ap (λ z. map rule_of (cons_option z rest)) f ∙ ap (λ z. r ∷ z) g
      ∙ sym (ap (λ z. cons_option z rules) e)

  pairing-here : (place : ℕ) (h : Held Rule) → (l.exit.place == place) ≡ true
      → pairing (record { place = place; held = h })
      ≡ option_map (made_of_pair id (record { place = place; held = h })) (hopping h.item)
  pairing-here place h e =
      ap (λ t. if t then option_map (made_of_pair id (record { place = place; held = h })) (hopping h.item) else None) e

  pub here : (place : ℕ) (hs : List (Held Rule)) → (l.exit.place == place) ≡ true
      → map rule_of (filter_map pairing (map (λ h. record { place = place; held = h }) hs))
      ≡ filter_map hopping (map item_of hs)
  here place [] e = refl
  here place (h ∷ hs) e = here-one place h _ _ (hopping h.item) refl (pairing-here place h e) (here place hs e)

  module _ (below : List NodeOf) where
    none-there : (es : List Exit) → AllByRecursion (λ (e : Exit). (l.exit.place == e.place) ≡ false) es
        → filter_map pairing (arrivals below es) ≡ []
    none-there [] a = refl
    none-there (e ∷ es) a = filter_map-append pairing (arriving below e) (arrivals below es)
        ∙ ap (λ z. z ++ filter_map pairing (arrivals below es))
        (elsewhere e.place (rules_in (held_at below e.place)) a.0) ∙ none-there es a.1

    places-differ : (k j : ℕ) (es : List Exit) → k ≡ j
        → AllByRecursion (λ y. (j == y) ≡ false) (map (λ (e : Exit). e.place) es)
        → AllByRecursion (λ (e : Exit). (k == e.place) ≡ false) es
    places-differ k j [] s a = tt
    places-differ k j (e ∷ es) s a = (subst (λ i. (i == e.place) ≡ false) (sym s) a.0, places-differ k j es s a.1)

    -- what it makes with those to which its own exit leads
    abbrev whole-there : List Made
    whole-there = filter_map pairing (arrive l.exit.place (held_at below l.exit.place))

    one-arrival-by : (e : Exit) (es : List Exit) (t : Bool) → (l.exit.place == e.place) ≡ t
        → Once (map (λ (e : Exit). e.place) (e ∷ es)) → (t || leads_there l.exit.place es) ≡ true →
        (leads_there l.exit.place es ≡ true → filter_map pairing (arrivals below es) ≡ whole-there)
        → filter_map pairing (arrivals below (e ∷ es)) ≡ whole-there
    one-arrival-by e es true s o i next =
        filter_map-append pairing (arriving below e) (arrivals below es)
        ∙ ap (λ z. filter_map pairing (arriving below e) ++ z)
        (none-there es (places-differ l.exit.place e.place es (is-same l.exit.place e.place s) o.0))
        ∙ append-nil (filter_map pairing (arriving below e))
        ∙ ap (λ k. filter_map pairing (arrive k (held_at below k))) (sym (is-same l.exit.place e.place s))
    one-arrival-by e es false s o i next =
        filter_map-append pairing (arriving below e) (arrivals below es)
        ∙ ap (λ z. z ++ filter_map pairing (arrivals below es)) (elsewhere e.place (rules_in (held_at below e.place)) s)
        ∙ next i

    pub one-arrival : (es : List Exit) → Once (map (λ (e : Exit). e.place) es) → leads_there l.exit.place es ≡ true
        → filter_map pairing (arrivals below es) ≡ whole-there
    one-arrival [] o i = absurd (cc)
    one-arrival (e ∷ es) o i = one-arrival-by e es (l.exit.place == e.place) refl o i (one-arrival es o.1)

use Rattle.std.proofs.Common.{◌≡◌, ◌∙◌, ◌==◌, ℕ, false, List, ap, refl, subst, sym, length, arith}
use Rattle.std.specs.List.{AllByRecursion, refill}
use Rattle.hop_rules.specs.Climbing.{HasClimbed, IsBelow, IsHandedOver}
use Rattle.hop_rules.specs.Handed.{AreListed, AreUnlisted, GivenOf}
use Rattle.hop_rules.specs.Kept.{IsThrough, with_rules}
use Rattle.hop_rules.specs.Levels.{given_at}
use Rattle.hop_rules.specs.Links.{ends}
use Rattle.hop_rules.specs.Nodes.{NodeOf}
use Rattle.hop_rules.specs.Tables.{fabric, rules_at}
use Rattle.hop_rules.specs.Turns.{no_turn}
use Rattle.hop_rules.specs.Under.{Rises}
use Rattle.hop_rules.specs.declared.level.Level.{Level}
use Rattle.hop_rules.specs.declared.node.Turn.{Turn}
use Rattle.hop_rules.proofs.Handing.{climb-after}
use Rattle.hop_rules.proofs.Keeping.{is-below, is-through, unlisted}
use Rattle.hop_rules.proofs.Numbering.{refilled}
use Rattle.hop_rules.proofs.parts.Parts.change.Goals as goal

pub hand_over-requires-clause-there : goal.hand_over-requires-clause-there
hand_over-requires-clause-there g c = let e = ap length c.as_mut_slice.ensures.value in let r = c.requires.there in
    omega arith

pub hand_over-requires-clause-listed : goal.hand_over-requires-clause-listed
hand_over-requires-clause-listed g c =
    let k = c.requires.kept.1 in
    λ u. subst (λ (gs : List GivenOf). AreListed (given_at gs u) (given_at gs u).rules)
    (sym c.as_mut_slice.ensures.value) (k.listed u)

pub hand_over-requires-clause-rising : goal.hand_over-requires-clause-rising
hand_over-requires-clause-rising g c =
    let k = c.requires.kept.1 in
    λ u. subst (λ (gs : List GivenOf). Rises (given_at gs u).rules) (sym c.as_mut_slice.ensures.value) (k.rising u)

pub climb-requires : goal.climb-requires
climb-requires g c =
    let old = c.args.self.now in
    let v = c.args.v in
    let d = c.args.delta.now in
    let t = c.requires.kept.0 in
    let k = c.requires.kept.1 in
    let mays = c.requires.kept.2 in
    let new = c.hand_over.new.given in
    let e = c.in_ok-event.event in
    let h = subst (λ (gs : List GivenOf). IsHandedOver gs new v d.gone d.come e) c.as_mut_slice.ensures.value
    c.in_ok-event.ensures in
    let turns = c.deref.result.now in
    let still = subst (AllByRecursion (λ (u : Turn). u ≡ no_turn)) (sym c.deref.ensures.value) c.in_ok-turns.ensures in
    let given = c.as_slice-2.ensures ∙ refilled old.given new h.event.count in
    let rules = rules_at (with_rules t new) in
    let is = is-below t old k v d.gone d.come mays new e h new (λ u. refl) turns still in
    record {
      f = fabric t;
      rules = rules;
      es = ends t.plan;
      n = 0;
      old = old.given;
      before = old.last;
      is =
          subst (λ (gs : List GivenOf). IsBelow (fabric t) rules (ends t.plan) 0 old.given gs old.last
          c.as_slice-3.result.now c.as_mut_slice-2.result.now old.top e turns) (sym given)
          (subst (λ (ns : List NodeOf). IsBelow (fabric t) rules (ends t.plan) 0 old.given new old.last ns
          c.as_mut_slice-2.result.now old.top e turns) (sym c.as_slice-3.ensures)
          (subst (λ (ls : List Level). IsBelow (fabric t) rules (ends t.plan) 0 old.given new old.last old.last ls
          old.top e turns) (sym c.as_mut_slice-2.ensures.value) is));
    }

pub list_come-requires-clause-there : goal.list_come-requires-clause-there
list_come-requires-clause-there g c =
    let old = c.args.self.now in
    let d = c.args.delta.now in
    let new = c.hand_over.new.given in
    let e = c.in_ok-event.event in
    let h = subst (λ (gs : List GivenOf). IsHandedOver gs new c.args.v d.gone d.come e) c.as_mut_slice.ensures.value
    c.in_ok-event.ensures in
    let same : c.as_mut_slice-3.result.now ≡ new = c.as_mut_slice-3.ensures.value
    ∙ refilled old.given new h.event.count in
    let at = h.at in
    let n = h.event.count in
    let b = ap length same in
    let r = c.requires.there in
    omega arith

pub list_come-requires-clause-unlisted : goal.list_come-requires-clause-unlisted
list_come-requires-clause-unlisted g c =
    let old = c.args.self.now in
    let d = c.args.delta.now in
    let new = c.hand_over.new.given in
    let e = c.in_ok-event.event in
    let h = subst (λ (gs : List GivenOf). IsHandedOver gs new c.args.v d.gone d.come e) c.as_mut_slice.ensures.value
    c.in_ok-event.ensures in
    let same : c.as_mut_slice-3.result.now ≡ new = c.as_mut_slice-3.ensures.value
    ∙ refilled old.given new h.event.count in
    subst (λ (gs : List GivenOf). AreUnlisted (given_at gs e.v) e.turn.come) (sym same)
    (unlisted old.given new c.args.v d.gone d.come e h)

pub returns-clause-through : goal.returns-clause-through
returns-clause-through g c t k mays =
    let old = c.args.self.now in
    let v = c.args.v in
    let d = c.args.delta.now in
    let new = c.hand_over.new.given in
    let final = c.list_come.new.given in
    let e = c.in_ok-event.event in
    let h = subst (λ (gs : List GivenOf). IsHandedOver gs new v d.gone d.come e) c.as_mut_slice.ensures.value
    c.in_ok-event.ensures in
    let same : c.as_mut_slice-3.result.now ≡ new = c.as_mut_slice-3.ensures.value
    ∙ refilled old.given new h.event.count in
    let given = c.as_slice-2.ensures ∙ refilled old.given new h.event.count in
    let l = c.in_ok-list_come.ensures in
    let rules = λ (u : ℕ). l.rules u ∙ ap (λ (gs : List GivenOf). (given_at gs u).rules) same in
    let exits = λ (u : ℕ). l.exits u ∙ ap (λ (gs : List GivenOf). (given_at gs u).exits) same in
    let count = l.count ∙ ap length same in
    let listed = subst (λ (w : ℕ). AreListed (given_at final w) (given_at final w).rules) h.at l.listed in
    let others : (u : ℕ) → (u == v) ≡ false
    → given_at final u ≡ given_at new u = λ u ne. l.others u (subst (λ (w : ℕ). (u == w) ≡ false) (sym h.at) ne)
    ∙ ap (λ (gs : List GivenOf). given_at gs u) same in
    let turns = c.deref.result.now in
    let still = subst (AllByRecursion (λ (u : Turn). u ≡ no_turn)) (sym c.deref.ensures.value) c.in_ok-turns.ensures in
    let f = fabric t in
    let rs = rules_at (with_rules t final) in
    let es = ends t.plan in
    let is = is-below t old k v d.gone d.come mays new e h final rules turns still in
    let below =
    subst (λ (gs : List GivenOf). IsBelow f rs es 0 old.given gs old.last c.as_slice-3.result.now
    c.as_mut_slice-2.result.now old.top e turns) (sym given)
    (subst (λ (ns : List NodeOf). IsBelow f rs es 0 old.given new old.last ns c.as_mut_slice-2.result.now old.top e
    turns) (sym c.as_slice-3.ensures)
    (subst (λ (ls : List Level). IsBelow f rs es 0 old.given new old.last old.last ls old.top e turns)
    (sym c.as_mut_slice-2.ensures.value) is)) in
    let levels = c.climb.new.levels in
    let top = c.climb.new.top in
    let tolds = c.in_ok-tolds.tolds in
    let climbed =
    subst (λ (gs : List GivenOf). HasClimbed f rs es 0 gs old.last levels old.top top tolds) given
    (subst (λ (ns : List NodeOf). HasClimbed f rs es 0 c.as_slice-2.result.now ns levels old.top top tolds)
    c.as_slice-3.ensures (c.in_ok-tolds.ensures.climbed f rs es 0 old.given old.last below)) in
    let many = c.in_ok-tolds.ensures.count ∙ ap length c.as_mut_slice-2.ensures.value in
    let lent = refill (length old.given) old.given new in
    let whole : refill (length lent) lent final ≡ final =
    refilled lent final (l.count ∙ ap length c.as_mut_slice-3.ensures.value) in
    subst (λ (gs : List GivenOf). IsThrough t old
    (record { given = gs; last = old.last; levels = refill (length old.levels) old.levels levels; top = top }) v
    d.gone d.come tolds) (sym whole)
    (subst (λ (ls : List Level). IsThrough t old (record { given = final; last = old.last; levels = ls; top = top }) v
    d.gone d.come tolds) (sym (refilled old.levels levels many))
    (is-through t old k v d.gone d.come mays new e h final rules exits count listed others levels top tolds many
    climbed))

pub returns-clause-steps : goal.returns-clause-steps
returns-clause-steps g c t k mays after handed apart =
    let old = c.args.self.now in
    let v = c.args.v in
    let d = c.args.delta.now in
    let new = c.hand_over.new.given in
    let e = c.in_ok-event.event in
    let h = subst (λ (gs : List GivenOf). IsHandedOver gs new v d.gone d.come e) c.as_mut_slice.ensures.value
    c.in_ok-event.ensures in
    let turns = c.deref.result.now in
    let still = subst (AllByRecursion (λ (u : Turn). u ≡ no_turn)) (sym c.deref.ensures.value) c.in_ok-turns.ensures in
    climb-after t old k v d.gone d.come mays new e h after handed apart c.as_slice-2.result.now c.as_slice-3.result.now
    c.as_mut_slice-2.result.now turns (c.as_slice-2.ensures ∙ refilled old.given new h.event.count)
    c.as_slice-3.ensures
    c.as_mut_slice-2.ensures.value still c.args.steps.now c.climb.new.steps
    (λ b. c.climb.ensures.steps (fabric t) (rules_at after) (ends t.plan) 0 old.given old.last b)

pub returns-in_err-tolds-clause-steps : goal.returns-in_err-tolds-clause-steps
returns-in_err-tolds-clause-steps g c t k mays after handed apart =
    let old = c.args.self.now in
    let v = c.args.v in
    let d = c.args.delta.now in
    let new = c.hand_over.new.given in
    let e = c.in_ok-event.event in
    let h = subst (λ (gs : List GivenOf). IsHandedOver gs new v d.gone d.come e) c.as_mut_slice.ensures.value
    c.in_ok-event.ensures in
    let turns = c.deref.result.now in
    let still = subst (AllByRecursion (λ (u : Turn). u ≡ no_turn)) (sym c.deref.ensures.value) c.in_ok-turns.ensures in
    climb-after t old k v d.gone d.come mays new e h after handed apart c.as_slice-2.result.now c.as_slice-3.result.now
    c.as_mut_slice-2.result.now turns (c.as_slice-2.ensures ∙ refilled old.given new h.event.count)
    c.as_slice-3.ensures
    c.as_mut_slice-2.ensures.value still c.args.steps.now c.climb.new.steps
    (λ b. c.climb.ensures.steps (fabric t) (rules_at after) (ends t.plan) 0 old.given old.last b)

pub returns-in_err-list_come-clause-steps : goal.returns-in_err-list_come-clause-steps
returns-in_err-list_come-clause-steps g c t k mays after handed apart =
    let old = c.args.self.now in
    let v = c.args.v in
    let d = c.args.delta.now in
    let new = c.hand_over.new.given in
    let e = c.in_ok-event.event in
    let h = subst (λ (gs : List GivenOf). IsHandedOver gs new v d.gone d.come e) c.as_mut_slice.ensures.value
    c.in_ok-event.ensures in
    let turns = c.deref.result.now in
    let still = subst (AllByRecursion (λ (u : Turn). u ≡ no_turn)) (sym c.deref.ensures.value) c.in_ok-turns.ensures in
    climb-after t old k v d.gone d.come mays new e h after handed apart c.as_slice-2.result.now c.as_slice-3.result.now
    c.as_mut_slice-2.result.now turns (c.as_slice-2.ensures ∙ refilled old.given new h.event.count)
    c.as_slice-3.ensures
    c.as_mut_slice-2.ensures.value still c.args.steps.now c.climb.new.steps
    (λ b. c.climb.ensures.steps (fabric t) (rules_at after) (ends t.plan) 0 old.given old.last b)

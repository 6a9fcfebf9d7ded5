use Rattle.std.proofs.Common.{◌∙◌, ◌+◌, ◌<◌, ◌≤◌, ◌∷◌, [], ℕ, List, ap, refl, subst, sym, length, set, arith}
use Rattle.std.specs.Prelude.{sum_by}
use Rattle.std.proofs.lemmas.List.{get_or_default, length-append, length-set, take_all}
use Rattle.rule_ancestry.specs.Holding.{Held}
use Rattle.made_rules.specs.declared.made.Made.{Made}
use Rattle.hop_rules.specs.Levels.{AreTurnedAt, IsMadeAt, IsReadyAt, no_stand, node_cost, stand_at, told_at}
use Rattle.hop_rules.specs.Nodes.{held_at}
use Rattle.hop_rules.specs.Turns.{IsTold}
use Rattle.hop_rules.specs.declared.level.Stand.{Stand}
use Rattle.hop_rules.specs.declared.level.Told.{Told}
use Rattle.hop_rules.proofs.Levelling.{made-more, next-held, rest-more, steps-ended, steps-more, told-more}
use Rattle.hop_rules.proofs.Numbering.{all-at, read-same}
use Rattle.hop_rules.proofs.level.change_nodes.Goals as goal

pub loop-place-init : goal.loop-place-init
loop-place-init g c = record {
  count = ap length c.in_ok-tolds.ensures;
  size = refl;
  rest = λ k le. refl;
  read = refl;
  made = λ old before ev t k lt m. absurd (omega arith);
  told = λ k lt. absurd (omega arith);
  steps = λ old ev. omega arith;
}

pub change_at-requires : goal.change_at-requires
change_at-requires g c = all-at (IsReadyAt c.args.given.now c.args.below.now) c.args.stands.now no_stand
    c.requires.ready c.loop-place.place c.loop-place-test.true

pub loop-place-preserved : goal.loop-place-preserved
loop-place-preserved g c =
    let gs = c.args.given.now in
    let below = c.args.below.now in
    let stands = c.args.stands.now in
    let first = c.args.nodes.now in
    let nodes = c.loop-place.nodes in
    let i = c.loop-place.place in
    let node = c.change_at.new.node in
    let told = c.in_ok-told.told in
    let inv = c.loop-place.invariant in
    let lt : i < length stands = c.loop-place-test.true in
    let here : i < length nodes = let n = inv.size in let r = c.requires.count in omega arith in
    let was = next-held first nodes i here node inv.rest c.index-nodes-place.result in
    record {
      count = let p = ap length c.in_ok-push.ensures.pushed in let q = length-append c.loop-place.tolds (told ∷ []) in
          let n = inv.count in omega arith;
      size = length-set nodes i node ∙ inv.size;
      rest = rest-more first nodes i here node inv.rest;
      read = read-same nodes i node c.index-nodes-place.result here c.in_ok-told.ensures.read ∙ inv.read;
      made = λ old before ev t.
          made-more first nodes i here node gs old before below stands (inv.made old before ev t)
          (λ m. c.in_ok-told.ensures.made old before ev
          (all-at (AreTurnedAt gs before below c.args.turns.now) stands no_stand t i lt)
          (subst (IsMadeAt old before (stand_at stands i)) (sym was) m));
      told =
          subst (λ (ts : List Told). (k : ℕ) → k < i + 1
          → IsTold (held_at first k) (held_at (set nodes i node) k) (told_at ts k).turn (told_at ts k).left)
          (sym c.in_ok-push.ensures.pushed)
          (told-more first nodes i here node c.loop-place.tolds told inv.count inv.told
          (subst (λ (z : List (Held Made)). IsTold z node.held told.turn told.left) was c.in_ok-told.ensures.told));
      steps = λ old ev.
          steps-more (node_cost gs below c.args.event.now c.args.turns.now) stands i c.args.steps.now c.loop-place.steps
          c.change_at.new.steps (stand_at stands i) lt
          (get_or_default stands i no_stand (stand_at stands i) lt) (inv.steps old ev)
          (c.change_at.ensures.steps old ev);
    }

pub returns-clause-turned : goal.returns-clause-turned
returns-clause-turned g c =
    let gs = c.args.given.now in
    let below = c.args.below.now in
    let stands = c.args.stands.now in
    let i = c.loop-place.place in
    let inv = c.loop-place.invariant in
    let le : length stands ≤ i = c.loop-place-test.false in
    let end : i ≤ length stands = c.loop-place.auto.place-end in
    record {
      made = λ old before ev t k lt m. inv.made old before ev t k (omega arith) m;
      told = record {
        count = let n = inv.count in let r = c.requires.count in omega arith;
        each = λ k lt. inv.told k (let r = c.requires.count in omega arith);
      };
      read = inv.read;
    }

pub returns-clause-steps : goal.returns-clause-steps
returns-clause-steps g c old ev =
    let stands = c.args.stands.now in
    let le : length stands ≤ c.loop-place.place = c.loop-place-test.false in
    subst (λ (ss : List Stand). c.loop-place.steps ≤ c.args.steps.now + sum_by
    (node_cost c.args.given.now c.args.below.now c.args.event.now c.args.turns.now) ss)
    (take_all c.loop-place.place stands le) (c.loop-place.invariant.steps old ev)

pub returns-in_err-told-clause-steps : goal.returns-in_err-told-clause-steps
returns-in_err-told-clause-steps g c old ev =
    let stands = c.args.stands.now in
    let i = c.loop-place.place in
    let lt : i < length stands = c.loop-place-test.true in
    steps-ended (node_cost c.args.given.now c.args.below.now c.args.event.now c.args.turns.now) stands i
    c.args.steps.now c.loop-place.steps c.change_at.new.steps (stand_at stands i) lt
    (get_or_default stands i no_stand (stand_at stands i) lt) (c.loop-place.invariant.steps old ev)
    (c.change_at.ensures.steps old ev)

pub returns-in_err-push-clause-steps : goal.returns-in_err-push-clause-steps
returns-in_err-push-clause-steps g c old ev =
    let stands = c.args.stands.now in
    let i = c.loop-place.place in
    let lt : i < length stands = c.loop-place-test.true in
    steps-ended (node_cost c.args.given.now c.args.below.now c.args.event.now c.args.turns.now) stands i
    c.args.steps.now c.loop-place.steps c.change_at.new.steps (stand_at stands i) lt
    (get_or_default stands i no_stand (stand_at stands i) lt) (c.loop-place.invariant.steps old ev)
    (c.change_at.ensures.steps old ev)

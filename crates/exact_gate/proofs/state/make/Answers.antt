use Rattle.std.proofs.Common.{◌≡◌, ◌∙◌, List, sym, ap, subst}
use Rattle.std.specs.Prelude.{flat_map}
use Rattle.std.specs.List.{IsDistinct}
use Rattle.std.proofs.lemmas.Result.{IfOk-weaker}
use Rattle.switch_meaning.specs.Keys.{passing}
use Rattle.switch_meaning.specs.Same.{same_entry}
use Rattle.switch_meaning.specs.declared.entry.PhysEntry.{PhysEntry}
use Rattle.exact_gate.specs.Gates.{IsDifference}
use Rattle.exact_gate.specs.InsideChanges.{come_of, left_of}
use Rattle.exact_gate.specs.Standing.{stands_in}
use Rattle.exact_gate.specs.declared.delta.GateDelta.{GateDelta}
use Rattle.exact_gate.proofs.Changing.{come-exact, left-exact}
use Rattle.exact_gate.proofs.Once.{come-once, left-once}
use Rattle.exact_gate.proofs.state.make.Goals as goal

pub returns-clause-gone : goal.returns-clause-gone
returns-clause-gone c =
    let old = c.args.pool.now in
    let new = c.exchange.new.pool in
    let touched = c.in_ok-touched.touched in
    IfOk-weaker c.delta.result (λ (d : GateDelta). d.gone ≡ flat_map (left_of new) touched)
    (λ (d : GateDelta). IsDifference (passing old) (passing new) d.gone)
    (λ d is e. ap (λ (xs : List PhysEntry). stands_in xs e) is
    ∙ left-exact old new c.args.gone.now c.args.come.now touched c.in_ok-exchange.ensures.after
    c.in_ok-touched.ensures e) c.delta.ensures.gone

pub returns-clause-come : goal.returns-clause-come
returns-clause-come c =
    let old = c.args.pool.now in
    let new = c.exchange.new.pool in
    let touched = c.in_ok-touched.touched in
    IfOk-weaker c.delta.result (λ (d : GateDelta). d.come ≡ flat_map (come_of new) touched)
    (λ (d : GateDelta). IsDifference (passing new) (passing old) d.come)
    (λ d is e. ap (λ (xs : List PhysEntry). stands_in xs e) is
    ∙ come-exact old new c.args.gone.now c.args.come.now touched c.in_ok-exchange.ensures.after
    c.in_ok-touched.ensures e) c.delta.ensures.come

pub returns-clause-gone_once : goal.returns-clause-gone_once
returns-clause-gone_once c =
    let new = c.exchange.new.pool in
    let touched = c.in_ok-touched.touched in
    let t = c.in_ok-touched.ensures in
    let D : List PhysEntry → Type 0 = IsDistinct same_entry in
    IfOk-weaker c.delta.result (λ (d : GateDelta). d.gone ≡ flat_map (left_of new) touched)
    (λ (d : GateDelta). D d.gone)
    (λ d is. subst D (sym is) (left-once c.args.pool.now new t.keys touched t.is t.once c.stands_once.ensures))
    c.delta.ensures.gone

pub returns-clause-come_once : goal.returns-clause-come_once
returns-clause-come_once c =
    let new = c.exchange.new.pool in
    let touched = c.in_ok-touched.touched in
    let t = c.in_ok-touched.ensures in
    let D : List PhysEntry → Type 0 = IsDistinct same_entry in
    IfOk-weaker c.delta.result (λ (d : GateDelta). d.come ≡ flat_map (come_of new) touched)
    (λ (d : GateDelta). D d.come)
    (λ d is. subst D (sym is) (come-once c.args.pool.now new t.keys touched t.is t.once c.stands_once-2.ensures))
    c.delta.ensures.come

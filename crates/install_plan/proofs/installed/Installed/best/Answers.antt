use Rattle.std.proofs.Common.{◌≡◌, List, sym, subst}
use Rattle.std.specs.Prelude.{None, Some}
use Rattle.std.proofs.lemmas.Result.{IfOk-weaker}
use Rattle.install_plan.specs.Best.{IsBest}
use Rattle.install_plan.specs.InsideBest.{Leads, candidates, standing_at}
use Rattle.install_plan.specs.Tables.{InstalledOf}
use Rattle.install_plan.specs.declared.key.Key.{Key}
use Rattle.install_plan.proofs.Candidates.{first-holds, none-holds}
use Rattle.install_plan.proofs.installed.Installed.best.Goals as goal

pub returns : goal.returns
returns c =
    let slots = c.self.inside.slots.entries in
    let h = c.args.header.now in
    let keys = c.in_ok-keys.keys in
    let leads = subst (λ (ks : List Key). Leads (candidates slots h ks) None) c.as_slice.ensures c.in-None.ensures in
    let none = none-holds slots c.self.inside.saved.entries c.self.inside.finder h keys c.self.invariant.0
    c.self.invariant.1 c.in_ok-keys.ensures leads in
    subst (λ (z : InstalledOf). IsBest h z.now.standing None) c.self.view_is none

pub returns-in-Some : goal.returns-in-Some
returns-in-Some c =
    let slots = c.self.inside.slots.entries in
    let h = c.args.header.now in
    let keys = c.in_ok-keys.keys in
    let first = c.in-Some.first in
    let leads = subst (λ (ks : List Key). Leads (candidates slots h ks) (Some first)) c.as_slice.ensures
    c.in-Some.ensures in
    let holds = first-holds slots c.self.inside.saved.entries c.self.inside.finder h keys c.self.invariant.0
    c.self.invariant.1 c.in_ok-keys.ensures first leads in
    let best = subst (λ (z : InstalledOf). IsBest h z.now.standing (standing_at slots first.key)) c.self.view_is
    holds in
    IfOk-weaker c.written.result (λ o. o ≡ standing_at slots first.key) (IsBest h c.args.self.now.now.standing)
    (λ o e. subst (IsBest h c.args.self.now.now.standing) (sym e) best) c.written.ensures

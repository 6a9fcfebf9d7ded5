use Rattle.std.proofs.Common.{subst}
use Rattle.install_plan.specs.Tables.{InstalledOf, IsTable}
use Rattle.install_plan.specs.InsideSlots.{as_is, as_saved}
use Rattle.install_plan.proofs.Batched.{fits-saved}
use Rattle.install_plan.proofs.Sound.{is-table}
use Rattle.install_plan.proofs.installed.Installed.is_table.Goals as goal

pub returns-clause-now : goal.returns-clause-now
returns-clause-now c = subst (λ (z : InstalledOf). IsTable z.now) c.self.view_is
    (is-table as_is c.self.inside.slots.entries c.self.invariant.0.rise c.self.invariant.0.fit)

pub returns-clause-before : goal.returns-clause-before
returns-clause-before c =
    subst (λ (z : InstalledOf). IsTable z.before) c.self.view_is
    (is-table (as_saved c.self.inside.saved.entries) c.self.inside.slots.entries c.self.invariant.0.rise
    (fits-saved c.self.inside.slots.entries c.self.inside.saved.entries c.self.invariant.0))

use Rattle.std.proofs.Common.{ap, subst}
use Rattle.install_plan.specs.Tables.{Exchanges, InstalledOf, TableOf}
use Rattle.install_plan.proofs.installed.Installed.change.Goals as goal

pub returns-in-Ok-clause-entries : goal.returns-in-Ok-clause-entries
returns-in-Ok-clause-entries c =
    subst (λ (t : TableOf). Exchanges c.args.gone.now c.args.come.now t c.draft.new.self.now)
    (ap (λ (z : InstalledOf). z.now) c.keep.ensures) c.in-Ok.ensures.entries

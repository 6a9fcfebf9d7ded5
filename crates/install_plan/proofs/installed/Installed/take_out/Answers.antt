use Rattle.std.proofs.Common.{List, ap, subst, ◌∙◌}
use Rattle.std.specs.List.{Contains}
use Rattle.switch_meaning.specs.declared.entry.PhysEntry.{PhysEntry}
use Rattle.install_plan.specs.Tables.{Adds, InstalledOf}
use Rattle.install_plan.proofs.Taking.{all, taken-before, taken-kept, taken-now, taken-only}
use Rattle.install_plan.proofs.installed.Installed.take_out.Goals as goal

pub invariant_of-self-2 : goal.invariant_of-self-2
invariant_of-self-2 c =
    let kept = c.save.ensures.kept c.self.invariant.0 in
    let only = taken-only c.of-key.result c.args.gone.now c.self.inside.slots.entries c.take_from.new.slots.entries
    c.save.new.saved.entries c.of-key.ensures.value kept c.take_from.ensures in (
      taken-kept c.of-key.result c.args.gone.now c.self.inside.slots.entries c.take_from.new.slots.entries
          c.save.new.saved.entries c.of-key.ensures.value kept c.take_from.ensures,
      λ q t. c.self.invariant.1 q (only q t),
    )

pub returns-clause-before : goal.returns-clause-before
returns-clause-before c =
    taken-before c.of-key.result c.args.gone.now c.self.inside.slots.entries c.take_from.new.slots.entries
    c.save.new.saved.entries c.of-key.ensures.value (c.save.ensures.kept c.self.invariant.0) c.take_from.ensures
    c.in_ok-save.ensures.there
    ∙ (c.save.ensures.before c.self.invariant.0 ∙ ap (λ (z : InstalledOf). z.before) c.self.view_is)

pub returns-clause-taken : goal.returns-clause-taken
returns-clause-taken c =
    let e = c.args.gone.now in
    let now = all c.take_from.new.slots.entries in
    subst (λ (es : List PhysEntry). Contains es e → Adds e now es)
    (ap (λ (z : InstalledOf). z.now.entries) c.self.view_is)
    (taken-now c.of-key.result e c.self.inside.slots.entries c.take_from.new.slots.entries c.save.new.saved.entries
    c.of-key.ensures.value (c.save.ensures.kept c.self.invariant.0) c.take_from.ensures)

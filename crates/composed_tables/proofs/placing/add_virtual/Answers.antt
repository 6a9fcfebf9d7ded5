use Rattle.std.proofs.Common.{List, ◌++◌, ap, sym, ◌∙◌}
use Rattle.std.proofs.lemmas.Result.{on_ok_weaker}
use Rattle.policy_meaning.specs.Switches.{SwitchOf}
use Rattle.switch_meaning.specs.declared.entry.PhysEntry.{PhysEntry}
use Rattle.composed_tables.proofs.Entering.{ports-entered}
use Rattle.composed_tables.proofs.placing.add_virtual.Goals as goal

pub returns-else-x : goal.returns-else-x
returns-else-x c =
    on_ok_weaker c.add_ports.result
    (λ h. h ∙ ap (λ (z : List PhysEntry). c.args.entries.now ++ z)
    (ports-entered c.args.wiring.now c.args.part c.args.deltas.now c.args.n c.args.v c.args.x.now c.site_at-site.result
    c.x.inside.outside
    c.site_at-site.ensures (ap (λ (z : SwitchOf). z.outside) c.x.view_is)
    (sym (ap (λ (z : SwitchOf). z.whole) c.x.view_is) ∙ c.if-x.false)))
    c.add_ports.ensures

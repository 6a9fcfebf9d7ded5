use Rattle.std.proofs.Common.{ℕ}
use Rattle.std.specs.Prelude.{not}
use Rattle.switch_meaning.specs.Fixed.{drop_entry, is_outside}
use Rattle.switch_meaning.proofs.Writing.{made_at}
use Rattle.switch_meaning.proofs.fixed.drops.Goals as goal

pub loop-port-preserved : goal.loop-port-preserved
loop-port-preserved c =
    made_at drop_entry (λ (p : ℕ). not (is_outside c.args.wiring.now c.args.switch p)) c.as_slice-port-items.result.now
    c.loop-port.port-index _ c.loop-port.entries c.add_drop.new.entries _ c.loop-port-test.true
    c.in_ok-add_drop.ensures c.loop-port.invariant

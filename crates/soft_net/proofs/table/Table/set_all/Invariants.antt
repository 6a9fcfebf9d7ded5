use Rattle.std.proofs.Common.{◌≡◌, drop, length}
use Rattle.std.specs.Prelude.{replicate}
use Rattle.soft_net.specs.Changes.{with_actions}
use Rattle.soft_net.specs.Tables.{changed_all}
use Rattle.soft_net.proofs.table.Table.set_all.Given as goal

-- a copy is left for each number, and what is left to change makes what is wanted
abbrev pub invariant-loop-serial : goal.invariant-loop-serial
invariant-loop-serial l = record {
  copies : l.copies ≡ replicate (length (drop l.serial-index l.serials)) l.actions;
  table : changed_all (drop l.serial-index l.serials) (with_actions l.actions) l.self
      ≡ changed_all l.serials (with_actions l.actions) l.fn.self;
}

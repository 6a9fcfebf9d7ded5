use Rattle.std.proofs.Common.{◌≡◌, drop}
use Rattle.std.specs.Prelude.{fold}
use Rattle.stats_map.specs.Told.{told}
use Rattle.machine_drafts.specs.InsideForgetting.{forget_serial}
use Rattle.event_ends.proofs.forgetting.forget_serials.Given as goal

-- those that are left give what all give
abbrev pub invariant-loop-serial : goal.invariant-loop-serial
invariant-loop-serial l = record {
  told : fold (forget_serial l.table.table.entries l.owed l.n) (told l.counts.now) (drop l.serial-index l.serials)
      ≡ fold (forget_serial l.table.table.entries l.owed l.n) (told l.fn.counts.now) l.serials;
  base : l.counts.base ≡ l.fn.counts.base;
}

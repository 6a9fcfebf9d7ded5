use Rattle.std.proofs.Common.{◌≡◌, drop}
use Rattle.std.specs.Prelude.{fold}
use Rattle.stats_map.specs.Told.{told}
use Rattle.machine_drafts.specs.InsideForgetting.{forget_owed}
use Rattle.machine_drafts.specs.Outcomes.{members_in}
use Rattle.event_ends.proofs.forgetting.forget_all_owed.Given as goal

-- those that are left give what all give
abbrev pub invariant-loop-one : goal.invariant-loop-one
invariant-loop-one l = record {
  told : fold (forget_owed (members_in l.members) l.owed) (told l.counts.now) (drop l.one-index l.before)
      ≡ fold (forget_owed (members_in l.members) l.owed) (told l.fn.counts.now) l.before;
  base : l.counts.base ≡ l.fn.counts.base;
}

use Rattle.std.proofs.Common.{◌≡◌, drop}
use Rattle.std.specs.Prelude.{fold}
use Rattle.std.specs.List.{enumerate_from}
use Rattle.stats_map.specs.Told.{told}
use Rattle.machine_drafts.specs.InsideForgetting.{forget_member}
use Rattle.event_ends.proofs.forgetting.forget_members.Given as goal

-- those that are left give what all give
abbrev pub invariant-loop-n : goal.invariant-loop-n
invariant-loop-n l = record {
  told : fold (forget_member l.owed) (told l.counts.now) (enumerate_from l.n (drop l.n l.members))
      ≡ fold (forget_member l.owed) (told l.fn.counts.now) (enumerate_from 0 l.members);
  base : l.counts.base ≡ l.fn.counts.base;
}

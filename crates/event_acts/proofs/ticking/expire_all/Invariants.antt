use Rattle.std.proofs.Common.{◌≡◌, ◌++◌, drop}
use Rattle.std.specs.Prelude.{flat_map}
use Rattle.std.specs.List.{enumerate_from}
use Rattle.member_state.specs.Changes.{expired}
use Rattle.machine_drafts.proofs.Expiring.{first_changed}
use Rattle.machine_drafts.specs.Outcomes.{member_bases, members_in, moments_of}
use Rattle.machine_meaning.specs.Removing.{owed_for, with_kept}
use Rattle.event_acts.proofs.ticking.expire_all.Given as goal

-- the first members are done, and what the others owe is left
abbrev pub invariant-loop-n : goal.invariant-loop-n
invariant-loop-n l = record {
  now : members_in l.members ≡ first_changed l.n (with_kept (expired l.now)) (members_in l.fn.members);
  bases : member_bases l.members ≡ member_bases l.fn.members;
  moments : moments_of l.members ≡ moments_of l.fn.members;
  owed : l.owed.now ++ flat_map (owed_for l.now) (enumerate_from l.n (drop l.n (members_in l.fn.members)))
      ≡ l.fn.owed.now ++ flat_map (owed_for l.now) (enumerate_from 0 (members_in l.fn.members));
  base : l.owed.base ≡ l.fn.owed.base;
}

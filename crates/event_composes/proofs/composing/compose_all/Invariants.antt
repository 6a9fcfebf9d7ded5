use Rattle.std.proofs.Common.{◌≡◌, ◌≤◌, ℕ, drop, length}
use Rattle.std.specs.Prelude.{fold, slice_get}
use Rattle.agreement.specs.declared.state.Setting.{Setting}
use Rattle.stats_map.specs.Told.{told}
use Rattle.event_composes.specs.Composed.{with_composed}
use Rattle.machine_meaning.specs.Composing.{compose_all, compose_at}
use Rattle.machine_meaning.specs.Drafts.{Draft}
use Rattle.machine_meaning.specs.Lists.{places}
use Rattle.machine_drafts.specs.Outcomes.{standing_in, switch_bases, switches_in}
use Rattle.event_composes.specs.Sources.{GivesAll}
use Rattle.event_composes.proofs.composing.compose_all.Given as goal

-- the switches that are left are as they were; composed after those so far they give what all give
abbrev pub invariant-loop-n : goal.invariant-loop-n
invariant-loop-n l = record {
  bases : switch_bases l.switches ≡ switch_bases l.initial.switches;
  counts_base : l.counts.base ≡ l.initial.counts.base;
  long : length l.switches ≡ length l.initial.switches;
  rest : (m : ℕ) → l.n ≤ m → slice_get l.switches m ≡ slice_get l.initial.switches m;
  composed :
      (t : Setting) → GivesAll t l.source l.initial.switches → (d : Draft) → d.begun ≡ l.begun
      → fold (compose_at t) (with_composed (switches_in l.switches) (standing_in l.switches) (told l.counts.now)
      l.next_cookie l.batches d)
      (drop l.n (places (switches_in l.initial.switches)))
      ≡ compose_all t (with_composed (switches_in l.initial.switches) (standing_in l.initial.switches)
      (told l.initial.counts.now) l.initial.next_cookie l.initial.batches d);
}

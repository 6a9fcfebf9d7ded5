-- What the doing of a line leaves.
use Rattle.std.proofs.Common.{◌≡◌, ℕ, List, [], ◌++◌, Option, Some, None, Result, Ok, Err, sym, ap, ◌∙◌, subst, refl}
use Rattle.std.proofs.lemmas.List.{append-nil}
use Rattle.replay_report.specs.Players.{Takes}
use Rattle.replay_report.specs.Playing.{Played}
use Rattle.replay_report.specs.Reports.{Progress}
use Rattle.replay_report.specs.declared.kind.Kind.{Kind}
use Rattle.covisor_proxy.specs.Following.{Chokes, Does, Halts, Leaves}
use Rattle.covisor_proxy.specs.Written.{Appends, AppendsShort}
use Rattle.covisor_proxy.specs.declared.stop.Stop.{Stop}
use Rattle.covisor_proxy.specs.declared.stop.Stop.TheVariants.{Refused, Read, Write, Memory}
use Rattle.covisor_proxy.proofs.Appending.{appends_none}

-- what it does waits
pub does-waits : (what : Result Played Kind) (used : ℕ) (at at' : Progress) (held : Option (List ℕ)) (w w' : List ℕ)
    → Takes None what used at at' w w' → Does what used at at' held held w w'
does-waits (Ok played) used at at' held w w' t = record {
  played = played;
  written = [];
  is = refl;
  progress = t.0;
  appends = appends_none held;
  waits = t.1;
}
does-waits (Err kind) used at at' held w w' t = absurd t

-- or is written
pub does-written : (what : Result Played Kind) (used : ℕ) (at at' : Progress) (held held' : Option (List ℕ))
    (w mid : List ℕ)
    → Takes None what used at at' w mid → Appends held held' mid → Does what used at at' held held' w []
does-written (Ok played) used at at' held held' w mid t a = record {
  played = played;
  written = mid;
  is = refl;
  progress = t.0;
  appends = a;
  waits = append-nil mid ∙ t.1;
}
does-written (Err kind) used at at' held held' w mid t a = absurd t

-- or can't be
pub chokes : (what : Result Played Kind) (used : ℕ) (at at' : Progress) (held held' : Option (List ℕ)) (w mid : List ℕ)
    → Takes None what used at at' w mid → AppendsShort held held' mid → Chokes what held held' w
chokes (Ok played) used at at' held held' w mid t a = record {
  played = played;
  is = refl;
  short = subst (AppendsShort held held') t.1 a;
}
chokes (Err kind) used at at' held held' w mid t a = absurd t

-- it isn't done
pub halts-left : (stop : Stop) (what : Result Played Kind) (used : ℕ) (at at' : Progress) (held : Option (List ℕ))
    (faults : ℕ) (w w' : List ℕ)
    → Leaves stop what used at at' w w' → Halts stop what at at' held held faults faults w w'
halts-left (Refused kind) (Ok played) used at at' held faults w w' h = absurd h
halts-left (Refused kind) (Err other) used at at' held faults w w' h = (ap Err (sym h.0), h.1, refl, refl, h.2)
halts-left Memory what used at at' held faults w w' h = refl
halts-left Read what used at at' held faults w w' h = absurd h
halts-left Write what used at at' held faults w w' h = absurd h

-- A line is taken, or not.
use Rattle.std.proofs.Common.{◌≡◌, ℕ, ◌+◌, ◌<◌, ◌≤◌, Bool, true, false, nat_lt, List, [], ◌++◌, Option, Some, None}
use Rattle.std.proofs.Common.{Result, Ok, Err, length, refl, sym, ap, subst, ◌∙◌, arith}
use Rattle.std.proofs.lemmas.Bool.Decides.{nat_tests}
use Rattle.std.proofs.lemmas.List.{append-nil}
use Rattle.policies.specs.Policies.{PolicyOf}
use Rattle.script_text.specs.Reading.{line_in}
use Rattle.script_text.specs.declared.fault.LineFault.{LineFault}
use Rattle.script_text.specs.declared.form.Form.{Form}
use Rattle.script_text.specs.declared.line.Line.{Line}
use Rattle.replay_report.specs.Kinds.{Reads}
use Rattle.replay_report.specs.Players.{Takes}
use Rattle.replay_report.specs.Playing.{Played, Stand, line_does}
use Rattle.replay_report.specs.Plays.{HasPlayed, Plays, stand_in}
use Rattle.replay_report.specs.Reports.{Progress, or_unknown, or_word, read_does, steps_in, taken}
use Rattle.replay_report.specs.declared.kind.Kind.{Kind}
use Rattle.replay_report.specs.declared.kind.Kind.TheVariants.{Size, Unknown}
use Rattle.replay_report.specs.declared.streams.Stream.{Stream}
use Rattle.replay_report.specs.declared.telling.Stage.{Stage}

-- a script that is too long
pub size_taken : (form : Form) (p : PolicyOf) (at : Progress) (line : List ℕ) (used : ℕ) → length line ≤ 140000
    → 4294967295 < at.size + used → taken form p at line used ≡ Err Size
unfolding taken
size_taken form p at line used short long =
    let a : nat_lt 140000 (length line) ≡ false = grind (arith, nat_tests) in
    let b : nat_lt 4294967295 (at.size + used) ≡ true = grind (arith, nat_tests) in
    rw (a, b) refl

-- a line that is read
pub read_taken : (form : Form) (p : PolicyOf) (at : Progress) (line : List ℕ) (used : ℕ) → length line ≤ 140000
    → at.size + used ≤ 4294967295 → taken form p at line used ≡ read_does p (line_in form line) at.stand
unfolding taken
read_taken form p at line used short small =
    let a : nat_lt 140000 (length line) ≡ false = grind (arith, nat_tests) in
    let b : nat_lt 4294967295 (at.size + used) ≡ false = grind (arith, nat_tests) in
    rw (a, b) refl

-- a line that isn't done leaves all as it is
pub refused_takes : (r : Result Played Kind) (kind : Kind) (used : ℕ) (at : Progress) (text : List ℕ) → r ≡ Err kind
    → Takes (Some kind) r used at at text text
refused_takes r kind used at text e = subst (λ q. Takes (Some kind) q used at at text text) (sym e) (refl, refl, refl)

-- a line that says nothing
pub read_refused : (p : PolicyOf) (said : Result Line LineFault) (kind : Kind) (stand : Stand) → Reads said (Err kind)
    → read_does p said stand ≡ Err kind
read_refused p said kind stand r =
    ap (λ z. read_does p z stand) r.1 ∙ ap (λ k. let q : Result Played Kind = Err (or_word k) in q) r.2

pub read_said : (p : PolicyOf) (said : Result Line LineFault) (line : Line) (stand : Stand) → Reads said (Ok line)
    → read_does p said stand ≡ or_unknown (line_does p line stand)
read_said p said line stand r = ap (λ z. read_does p z stand) r

-- a line takes the steps of what it does
pub line_counts : (form : Form) (p : PolicyOf) (at : Progress) (bytes : List ℕ) (used : ℕ) (line : Line) (old new : ℕ)
    → length bytes ≤ 140000 → at.size + used ≤ 4294967295 → Reads (line_in form bytes) (Ok line)
    → new ≤ old + steps_in (or_unknown (line_does p line at.stand)) → new ≤ old + steps_in (taken form p at bytes used)
line_counts form p at bytes used line old new short small said h =
    subst (λ (r : Result Played Kind). new ≤ old + steps_in r)
    (sym (read_taken form p at bytes used short small ∙ read_said p (line_in form bytes) line at.stand said)) h

-- a line that names something unknown
pub record IsUnknown (o : Option Played) (old new : Stage) (before after : List Stream) : Type 0 where
  pub none : o ≡ None
  pub report : new.report ≡ old.report
  pub stand : stand_in new after ≡ stand_in old before

not_played : (b : Bool) (o : Option Played) (old new : Stage) (before after : List Stream) → b ≡ false
    → Plays b o old new before after → IsUnknown o old new before after
not_played true o old new before after e h = absurd cc
not_played false None old new before after e h =
    record { none = refl; report = h.report ∙ append-nil old.report; stand = h.stand }
not_played false (Some played) old new before after e h = absurd h

pub unknown_takes : (p : PolicyOf) (r : Result Played Kind) (line : Line) (b : Bool) (number size used : ℕ)
    (old new : Stage) (before after : List Stream) → r ≡ or_unknown (line_does p line (stand_in old before)) → b ≡ false
    → Plays b (line_does p line (stand_in old before)) old new before after
    → Takes (Some Unknown) r used (record { number = number; size = size; stand = stand_in old before })
    (record { number = number; size = size; stand = stand_in new after }) old.report new.report
unknown_takes p r line b number size used old new before after is e h =
    let u = not_played b (line_does p line (stand_in old before)) old new before after e h in
    let at = λ (stand : Stand). let q : Progress = record { number = number; size = size; stand = stand } in q in
    subst (λ q. Takes (Some Unknown) q used (at (stand_in old before)) (at (stand_in new after)) old.report new.report)
    (sym (is ∙ ap or_unknown u.none)) (refl, ap at u.stand, u.report)

-- a line that is done
was_played : (b : Bool) (o : Option Played) (old new : Stage) (before after : List Stream) → b ≡ true
    → Plays b o old new before after → (played : Played) × (o ≡ Some played) × HasPlayed played old new after
was_played false o old new before after e h = absurd cc
was_played true None old new before after e h = absurd h
was_played true (Some played) old new before after e h = (played, refl, h)

pub done_takes : (p : PolicyOf) (r : Result Played Kind) (line : Line) (b : Bool) (number size used : ℕ)
    (old new : Stage) (before after : List Stream) → r ≡ or_unknown (line_does p line (stand_in old before)) → b ≡ true
    → Plays b (line_does p line (stand_in old before)) old new before after
    → Takes None r used (record { number = number; size = size; stand = stand_in old before })
    (record { number = number + 1; size = size + used; stand = stand_in new after }) old.report new.report
done_takes p r line b number size used old new before after is e h =
    let d = was_played b (line_does p line (stand_in old before)) old new before after e h in
    let at = λ (stand : Stand). let q : Progress = record { number = number + 1; size = size + used; stand = stand } in
    q in
    subst (λ q. Takes None q used (record { number = number; size = size; stand = stand_in old before })
    (at (stand_in new after)) old.report new.report)
    (sym (is ∙ ap or_unknown d.1)) (ap at d.2.stand, d.2.report)

-- The statuses of reports and of runs.
use Rattle.std.proofs.Common.{◌≡◌, ◌⊎◌, ◌∙◌, ◌==◌, inl, inr, ℕ, ◌+◌, List, [], ◌∷◌, Result, Ok, Err, ap, if◌then◌else◌}
use Rattle.std.proofs.Common.{length, refl, sym}
use Rattle.policies.specs.Policies.{PolicyOf}
use Rattle.replay_report.specs.Playing.{Played}
use Rattle.replay_report.specs.Reports.{Progress, Report, ended, goes_on, plays, plays_from, plays_last, report_of}
use Rattle.replay_report.specs.Reports.{start}
use Rattle.replay_report.specs.Reports.{taken, unfinished, whole_lines}
use Rattle.replay_report.specs.declared.kind.Kind.{Kind}
use Rattle.script_text.specs.declared.form.Form.{Form}
use Rattle.covisor_proxy.specs.Asked.{no_report}
use Rattle.covisor_proxy.specs.Outcomes.{code_of}
use Rattle.covisor_proxy.specs.declared.status.Status.{Status}
use Rattle.covisor_proxy.specs.declared.status.Status.TheVariants.{Done, Usage, Policy, Line, Read, Write, Absent, Link}
use Rattle.covisor_proxy.specs.declared.status.Status.TheVariants.{Spawn, Memory}

-- a replay is done, or stops at a line
abbrev pub IsEither : Report → Type 0
IsEither r = (r.status ≡ 0) ⊎ (r.status ≡ 4)

either_goes : (r : Result Played Kind) (used : ℕ) (at : Progress) (next : Progress → Report)
    → ((x : Progress) → IsEither (next x)) → IsEither (goes_on r used at next)
either_goes (Err kind) used at next h = inr refl
either_goes (Ok played) used at next h = h _

either_plays : (form : Form) (p : PolicyOf) (ending : Progress → Report) → ((x : Progress) → IsEither (ending x))
    → (lines : List (List ℕ)) (at : Progress) → IsEither (plays form p ending at lines)
either_plays form p ending h [] at = h at
either_plays form p ending h (line ∷ lines) at =
    either_goes (taken form p at line (length line + 1)) (length line + 1) at (λ next. plays form p ending next lines)
    (λ x. either_plays form p ending h lines x)

either_last : (form : Form) (p : PolicyOf) (line : List ℕ) (at : Progress) → IsEither (plays_last form p line at)
either_last form p [] at = inl refl
either_last form p (byte ∷ line) at = either_goes (taken form p at (byte ∷ line) (length (byte ∷ line)))
    (length (byte ∷ line)) at ended (λ x. inl refl)

pub either_report : (form : Form) (p : PolicyOf) (script : List ℕ) → IsEither (report_of form p script)
unfolding report_of
either_report form p script =
    either_plays form p (plays_last form p (unfinished [] script)) (λ x. either_last form p (unfinished [] script) x)
    (whole_lines [] script) (start p)

pub either_none : (form : Form) (p : PolicyOf) (script : List ℕ) → IsEither (no_report form p script).report
either_none form p script = inl refl

-- a status is known by its code
abbrev status_of : ℕ → Status
status_of n =
    if n == 0 then Done else
    (if n == 2 then Usage else
    (if n == 3 then Policy else
    (if n == 4 then Line else
    (if n == 5 then Read
    else (if n == 6 then Write
    else (if n == 7 then Absent else (if n == 8 then Link else (if n == 9 then Spawn else Memory))))))))

back : (s : Status) → status_of (code_of s) ≡ s
back Done = refl
back Usage = refl
back Policy = refl
back Line = refl
back Read = refl
back Write = refl
back Absent = refl
back Link = refl
back Spawn = refl
back Memory = refl

pub known_by : (s t : Status) → code_of s ≡ code_of t → s ≡ t
known_by s t e = sym (back s) ∙ (ap status_of e ∙ back t)

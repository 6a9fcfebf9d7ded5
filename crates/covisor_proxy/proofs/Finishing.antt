-- The ends of runs.
use Rattle.std.proofs.Common.{◌≡◌, ◌<◌, ◌≤◌, ◌+◌, ◌⊎◌, inl, inr, ℕ, List, [], ◌∷◌, ◌++◌, Option, Some, None, Result, Ok, Err}
use Rattle.std.proofs.Common.{length, take, true, codes}
use Rattle.std.proofs.Common.{sym, ap, ◌∙◌, subst, refl, append_assoc, IsOk}
use Rattle.std.proofs.lemmas.List.{append-nil}
use Rattle.std.proofs.lemmas.Bool.{false≢true}
use Rattle.outside.specs.Outside.{Rose}
use Rattle.policies.specs.Policies.{PolicyOf}
use Rattle.replay_report.specs.Reports.{Progress, Report, after_text, end_text, lone, refusal_text}
use Rattle.replay_report.specs.Takings.{as_line}
use Rattle.script_text.specs.declared.form.Form.{Form}
use Rattle.outside.specs.declared.files.FileFault.{FileFault}
use Rattle.outside.specs.declared.files.FileFault.TheVariants as faults
use Rattle.outside.specs.declared.files.MemFile.{MemFile}
use Rattle.policies.specs.Terse.{terse}
use Rattle.policies.specs.declared.fault.PolicyFault.{PolicyFault}
use Rattle.script_text.specs.declared.form.Form.TheVariants as forms
use Rattle.covisor_proxy.specs.Asked.{Given, Scripts, cut_given_of, given_of, line_alone, over, over_built_in, over_file}
use Rattle.covisor_proxy.specs.Asked.{stated}
use Rattle.covisor_proxy.specs.Chunks.{Gave, IsAtEnd}
use Rattle.covisor_proxy.specs.Opening.{AnswersTo, Holds}
use Rattle.covisor_proxy.specs.Runs.{EndsOver}
use Rattle.covisor_proxy.specs.Serving.{EndsUnopened, accepted, served_by}
use Rattle.command_line.specs.declared.command.Command.{Command}
use Rattle.command_line.specs.declared.command.Command.TheVariants as commands
use Rattle.covisor_proxy.specs.Following.{Alone, Begins, Breaks, Comes, EndsWith, FallsShort, Reaches, StopsWith}
use Rattle.covisor_proxy.specs.Outcomes.{Counts, Ends, IsRead, IsScript, Moment, Replayed, Settles, Tells, bytes_of}
use Rattle.covisor_proxy.specs.Outcomes.{code_of}
use Rattle.covisor_proxy.specs.Written.{Appends, AppendsShort, AppendsSome, Writes}
use Rattle.covisor_proxy.specs.declared.status.Status.{Status}
use Rattle.covisor_proxy.specs.declared.status.Status.TheVariants as statuses
use Rattle.covisor_proxy.specs.declared.stop.Stop.{Stop}
use Rattle.covisor_proxy.specs.declared.stop.Stop.TheVariants as stops
use Rattle.covisor_proxy.proofs.Appending.{appends_both, appends_none, short_after, some_after, some_none}
use Rattle.covisor_proxy.proofs.Counting.{at_most, none-counted}
use Rattle.covisor_proxy.proofs.Reading.{gave-none, rest_in}

pub script-told : (a : Option (List ℕ)) → IsScript a (rest_in a)
script-told None = tt
script-told (Some left) = refl

-- ---- a last line alone

pub settles-alone : (code : ℕ) (all : Given) (text : List ℕ) (old new : Moment) → all ≡ line_alone text code
    → Writes old.held new.held old.writes new.writes (as_line text) → Settles code all.report old new
settles-alone code all text old new e w = record {
  status = ap (λ (x : Given). x.report.status) e;
  tells = subst (λ (x : Given). Tells x.report old new) (sym e) w;
}

pub replayed-none : (all cut : List ℕ → Given) (old new : Moment) → new.held ≡ old.held → new.steps ≡ old.steps
    → Replayed statuses.Memory all cut old new
replayed-none all cut old new e s = record {
  script = rest_in old.left;
  reads = script-told old.left;
  ends = subst (λ (x : Option (List ℕ)). AppendsSome old.held x (bytes_of (all (rest_in old.left)).report)) (sym e)
      (some_none old.held (bytes_of (all (rest_in old.left)).report));
  counts = none-counted (all (rest_in old.left)).steps old new s;
}

ends-alone : (status result : Status) (all cut : List ℕ → Given) (text : List ℕ) (old new : Moment)
    → IsRead status old.left new.left (rest_in old.left)
    → (Settles (code_of status) (all (rest_in old.left)).report old new
    → Ends status (all (rest_in old.left)) (cut (rest_in old.left)) old new)
    → all (rest_in old.left) ≡ line_alone text (code_of status)
    → new.steps ≡ old.steps
    → Alone status result old.held new.held old.writes new.writes (as_line text) → Replayed result all cut old new
ends-alone status result all cut text old new i f e s (inl a) =
    subst (λ (x : Status). Replayed x all cut old new) (sym a.0)
    (record {
      script = rest_in old.left;
      reads = i;
      ends = f (settles-alone (code_of status) (all (rest_in old.left)) text old new e a.1);
      counts = none-counted (all (rest_in old.left)).steps old new s;
    })
ends-alone status result all cut text old new i f e s (inr a) =
    subst (λ (x : Status). Replayed x all cut old new) (sym a.0) (replayed-none all cut old new a.1 s)

-- ---- what was written and what waited, and the last line

-- the bytes of a report of which all but the last line is known
bytes_known : (written waiting text : List ℕ) (code : ℕ)
    → bytes_of (after_text (written ++ waiting) (lone text code)) ≡ written ++ (waiting ++ as_line text)
bytes_known written waiting text code =
    ap (λ (x : List ℕ). x ++ as_line text) (append-nil (written ++ waiting))
    ∙ append_assoc written waiting (as_line text)

-- no step is counted behind the last
counted_on : (n : ℕ) (old mid new : Moment) → new.steps ≡ mid.steps → Counts n old mid → Counts n old new
counted_on n old mid new e c = subst (λ (x : ℕ). x ≤ old.steps + n) (sym e) c

-- so it ends
come : (status : Status) (all cut : List ℕ → Given) (last : Report) (old mid new : Moment) (w : List ℕ)
    (c : Comes all last old mid w) → IsRead status old.left new.left c.script → new.steps ≡ mid.steps
    → Ends status (all c.script) (cut c.script) old new → Replayed status all cut old new
come status all cut last old mid new w c i s e = record {
  script = c.script;
  reads = i;
  ends = e;
  counts = counted_on (all c.script).steps old mid new s c.counts;
}

module _ (all : List ℕ → Given) (text : List ℕ) (code : ℕ) (old mid new : Moment) (w : List ℕ)
    (c : Comes all (lone text code) old mid w) where
  bytes_all : bytes_of (all c.script).report ≡ c.written ++ (w ++ as_line text)
  bytes_all = ap bytes_of c.report ∙ bytes_known c.written w text code

  told_all : (all c.script).report.told ≡ c.written ++ w
  told_all = ap (λ (r : Report). r.told) c.report ∙ append-nil (c.written ++ w)

  all_come : Appends mid.held new.held (w ++ as_line text)
      → Appends old.held new.held (bytes_of (all c.script).report)
  all_come a =
      subst (Appends old.held new.held) (sym bytes_all)
      (appends_both old.held mid.held new.held c.written (w ++ as_line text) c.appends a)

  -- nothing more is written
  some_come : new.held ≡ mid.held → AppendsSome old.held new.held (bytes_of (all c.script).report)
  some_come e =
      subst (AppendsSome old.held new.held) (sym bytes_all)
      (some_after old.held mid.held new.held c.written (w ++ as_line text) c.appends
      (subst (λ (x : Option (List ℕ)). AppendsSome mid.held x (w ++ as_line text)) (sym e)
      (some_none mid.held (w ++ as_line text))))

  -- or not all
  short_come : AppendsShort mid.held new.held (w ++ as_line text)
      → AppendsShort old.held new.held (bytes_of (all c.script).report)
  short_come a =
      subst (AppendsShort old.held new.held) (sym bytes_all)
      (short_after old.held mid.held new.held c.written (w ++ as_line text) c.appends a)

  short_told : AppendsShort mid.held new.held w → AppendsShort old.held new.held (all c.script).report.told
  short_told a =
      subst (AppendsShort old.held new.held) (sym told_all)
      (short_after old.held mid.held new.held c.written w c.appends a)

  tells-come : mid.writes ≡ old.writes
      → Appends mid.held new.held (w ++ as_line text)
      ⊎ (Rose mid.writes new.writes
      × ((n : ℕ) × (n < length (as_line text)) × Appends mid.held new.held (w ++ take n (as_line text))))
      → Tells (all c.script).report old new
  tells-come q (inl a) = inl (all_come a)
  tells-come q (inr a) =
      let some : Appends old.held new.held ((c.written ++ w) ++ take a.1.0 (as_line text)) =
      subst (Appends old.held new.held) (sym (append_assoc c.written w (take a.1.0 (as_line text))))
      (appends_both old.held mid.held new.held c.written (w ++ take a.1.0 (as_line text)) c.appends a.1.2) in
      subst (λ (r : Report). Tells r old new) (sym c.report)
      (inr (
        subst (λ (x : ℕ). Rose x new.writes) q a.0,
        (
          a.1.0,
          a.1.1,
          subst (λ (x : List ℕ). Appends old.held new.held (x ++ take a.1.0 (as_line text)))
              (sym (append-nil (c.written ++ w))) some,
        ),
      ))

pub ends-done : (status : Status) (all cut : List ℕ → Given) (text : List ℕ) (old mid new : Moment) (w : List ℕ)
    → Comes all (lone text 0) old mid w
    → new.steps ≡ mid.steps → new.reads ≡ old.reads → mid.writes ≡ old.writes
    → EndsWith status mid.held new.held mid.writes new.writes w (as_line text) → Replayed status all cut old new
ends-done statuses.Done all cut text old mid new w c s r q e =
    come statuses.Done all cut (lone text 0) old mid new w c c.is s
    (record {
      status = ap (λ (r : Report). r.status) c.report;
      written = all_come all text 0 old mid new w c e.0;
      reads = r;
      writes = e.1 ∙ q;
    })
ends-done statuses.Write all cut text old mid new w c s r q e =
    come statuses.Write all cut (lone text 0) old mid new w c c.is s (
      subst (λ (x : ℕ). Rose x new.writes) q e.0,
      inr (ap (λ (r : Report). r.status) c.report, short_come all text 0 old mid new w c e.1),
    )
ends-done statuses.Memory all cut text old mid new w c s r q e =
    come statuses.Memory all cut (lone text 0) old mid new w c c.is s (some_come all text 0 old mid new w c e)
ends-done statuses.Usage all cut text old mid new w c s r q e = absurd e
ends-done statuses.Policy all cut text old mid new w c s r q e = absurd e
ends-done statuses.Line all cut text old mid new w c s r q e = absurd e
ends-done statuses.Read all cut text old mid new w c s r q e = absurd e
ends-done statuses.Absent all cut text old mid new w c s r q e = absurd e
ends-done statuses.Link all cut text old mid new w c s r q e = absurd e
ends-done statuses.Spawn all cut text old mid new w c s r q e = absurd e

pub ends-stopped : (status : Status) (all cut : List ℕ → Given) (text : List ℕ) (old mid new : Moment) (w : List ℕ)
    → Comes all (lone text 4) old mid w
    → new.steps ≡ mid.steps → mid.writes ≡ old.writes
    → StopsWith status mid.held new.held mid.writes new.writes w (as_line text) → Replayed status all cut old new
ends-stopped statuses.Line all cut text old mid new w c s q e =
    come statuses.Line all cut (lone text 4) old mid new w c c.is s
    (record {
      status = ap (λ (r : Report). r.status) c.report;
      tells = tells-come all text 4 old mid new w c q e;
    })
ends-stopped statuses.Write all cut text old mid new w c s q e =
    come statuses.Write all cut (lone text 4) old mid new w c c.is s
    (subst (λ (x : ℕ). Rose x new.writes) q e.0, inl (short_told all text 4 old mid new w c e.1))
ends-stopped statuses.Memory all cut text old mid new w c s q e =
    come statuses.Memory all cut (lone text 4) old mid new w c c.is s (some_come all text 4 old mid new w c e)
ends-stopped statuses.Done all cut text old mid new w c s q e = absurd e
ends-stopped statuses.Usage all cut text old mid new w c s q e = absurd e
ends-stopped statuses.Policy all cut text old mid new w c s q e = absurd e
ends-stopped statuses.Read all cut text old mid new w c s q e = absurd e
ends-stopped statuses.Absent all cut text old mid new w c s q e = absurd e
ends-stopped statuses.Link all cut text old mid new w c s q e = absurd e
ends-stopped statuses.Spawn all cut text old mid new w c s q e = absurd e

-- before its end
pub ends-short : (all cut : List ℕ → Given) (old new : Moment) → Rose old.writes new.writes → FallsShort all old new
    → Replayed statuses.Write all cut old new
ends-short all cut old new r f =
    record { script = f.script; reads = f.is; ends = (r, inl f.short); counts = f.counts }

pub ends-begun : (all cut : List ℕ → Given) (old new : Moment) → Begins all old new
    → Replayed statuses.Memory all cut old new
ends-begun all cut old new b = record { script = b.script; reads = b.is; ends = b.written; counts = b.counts }

-- ---- a read failed

breaks_tells : (cut : List ℕ → Given) (old mid new : Moment) (b : Breaks cut old mid) → mid.writes ≡ old.writes
    → Writes mid.held new.held mid.writes new.writes (as_line (codes "fault read")) → Tells (cut b.read).report old new
breaks_tells cut old mid new b q (inl a) =
    inl (subst (λ (x : List ℕ). Appends old.held new.held ((cut b.read).report.told ++ x)) (sym b.last)
    (appends_both old.held mid.held new.held (cut b.read).report.told (as_line (codes "fault read")) b.appends a))
breaks_tells cut old mid new b q (inr a) =
    inr (
      subst (λ (x : ℕ). Rose x new.writes) q a.0,
      (
        a.1.0,
        subst (λ (x : List ℕ). a.1.0 < length x) (sym b.last) a.1.1,
        subst (λ (x : List ℕ). Appends old.held new.held ((cut b.read).report.told ++ take a.1.0 x)) (sym b.last)
            (appends_both old.held mid.held new.held (cut b.read).report.told
            (take a.1.0 (as_line (codes "fault read"))) b.appends a.1.2),
      ),
    )

pub breaks-off : (all cut : List ℕ → Given) (old mid new : Moment) (b : Breaks cut old mid) → Rose old.reads mid.reads
    → mid.writes ≡ old.writes
    → new.left ≡ mid.left → new.reads ≡ mid.reads → new.steps ≡ mid.steps → (cut b.read).steps ≤ (all b.read).steps
    → Writes mid.held new.held mid.writes new.writes (as_line (codes "fault read"))
    → Replayed statuses.Read all cut old new
breaks-off all cut old mid new b r q l s n most w =
    let counts : Counts (cut b.read).steps old new = counted_on (cut b.read).steps old mid new n b.counts in
    record {
      script = b.read;
      reads = subst (λ (x : Option (List ℕ)). Gave old.left x b.read) (sym l) b.gave;
      ends = inr (record {
        fault = subst (Rose old.reads) (sym s) r;
        status = b.status;
        tells = breaks_tells cut old mid new b q w;
        counts = counts;
      });
      counts = at_most new.steps old.steps (cut b.read).steps (all b.read).steps counts most;
    }

-- ---- a replay

-- it was read to its end
pub reached-end : (outcome : Result (Unit {0}) Stop) (form : Form) (p : PolicyOf) (at : Progress) (w : List ℕ)
    (old new : Moment) → IsOk outcome
    → Reaches outcome form p at w old new → IsAtEnd new.left
reached-end (Ok _) form p at w old new ok r = r.1
reached-end (Err stop) form p at w old new ok r = absurd (false≢true ok)

-- a replay of this policy, by lines of this form
pub reaches-of : (outcome : Result (Unit {0}) Stop) (form form' : Form) (p p' : PolicyOf) (at : Progress) (w : List ℕ)
    (old new : Moment)
    → form' ≡ form → p' ≡ p → Reaches outcome form' p' at w old new → Reaches outcome form p at w old new
reaches-of outcome form form' p p' at w old new e f r =
    subst (λ (x : PolicyOf). Reaches outcome form x at w old new) f
    (subst (λ (x : Form). Reaches outcome x p' at w old new) e r)

-- ---- policies

pub over-built-in : (status : Status) (r : Result PolicyOf PolicyFault) (p : PolicyOf) (old new : Moment) → r ≡ Ok p
    → Replayed status (given_of forms.Replay p) (cut_given_of forms.Replay p) old new
    → Replayed status (over_built_in given_of r) (over_built_in cut_given_of r) old new
over-built-in status r p old new e h =
    subst (λ (x : Result PolicyOf PolicyFault). Replayed status (over_built_in given_of x)
    (over_built_in cut_given_of x) old new) (sym e) h

pub over-policy : (status : Status) (form : Form) (r : Result PolicyOf PolicyFault) (p : PolicyOf) (old new : Moment)
    → r ≡ Ok p
    → Replayed status (given_of form p) (cut_given_of form p) old new
    → Replayed status (over given_of form r) (over cut_given_of form r) old new
over-policy status form r p old new e h =
    subst (λ (x : Result PolicyOf PolicyFault). Replayed status (over given_of form x) (over cut_given_of form x) old
    new) (sym e) h

-- ---- files that state no policy

module _ (all cut : Scripts) (form : Form) (name : List ℕ) (files : Option (List MemFile)) (fails fails' : ℕ)
    (old new : Moment)
    (still : new.steps ≡ old.steps) where
  pub told-absent : (result : Status) → Holds files name None
      → Alone statuses.Absent result old.held new.held old.writes new.writes (as_line (codes "fault absent " ++ name))
      → EndsUnopened result all cut form name files fails fails' old new
  told-absent result h a = (
    Err faults.Absent,
    h,
    refl,
    ends-alone statuses.Absent result (over_file all form name (Err faults.Absent))
        (over_file cut form name (Err faults.Absent))
        (codes "fault absent " ++ name) old new (script-told old.left) (λ s. s) refl still a,
  )

  pub told-unread : Rose fails fails' → new.left ≡ old.left
      → Writes old.held new.held old.writes new.writes (as_line (codes "fault read"))
      → EndsUnopened statuses.Read all cut form name files fails fails' old new
  told-unread h same a = (
    Err faults.Failed,
    h,
    refl,
    record {
      script = [];
      reads = subst (λ (x : Option (List ℕ)). Gave old.left x []) (sym same) (gave-none old.left);
      ends = inl (settles-alone 5 (over_file all form name (Err faults.Failed) []) (codes "fault read") old new refl a);
      counts = none-counted (over_file all form name (Err faults.Failed) []).steps old new still;
    },
  )

  pub told-refused : (result : Status) (fault : PolicyFault) (bytes : List ℕ) → Holds files name (Some bytes)
      → stated bytes ≡ Err fault
      → Alone statuses.Policy result old.held new.held old.writes new.writes
      (as_line (codes "fault policy " ++ terse fault))
      → EndsUnopened result all cut form name files fails fails' old new
  told-refused result fault bytes h e a = (
    Ok bytes,
    h,
    ap accepted e,
    ends-alone statuses.Policy result (over_file all form name (Ok bytes)) (over_file cut form name (Ok bytes))
        (codes "fault policy " ++ terse fault) old new (script-told old.left) (λ s. s)
        (ap (λ (x : Result PolicyOf PolicyFault). over all form x (rest_in old.left)) e) still a,
  )

  pub told-wanted : new.held ≡ old.held → EndsUnopened statuses.Memory all cut form name files fails fails' old new
  told-wanted e = (
    Err faults.Memory,
    tt,
    refl,
    replayed-none (over_file all form name (Err faults.Memory)) (over_file cut form name (Err faults.Memory)) old new e
        still,
  )

-- a replay over the policy of a file
pub replayed-unopened : (status : Status) (form : Form) (name : List ℕ) (files : Option (List MemFile))
    (fails fails' : ℕ) (old new : Moment)
    → EndsUnopened status given_of cut_given_of form name files fails fails' old new
    → EndsOver status form name files fails fails' old new
replayed-unopened status form name files fails fails' old new u = (u.0, u.1, u.3)

-- ---- what isn't of a file

pub ends-made : (status : Status) (all cut : List ℕ → Given) (text : List ℕ) (old new : Moment)
    → ((script : List ℕ) → (all script).report ≡ lone text 0)
    → ((script : List ℕ) → Counts (all script).steps old new)
    → new.reads ≡ old.reads → EndsWith status old.held new.held old.writes new.writes [] (as_line text)
    → Replayed status all cut old new
ends-made status all cut text old new e s r h =
    ends-done status all cut text old (record old { steps = new.steps }) new []
    (record {
      script = rest_in old.left;
      written = [];
      is = script-told old.left;
      appends = appends_none old.held;
      report = e (rest_in old.left);
      counts = s (rest_in old.left);
    })
    refl r refl h

pub answers-wanted : (command : Option Command) (files : Option (List MemFile)) (fails fails' : ℕ)
    → AnswersTo command files fails fails' (Err faults.Memory)
answers-wanted None files fails fails' = tt
answers-wanted (Some commands.Replay) files fails fails' = tt
answers-wanted (Some (commands.ReplayPolicy name)) files fails fails' = tt
answers-wanted (Some (commands.ExplainPolicy name)) files fails fails' = tt
answers-wanted (Some (commands.Serve name)) files fails fails' = tt
answers-wanted (Some (commands.Make seed count)) files fails fails' = tt

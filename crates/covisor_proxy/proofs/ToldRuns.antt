-- What the operator is told, from the calls that tell it up to a run.
use Rattle.std.proofs.Common.{◌≡◌, ◌+◌, ◌⊎◌, inl, inr, ℕ, List, [], Option, Some, None, Result, Ok, Err}
use Rattle.std.proofs.Common.{ap, refl, subst, sym, ◌∙◌}
use Rattle.outside.specs.declared.files.FileFault.{FileFault}
use Rattle.outside.specs.declared.files.FileFault.TheVariants as faults
use Rattle.outside.specs.declared.files.MemFile.{MemFile}
use Rattle.policies.specs.Policies.{PolicyOf}
use Rattle.policies.specs.declared.fault.PolicyFault.{PolicyFault}
use Rattle.policy_notes.specs.Notes.{said}
use Rattle.policy_notes.specs.declared.places.Place.{Place}
use Rattle.replay_report.specs.Reports.{Progress, Report, refusal_text}
use Rattle.replay_report.specs.Takings.{as_line}
use Rattle.replay_report.specs.declared.kind.Kind.{Kind}
use Rattle.script_text.specs.declared.form.Form.{Form}
use Rattle.script_text.specs.declared.form.Form.TheVariants as forms
use Rattle.covisor_proxy.specs.Asked.{Given, given_for, given_of, over, over_built_in, over_file, stated}
use Rattle.covisor_proxy.specs.BuiltIn.{built_in_read}
use Rattle.covisor_proxy.specs.Following.{EndsWith, Reaches, StopsWith}
use Rattle.covisor_proxy.specs.LineNotes.{link_note, spawn_note}
use Rattle.covisor_proxy.specs.Noted.{IsEnd, IsRefusal, NotedFor, Notes, NotesEnd, NotesFile, NotesHeld, NotesLine}
use Rattle.covisor_proxy.specs.Noted.{NotesNone, NotesOver, NotesServed, Remarked, TellsLine, TellsName, TellsPolicy}
use Rattle.covisor_proxy.specs.Opening.{Answers, AnswersTo, Holds, Opens}
use Rattle.covisor_proxy.specs.Outcomes.{Moment}
use Rattle.covisor_proxy.specs.Serving.{accepted, served_by}
use Rattle.covisor_proxy.specs.Written.{AppendsSome}
use Rattle.covisor_proxy.specs.declared.opening.NoPolicy.{NoPolicy}
use Rattle.covisor_proxy.specs.declared.opening.NoPolicy.TheVariants as none
use Rattle.covisor_proxy.specs.declared.status.Status.{Status}
use Rattle.covisor_proxy.specs.declared.status.Status.TheVariants as statuses
use Rattle.covisor_proxy.specs.declared.stop.Stop.{Stop}
use Rattle.covisor_proxy.specs.declared.stop.Stop.TheVariants as stops
use Rattle.command_line.specs.declared.command.Command.{Command}
use Rattle.command_line.specs.declared.command.Command.TheVariants as commands
use Rattle.covisor_proxy.proofs.Appending.{some_none}
use Rattle.covisor_proxy.proofs.Finishing.{answers-wanted}

-- nothing was told
unsaid : (held held' : Option (List ℕ)) (text : List ℕ) → held' ≡ held → AppendsSome held held' text
unsaid held held' text e = subst (λ (x : Option (List ℕ)). AppendsSome held x text) (sym e) (some_none held text)

unremarked : (served : Option PolicyOf) (held held' : Option (List ℕ)) (text : List ℕ) → served ≡ None → held' ≡ held
    → Remarked served held held' text
unremarked served held held' text is e =
    subst (λ (x : Option PolicyOf). Remarked x held held' text) (sym is) (unsaid held held' text e)

-- ---- a replay

-- the line at which it stopped
told_line : (outcome : Result (Unit {0}) Stop) (form : Form) (p : PolicyOf) (at : Progress) (w : List ℕ) (old mid : Moment)
    (number : ℕ) (held held' : Option (List ℕ)) → IsRefusal outcome → Reaches outcome form p at w old mid
    → number ≡ at.number + 1 → NotesLine outcome form number held held'
    → TellsLine form (given_of form p) old.left held held'
told_line (Err (stops.Refused kind)) form p at w old mid number held held' refusal r is h = record {
  script = r.0.script;
  number = number;
  kind = kind;
  seen = h.0;
  is = r.0.is;
  last = ap (λ (x : Report). x.last) r.0.report
      ∙ ap (λ (n : ℕ). as_line (refusal_text n kind)) (sym is);
  told = h.1;
}
told_line (Err stops.Read) form p at w old mid number held held' refusal r is h = absurd refusal
told_line (Err stops.Write) form p at w old mid number held held' refusal r is h = absurd refusal
told_line (Err stops.Memory) form p at w old mid number held held' refusal r is h = absurd refusal
told_line (Ok done) form p at w old mid number held held' refusal r is h = absurd refusal

pub told_end : (status : Status) (outcome : Result (Unit {0}) Stop) (form : Form) (p : PolicyOf) (at : Progress)
    (w : List ℕ) (old mid : Moment) (number : ℕ) (held held' : Option (List ℕ)) → IsEnd status outcome
    → Reaches outcome form p at w old mid → number ≡ at.number + 1
    → NotesEnd status outcome form number held held' → NotesOver status form (given_of form p) old.left held held'
told_end statuses.Done outcome form p at w old mid number held held' end r is h = h
told_end statuses.Usage outcome form p at w old mid number held held' end r is h = absurd h
told_end statuses.Policy outcome form p at w old mid number held held' end r is h = absurd h
told_end statuses.Line outcome form p at w old mid number held held' end r is h =
    told_line outcome form p at w old mid number held held' end r is h
told_end statuses.Read outcome form p at w old mid number held held' end r is h = h
told_end statuses.Write outcome form p at w old mid number held held' end r is h = h
told_end statuses.Absent outcome form p at w old mid number held held' end r is h = absurd h
told_end statuses.Link outcome form p at w old mid number held held' end r is h = absurd h
told_end statuses.Spawn outcome form p at w old mid number held held' end r is h = absurd h
told_end statuses.Memory outcome form p at w old mid number held held' end r is h = h

-- how it ends
pub end_of : (status : Status) (held held' : Option (List ℕ)) (faults faults' : ℕ) (waiting last : List ℕ)
    (x : Unit {0}) → EndsWith status held held' faults faults' waiting last → IsEnd status (Ok x)
end_of statuses.Done held held' faults faults' waiting last x h = refl
end_of statuses.Usage held held' faults faults' waiting last x h = absurd h
end_of statuses.Policy held held' faults faults' waiting last x h = absurd h
end_of statuses.Line held held' faults faults' waiting last x h = absurd h
end_of statuses.Read held held' faults faults' waiting last x h = absurd h
end_of statuses.Write held held' faults faults' waiting last x h = tt
end_of statuses.Absent held held' faults faults' waiting last x h = absurd h
end_of statuses.Link held held' faults faults' waiting last x h = absurd h
end_of statuses.Spawn held held' faults faults' waiting last x h = absurd h
end_of statuses.Memory held held' faults faults' waiting last x h = tt

pub stop_of : (status : Status) (held held' : Option (List ℕ)) (faults faults' : ℕ) (waiting last : List ℕ)
    (kind : Kind) → StopsWith status held held' faults faults' waiting last → IsEnd status (Err (stops.Refused kind))
stop_of statuses.Done held held' faults faults' waiting last kind h = absurd h
stop_of statuses.Usage held held' faults faults' waiting last kind h = absurd h
stop_of statuses.Policy held held' faults faults' waiting last kind h = absurd h
stop_of statuses.Line held held' faults faults' waiting last kind h = tt
stop_of statuses.Read held held' faults faults' waiting last kind h = absurd h
stop_of statuses.Write held held' faults faults' waiting last kind h = tt
stop_of statuses.Absent held held' faults faults' waiting last kind h = absurd h
stop_of statuses.Link held held' faults faults' waiting last kind h = absurd h
stop_of statuses.Spawn held held' faults faults' waiting last kind h = absurd h
stop_of statuses.Memory held held' faults faults' waiting last kind h = tt

-- over a policy that a file states
pub held_over : (status : Status) (form : Form) (name bytes : List ℕ) (p : PolicyOf) (left held held' : Option (List ℕ))
    → stated bytes ≡ Ok p → NotesOver status form (given_of form p) left held held'
    → NotesHeld status form name (Ok bytes) left held held'
held_over statuses.Done form name bytes p left held held' e h = h
held_over statuses.Usage form name bytes p left held held' e h = absurd h
held_over statuses.Policy form name bytes p left held held' e h = absurd h
held_over statuses.Line form name bytes p left held held' e h =
    subst (λ (x : Result PolicyOf PolicyFault). TellsLine form (over given_of form x) left held held') (sym e) h
held_over statuses.Read form name bytes p left held held' e h = inr h
held_over statuses.Write form name bytes p left held held' e h = h
held_over statuses.Absent form name bytes p left held held' e h = absurd h
held_over statuses.Link form name bytes p left held held' e h = absurd h
held_over statuses.Spawn form name bytes p left held held' e h = absurd h
held_over statuses.Memory form name bytes p left held held' e h = h

-- over the built-in policy
pub built_in_over : (status : Status) (r : Result PolicyOf PolicyFault) (p : PolicyOf) (left held held' : Option (List ℕ))
    → r ≡ Ok p → NotesOver status forms.Replay (given_of forms.Replay p) left held held'
    → NotesOver status forms.Replay (over_built_in given_of r) left held held'
built_in_over status r p left held held' e h =
    subst (λ (x : Result PolicyOf PolicyFault). NotesOver status forms.Replay (over_built_in given_of x) left held held')
    (sym e) h

-- ---- a file that states no policy

module _ (form : Form) (name : List ℕ) (left held held' : Option (List ℕ)) where
  refused_held : (status : Status) (fault : PolicyFault) (place : Place) (bytes : List ℕ) → stated bytes ≡ Err fault
      → NotesNone status name (none.Refused fault place) held held'
      → NotesHeld status form name (Ok bytes) left held held'
  refused_held statuses.Done fault place bytes e h = absurd h
  refused_held statuses.Usage fault place bytes e h = absurd h
  refused_held statuses.Policy fault place bytes e h = record {
    called = name;
    bytes = bytes;
    fault = fault;
    place = place;
    named = refl;
    is = refl;
    refused = e;
    told = h;
  }
  refused_held statuses.Line fault place bytes e h = absurd h
  refused_held statuses.Read fault place bytes e h = absurd h
  refused_held statuses.Write fault place bytes e h = absurd h
  refused_held statuses.Absent fault place bytes e h = absurd h
  refused_held statuses.Link fault place bytes e h = absurd h
  refused_held statuses.Spawn fault place bytes e h = absurd h
  refused_held statuses.Memory fault place bytes e h = h

  absent_held : (status : Status) → NotesNone status name none.Absent held held'
      → NotesHeld status form name (Err faults.Absent) left held held'
  absent_held statuses.Done h = absurd h
  absent_held statuses.Usage h = absurd h
  absent_held statuses.Policy h = absurd h
  absent_held statuses.Line h = absurd h
  absent_held statuses.Read h = absurd h
  absent_held statuses.Write h = absurd h
  absent_held statuses.Absent h = record { called = name; named = refl; told = h }
  absent_held statuses.Link h = absurd h
  absent_held statuses.Spawn h = absurd h
  absent_held statuses.Memory h = h

  unread_held : (status : Status) → NotesNone status name none.Unread held held'
      → NotesHeld status form name (Err faults.Failed) left held held'
  unread_held statuses.Done h = absurd h
  unread_held statuses.Usage h = absurd h
  unread_held statuses.Policy h = absurd h
  unread_held statuses.Line h = absurd h
  unread_held statuses.Read h = inl (record { called = name; named = refl; told = h })
  unread_held statuses.Write h = absurd h
  unread_held statuses.Absent h = absurd h
  unread_held statuses.Link h = absurd h
  unread_held statuses.Spawn h = absurd h
  unread_held statuses.Memory h = h

  wanted_held : (status : Status) → NotesNone status name none.Memory held held'
      → NotesHeld status form name (Err faults.Memory) left held held'
  wanted_held statuses.Done h = absurd h
  wanted_held statuses.Usage h = absurd h
  wanted_held statuses.Policy h = absurd h
  wanted_held statuses.Line h = absurd h
  wanted_held statuses.Read h = absurd h
  wanted_held statuses.Write h = absurd h
  wanted_held statuses.Absent h = absurd h
  wanted_held statuses.Link h = absurd h
  wanted_held statuses.Spawn h = absurd h
  wanted_held statuses.Memory h = h

-- what a file answered that states no policy, and what is told of it
pub none_held : (cause : NoPolicy) (status : Status) (form : Form) (name : List ℕ) (files : Option (List MemFile))
    (fails fails' : ℕ) (left held held' : Option (List ℕ)) → Opens files fails fails' name (Err cause)
    → NotesNone status name cause held held'
    → (file : Result (List ℕ) FileFault) × Answers files fails fails' name file
    × (served_by (Some (commands.Serve name)) file ≡ None) × NotesHeld status form name file left held held'
none_held (none.Refused fault place) status form name files fails fails' left held held' o h =
    (Ok o.0, o.1, ap accepted o.2, refused_held form name left held held' status fault place o.0 o.2 h)
none_held none.Absent status form name files fails fails' left held held' o h =
    (Err faults.Absent, o, refl, absent_held form name left held held' status h)
none_held none.Unread status form name files fails fails' left held held' o h =
    (Err faults.Failed, o, refl, unread_held form name left held held' status h)
none_held none.Memory status form name files fails fails' left held held' o h =
    (Err faults.Memory, tt, refl, wanted_held form name left held held' status h)

-- ---- a command

module _ (name : List ℕ) (file : Result (List ℕ) FileFault) (left held held' : Option (List ℕ)) where
  pub replay_held : (status : Status) → NotesHeld status forms.Replay name file left held held'
      → NotedFor status (Some (commands.ReplayPolicy name)) file left held held'
  replay_held statuses.Done h = unsaid held held' [] h
  replay_held statuses.Usage h = absurd h
  replay_held statuses.Policy h = h
  replay_held statuses.Line h = h
  replay_held statuses.Read h = h
  replay_held statuses.Write h = unsaid held held' [] h
  replay_held statuses.Absent h = h
  replay_held statuses.Link h = absurd h
  replay_held statuses.Spawn h = absurd h
  replay_held statuses.Memory h = unsaid held held' [] h

  pub explain_held : (status : Status) → NotesHeld status forms.Explain name file left held held'
      → NotedFor status (Some (commands.ExplainPolicy name)) file left held held'
  explain_held statuses.Done h = unsaid held held' [] h
  explain_held statuses.Usage h = absurd h
  explain_held statuses.Policy h = h
  explain_held statuses.Line h = h
  explain_held statuses.Read h = h
  explain_held statuses.Write h = unsaid held held' [] h
  explain_held statuses.Absent h = h
  explain_held statuses.Link h = absurd h
  explain_held statuses.Spawn h = absurd h
  explain_held statuses.Memory h = unsaid held held' [] h

  -- of a policy that is to be served there may be none
  pub unserved_held : (status : Status) → served_by (Some (commands.Serve name)) file ≡ None
      → (status ≡ statuses.Line → ⊥) → NotesHeld status forms.Replay name file left held held'
      → NotedFor status (Some (commands.Serve name)) file left held held'
  unserved_held statuses.Done none never h = unremarked (served_by (Some (commands.Serve name)) file) held held' [] none h
  unserved_held statuses.Usage none never h = absurd h
  unserved_held statuses.Policy none never h = h
  unserved_held statuses.Line none never h = absurd (never refl)
  unserved_held statuses.Read none never h = h
  unserved_held statuses.Write none never h = unremarked (served_by (Some (commands.Serve name)) file) held held' [] none h
  unserved_held statuses.Absent none never h = h
  unserved_held statuses.Link none never h = absurd h
  unserved_held statuses.Spawn none never h = absurd h
  unserved_held statuses.Memory none never h = unremarked (served_by (Some (commands.Serve name)) file) held held' [] none h

-- a policy that is served
pub served_noted : (status : Status) (name bytes : List ℕ) (p : PolicyOf) (left held held' : Option (List ℕ))
    → stated bytes ≡ Ok p → NotesServed status p held held'
    → NotedFor status (Some (commands.Serve name)) (Ok bytes) left held held'
served_noted statuses.Done name bytes p left held held' e h =
    subst (λ (x : Option PolicyOf). Remarked x held held' []) (sym (ap accepted e)) h
served_noted statuses.Usage name bytes p left held held' e h = absurd h
served_noted statuses.Policy name bytes p left held held' e h = absurd h
served_noted statuses.Line name bytes p left held held' e h = absurd h
served_noted statuses.Read name bytes p left held held' e h = absurd h
served_noted statuses.Write name bytes p left held held' e h =
    subst (λ (x : Option PolicyOf). Remarked x held held' []) (sym (ap accepted e)) h
served_noted statuses.Absent name bytes p left held held' e h = absurd h
served_noted statuses.Link name bytes p left held held' e h =
    subst (λ (x : Option PolicyOf). Remarked x held held' (said link_note)) (sym (ap accepted e)) h
served_noted statuses.Spawn name bytes p left held held' e h =
    subst (λ (x : Option PolicyOf). Remarked x held held' (said spawn_note)) (sym (ap accepted e)) h
served_noted statuses.Memory name bytes p left held held' e h =
    subst (λ (x : Option PolicyOf). Remarked x held held' []) (sym (ap accepted e)) h

-- the built-in policy, of which no file tells
pub built_in_noted : (status : Status) (left held held' : Option (List ℕ))
    → NotesOver status forms.Replay (over_built_in given_of built_in_read) left held held'
    → NotedFor status (Some commands.Replay) (Err faults.Memory) left held held'
built_in_noted statuses.Done left held held' h = unsaid held held' [] h
built_in_noted statuses.Usage left held held' h = absurd h
built_in_noted statuses.Policy left held held' h = absurd h
built_in_noted statuses.Line left held held' h = h
built_in_noted statuses.Read left held held' h = inr h
built_in_noted statuses.Write left held held' h = unsaid held held' [] h
built_in_noted statuses.Absent left held held' h = absurd h
built_in_noted statuses.Link left held held' h = absurd h
built_in_noted statuses.Spawn left held held' h = absurd h
built_in_noted statuses.Memory left held held' h = unsaid held held' [] h

-- a made script
pub made_noted : (status : Status) (seed count : ℕ) (left held out out' : Option (List ℕ)) (fails fails' : ℕ)
    (waiting last : List ℕ) → EndsWith status out out' fails fails' waiting last
    → NotedFor status (Some (commands.Make seed count)) (Err faults.Memory) left held held
made_noted statuses.Done seed count left held out out' fails fails' waiting last h = some_none held []
made_noted statuses.Usage seed count left held out out' fails fails' waiting last h = absurd h
made_noted statuses.Policy seed count left held out out' fails fails' waiting last h = absurd h
made_noted statuses.Line seed count left held out out' fails fails' waiting last h = absurd h
made_noted statuses.Read seed count left held out out' fails fails' waiting last h = absurd h
made_noted statuses.Write seed count left held out out' fails fails' waiting last h = some_none held []
made_noted statuses.Absent seed count left held out out' fails fails' waiting last h = absurd h
made_noted statuses.Link seed count left held out out' fails fails' waiting last h = absurd h
made_noted statuses.Spawn seed count left held out out' fails fails' waiting last h = absurd h
made_noted statuses.Memory seed count left held out out' fails fails' waiting last h = some_none held []

-- memory was wanted before anything was done
wanted_served : (command : Option Command) → served_by command (Err faults.Memory) ≡ None
wanted_served None = refl
wanted_served (Some commands.Replay) = refl
wanted_served (Some (commands.ReplayPolicy name)) = refl
wanted_served (Some (commands.ExplainPolicy name)) = refl
wanted_served (Some (commands.Serve name)) = refl
wanted_served (Some (commands.Make seed count)) = refl

pub wanted_noted : (command : Option Command) (files : Option (List MemFile)) (fails fails' : ℕ)
    (left held : Option (List ℕ)) → Notes statuses.Memory command files fails fails' left held held
wanted_noted command files fails fails' left held = (
  Err faults.Memory,
  answers-wanted command files fails fails',
  unremarked (served_by command (Err faults.Memory)) held held [] (wanted_served command) refl,
)

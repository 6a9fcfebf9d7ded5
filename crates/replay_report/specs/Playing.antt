-- What a line of a script does: its events, one after the other, each with its report.
use Rattle.std.specs.Prelude.{◌≡◌, ℕ, Bool, true, false, not, List, [], ◌∷◌, ◌++◌, Option, Some, None, codes, decimal}
use Rattle.std.specs.Prelude.{option_map, slice_get, slice_set, if◌then◌else◌}
use Rattle.cv_io.specs.declared.leaf.Session.{Session}
use Rattle.cv_io.specs.declared.leaf.Who.{Who}
use Rattle.cv_io.specs.declared.leaf.Who.TheVariants.{Member, Switch, Audit}
use Rattle.events.specs.declared.event.Event.{Event}
use Rattle.events.specs.declared.event.Event.TheVariants as events
use Rattle.machine_meaning.specs.Sessions.{round_of}
use Rattle.machine_meaning.specs.States.{State}
use Rattle.of10_frames.specs.Wire.{length_field}
use Rattle.policies.specs.Policies.{PolicyOf}
use Rattle.script_text.specs.declared.line.Line.{Line}
use Rattle.script_text.specs.declared.line.Line.TheVariants as lines
use Rattle.replay_report.specs.Explaining.{asked}
use Rattle.replay_report.specs.Sessions.{session_named, virtual_named}
use Rattle.replay_report.specs.Cuts.{frames_of, is_short, rest_of}
use Rattle.replay_report.specs.Streams.{fresh}
use Rattle.replay_report.specs.Takings.{Done, as_line, behind, counted, does, quietly}
use Rattle.replay_report.specs.declared.sessions.Found.{Found}
use Rattle.replay_report.specs.declared.streams.Stream.{Stream}

-- where a replay stands: the state of the machine, and what each session sent that isn't a whole frame yet
pub record Stand : Type 0 where
  pub state : State
  pub streams : List Stream

-- what was reported, where the replay stands then, and how many steps of composition that takes at most
pub record Played : Type 0 where
  pub text : List ℕ
  pub stand : Stand
  pub steps : ℕ

abbrev pub nothing : Stand → Played
nothing stand = record { text = []; stand = stand; steps = 0 }

-- what an event did to the state, beside streams
abbrev pub with_streams : List Stream → Done → Played
with_streams streams d = record {
  text = d.text;
  stand = record { state = d.state; streams = streams };
  steps = d.steps;
}

-- a session in its present round
abbrev pub present : State → Who → Session
present s who = record { who = who; round = round_of s who }

-- one thing and then another
abbrev pub then_do : Done → (State → Done) → Done
then_do d next = counted d.steps (behind d.text (next d.state))

-- a session sends frames
abbrev pub sends : PolicyOf → Who → List (List ℕ) → State → Done
sends p who [] s = quietly s
sends p who (frame ∷ frames) s = then_do (does p (events.Msg (present s who) frame) s) (sends p who frames)

-- a session goes
abbrev pub goes : PolicyOf → Who → State → Done
goes p who s = does p (events.Gone (present s who)) s

-- the line of a header that gives a length that is less than its own
abbrev pub short_line : List ℕ → ℕ → List ℕ
short_line name len = as_line (codes "short " ++ (name ++ (codes " " ++ decimal len)))

-- what was heard of a session: the report, the state, the session's stream, and how many steps that takes at most
pub record Heard : Type 0 where
  pub text : List ℕ
  pub state : State
  pub stream : Stream
  pub steps : ℕ

abbrev pub heard : Stream → Done → Heard
heard stream d = record { text = d.text; state = d.state; stream = stream; steps = d.steps }

-- the stream behind frames, unless it shows a short length: then the session goes
abbrev pub unless_short : Bool → PolicyOf → List ℕ → Who → List ℕ → Done → Heard
unless_short false p name who rest d = heard (record { framer = rest; is_short = false }) d
unless_short true p name who rest d =
    heard (record { framer = rest; is_short = true })
    (then_do d (λ s. behind (short_line name (length_field rest)) (goes p who s)))

-- the session's bytes so far, cut into frames
abbrev pub heard_of : PolicyOf → List ℕ → Who → List ℕ → State → Heard
heard_of p name who kept s =
    unless_short (is_short (rest_of kept)) p name who (rest_of kept) (sends p who (frames_of kept) s)

-- a session sends bytes; behind a short length they are dropped
unfoldable pub hears : PolicyOf → List ℕ → Who → List ℕ → Stream → State → Heard
hears p name who bytes stream s =
    if stream.is_short then heard stream (quietly s) else heard_of p name who (stream.framer ++ bytes) s

abbrev pub heard_at : ℕ → Stand → Heard → Played
heard_at at stand h = record {
  text = h.text;
  stand = record { state = h.state; streams = slice_set stand.streams at h.stream };
  steps = h.steps;
}

abbrev pub sent_by : PolicyOf → List ℕ → Found → List ℕ → Stand → Option Stream → Played
sent_by p name x bytes stand None = nothing stand
sent_by p name x bytes stand (Some stream) = heard_at x.at stand (hears p name x.who bytes stream stand.state)

abbrev pub sent : PolicyOf → List ℕ → List ℕ → Stand → Found → Played
sent p name bytes stand x = sent_by p name x bytes stand (slice_get stand.streams x.at)

-- a switch tells whether it matches ARP addresses, of a member nothing is told
abbrev pub tells_arp : Who → Bool → Bool
tells_arp (Member n) noarp = false
tells_arp (Switch n) noarp = not noarp
tells_arp Audit noarp = false

-- a session comes up, with an empty stream
abbrev pub comes_up : PolicyOf → Bool → Stand → Found → Played
comes_up p noarp stand x =
    with_streams (slice_set stand.streams x.at fresh) (does p (events.Up x.who (tells_arp x.who noarp)) stand.state)

-- an event that leaves streams alone
abbrev pub happens : PolicyOf → Event → Stand → Played
happens p e stand = with_streams stand.streams (does p e stand.state)

abbrev pub leaves : PolicyOf → Stand → Found → Played
leaves p stand x = with_streams stand.streams (goes p x.who stand.state)

abbrev pub replaces : PolicyOf → List ℕ → Stand → ℕ → Played
replaces p text stand v = happens p (events.Policy v text) stand

-- a text is reported, and nothing happens
abbrev pub says : Stand → List ℕ → Played
says stand text = record { text = text; stand = stand; steps = 0 }

-- what a line does; None where the policy hasn't what it names
abbrev pub line_does : PolicyOf → Line → Stand → Option Played
line_does p lines.Blank stand = Some (nothing stand)
line_does p (lines.Up name noarp) stand = option_map (comes_up p noarp stand) (session_named p name)
line_does p (lines.From name bytes) stand = option_map (sent p name bytes stand) (session_named p name)
line_does p (lines.Gone name) stand = option_map (leaves p stand) (session_named p name)
line_does p (lines.Tick second) stand = Some (happens p (events.Tick second) stand)
line_does p (lines.Expr name text) stand = option_map (replaces p text stand) (virtual_named p name)
line_does p (lines.Ask switch port bytes) stand = option_map (says stand) (asked p stand.state switch port bytes)
line_does p (lines.Packet switch port bytes) stand = None

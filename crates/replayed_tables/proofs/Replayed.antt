-- After any lines, switches with the tables that are read of the report agree with the policy.
use Rattle.std.proofs.Common.{◌≡◌, ◌∙◌, ℕ, zero, suc, Bool, true, false, true≢false, List, [], ◌∷◌, ◌++◌, map, Option}
use Rattle.std.proofs.Common.{Some, None}
use Rattle.std.proofs.Common.{fold, if◌then◌else◌, option_map, refl, sym, ap}
use Rattle.std.specs.Prelude.{slice_get}
use Rattle.std.specs.List.{AllByRecursion}
use Rattle.std.specs.Option.{option_map_or}
use Rattle.cv_io.specs.declared.leaf.Who.{Who}
use Rattle.events.specs.declared.event.Event.{Event}
use Rattle.events.specs.declared.event.Event.TheVariants as events
use Rattle.policies.specs.Policies.{PolicyOf}
use Rattle.policies.specs.Sound.{IsSound}
use Rattle.policy_meaning.proofs.Booleans.{some_injective}
use Rattle.script_text.specs.declared.line.Line.{Line}
use Rattle.script_text.specs.declared.line.Line.TheVariants as lines
use Rattle.report_lines.specs.Reading.{messages_to}
use Rattle.virtual_topology.specs.declared.plan.SwitchItem.{SwitchItem}
use Rattle.machine_meaning.specs.Laws.{OpeningIsSound}
use Rattle.machine_meaning.specs.Names.{switch_name}
use Rattle.machine_meaning.specs.Sound.{HasNumbers, IsSoundState}
use Rattle.machine_meaning.specs.States.{State, SwitchOf, new_switch, opening}
use Rattle.replay_report.specs.Cuts.{frames_of, is_short, rest_of}
use Rattle.replay_report.specs.Explaining.{asked}
use Rattle.replay_report.specs.Playing.{Played, Stand, comes_up, heard, heard_of, hears, leaves, line_does, present}
use Rattle.replay_report.specs.Playing.{replaces, says, sends, sent, sent_by, unless_short}
use Rattle.replay_report.specs.Reports.{fresh_for, start}
use Rattle.replay_report.specs.Sessions.{session_named, sessions_of, virtual_named}
use Rattle.replay_report.specs.Takings.{Done, does, quietly}
use Rattle.replay_report.specs.declared.sessions.Found.{Found}
use Rattle.replay_report.specs.declared.sessions.Named.{Named}
use Rattle.replay_report.specs.declared.streams.Stream.{Stream}
use Rattle.written_tables.specs.Laws.{MadeTablesAgree}
use Rattle.replayed_tables.specs.Since.{HasFewVirtuals, IsLine, ReplayedTablesAgree, after_line, brings, report_after}
use Rattle.replayed_tables.specs.Since.{report_from, report_more, reported_since, stand_of}
use Rattle.replayed_tables.proofs.Does.{AreLaws, IsTold}
use Rattle.replayed_tables.proofs.Frames.{EachByte}
use Rattle.replayed_tables.proofs.Lines.{IsGoing, Plays, line_plays}
use Rattle.replayed_tables.proofs.Numbers.{Fits, does_before, does_fits}

-- numbers ------------------------------------------------------------------------------------------------------------

-- numbers that are left afterwards were left before
abbrev IsLater : State → State → Type 0
IsLater s t = Fits s → Fits t × (HasNumbers t → HasNumbers s)

later_still : (s : State) → IsLater s s
later_still s fits = (fits, λ h. h)

later_both : (s t u : State) → IsLater s t → IsLater t u → IsLater s u
later_both s t u a b fits = let x = a fits in let y = b x.0 in (y.0, λ h. x.1 (y.1 h))

module _ (p : PolicyOf) where
  later_does : (e : Event) (s : State) → IsLater s (does p e s).state
  later_does e s fits = (does_fits p e s fits, does_before p e s fits)

  later_sends : (who : Who) (frames : List (List ℕ)) (s : State) → IsLater s (sends p who frames s).state
  later_sends who [] s = later_still s
  later_sends who (frame ∷ frames) s =
      let e = events.Msg (present s who) frame in
      let t = (does p e s).state in
      later_both s t (sends p who frames t).state (later_does e s) (later_sends who frames t)

  later_unless : (b : Bool) (name : List ℕ) (who : Who) (rest : List ℕ) (s : State) (d : Done) → IsLater s d.state
      → IsLater s (unless_short b p name who rest d).state
  later_unless false name who rest s d h = h
  later_unless true name who rest s d h =
      let e = events.Gone (present d.state who) in
      later_both s d.state (does p e d.state).state h (later_does e d.state)

  later_hears : (name : List ℕ) (who : Who) (bytes : List ℕ) (stream : Stream) (s : State)
      → IsLater s (hears p name who bytes stream s).state
  unfolding hears
  later_hears name who bytes stream s = by stream.is_short
    where
      all : List ℕ
      all = stream.framer ++ bytes

      by : (b : Bool)
          → IsLater s (if b then heard stream (quietly s) else heard_of p name who all s).state
      by true = later_still s
      by false =
          later_unless (is_short (rest_of all)) name who (rest_of all) s (sends p who (frames_of all) s)
          (later_sends who (frames_of all) s)

  abbrev IsLaterOf : Stand → Option Played → Type 0
  IsLaterOf stand o = IsLater stand.state (option_map_or (λ (x : Played). x.stand) o stand).state

  later_up : (noarp : Bool) (stand : Stand) (o : Option Found) → IsLaterOf stand (option_map (comes_up p noarp stand) o)
  later_up noarp stand None = later_still stand.state
  later_up noarp stand (Some x) = later_does _ stand.state

  later_sent : (name bytes : List ℕ) (stand : Stand) (x : Found) (o : Option Stream)
      → IsLater stand.state (sent_by p name x bytes stand o).stand.state
  later_sent name bytes stand x None = later_still stand.state
  later_sent name bytes stand x (Some stream) = later_hears name x.who bytes stream stand.state

  later_from : (name bytes : List ℕ) (stand : Stand) (o : Option Found)
      → IsLaterOf stand (option_map (sent p name bytes stand) o)
  later_from name bytes stand None = later_still stand.state
  later_from name bytes stand (Some x) = later_sent name bytes stand x (slice_get stand.streams x.at)

  later_gone : (stand : Stand) (o : Option Found) → IsLaterOf stand (option_map (leaves p stand) o)
  later_gone stand None = later_still stand.state
  later_gone stand (Some x) = later_does (events.Gone (present stand.state x.who)) stand.state

  later_expr : (text : List ℕ) (stand : Stand) (o : Option ℕ) → IsLaterOf stand (option_map (replaces p text stand) o)
  later_expr text stand None = later_still stand.state
  later_expr text stand (Some v) = later_does (events.Policy v text) stand.state

  later_ask : (stand : Stand) (o : Option (List ℕ)) → IsLaterOf stand (option_map (says stand) o)
  later_ask stand None = later_still stand.state
  later_ask stand (Some text) = later_still stand.state

  later_line : (line : Line) (stand : Stand) → IsLater stand.state (after_line p stand line).state
  later_line lines.Blank stand = later_still stand.state
  later_line (lines.Up name noarp) stand = later_up noarp stand (session_named p name)
  later_line (lines.From name bytes) stand = later_from name bytes stand (session_named p name)
  later_line (lines.Gone name) stand = later_gone stand (session_named p name)
  later_line (lines.Tick second) stand = later_does (events.Tick second) stand.state
  later_line (lines.Expr name text) stand = later_expr text stand (virtual_named p name)
  later_line (lines.Ask switch port bytes) stand = later_ask stand (asked p stand.state switch port bytes)
  later_line (lines.Packet switch port bytes) stand = later_still stand.state

  later_lines : (all : List Line) (stand : Stand) → IsLater stand.state (fold (after_line p) stand all).state
  later_lines [] stand = later_still stand.state
  later_lines (line ∷ all) stand =
      let next = after_line p stand line in
      later_both stand.state next.state (fold (after_line p) next all).state (later_line line stand)
      (later_lines all next)

-- lines --------------------------------------------------------------------------------------------------------------

module _ (l : AreLaws) (p : PolicyOf) (policy : IsSound p) (few : HasFewVirtuals p) where
  abbrev Goes : Stand → Type 0
  Goes stand = IsGoing l p policy few stand

  -- a line keeps what holds, and what is told
  record GoesOn (line : Line) (stand : Stand) (next : Stand) (after : ℕ → List ℕ → List ℕ) : Type 0 where
    going : Goes next
    told : (n : ℕ) (report : List ℕ) → IsTold p stand.state n report → IsTold p next.state n (after n report)

  on_by : (line : Line) (stand : Stand) → Goes stand → (o : Option Played)
      → Plays l p policy few (λ n. brings p n line) stand o
      → HasNumbers (option_map_or (λ (x : Played). x.stand) o stand).state
      → GoesOn line stand (option_map_or (λ (x : Played). x.stand) o stand)
      (λ n report. option_map_or (report_more p n line report) o report)
  on_by line stand going None plays left = record { going = going; told = λ n report h. h }
  on_by line stand going (Some x) plays left =
      let r = plays left in
      record { going = (r.0.idle, r.1); told = λ n report h. r.0.told n report h }

  on_line : (line : Line) → IsLine line → (stand : Stand) → Goes stand → HasNumbers (after_line p stand line).state
      → GoesOn line stand (after_line p stand line) (λ n report. report_after p n stand report line)
  on_line line given stand going left =
      on_by line stand going (line_does p line stand) (line_plays l p policy few line given stand going) left

  -- lines keep it
  going_on : (all : List Line) → AllByRecursion IsLine all → (stand : Stand) → Goes stand
      → HasNumbers (fold (after_line p) stand all).state → Goes (fold (after_line p) stand all)
  going_on [] given stand going left = going
  going_on (line ∷ all) given stand going left =
      let next = after_line p stand line in
      let fits = (later_line p line stand going.0.good.sound.written.1).0 in
      let on = on_line line given.0 stand going ((later_lines p all next fits).1 left) in
      going_on all given.1 next on.going left

  telling_on : (n : ℕ) (all : List Line) → AllByRecursion IsLine all → (stand : Stand) → Goes stand
      → HasNumbers (fold (after_line p) stand all).state → (report : List ℕ) → IsTold p stand.state n report
      → IsTold p (fold (after_line p) stand all).state n (report_from p n stand report all)
  telling_on n [] given stand going left report h = h
  telling_on n (line ∷ all) given stand going left report h =
      let next = after_line p stand line in
      let fits = (later_line p line stand going.0.good.sound.written.1).0 in
      let on = on_line line given.0 stand going ((later_lines p all next fits).1 left) in
      telling_on n all given.1 next on.going left (report_after p n stand report line) (on.told n report h)

-- the beginning ------------------------------------------------------------------------------------------------------

fresh_streams : (xs : List Named) → AllByRecursion (λ (x : Stream). EachByte x.framer) (map fresh_for xs)
fresh_streams [] = tt
fresh_streams (x ∷ xs) = (tt, fresh_streams xs)

opening_bare : (items : List SwitchItem) (n : ℕ) (x : SwitchOf) → slice_get (map new_switch items) n ≡ Some x
    → (x.outbox.waiting ≡ []) × (x.outbox.up ≡ false)
opening_bare [] n x at = absurd (cc at)
opening_bare (item ∷ items) zero x at =
    let is = some_injective at in
    (ap (λ (y : SwitchOf). y.outbox.waiting) (sym is), ap (λ (y : SwitchOf). y.outbox.up) (sym is))
opening_bare (item ∷ items) (suc n) x at = opening_bare items n x at

pub replayed_agree : OpeningIsSound → AreLaws → MadeTablesAgree → ReplayedTablesAgree
replayed_agree opens l agree p policy few all given left tables =
    agree p policy (stand_of p all).state last.0.good.sound
    (λ n. messages_to (switch_name p n) (reported_since p n all)) (λ n. (told n).makes) tables
  where
    first : Stand
    first = (start p).stand

    sound : IsSoundState p (opening p)
    sound = opens p policy

    going : IsGoing l p policy few first
    going = (
      record {
        good = record {
          sound = sound;
          rounds = l.fits.opening p;
          numbers = (later_lines p all first sound.written.1).1 left;
        };
        bare = λ n x at. (opening_bare p.switches n x at).0;
        silent = refl;
      },
      fresh_streams (sessions_of p),
    )

    last : IsGoing l p policy few (stand_of p all)
    last = going_on l p policy few all given first going left

    told : (n : ℕ) → IsTold p (stand_of p all).state n (reported_since p n all)
    told n =
        telling_on l p policy few n all given first going left []
        (record {
          told = [];
          plain = tt;
          is = refl;
          makes = λ x at up. absurd (true≢false (sym up ∙ (opening_bare p.switches n x at).1));
        })

-- A line of a replay: what it reports tells of each switch what stands there.
use Rattle.std.proofs.Common.{◌≡◌, ◌∙◌, ℕ, zero, suc, ◌+◌, ◌<◌, ◌^◌, Bool, true, false, true≢false, List}
use Rattle.std.proofs.Common.{[]}
use Rattle.std.proofs.Common.{◌∷◌, ◌++◌, map, Option, Some, None, if◌then◌else◌, option_map, append_assoc, append-nil}
use Rattle.std.proofs.Common.{arith, refl, sym, ap, subst}
use Rattle.std.proofs.lemmas.Bool.{eqb-true}
use Rattle.std.proofs.lemmas.List.Concat.{flat_map-append}
use Rattle.std.specs.Prelude.{codes, decimal, flat_map, length, nat_eq, slice_get, slice_set}
use Rattle.std.specs.Cmp.Lexicographic.{pointwise}
use Rattle.std.specs.List.{AllByRecursion}
use Rattle.cv_io.specs.declared.leaf.Who.{Who}
use Rattle.cv_io.specs.declared.leaf.Who.TheVariants.{Audit, Member, Switch}
use Rattle.events.specs.declared.event.Event.{Event}
use Rattle.events.specs.declared.event.Event.TheVariants as events
use Rattle.explain_text.specs.Answers.{answer_text, explained, findings_text}
use Rattle.explain_text.specs.Entering.{entrance_of}
use Rattle.explain_text.specs.Lines.{finding_text}
use Rattle.explain_text.specs.declared.entrance.Entrance.{Entrance}
use Rattle.explain_text.specs.declared.finding.Finding.{Finding}
use Rattle.install_plan.specs.declared.written.Written.{Written}
use Rattle.of10_frames.specs.Wire.{length_field}
use Rattle.policies.specs.Policies.{PolicyOf, plan}
use Rattle.policies.specs.Sound.{IsSound}
use Rattle.policy_meaning.proofs.Booleans.{some_injective, split_and}
use Rattle.policy_meaning.specs.declared.network.Network.{Network}
use Rattle.script_text.specs.declared.line.Line.{Line}
use Rattle.script_text.specs.declared.line.Line.TheVariants as lines
use Rattle.report_lines.specs.Lines.{is_word}
use Rattle.report_lines.specs.ReadBack.{IsPlain, Other, read_back, report_with, said_by, said_to}
use Rattle.report_lines.specs.Reading.{messages_to}
use Rattle.switch_state.proofs.Fitting.{all_joined}
use Rattle.virtual_topology.specs.declared.plan.VirtualItem.{VirtualItem}
use Rattle.machine_meaning.specs.Events.{AreBytes, IsEvent}
use Rattle.machine_meaning.specs.Names.{switch_name}
use Rattle.machine_meaning.specs.Sessions.{is_switch}
use Rattle.machine_meaning.specs.Sound.{HasNumbers}
use Rattle.machine_meaning.specs.States.{State}
use Rattle.replay_report.specs.Cuts.{frames_of, is_short, rest_of}
use Rattle.replay_report.specs.Explaining.{asked, installed_on, network_in}
use Rattle.replay_report.specs.Playing.{Heard, Played, Stand, comes_up, goes, happens, heard, heard_of, hears, leaves}
use Rattle.replay_report.specs.Playing.{line_does, present, replaces, says, sends, sent, sent_by, short_line}
use Rattle.replay_report.specs.Playing.{tells_arp, unless_short}
use Rattle.replay_report.specs.Streams.{fresh}
use Rattle.replay_report.specs.Sessions.{found_from, session_named, sessions_of, virtual_from, virtual_named}
use Rattle.replay_report.specs.Takings.{Done, does, quietly}
use Rattle.replay_report.specs.declared.sessions.Found.{Found}
use Rattle.replay_report.specs.declared.sessions.Named.{Named}
use Rattle.replay_report.specs.declared.streams.Stream.{Stream}
use Rattle.written_tables.specs.Making.{Makes, brings_up}
use Rattle.written_tables.proofs.Reported.{names_are_words}
use Rattle.replayed_tables.specs.Since.{HasFewVirtuals, IsLine, brings}
use Rattle.replayed_tables.proofs.Does.{AreLaws, IsDone, IsIdle, IsTold, event_done}
use Rattle.replayed_tables.proofs.Emptied.{round_fits}
use Rattle.replayed_tables.proofs.Frames.{EachByte, each_both, each_rest, frames_bytes}
use Rattle.replayed_tables.proofs.Names.{session_words}
use Rattle.replayed_tables.proofs.Numbers.{Fits, does_before, does_fits}
use Rattle.replayed_tables.proofs.Plain.{findings_plain, short_plain}
use Rattle.replayed_tables.proofs.Told.{report_both, said_others}

-- no switch's round begins
abbrev none : ℕ → Bool
none n = false

-- one thing after another
then_done : (p : PolicyOf) (s t u : State) (first second : List ℕ) → IsDone p s t none first → IsDone p t u none second
    → IsDone p s u none (first ++ second)
then_done p s t u first second a b = record {
  idle = b.idle;
  told = λ n report h.
      subst (IsTold p u n) (append_assoc report first second) (b.told n (report ++ first) (a.told n report h));
}

nothing_done : (p : PolicyOf) (s : State) → IsIdle p s → IsDone p s s none []
nothing_done p s idle = record {
  idle = idle;
  told = λ n report h. subst (IsTold p s n) (sym (append-nil report)) h;
}

-- the name of a session that is found is a word
same_names : (a b : List ℕ) → pointwise nat_eq a b ≡ true → a ≡ b
same_names [] [] h = refl
same_names [] (d ∷ b) h = absurd (true≢false (sym h))
same_names (c ∷ a) [] h = absurd (true≢false (sym h))
same_names (c ∷ a) (d ∷ b) h =
    let parts = split_and (nat_eq c d) (pointwise nat_eq a b) h in
    (λ i. eqb-true c d parts.0 i ∷ same_names a b parts.1 i)

found_word : (at : ℕ) (name : List ℕ) (xs : List Named) → AllByRecursion (λ (x : Named). is_word x.name ≡ true) xs
    → (f : Found) → found_from at name xs ≡ Some f → is_word name ≡ true
found_word at name [] h f e = absurd (cc e)
found_word at name (x ∷ xs) h f e = by (pointwise nat_eq x.name name) refl e (found_word (at + 1) name xs h.1 f)
  where
    by : (b : Bool) → pointwise nat_eq x.name name ≡ b
        → (if b then Some (record { at = at; who = x.who }) else found_from (at + 1) name xs) ≡ Some f
        → (found_from (at + 1) name xs ≡ Some f → is_word name ≡ true) → is_word name ≡ true
    by true t i g = subst (λ (n : List ℕ). is_word n ≡ true) (same_names x.name name t) h.0
    by false t i g = g i

-- the number of a virtual switch that is found is below those that there are
virtual_below : (v : ℕ) (name : List ℕ) (xs : List VirtualItem) (k : ℕ) → virtual_from v name xs ≡ Some k
    → k < v + length xs
virtual_below v name [] k e = absurd (cc e)
virtual_below v name (x ∷ xs) k e = by (pointwise nat_eq x.name name) e (virtual_below (v + 1) name xs k)
  where
    by : (b : Bool) → (if b then Some v else virtual_from (v + 1) name xs) ≡ Some k
        → (virtual_from (v + 1) name xs ≡ Some k → k < (v + 1) + length xs) → k < v + length (x ∷ xs)
    by true i f = let same : v ≡ k = cc i in omega (arith, same)
    by false i f = let lt = f i in omega (arith, lt)

module _ (l : AreLaws) (p : PolicyOf) (policy : IsSound p) (few : HasFewVirtuals p) where
  -- lines that are no messages
  said_plain : (s : State) → IsIdle p s → (lines : List (List ℕ)) → AllByRecursion IsPlain (map Other lines)
      → IsDone p s s none (report_with (map Other lines))
  said_plain s idle lines plain = record {
    idle = idle;
    told = λ n report h.
        let name = switch_name p n in
        let word = names_are_words p policy n in
        let more = h.told ++ map Other lines in
        let all = all_joined IsPlain h.told (map Other lines) h.plain plain in
        let text : report ++ report_with (map Other lines) ≡ report_with more =
        ap (λ (r : List ℕ). r ++ report_with (map Other lines)) h.is ∙ sym (report_both h.told (map Other lines)) in
        let said : said_to name more ≡ said_to name h.told =
        flat_map-append (said_by name) h.told (map Other lines)
        ∙ (ap (λ (ms : List (List ℕ)). said_to name h.told ++ ms) (said_others name lines)
        ∙ append-nil (said_to name h.told)) in
        let read : messages_to name (report ++ report_with (map Other lines)) ≡ messages_to name report =
        ap (messages_to name) text
        ∙ (l.reports name word more all
        ∙ (ap (flat_map read_back) said
        ∙ (sym (l.reports name word h.told h.plain) ∙ ap (messages_to name) (sym h.is)))) in
        record { told = more; plain = all; is = text; makes = subst (Makes s n) (sym read) h.makes };
  }

  -- an event that brings no switch up
  plain_event : (e : Event) (s : State) → ((n : ℕ) → brings_up n e ≡ false) → IsIdle p s → IsEvent e
      → HasNumbers (does p e s).state → IsDone p s (does p e s).state none (does p e s).text
  plain_event e s quiet idle given left =
      let d = event_done l p policy e s idle given left in
      record {
        idle = d.idle;
        told = λ n report h.
            subst (λ (b : Bool).
            IsTold p (does p e s).state n (if b then (does p e s).text else report ++ (does p e s).text)) (quiet n)
            (d.told n report h);
      }

  -- frames -----------------------------------------------------------------------------------------------------------

  sends_before : (who : Who) (frames : List (List ℕ)) (s : State) → Fits s → HasNumbers (sends p who frames s).state
      → HasNumbers s
  sends_before who [] s fits h = h
  sends_before who (frame ∷ frames) s fits h =
      let e = events.Msg (present s who) frame in
      does_before p e s fits (sends_before who frames (does p e s).state (does_fits p e s fits) h)

  sends_fits : (who : Who) (frames : List (List ℕ)) (s : State) → Fits s → Fits (sends p who frames s).state
  sends_fits who [] s h = h
  sends_fits who (frame ∷ frames) s h =
      let e = events.Msg (present s who) frame in
      sends_fits who frames (does p e s).state (does_fits p e s h)

  fits_of : (s : State) → IsIdle p s → Fits s
  fits_of s idle = idle.good.sound.written.1

  sends_done : (who : Who) (frames : List (List ℕ)) (s : State) → AllByRecursion AreBytes frames → IsIdle p s
      → HasNumbers (sends p who frames s).state
      → IsDone p s (sends p who frames s).state none (sends p who frames s).text
  sends_done who [] s given idle left = nothing_done p s idle
  sends_done who (frame ∷ frames) s given idle left =
      let e = events.Msg (present s who) frame in
      let t = (does p e s).state in
      let before = sends_before who frames t (does_fits p e s (fits_of s idle)) left in
      let d = plain_event e s (λ n. refl) idle (round_fits s who idle.good.rounds, given.0) before in
      then_done p s t (sends p who frames t).state (does p e s).text (sends p who frames t).text d
      (sends_done who frames t given.1 d.idle left)

  goes_done : (who : Who) (s : State) → IsIdle p s → HasNumbers (goes p who s).state
      → IsDone p s (goes p who s).state none (goes p who s).text
  goes_done who s idle left =
      plain_event (events.Gone (present s who)) s (λ n. refl) idle (round_fits s who idle.good.rounds) left

  -- what is heard of a session
  abbrev IsHeardDone : State → Heard → Type 0
  IsHeardDone s h = IsDone p s h.state none h.text × EachByte h.stream.framer

  unless_done : (b : Bool) (name : List ℕ) → is_word name ≡ true → (who : Who) (rest : List ℕ) → EachByte rest
      → (s : State) (d : Done) → Fits d.state
      → (HasNumbers d.state → IsDone p s d.state none d.text)
      → HasNumbers (unless_short b p name who rest d).state → IsHeardDone s (unless_short b p name who rest d)
  unless_done false name word who rest each s d fits done left = (done left, each)
  unless_done true name word who rest each s d fits done left =
      let before = does_before p (events.Gone (present d.state who)) d.state fits left in
      let first = done before in
      let line = codes "short " ++ (name ++ (codes " " ++ decimal (length_field rest))) in
      let text : report_with (map Other (line ∷ [])) ≡ short_line name (length_field rest) =
      append-nil (short_line name (length_field rest)) in
      let said =
      subst (IsDone p d.state d.state none) text
      (said_plain d.state first.idle (line ∷ []) (short_plain name (length_field rest) word, tt)) in (
        then_done p s d.state (goes p who d.state).state d.text
            (short_line name (length_field rest) ++ (goes p who d.state).text) first
            (then_done p d.state d.state (goes p who d.state).state (short_line name (length_field rest))
            (goes p who d.state).text said (goes_done who d.state first.idle left)),
        each,
      )

  hears_done : (name : List ℕ) → is_word name ≡ true → (who : Who) (bytes : List ℕ) → EachByte bytes → (stream : Stream)
      → EachByte stream.framer → (s : State) → IsIdle p s → HasNumbers (hears p name who bytes stream s).state
      → IsHeardDone s (hears p name who bytes stream s)
  unfolding hears frames_of rest_of
  hears_done name word who bytes each stream kept s idle = by stream.is_short
    where
      all : List ℕ
      all = stream.framer ++ bytes

      each_all : EachByte all
      each_all = each_both stream.framer bytes kept each

      frames : List (List ℕ)
      frames = frames_of all

      by : (b : Bool)
          → HasNumbers (if b then heard stream (quietly s) else heard_of p name who all s).state
          → IsHeardDone s (if b then heard stream (quietly s) else heard_of p name who all s)
      by true left = (nothing_done p s idle, kept)
      by false left =
          unless_done (is_short (rest_of all)) name word who (rest_of all) (each_rest (length all) all each_all) s
          (sends p who frames s) (sends_fits who frames s (fits_of s idle))
          (λ numbers. sends_done who frames s (frames_bytes (length all) all each_all) idle numbers) left

  -- lines ------------------------------------------------------------------------------------------------------------

  -- what holds of a replay between lines
  abbrev pub IsGoing : Stand → Type 0
  IsGoing stand = IsIdle p stand.state × AllByRecursion (λ (x : Stream). EachByte x.framer) stand.streams

  abbrev pub IsPlayed : (ℕ → Bool) → Stand → Played → Type 0
  IsPlayed begins stand x =
      IsDone p stand.state x.stand.state begins x.text
      × AllByRecursion (λ (y : Stream). EachByte y.framer) x.stand.streams

  streams_with : (xs : List Stream) (at : ℕ) (x : Stream) → EachByte x.framer
      → AllByRecursion (λ (y : Stream). EachByte y.framer) xs
      → AllByRecursion (λ (y : Stream). EachByte y.framer) (slice_set xs at x)
  streams_with [] at x h k = tt
  streams_with (y ∷ xs) zero x h k = (h, k.1)
  streams_with (y ∷ xs) (suc at) x h k = (k.0, streams_with xs at x h k.1)

  stream_at : (xs : List Stream) (at : ℕ) (x : Stream) → slice_get xs at ≡ Some x
      → AllByRecursion (λ (y : Stream). EachByte y.framer) xs → EachByte x.framer
  stream_at [] at x e h = absurd (cc e)
  stream_at (y ∷ xs) zero x e h = subst (λ (z : Stream). EachByte z.framer) (some_injective e) h.0
  stream_at (y ∷ xs) (suc at) x e h = stream_at xs at x e h.1

  up_done : (noarp : Bool) (stand : Stand) → IsGoing stand → (x : Found)
      → HasNumbers (comes_up p noarp stand x).stand.state
      → IsPlayed (λ n. is_switch n (Some x.who)) stand (comes_up p noarp stand x)
  up_done noarp stand going x left =
      let e = events.Up x.who (tells_arp x.who noarp) in
      let d = event_done l p policy e stand.state going.0 tt left in (
        record {
          idle = d.idle;
          told = λ n report h.
              subst (λ (b : Bool). IsTold p (does p e stand.state).state n
              (if b then (does p e stand.state).text else report ++ (does p e stand.state).text))
              (same_up x.who (tells_arp x.who noarp) n) (d.told n report h);
        },
        streams_with stand.streams x.at fresh tt going.1,
      )
    where
      same_up : (who : Who) (arp : Bool) (n : ℕ) → brings_up n (events.Up who arp) ≡ is_switch n (Some who)
      same_up (Member k) arp n = refl
      same_up (Switch k) arp n = refl
      same_up Audit arp n = refl

  from_done : (name : List ℕ) → is_word name ≡ true → (bytes : List ℕ) → AreBytes bytes → (stand : Stand)
      → IsGoing stand → (x : Found) (o : Option Stream) → slice_get stand.streams x.at ≡ o
      → HasNumbers (sent_by p name x bytes stand o).stand.state
      → IsPlayed none stand (sent_by p name x bytes stand o)
  from_done name word bytes given stand going x None at left = (nothing_done p stand.state going.0, going.1)
  from_done name word bytes given stand going x (Some stream) at left =
      let r = hears_done name word x.who bytes given.each stream (stream_at stand.streams x.at stream at going.1)
      stand.state going.0 left in
      (r.0, streams_with stand.streams x.at (hears p name x.who bytes stream stand.state).stream r.1 going.1)

  gone_done : (stand : Stand) → IsGoing stand → (x : Found) → HasNumbers (leaves p stand x).stand.state
      → IsPlayed none stand (leaves p stand x)
  gone_done stand going x left = (goes_done x.who stand.state going.0 left, going.1)

  tick_done : (second : ℕ) → second < 2 ^ 64 → (stand : Stand) → IsGoing stand
      → HasNumbers (happens p (events.Tick second) stand).stand.state
      → IsPlayed none stand (happens p (events.Tick second) stand)
  tick_done second fits stand going left =
      (plain_event (events.Tick second) stand.state (λ n. refl) going.0 fits left, going.1)

  expr_done : (text : List ℕ) → AreBytes text → (stand : Stand) → IsGoing stand → (v : ℕ) → v < 2 ^ 32
      → HasNumbers (replaces p text stand v).stand.state → IsPlayed none stand (replaces p text stand v)
  expr_done text given stand going v small left =
      (plain_event (events.Policy v text) stand.state (λ n. refl) going.0 (small, given) left, going.1)

  -- an answer
  answer_text_is : (bytes : List ℕ) (fs : List Finding)
      → report_with (map Other (map (finding_text p bytes) fs)) ≡ findings_text p bytes fs
  answer_text_is bytes [] = refl
  answer_text_is bytes (f ∷ fs) =
      ap (λ (t : List ℕ). (finding_text p bytes f ++ 10 ∷ []) ++ t) (answer_text_is bytes fs)

  answer_done : (stand : Stand) → IsGoing stand → (net : Network) (standing : ℕ → Option (List Written))
      (bytes : List ℕ) (at : Entrance) → IsPlayed none stand (says stand (answer_text p net standing bytes at))
  answer_done stand going net standing bytes at =
      let found = explained (plan p) net p.hops (standing at.switch) at bytes in (
        subst (IsDone p stand.state stand.state none) (answer_text_is bytes found)
            (said_plain stand.state going.0 (map (finding_text p bytes) found)
            (findings_plain p policy bytes found)),
        going.1,
      )

  -- a line that is done
  abbrev pub Plays : (ℕ → Bool) → Stand → Option Played → Type 0
  Plays begins stand None = Unit {0}
  Plays begins stand (Some x) = HasNumbers x.stand.state → IsPlayed begins stand x

  ask_plays : (stand : Stand) → IsGoing stand → (net : Network) (standing : ℕ → Option (List Written)) (bytes : List ℕ)
      (o : Option Entrance)
      → Plays none stand (option_map (says stand) (option_map (answer_text p net standing bytes) o))
  ask_plays stand going net standing bytes None = tt
  ask_plays stand going net standing bytes (Some at) = λ left. answer_done stand going net standing bytes at

  up_plays : (noarp : Bool) (stand : Stand) → IsGoing stand → (o : Option Found)
      → Plays (λ n. is_switch n (option_map (λ (x : Found). x.who) o)) stand (option_map (comes_up p noarp stand) o)
  up_plays noarp stand going None = tt
  up_plays noarp stand going (Some x) = λ left. up_done noarp stand going x left

  from_plays : (name bytes : List ℕ) → AreBytes bytes → (stand : Stand) → IsGoing stand → (o : Option Found)
      → session_named p name ≡ o → Plays none stand (option_map (sent p name bytes stand) o)
  from_plays name bytes given stand going None at = tt
  from_plays name bytes given stand going (Some x) at = λ left.
      from_done name (found_word 0 name (sessions_of p) (session_words p policy) x at) bytes given stand going x
      (slice_get stand.streams x.at) refl left

  gone_plays : (stand : Stand) → IsGoing stand → (o : Option Found) → Plays none stand (option_map (leaves p stand) o)
  gone_plays stand going None = tt
  gone_plays stand going (Some x) = λ left. gone_done stand going x left

  expr_plays : (name text : List ℕ) → AreBytes text → (stand : Stand) → IsGoing stand → (o : Option ℕ)
      → virtual_named p name ≡ o → Plays none stand (option_map (replaces p text stand) o)
  expr_plays name text given stand going None at = tt
  expr_plays name text given stand going (Some v) at = λ left.
      let lt = virtual_below 0 name p.virtuals v at in
      expr_done text given stand going v (omega (arith, lt, few)) left

  pub line_plays : (line : Line) → IsLine line → (stand : Stand) → IsGoing stand
      → Plays (λ n. brings p n line) stand (line_does p line stand)
  unfolding asked
  line_plays lines.Blank given stand going = λ left. (nothing_done p stand.state going.0, going.1)
  line_plays (lines.Up name noarp) given stand going = up_plays noarp stand going (session_named p name)
  line_plays (lines.From name bytes) given stand going =
      from_plays name bytes given stand going (session_named p name) refl
  line_plays (lines.Gone name) given stand going = gone_plays stand going (session_named p name)
  line_plays (lines.Tick second) given stand going = λ left. tick_done second given stand going left
  line_plays (lines.Expr name text) given stand going =
      expr_plays name text given stand going (virtual_named p name) refl
  line_plays (lines.Ask switch port bytes) given stand going =
      ask_plays stand going (network_in p stand.state) (installed_on stand.state) bytes
      (entrance_of (plan p) switch port)
  line_plays (lines.Packet switch port bytes) given stand going = tt

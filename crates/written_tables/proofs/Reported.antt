-- What is read of a report makes the tables that what was put makes.
use Rattle.std.proofs.Common.{◌≡◌, ◌∙◌, ℕ, zero, suc, ◌⊎◌, inl, inr, ◌==◌, ◌&&◌, ◌||◌, Bool, true, false, true≢false}
use Rattle.std.proofs.Common.{not}
use Rattle.std.proofs.Common.{List, [], ◌∷◌, ◌++◌, Some, fold, if◌then◌else◌, refl, sym, ap, subst}
use Rattle.std.proofs.lemmas.Bool.{eqb-true}
use Rattle.std.proofs.lemmas.List.Concat.{flat_map-append}
use Rattle.std.specs.Char.{is_ascii_digit, is_ascii_lowercase}
use Rattle.std.specs.Prelude.{flat_map, length, nat_lt, slice_get}
use Rattle.std.specs.List.{AllByRecursion, list_all}
use Rattle.std.specs.Option.{option_map_or}
use Rattle.events.specs.declared.event.Event.{Event}
use Rattle.of10_msgs.specs.Reading.{reading}
use Rattle.policies.specs.Policies.{PolicyOf}
use Rattle.policies.specs.Sound.{IsSound, IsSoundSwitch}
use Rattle.policies.specs.Names.{is_name, is_name_byte}
use Rattle.policy_meaning.proofs.Booleans.{split_and}
use Rattle.report_lines.specs.Lines.{is_word}
use Rattle.report_lines.specs.ReadBack.{MessagesAreReadBack, ReportsAreReadBack, read_back, report_with}
use Rattle.report_lines.specs.Reading.{messages_to}
use Rattle.switch_meaning.specs.BatchLaw.{IsTableOf}
use Rattle.switch_meaning.specs.Tables.{table_after_all}
use Rattle.switch_meaning.specs.declared.entry.Change.{Change}
use Rattle.switch_meaning.specs.declared.entry.FlowEntry.{FlowEntry}
use Rattle.switch_state.specs.Frames.{bodies_in, said_by}
use Rattle.switch_state.specs.Writing.{changes_of}
use Rattle.switch_state.proofs.Fitting.{all_joined}
use Rattle.virtual_topology.specs.declared.plan.SwitchItem.{SwitchItem}
use Rattle.machine_meaning.specs.Events.{IsEvent}
use Rattle.machine_meaning.specs.Laws.{OpeningIsSound, SoundnessIsKept}
use Rattle.machine_meaning.specs.Names.{switch_name}
use Rattle.machine_meaning.specs.Runs.{after, run_of}
use Rattle.machine_meaning.specs.Sound.{HasNumbers, IsSoundState}
use Rattle.machine_meaning.specs.States.{State, SwitchOf, opening}
use Rattle.machine_meaning.specs.Steps.{step_of}
use Rattle.machine_meaning.specs.Written.{put_by, standing_at}
use Rattle.machine_meaning.proofs.TypedSteps.{cookie_fits, numbers_left}
use Rattle.written_tables.specs.Laws.{FlowModsAreBytes, IsBytesOrQuiet, MadeTablesAgree}
use Rattle.written_tables.specs.Laws.{RunsMakeTables}
use Rattle.written_tables.specs.Making.{Makes, brings_up, made_by, put_from, put_more, put_since}
use Rattle.written_tables.specs.Reports.{ReportedTablesAgree}
use Rattle.written_tables.proofs.Made.{sound_after}
use Rattle.written_tables.proofs.Rounds.{comes}

-- messages that are read back ---------------------------------------------------------------------------------------

abbrev changes_in : List (List ℕ) → List Change
changes_in messages = flat_map changes_of (bodies_in messages)

changes_both : (xs ys : List (List ℕ)) → changes_in (xs ++ ys) ≡ changes_in xs ++ changes_in ys
changes_both xs ys =
    ap (flat_map changes_of) (flat_map-append (λ message. said_by (reading message)) xs ys)
    ∙ flat_map-append changes_of (bodies_in xs) (bodies_in ys)

module _ (reads : MessagesAreReadBack) where
  -- one message, read back or not, if it changes nothing
  one_same : (m : List ℕ) → IsBytesOrQuiet m → changes_in (read_back m) ≡ changes_in (m ∷ [])
  one_same m (inl bytes) = ap changes_in (reads.bytes m bytes)
  one_same m (inr quiet) = by (reads.any m)
    where
      by : (read_back m ≡ m ∷ []) ⊎ (read_back m ≡ []) → changes_in (read_back m) ≡ changes_in (m ∷ [])
      by (inl e) = ap changes_in e
      by (inr e) = ap changes_in e ∙ sym quiet

  all_same : (ms : List (List ℕ)) → AllByRecursion IsBytesOrQuiet ms
      → changes_in (flat_map read_back ms) ≡ changes_in ms
  all_same [] h = refl
  all_same (m ∷ ms) h =
      changes_both (read_back m) (flat_map read_back ms)
      ∙ ((λ i. one_same m h.0 i ++ all_same ms h.1 i) ∙ sym (changes_both (m ∷ []) ms))

  pub made_same : (ms : List (List ℕ)) → AllByRecursion IsBytesOrQuiet ms → (table : List FlowEntry)
      → made_by (flat_map read_back ms) table ≡ made_by ms table
  made_same ms h table = ap (table_after_all table) (all_same ms h)

-- names of switches -------------------------------------------------------------------------------------------------

-- the bytes of a name are no line feeds and no spaces
name_byte : (c : ℕ) → is_name_byte c ≡ true → not ((c == 10) || (c == 32)) ≡ true
name_byte c h = by (c == 10) refl (c == 32) refl
  where
    never : (d : ℕ) → is_name_byte d ≡ false → c ≡ d → ⊥
    never d other e = true≢false (sym h ∙ (ap is_name_byte e ∙ other))

    by : (a : Bool) → (c == 10) ≡ a → (b : Bool) → (c == 32) ≡ b → not (a || b) ≡ true
    by true e b f = absurd (never 10 refl (eqb-true c 10 e))
    by false e true f = absurd (never 32 refl (eqb-true c 32 f))
    by false e false f = refl

name_bytes : (name : List ℕ) → list_all is_name_byte name ≡ true → is_word name ≡ true
name_bytes [] h = refl
name_bytes (c ∷ name) h =
    let parts = split_and (is_name_byte c) (list_all is_name_byte name) h in
    ap (λ b. b && is_word name) (name_byte c parts.0) ∙ name_bytes name parts.1

pub name_word : (name : List ℕ) → is_name name ≡ true → is_word name ≡ true
name_word [] h = refl
name_word (c ∷ name) h =
    let parts = split_and (is_ascii_lowercase c && nat_lt (length name) 16) (list_all is_name_byte name) h in
    let letter = split_and (is_ascii_lowercase c) (nat_lt (length name) 16) parts.0 in
    let byte : is_name_byte c ≡ true = ap (λ b. (b || is_ascii_digit c) || (c == 95)) letter.0 in
    ap (λ b. b && is_word name) (name_byte c byte) ∙ name_bytes name parts.1

switch_word : (items : List SwitchItem) → AllByRecursion IsSoundSwitch items → (n : ℕ)
    → is_word (option_map_or (λ (x : SwitchItem). x.name) (slice_get items n) []) ≡ true
switch_word [] h n = refl
switch_word (x ∷ items) h zero = name_word x.name h.0.name
switch_word (x ∷ items) h (suc n) = switch_word items h.1 n

pub names_are_words : (p : PolicyOf) → IsSound p → (n : ℕ) → is_word (switch_name p n) ≡ true
names_are_words p policy n = switch_word p.switches policy.limits.switches n

-- runs --------------------------------------------------------------------------------------------------------------

-- what a switch that is up was put is bytes, or changes nothing
abbrev IsPutBytes : State → ℕ → List (List ℕ) → Type 0
IsPutBytes s n messages =
    (x : SwitchOf) → slice_get s.switches n ≡ Some x → x.outbox.up ≡ true → AllByRecursion IsBytesOrQuiet messages

module _ (kept : SoundnessIsKept) (bytes : FlowModsAreBytes) (p : PolicyOf) (policy : IsSound p) (n : ℕ) where
  bytes_more : (s : State) → IsSoundState p s → (e : Event) → IsEvent e → HasNumbers (after p s e)
      → (messages : List (List ℕ)) → IsPutBytes s n messages → IsPutBytes (after p s e) n (put_more p n s e messages)
  bytes_more s sound e given numbers messages h x at up =
      by (brings_up n e) refl (comes p s n e (x, at, up)).1
    where
      put : AllByRecursion IsBytesOrQuiet (put_by p s e n)
      put = bytes p policy s sound e given numbers n x at up

      by : (b : Bool) → brings_up n e ≡ b
          → (brings_up n e ≡ false → (y : SwitchOf) × (slice_get s.switches n ≡ Some y) × (y.outbox.up ≡ true))
          → AllByRecursion IsBytesOrQuiet (if b then put_by p s e n else messages ++ put_by p s e n)
      by true is was = put
      by false is was =
          let y = was is in all_joined IsBytesOrQuiet messages (put_by p s e n) (h y.0 y.1 y.2) put

  bytes_from : (events : List Event) (s : State) → IsSoundState p s → AllByRecursion IsEvent events
      → HasNumbers (fold (after p) s events) → (messages : List (List ℕ)) → IsPutBytes s n messages
      → IsPutBytes (fold (after p) s events) n (put_from p n s messages events)
  bytes_from [] s sound given numbers messages h = h
  bytes_from (e ∷ es) s sound given numbers messages h =
      let next = (step_of p s e).1 in
      let left = numbers_left p es next (cookie_fits p s e sound.written.1) numbers in
      bytes_from es next (kept p policy s sound e given.0 left) given.1 numbers (put_more p n s e messages)
      (bytes_more s sound e given.0 left messages h)

pub reported_agree : OpeningIsSound → SoundnessIsKept → MessagesAreReadBack → ReportsAreReadBack → RunsMakeTables
    → FlowModsAreBytes → MadeTablesAgree → ReportedTablesAgree
reported_agree opens kept reads reports runs bytes agree p policy events given numbers told since tables =
    agree p policy (run_of p events)
    (sound_after kept p policy events (opening p) (opens p policy) given numbers)
    (λ n. messages_to (switch_name p n) (report_with (told n))) makes tables
  where
    read_as : (n : ℕ) → messages_to (switch_name p n) (report_with (told n)) ≡ flat_map read_back (put_since p n events)
    read_as n =
        reports (switch_name p n) (names_are_words p policy n) (told n) (since n).plain
        ∙ ap (flat_map read_back) (since n).said

    makes : (n : ℕ) → Makes (run_of p events) n (messages_to (switch_name p n) (report_with (told n)))
    makes n x at up table =
        let put = put_since p n events in
        let fits = bytes_from kept bytes p policy n events (opening p) (opens p policy) given numbers []
        (λ y there rises. tt) x at up in
        subst (IsTableOf (standing_at (run_of p events) n))
        (sym (made_same reads put fits table) ∙ ap (λ ms. made_by ms table) (sym (read_as n)))
        (runs p policy events given numbers n x at up table)

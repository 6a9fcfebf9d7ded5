-- What is taken of a state, as lines of a report, and those of one switch.
use Rattle.std.proofs.Common.{◌≡◌, ◌∙◌, ℕ, zero, suc, ◌+◌, ◌==◌, Bool, true, false, List}
use Rattle.std.proofs.Common.{[]}
use Rattle.std.proofs.Common.{◌∷◌, ◌++◌, map, Option, Some, if◌then◌else◌, option_map, append_assoc, append-nil}
use Rattle.std.proofs.Common.{arith, refl, sym, ap, subst}
use Rattle.std.proofs.lemmas.Bool.{eqb-false, ne_eqb}
use Rattle.std.proofs.lemmas.List.Concat.{flat_map-append}
use Rattle.std.specs.Prelude.{nat_eq, slice_get}
use Rattle.std.specs.Cmp.Lexicographic.{pointwise}
use Rattle.std.specs.List.{AllByRecursion, enumerate_from}
use Rattle.std.specs.Option.{option_map_or}
use Rattle.cv_io.specs.declared.leaf.Who.TheVariants.{Member, Switch}
use Rattle.policies.specs.declared.policy.MemberItem.{MemberItem}
use Rattle.policy_meaning.proofs.Booleans.{some_injective}
use Rattle.report_lines.specs.Lines.{as_line, is_word}
use Rattle.report_lines.specs.ReadBack.{IsPlain, Other, To, Told, line_of, report_with, said_by, said_to}
use Rattle.script_text.specs.Lines.{report_text}
use Rattle.switch_state.proofs.Fitting.{all_joined}
use Rattle.virtual_topology.specs.declared.plan.SwitchItem.{SwitchItem}
use Rattle.machine_meaning.specs.States.{State, SwitchOf}
use Rattle.machine_meaning.proofs.Composed.{elsewhere}
use Rattle.machine_meaning.proofs.Numbered.{behind, here}
use Rattle.replay_report.specs.Sessions.{named_member, named_switch}
use Rattle.replay_report.specs.Takings.{audit_lines, emptied, emptied_switch, message_lines, takes_of, waiting_in}
use Rattle.replay_report.specs.Takings.{waits_for}
use Rattle.replay_report.specs.declared.sessions.Named.{Named}

-- lines of messages, and of all sessions
abbrev pub to_lines : Named → State → List Told
to_lines x s = map (To x.name) (waits_for s x.who)

abbrev pub told_of : List Named → State → List Told
told_of [] s = []
told_of (x ∷ xs) s = to_lines x s ++ told_of xs (emptied x.who s)

pub others_text : (lines : List (List ℕ)) → report_with (map Other lines) ≡ audit_lines lines
others_text [] = refl
others_text (line ∷ lines) = ap (λ (t : List ℕ). (line ++ 10 ∷ []) ++ t) (others_text lines)

messages_text : (name : List ℕ) (ms : List (List ℕ)) → report_with (map (To name) ms) ≡ message_lines name ms
messages_text name [] = refl
messages_text name (m ∷ ms) = ap (λ (t : List ℕ). (report_text name m ++ 10 ∷ []) ++ t) (messages_text name ms)

pub report_both : (xs ys : List Told) → report_with (xs ++ ys) ≡ report_with xs ++ report_with ys
report_both xs ys = flat_map-append (λ t. as_line (line_of t)) xs ys

pub told_text : (xs : List Named) (s : State) → (takes_of xs s).text ≡ report_with (told_of xs s)
told_text [] s = refl
told_text (x ∷ xs) s =
    (λ i. sym (messages_text x.name (waits_for s x.who)) i ++ told_text xs (emptied x.who s) i)
    ∙ sym (report_both (to_lines x s) (told_of xs (emptied x.who s)))

-- one after the other
pub told_both : (xs ys : List Named) (s : State)
    → told_of (xs ++ ys) s ≡ told_of xs s ++ told_of ys (takes_of xs s).state
told_both [] ys s = refl
told_both (x ∷ xs) ys s =
    ap (λ (t : List Told). to_lines x s ++ t) (told_both xs ys (emptied x.who s))
    ∙ sym (append_assoc (to_lines x s) (told_of xs (emptied x.who s)) (told_of ys (takes_of (x ∷ xs) s).state))

pub state_both : (xs ys : List Named) (s : State)
    → (takes_of (xs ++ ys) s).state ≡ (takes_of ys (takes_of xs s).state).state
state_both [] ys s = refl
state_both (x ∷ xs) ys s = state_both xs ys (emptied x.who s)

-- names are words
plain_messages : (name : List ℕ) → is_word name ≡ true → (ms : List (List ℕ))
    → AllByRecursion IsPlain (map (To name) ms)
plain_messages name h [] = tt
plain_messages name h (m ∷ ms) = (h, plain_messages name h ms)

pub told_plain : (xs : List Named) → AllByRecursion (λ (x : Named). is_word x.name ≡ true) xs → (s : State)
    → AllByRecursion IsPlain (told_of xs s)
told_plain [] h s = tt
told_plain (x ∷ xs) h s =
    all_joined IsPlain (to_lines x s) (told_of xs (emptied x.who s)) (plain_messages x.name h.0 (waits_for s x.who))
    (told_plain xs h.1 (emptied x.who s))

-- what is said to one ------------------------------------------------------------------------------------------------

said_both : (name : List ℕ) (xs ys : List Told) → said_to name (xs ++ ys) ≡ said_to name xs ++ said_to name ys
said_both name xs ys = flat_map-append (said_by name) xs ys

-- to another, and to the one
said_there : (name other : List ℕ) → pointwise nat_eq name other ≡ false → (ms : List (List ℕ))
    → said_to name (map (To other) ms) ≡ []
said_there name other h [] = refl
said_there name other h (m ∷ ms) =
    ap (λ (b : Bool). (if b then m ∷ [] else []) ++ said_to name (map (To other) ms)) h ∙ said_there name other h ms

said_here : (name other : List ℕ) → pointwise nat_eq name other ≡ true → (ms : List (List ℕ))
    → said_to name (map (To other) ms) ≡ ms
said_here name other h [] = refl
said_here name other h (m ∷ ms) =
    ap (λ (b : Bool). (if b then m ∷ [] else []) ++ said_to name (map (To other) ms)) h
    ∙ ap (λ (ks : List (List ℕ)). m ∷ ks) (said_here name other h ms)

pub said_others : (name : List ℕ) (lines : List (List ℕ)) → said_to name (map Other lines) ≡ []
said_others name [] = refl
said_others name (line ∷ lines) = said_others name lines

-- a list of sessions of other names
pub said_nowhere : (name : List ℕ) (xs : List Named)
    → AllByRecursion (λ (x : Named). pointwise nat_eq name x.name ≡ false) xs → (s : State)
    → said_to name (told_of xs s) ≡ []
said_nowhere name [] h s = refl
said_nowhere name (x ∷ xs) h s =
    said_both name (to_lines x s) (told_of xs (emptied x.who s))
    ∙ (λ i. said_there name x.name h.0 (waits_for s x.who) i ++ said_nowhere name xs h.1 (emptied x.who s) i)

-- what waits for a switch is there while others are taken from
other_waits : (k n : ℕ) (s : State) → (k == n) ≡ false
    → waits_for (emptied (Switch k) s) (Switch n) ≡ waits_for s (Switch n)
other_waits k n s h =
    ap (λ (o : Option SwitchOf). option_map_or waiting_in (option_map (λ (x : SwitchOf). x.outbox) o) [])
    (elsewhere k n emptied_switch s.switches h)

pub members_wait : (j : ℕ) (ms : List MemberItem) (s : State) (n : ℕ)
    → waits_for (takes_of (map named_member (enumerate_from j ms)) s).state (Switch n) ≡ waits_for s (Switch n)
members_wait j [] s n = refl
members_wait j (m ∷ ms) s n = members_wait (j + 1) ms (emptied (Member j) s) n

none_from : (name : List ℕ) (l : ℕ) (ys : List SwitchItem)
    → ((k : ℕ) (y : SwitchItem) → slice_get ys k ≡ Some y → pointwise nat_eq name y.name ≡ false)
    → AllByRecursion (λ (z : Named). pointwise nat_eq name z.name ≡ false) (map named_switch (enumerate_from l ys))
none_from name l [] f = tt
none_from name l (y ∷ ys) f = (f 0 y refl, none_from name (l + 1) ys (λ k z e. f (suc k) z e))

after_first : (k : ℕ) → (suc k == 0) ≡ false
after_first k = ne_eqb (suc k) 0 (λ e. omega (arith, e))

before_next : (k : ℕ) → (0 == suc k) ≡ false
before_next k = ne_eqb 0 (suc k) (λ e. omega (arith, e))

next_differ : (k i : ℕ) → (k == i) ≡ false → (suc k == suc i) ≡ false
next_differ k i h = ne_eqb (suc k) (suc i) (λ e. eqb-false k i h (omega (arith, e)))

-- of switches, one of which has the name
pub said_at : (name : List ℕ) (j i : ℕ) (items : List SwitchItem) (item : SwitchItem) → slice_get items i ≡ Some item
    → pointwise nat_eq name item.name ≡ true
    → ((k : ℕ) (y : SwitchItem) → slice_get items k ≡ Some y → (k == i) ≡ false → pointwise nat_eq name y.name ≡ false)
    → (s : State)
    → said_to name (told_of (map named_switch (enumerate_from j items)) s) ≡ waits_for s (Switch (j + i))
said_at name j i [] item at same apart s = absurd (cc at)
said_at name j zero (x ∷ items) item at same apart s =
    let rest = map named_switch (enumerate_from (j + 1) items) in
    let is : pointwise nat_eq name x.name ≡ true =
    subst (λ (y : SwitchItem). pointwise nat_eq name y.name ≡ true) (sym (some_injective at)) same in
    said_both name (to_lines (named_switch (j, x)) s) (told_of rest (emptied (Switch j) s))
    ∙ ((λ t. said_here name x.name is (waits_for s (Switch j)) t
    ++ said_nowhere name rest (none_from name (j + 1) items (λ k y e. apart (suc k) y e (after_first k)))
    (emptied (Switch j) s) t)
    ∙ (append-nil (waits_for s (Switch j)) ∙ ap (λ (n : ℕ). waits_for s (Switch n)) (here j)))
said_at name j (suc i) (x ∷ items) item at same apart s =
    let rest = map named_switch (enumerate_from (j + 1) items) in
    said_both name (to_lines (named_switch (j, x)) s) (told_of rest (emptied (Switch j) s))
    ∙ ((λ t. said_there name x.name (apart 0 x refl (before_next i)) (waits_for s (Switch j)) t
    ++ said_at name (j + 1) i items item at same (λ k y e d. apart (suc k) y e (next_differ k i d))
    (emptied (Switch j) s) t)
    ∙ (other_waits j ((j + 1) + i) s (ne_eqb j ((j + 1) + i) (λ e. omega (arith, e)))
    ∙ ap (λ (n : ℕ). waits_for s (Switch n)) (behind j i)))

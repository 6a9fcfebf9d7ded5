-- A draft begins with the state as it stands.
use Rattle.std.proofs.Common.{◌≡◌, ◌∙◌, ℕ, List, [], ◌∷◌, Option, None, map, refl, ap}
use Rattle.cv_io.specs.declared.leaf.Who.{Who}
use Rattle.policy_expr.specs.Policy.{Policy}
use Rattle.stats_map.specs.Told.{HeldOf}
use Rattle.waitings.specs.declared.state.Waiting.{Waiting}
use Rattle.machine_meaning.specs.Drafts.{Draft, untouched}
use Rattle.machine_drafts.specs.MemberDrafts.{standing_member}
use Rattle.machine_drafts.specs.Outcomes.{Bases, member_bases, members_in, moments_of, standing_in, switch_bases}
use Rattle.machine_drafts.specs.Outcomes.{switches_in}
use Rattle.machine_meaning.specs.States.{MemberOf, State}
use Rattle.machine_drafts.specs.SwitchDrafts.{standing_switch}
use Rattle.machine_drafts.specs.Views.{member_of, standing_of, switch_of}
use Rattle.machine_drafts.specs.declared.session.Member.{Member}
use Rattle.machine_drafts.specs.declared.session.Switch.{Switch}
use Rattle.events.specs.declared.event.Reply.{Reply}
use Rattle.events.specs.declared.event.Reply.TheVariants.{Done}
use Rattle.machine_meaning.specs.declared.said.Asked.{Asked}
use Rattle.machine_meaning.specs.declared.said.Down.{Down}
use Rattle.machine_meaning.specs.declared.said.Letter.{Letter}
use Rattle.machine_meaning.specs.declared.said.Sent.{Sent}
use Rattle.machine_meaning.specs.declared.state.Owed.{Owed}

-- what is drafted of members and switches that stay as they are
pub members_begun : (now : ℕ) (xs : List Member) → members_in (map (standing_member now) xs) ≡ map member_of xs
members_begun now [] = refl
members_begun now (x ∷ xs) = ap (λ rest. member_of x ∷ rest) (members_begun now xs)

pub bases_begun : (now : ℕ) (xs : List Member) → member_bases (map (standing_member now) xs) ≡ xs
bases_begun now [] = refl
bases_begun now (x ∷ xs) = ap (λ rest. x ∷ rest) (bases_begun now xs)

pub moments_begun : (now : ℕ) (xs : List Member)
    → moments_of (map (standing_member now) xs) ≡ map (λ (x : MemberOf). now) (map member_of xs)
moments_begun now [] = refl
moments_begun now (x ∷ xs) = ap (λ rest. now ∷ rest) (moments_begun now xs)

pub switches_begun : (xs : List Switch) → switches_in (map standing_switch xs) ≡ map switch_of xs
switches_begun [] = refl
switches_begun (x ∷ xs) = ap (λ rest. switch_of x ∷ rest) (switches_begun xs)

pub standing_begun : (xs : List Switch) → standing_in (map standing_switch xs) ≡ map standing_of xs
standing_begun [] = refl
standing_begun (x ∷ xs) = ap (λ rest. standing_of x ∷ rest) (standing_begun xs)

pub switch_bases_begun : (xs : List Switch) → switch_bases (map standing_switch xs) ≡ xs
switch_bases_begun [] = refl
switch_bases_begun (x ∷ xs) = ap (λ rest. x ∷ rest) (switch_bases_begun xs)

-- a draft of which nothing is said is untouched
pub untouched_is : (s : State) (d : Draft) →
    d.state ≡ s → d.reply ≡ Done → d.begun ≡ None → d.asked ≡ [] → d.sent ≡ [] → d.answers ≡ [] → d.ports ≡ [] →
    d.settled ≡ [] → d.removed ≡ [] → d.told ≡ [] → d.batches ≡ [] → d.polls ≡ [] → d.packets ≡ [] → d.echoes ≡
    [] → d.policies ≡ [] → d.denials ≡ [] → d.downs ≡ [] → d.slows ≡ [] → d.notes ≡ [] → d ≡ untouched s
untouched_is s d is_state is_reply is_begun is_asked is_sent is_answers is_ports is_settled is_removed
    is_told is_batches is_polls is_packets is_echoes is_policies is_denials is_downs is_slows is_notes =
    ap (λ (x : State). record d { state = x }) is_state
    ∙ (ap (λ (x : Reply). record d { state = s; reply = x }) is_reply
    ∙ (ap (λ (x : Option Who). record d { state = s; reply = Done; begun = x }) is_begun
    ∙ (ap (λ (x : List Asked). record d { state = s; reply = Done; begun = None; asked = x }) is_asked
    ∙ (ap (λ (x : List Sent). record d { state = s; reply = Done; begun = None; asked = []; sent = x }) is_sent
    ∙ (ap (λ (x : List Letter). record d {
      state = s;
      reply = Done;
      begun = None;
      asked = [];
      sent = [];
      answers = x;
    }) is_answers
    ∙ (ap (λ (x : List Letter). record d {
      state = s;
      reply = Done;
      begun = None;
      asked = [];
      sent = [];
      answers =
          [];
      ports = x;
    }) is_ports
    ∙ (ap (λ (x : List Letter). record d {
      state = s;
      reply = Done;
      begun = None;
      asked = [];
      sent = [];
      answers =
          [];
      ports = [];
      settled = x;
    }) is_settled
    ∙ (ap (λ (x : List Letter). record d {
      state = s;
      reply = Done;
      begun = None;
      asked = [];
      sent = [];
      answers =
          [];
      ports = [];
      settled = [];
      removed = x;
    }) is_removed
    ∙ (ap (λ (x : List Letter). record d {
      state = s;
      reply = Done;
      begun = None;
      asked = [];
      sent = [];
      answers =
          [];
      ports = [];
      settled = [];
      removed = [];
      told = x;
    }) is_told
    ∙ (ap (λ (x : List Letter). record d {
      state = s;
      reply = Done;
      begun = None;
      asked = [];
      sent = [];
      answers =
          [];
      ports = [];
      settled = [];
      removed = [];
      told = [];
      batches = x;
    }) is_batches
    ∙ (ap (λ (x : List Letter). record d {
      state = s;
      reply = Done;
      begun = None;
      asked = [];
      sent = [];
      answers =
          [];
      ports = [];
      settled = [];
      removed = [];
      told = [];
      batches = [];
      polls = x;
    }) is_polls
    ∙ (ap (λ (x : List Letter). record d {
      state = s;
      reply = Done;
      begun = None;
      asked = [];
      sent = [];
      answers =
          [];
      ports = [];
      settled = [];
      removed = [];
      told = [];
      batches = [];
      polls = [];
      packets = x;
    }) is_packets
    ∙ (ap (λ (x : List Letter). record d {
      state = s;
      reply = Done;
      begun = None;
      asked = [];
      sent = [];
      answers =
          [];
      ports = [];
      settled = [];
      removed = [];
      told = [];
      batches = [];
      polls = [];
      packets = [];
      echoes = x;
    })
    is_echoes
    ∙ (ap (λ (x : List (List ℕ)). record d {
      state = s;
      reply = Done;
      begun = None;
      asked = [];
      sent = [];
      answers =
          [];
      ports = [];
      settled = [];
      removed = [];
      told = [];
      batches = [];
      polls = [];
      packets = [];
      echoes = [];
      policies = x;
    }) is_policies
    ∙ (ap (λ (x : List (List ℕ)). record d {
      state = s;
      reply = Done;
      begun = None;
      asked = [];
      sent = [];
      answers =
          [];
      ports = [];
      settled = [];
      removed = [];
      told = [];
      batches = [];
      polls = [];
      packets = [];
      echoes = [];
      policies = [];
      denials = x;
    }) is_denials
    ∙ (ap (λ (x : List Down). record d {
      state = s;
      reply = Done;
      begun = None;
      asked = [];
      sent = [];
      answers = [];
      ports = [];
      settled = [];
      removed = [];
      told = [];
      batches = [];
      polls = [];
      packets = [];
      echoes = [];
      policies = [];
      denials = [];
      downs = x;
    }) is_downs
    ∙ (ap (λ (x : List ℕ). record d {
      state = s;
      reply = Done;
      begun = None;
      asked = [];
      sent = [];
      answers = [];
      ports = [];
      settled = [];
      removed = [];
      told = [];
      batches = [];
      polls = [];
      packets = [];
      echoes = [];
      policies = [];
      denials = [];
      downs = [];
      slows = x;
    }) is_slows
    ∙ ap (λ (x : List (List ℕ)). record d {
      state = s;
      reply = Done;
      begun = None;
      asked = [];
      sent = [];
      answers =
          [];
      ports = [];
      settled = [];
      removed = [];
      told = [];
      batches = [];
      polls = [];
      packets = [];
      echoes = [];
      policies = [];
      denials = [];
      downs = [];
      slows = [];
      notes = x;
    }) is_notes)))))))))))))))))

-- what stands, field by field
pub bases_same : (b a : Bases) →
    a.moment ≡ b.moment → a.moments ≡ b.moments → a.exprs ≡ b.exprs → a.members ≡ b.members → a.switches ≡
    b.switches → a.counts ≡ b.counts → a.waiting ≡ b.waiting → a.owed ≡ b.owed → a.audit ≡ b.audit → a ≡ b
bases_same b a is_moment is_moments is_exprs is_members is_switches is_counts is_waiting is_owed is_audit =
    ap (λ (x : ℕ). record a { moment = x }) is_moment
    ∙ (ap (λ (x : List ℕ). record a { moment = b.moment; moments = x }) is_moments
    ∙ (ap (λ (x : List Policy). record a { moment = b.moment; moments = b.moments; exprs = x }) is_exprs
    ∙ (ap (λ (x : List Member). record a { moment = b.moment; moments = b.moments; exprs = b.exprs; members = x })
    is_members
    ∙ (ap (λ (x : List Switch). record a {
      moment = b.moment;
      moments = b.moments;
      exprs = b.exprs;
      members =
          b.members;
      switches = x;
    }) is_switches
    ∙ (ap (λ (x : HeldOf). record a {
      moment = b.moment;
      moments = b.moments;
      exprs = b.exprs;
      members = b.members;
      switches = b.switches;
      counts = x;
    }) is_counts
    ∙ (ap (λ (x : List Waiting). record a {
      moment = b.moment;
      moments = b.moments;
      exprs = b.exprs;
      members =
          b.members;
      switches = b.switches;
      counts = b.counts;
      waiting = x;
    }) is_waiting
    ∙ (ap (λ (x : List Owed). record a {
      moment = b.moment;
      moments = b.moments;
      exprs = b.exprs;
      members =
          b.members;
      switches = b.switches;
      counts = b.counts;
      waiting = b.waiting;
      owed = x;
    }) is_owed
    ∙ ap (λ (x : List (List ℕ)). record a {
      moment = b.moment;
      moments = b.moments;
      exprs = b.exprs;
      members =
          b.members;
      switches = b.switches;
      counts = b.counts;
      waiting = b.waiting;
      owed = b.owed;
      audit = x;
    })
    is_audit)))))))

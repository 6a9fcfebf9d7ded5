-- What a machine means, as plain data. A state has the totals of leaves as a function, and a value of a type of the
-- program has a code: so the leaves that have some stand in a finite map.
use Rattle.std.specs.Prelude.{◌≡◌, ℕ, ◌==◌, ◌&&◌, not, Bool, true, false, Option, Some, None, List, [], ◌∷◌, ◌++◌}
use Rattle.std.specs.Prelude.{filter, flat_map, is_some, map, refl}
use Rattle.std.proofs.Common.{sym, true≢false}
use Rattle.std.specs.Coded.{Coded, code_by, coded×, coded_bool, coded_ℕ}
use Rattle.std.specs.FinMap.{FinMap, code, from_entries, get, keys}
use Rattle.std.specs.Map.{keys_of}
use Rattle.cv_io.specs.Leaves.{leaf_cmp}
use Rattle.cv_io.specs.declared.leaf.Leaf.{Leaf}
use Rattle.events.specs.declared.event.Event.{Event}
use Rattle.events.specs.declared.event.Reply.{Reply}
use Rattle.install_plan.specs.declared.written.Written.{Written}
use Rattle.policy_expr.specs.Policy.{Policy}
use Rattle.policies.specs.Policies.{PolicyOf}
use Rattle.stats_map.specs.Counting.{Cookies, CountsOf}
use Rattle.stats_map.specs.Histories.{Dropped, Step, Told, WentDown, Wrote, gone}
use Rattle.switch_meaning.specs.Counts.{Cookie, Numbers}
use Rattle.waitings.specs.declared.state.Waiting.{Waiting}
use Rattle.machine_meaning.specs.Ever.{counted_by}
use Rattle.machine_meaning.specs.Glances.{glance_of}
use Rattle.machine_meaning.specs.States.{MemberOf, State, SwitchOf, opening}
use Rattle.machine_meaning.specs.Steps.{step_of}
use Rattle.machine_meaning.specs.declared.state.Owed.{Owed}
use Rattle.machine_drafts.specs.Machines.{MachineOf, state_of}

-- what counts have of a leaf beside the cookies that matter: its total, and whether that goes with the last of these
pub record Left : Type 0 where
  pub packets : ℕ
  pub bytes : ℕ
  pub forgotten : Bool

abbrev pub left_at : CountsOf → Leaf → Left
left_at c leaf = record {
  packets = (c.totals leaf).packets;
  bytes = (c.totals leaf).bytes;
  forgotten = c.forgotten leaf;
}

-- it is something
abbrev pub is_something : Left → Bool
is_something x = not ((x.packets == 0) && ((x.bytes == 0) && not x.forgotten))

-- what is left of leaves that have something
abbrev pub Lefts : Type 0
Lefts = FinMap leaf_cmp Left

abbrev pub leaf_code : Coded Leaf
leaf_code =
    code_by (ℕ × ℕ) (coded× coded_ℕ coded_ℕ) (λ (l : Leaf). (l.member, l.kind))
    (λ p. record { member = p.0; kind = p.1 }) (λ _. refl)

abbrev pub left_code : Coded Left
left_code =
    code_by (ℕ × (ℕ × Bool)) (coded× coded_ℕ (coded× coded_ℕ coded_bool))
    (λ (x : Left). (x.packets, (x.bytes, x.forgotten)))
    (λ p. record { packets = p.0; bytes = p.1.0; forgotten = p.1.1 }) (λ _. refl)

abbrev pub lefts_code : Coded Lefts
lefts_code = code leaf_code left_code

-- what counts have of these leaves
abbrev pub has_left : CountsOf → Leaf → Bool
has_left c leaf = is_something (left_at c leaf)

abbrev pub with_left : CountsOf → Leaf → Leaf × Left
with_left c leaf = (leaf, left_at c leaf)

abbrev pub lefts_of : CountsOf → List Leaf → Lefts
lefts_of c leaves = from_entries (map (with_left c) (filter (has_left c) leaves))

-- the totals that these are, and the leaves whose totals go
abbrev pub total_in : Option Left → Numbers
total_in None = record { packets = 0; bytes = 0 }
total_in (Some x) = record { packets = x.packets; bytes = x.bytes }

abbrev pub forgotten_in : Option Left → Bool
forgotten_in None = false
forgotten_in (Some x) = x.forgotten

abbrev pub counts_in : Cookies → Lefts → CountsOf
counts_in live lefts = record {
  live = live;
  totals = λ leaf. total_in (get lefts leaf);
  forgotten = λ leaf. forgotten_in (get lefts leaf);
}

-- a policy, and a state as plain data
pub record StateData : Type 0 where
  pub plan : PolicyOf
  pub moment : ℕ
  pub exprs : List Policy
  pub members : List MemberOf
  pub switches : List SwitchOf
  pub standing : List (List Written)
  pub live : Cookies
  pub lefts : Lefts
  pub waiting : List Waiting
  pub owed : List Owed
  pub next_cookie : ℕ
  pub audit : List (List ℕ)

-- the state that it is
abbrev pub state_in : StateData → State
state_in d = record {
  moment = d.moment;
  exprs = d.exprs;
  members = d.members;
  switches = d.switches;
  standing = d.standing;
  counts = counts_in d.live d.lefts;
  waiting = d.waiting;
  owed = d.owed;
  next_cookie = d.next_cookie;
  audit = d.audit;
}

-- a state as plain data, of which no leaf but these has something left
abbrev pub data_of : PolicyOf → State → List Leaf → StateData
data_of p s leaves = record {
  plan = p;
  moment = s.moment;
  exprs = s.exprs;
  members = s.members;
  switches = s.switches;
  standing = s.standing;
  live = s.counts.live;
  lefts = lefts_of s.counts leaves;
  waiting = s.waiting;
  owed = s.owed;
  next_cookie = s.next_cookie;
  audit = s.audit;
}

-- what a machine means
unfoldable pub data_in : MachineOf → StateData
data_in m = data_of m.plan (state_of m) (keys_of m.holding.counts.sums)

-- the leaves of cookies, and those that are dropped
abbrev pub leaves_in : List Cookie → List Leaf
leaves_in cookies = flat_map (λ (c : Cookie). c.ancestry) cookies

abbrev pub dropped_by : Step → List Leaf
dropped_by (Wrote place ancestry) = []
dropped_by (Told place numbers last) = []
dropped_by (WentDown switch) = []
dropped_by (Dropped leaf) = leaf ∷ []

-- the leaves that have something left after some steps: those that had some, those of cookies that went, and those that
-- were dropped
abbrev pub leaves_after : StateData → List Step → List Leaf
leaves_after d steps = keys d.lefts ++ (leaves_in (gone steps (counts_in d.live d.lefts)) ++ flat_map dropped_by steps)

-- what a machine means after an event
abbrev pub stepped : StateData → Event → StateData
stepped d e =
    data_of d.plan (step_of d.plan (state_in d) e).1 (leaves_after d (counted_by d.plan (state_in d) e))

abbrev pub next_by : Option Reply → StateData → Event → StateData
next_by (Some reply) d e = d
next_by None d e = stepped d e

unfoldable pub next_data : StateData → Event → StateData
next_data d e = next_by (glance_of d.plan (state_in d) e) d e

-- the reply to an event
unfoldable pub reply_to : StateData → Event → Reply
reply_to d e = (step_of d.plan (state_in d) e).0

-- the event changes nothing
unfoldable pub is_idle : StateData → Event → Bool
is_idle d e = is_some (glance_of d.plan (state_in d) e)

-- so an idle event leaves the meaning
pub idle_stays : (d : StateData) (e : Event) → is_idle d e ≡ true → next_data d e ≡ d
unfolding is_idle next_data
idle_stays d e idle = by (glance_of d.plan (state_in d) e) idle
  where
    by : (o : Option Reply) → is_some o ≡ true → next_by o d e ≡ d
    by (Some reply) is = refl
    by None is = absurd (true≢false (sym is))

-- what a machine means is its policy and its state
abbrev pub MeaningsAreStates : Type 0
MeaningsAreStates = (m : MachineOf) → ((data_in m).plan ≡ m.plan) × (state_in (data_in m) ≡ state_of m)

-- the next meaning is the state after the step, and the reply is the step's
abbrev pub NextIsStep : Type 0
NextIsStep =
    (d : StateData) (e : Event) → ((next_data d e).plan ≡ d.plan)
    × ((reply_to d e, state_in (next_data d e)) ≡ step_of d.plan (state_in d) e)

-- what a machine means of which nothing is known
unfoldable pub no_data : StateData
no_data = data_of no_policy (opening no_policy) []
  where
    no_policy : PolicyOf
    no_policy = record {
      version = 0;
      hops = 0;
      listen = [];
      standby = None;
      rounds = 0;
      switches = [];
      cables = [];
      virtuals = [];
      links = [];
      members = [];
    }

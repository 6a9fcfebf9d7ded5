-- What the machine of a policy means as it is opened.
use Rattle.std.proofs.Common.{◌≡◌, ◌∙◌, [], ap, refl}
use Rattle.std.proofs.Math.Path.{fun_ext}
use Rattle.std.specs.FinMap.{get, get-from_entries}
use Rattle.cv_io.specs.declared.leaf.Leaf.{Leaf}
use Rattle.event_composes.proofs.Meanings.{meanings_are_states}
use Rattle.machine_drafts.specs.Machines.{MachineOf, state_of}
use Rattle.event_composes.specs.Meanings.{StateData, counts_in, data_in, data_of, forgotten_in, lefts_of, total_in}
use Rattle.machine_meaning.specs.States.{State, opening}
use Rattle.policies.specs.Policies.{PolicyOf}
use Rattle.stats_map.specs.Counting.{CountsOf, nothing}
use Rattle.stats_map.proofs.SlotSums.{leaf_total}
use Rattle.policy_serving.specs.Served.{IsOpening}

-- of counts of nothing nothing is left
nothing_left : counts_in nothing.live (lefts_of nothing []) ≡ nothing
nothing_left = λ i. record { live = []; totals = fun_ext totals i; forgotten = fun_ext forgotten i }
  where
    totals : (leaf : Leaf) → total_in (get (lefts_of nothing []) leaf) ≡ nothing.totals leaf
    totals leaf = ap total_in (get-from_entries leaf_total [] leaf)

    forgotten : (leaf : Leaf) → forgotten_in (get (lefts_of nothing []) leaf) ≡ nothing.forgotten leaf
    forgotten leaf = ap forgotten_in (get-from_entries leaf_total [] leaf)

-- there is such a meaning of each policy
pub opens : (p : PolicyOf) → IsOpening p (data_of p (opening p) [])
opens p = record { plan = refl; state = ap (λ (c : CountsOf). record (opening p) { counts = c }) nothing_left }

-- a machine that was opened has it
pub is_opening : (p : PolicyOf) (m : MachineOf) → m.plan ≡ p → state_of m ≡ opening p → IsOpening p (data_in m)
is_opening p m same fresh =
    let means = meanings_are_states m in
    record { plan = means.0 ∙ same; state = means.1 ∙ fresh }

-- then no line of the audit waits
pub none_waits : (p : PolicyOf) (start : StateData) → IsOpening p start → start.audit ≡ []
none_waits p start is = ap (λ (s : State). s.audit) is.state

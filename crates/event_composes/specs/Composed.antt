-- What composition reads and changes of a draft.
use Rattle.std.specs.Prelude.{◌≡◌, ℕ, List, Option, Some, slice_get}
use Rattle.cv_io.specs.declared.leaf.Who.{Who}
use Rattle.install_plan.specs.declared.written.Written.{Written}
use Rattle.stats_map.specs.Counting.{CountsOf}
use Rattle.machine_meaning.specs.Drafts.{Draft}
use Rattle.machine_meaning.specs.Lists.{changed_at}
use Rattle.machine_meaning.specs.States.{SwitchOf}
use Rattle.machine_drafts.specs.SwitchDrafts.{SwitchDraftOf}
use Rattle.machine_meaning.specs.declared.said.Letter.{Letter}

-- these are a draft's switch of a number, what is counted, the next cookie, and the batches so far
pub record IsWrittenTo (d : Draft) (n : ℕ) (begun : Option Who) (x : SwitchDraftOf) (counts : CountsOf) (next : ℕ)
    (batches : List Letter) : Type 0 where
  pub begins : d.begun ≡ begun
  pub switch : slice_get d.state.switches n ≡ Some x.now
  pub standing : slice_get d.state.standing n ≡ Some x.standing
  pub counts_are : d.state.counts ≡ counts
  pub next_is : d.state.next_cookie ≡ next
  pub batches_are : d.batches ≡ batches

-- a draft with other switches, entries that stand, counts, next cookie and batches
abbrev pub with_composed : List SwitchOf → List (List Written) → CountsOf → ℕ → List Letter → Draft → Draft
with_composed switches standing counts next batches d = record d {
  state = record d.state { switches = switches; standing = standing; counts = counts; next_cookie = next };
  batches = batches;
}

-- a draft with another switch of a number, counts, next cookie and batches
abbrev pub with_switch : ℕ → SwitchDraftOf → CountsOf → ℕ → List Letter → Draft → Draft
with_switch n x counts next batches d =
    with_composed (changed_at n (λ old. x.now) d.state.switches) (changed_at n (λ old. x.standing) d.state.standing)
    counts
    next batches d

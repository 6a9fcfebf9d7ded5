-- One step of a walk.
use Rattle.std.proofs.Common.{◌≡◌, ℕ, suc, true, Some, None, refl, ◌∙◌}
use Rattle.std.specs.Prelude.{slice_get}
use Rattle.of10_match.specs.Fields.{HeaderOf}
use Rattle.policy_meaning.specs.Meaning.{evaluate}
use Rattle.policy_meaning.specs.Hops.{leads}
use Rattle.policy_meaning.specs.Networks.{table_meaning, ground_of}
use Rattle.policy_meaning.specs.Walk.{walk, takes, here, both_walked, nowhere, walked_after, arriving}
use Rattle.policy_meaning.specs.declared.meaning.Meaning.{Meaning}
use Rattle.policy_meaning.specs.declared.network.Network.{Network}
use Rattle.policy_meaning.specs.declared.network.Onward.{Onward}
use Rattle.policy_meaning.specs.declared.network.VirtualSwitch.{VirtualSwitch}
use Rattle.policy_meaning.specs.declared.walking.Walked.{Walked}
use Rattle.policy_meaning.proofs.Lists.{add-none}

-- what the virtual switch gives, and then what the walk gives at the place to which its tail leads
pub walk-on : (net : Network) (hops n v : ℕ) (h : HeaderOf) (s : VirtualSwitch) (m : Meaning) (w next : Walked)
    (on : Onward) → hops ≡ suc n →
    slice_get net.switches v ≡ Some s → takes s.spread h ≡ true →
    m ≡ evaluate (λ i. table_meaning (slice_get net.tables i)) s.expr h →
    w ≡ here v h.in_port m.outs → leads m.tail s.links h.in_port ≡ Some on →
    next ≡ walk (ground_of net) n on.place.v (arriving on.rewrite on.place.port h) →
    both_walked w (walked_after on.rewrite next) ≡ walk (ground_of net) hops v h
walk-on net hops n v h s m w next on k get taken em ew el en = rw (k, get, taken, ← em, el, ew, en) refl

-- and where its tail leads nowhere, that is all
walked-alone : (w : Walked) → w ≡ both_walked w nowhere
walked-alone w = λ i. record { outs = add-none w.outs i; told = add-none w.told i }

pub walk-ends : (net : Network) (hops n v : ℕ) (h : HeaderOf) (s : VirtualSwitch) (m : Meaning) (w : Walked)
    → hops ≡ suc n →
    slice_get net.switches v ≡ Some s → takes s.spread h ≡ true →
    m ≡ evaluate (λ i. table_meaning (slice_get net.tables i)) s.expr h →
    w ≡ here v h.in_port m.outs → leads m.tail s.links h.in_port ≡ None → w ≡ walk (ground_of net) hops v h
walk-ends net hops n v h s m w k get taken em ew el = walked-alone w ∙ rw (k, get, taken, ← em, el, ew) refl

-- One step of a packet on its way.
use Rattle.std.proofs.Common.{◌≡◌, ℕ, suc, true, false, Option, None, Some, refl, ap, ◌∙◌}
use Rattle.std.specs.Prelude.{slice_get}
use Rattle.of10_match.specs.Fields.{HeaderOf}
use Rattle.of10_actions.specs.Fields.{RewriteOf}
use Rattle.of10_actions.specs.Effects.{effects_of}
use Rattle.of10_actions.specs.Rewriting.{and_then, no_rewrite}
use Rattle.of10_actions.specs.declared.effects.Effects.{Effects}
use Rattle.of10_msgs.specs.declared.message.PacketOut.{PacketOut}
use Rattle.grants.specs.declared.grant.Grant.{Grant}
use Rattle.policy_meaning.specs.Hops.{leads}
use Rattle.policy_meaning.specs.Meaning.{evaluate}
use Rattle.policy_meaning.specs.Networks.{ground_of, table_meaning}
use Rattle.policy_meaning.specs.Switches.{SwitchOf}
use Rattle.policy_meaning.specs.Walk.{arriving, both_walked, here, nowhere, takes, walk, walked_after, what_follows}
use Rattle.policy_meaning.specs.declared.meaning.Meaning.{Meaning}
use Rattle.policy_meaning.specs.declared.network.Network.{Network}
use Rattle.policy_meaning.specs.declared.network.Onward.{Onward}
use Rattle.policy_meaning.specs.declared.walking.Walked.{Walked}
use Rattle.policy_meaning.proofs.Stepping.{walk-ends, walk-on}
use Rattle.packet_map.specs.Acting.{with_more}
use Rattle.packet_map.specs.Networks.{links_of, network_of}
use Rattle.packet_map.specs.Sending.{given, ingress_of, sent_of, taken_up}
use Rattle.packet_map.specs.declared.world.World.{World}
use Rattle.packet_map.proofs.Giving.{after-further, after-nothing, both-nowhere}

module _ (net : Network) (hops n v : ℕ) (h : HeaderOf) (s : SwitchOf) (m : Meaning) (w w1 w2 : Walked) (r : RewriteOf)
    (k : hops ≡ suc n)
    (get : slice_get net.switches v ≡ Some s) (taken : takes s.spread h ≡ true)
    (em : m ≡ evaluate (λ i. table_meaning (slice_get net.tables i)) s.expr h)
    (gave : w1 ≡ both_walked w (walked_after r (here v h.in_port m.outs))) where
  -- the walk ends here
  pub ends-here : leads m.tail s.links h.in_port ≡ None
      → w1 ≡ both_walked w (walked_after r (walk (ground_of net) hops v h))
  ends-here e = gave ∙ ap (λ z. both_walked w (walked_after r z))
      (walk-ends net hops n v h s m (here v h.in_port m.outs) k get taken em refl e)

  -- the walk goes on
  pub goes-on : (on : Onward) → leads m.tail s.links h.in_port ≡ Some on →
      w2 ≡ both_walked w1 (walked_after (and_then r on.rewrite)
      (walk (ground_of net) n on.place.v (arriving on.rewrite on.place.port h))) →
      w2 ≡ both_walked w (walked_after r (walk (ground_of net) hops v h))
  goes-on on e f =
      let next = walk (ground_of net) n on.place.v (arriving on.rewrite on.place.port h) in
      f ∙ (ap (λ z. both_walked z (walked_after (and_then r on.rewrite) next)) gave
      ∙ (after-further w r on.rewrite (here v h.in_port m.outs) next
      ∙ ap (λ z. both_walked w (walked_after r z))
      (walk-on net hops n v h s m (here v h.in_port m.outs) next on k get taken em refl e refl)))

-- nothing more comes
pub nothing-more : (w : Walked) (r : RewriteOf) → w ≡ both_walked w (walked_after r nowhere)
nothing-more w r = both-nowhere w

module _ (net : Network) (hops v : ℕ) (h : HeaderOf) (w : Walked) (r : RewriteOf) where
  pub no-hop : hops ≡ 0 → w ≡ both_walked w (walked_after r (walk (ground_of net) hops v h))
  no-hop e = let n : nowhere ≡ walk (ground_of net) hops v h = rw e refl in nothing-more w r
      ∙ ap (λ z. both_walked w (walked_after r z)) n

  pub not-taken : (n : ℕ) (s : SwitchOf) → hops ≡ suc n → slice_get net.switches v ≡ Some s → takes s.spread h ≡ false
      → w ≡ both_walked w (walked_after r (walk (ground_of net) hops v h))
  not-taken n s k get e = let o : nowhere ≡ walk (ground_of net) hops v h = rw (k, get, e) refl in nothing-more w r
      ∙ ap (λ z. both_walked w (walked_after r z)) o

  pub not-there : (n : ℕ) → hops ≡ suc n → slice_get net.switches v ≡ None
      → w ≡ both_walked w (walked_after r (walk (ground_of net) hops v h))
  not-there n k get = let o : nowhere ≡ walk (ground_of net) hops v h = rw (k, get) refl in nothing-more w r
      ∙ ap (λ z. both_walked w (walked_after r z)) o

-- a walk that begins with nothing
pub begun : (w0 : Walked) (r0 : RewriteOf) (w : Walked) → w0 ≡ nowhere → r0 ≡ no_rewrite → with_more w0 r0 w ≡ w
begun w0 r0 w e f = (λ i. with_more (e i) (f i) w) ∙ after-nothing w

-- what a member sends
module _ (w : World) (member : ℕ) (m : PacketOut) (h : HeaderOf) (g : Grant) (e : Effects) (w0 w1 w2 : Walked)
    (r0 : RewriteOf) (ingress : Option ℕ)
    (get : slice_get w.grants.now member ≡ Some g) (does : e ≡ effects_of g.ports member m.actions) (e0 : w0 ≡ nowhere)
    (er : r0 ≡ no_rewrite) (ei : ingress ≡ ingress_of m.in_port)
    (gave : w1 ≡ with_more w0 r0 (given g.ports.v ingress m.in_port e.outs)) where
  abbrev own : Walked
  own = given g.ports.v (ingress_of m.in_port) m.in_port (effects_of g.ports member m.actions).outs

  own-gave : w1 ≡ own
  own-gave = gave ∙ ((λ i. with_more w0 r0 (given g.ports.v (ei i) m.in_port (does i).outs)) ∙ begun w0 r0 own e0 er)

  abbrev follows : Option Onward → Walked
  follows o = what_follows o (walk (ground_of (network_of w)) w.hops) h

  whole : both_walked own
      (follows (taken_up (links_of w.topology.now g.ports.v) g.ports.v (effects_of g.ports member m.actions).tail m))
      ≡ sent_of w member m h
  whole = rw get refl

  taken : (o : Option Onward) → o ≡ taken_up (links_of w.topology.now g.ports.v) g.ports.v e.tail m
      → both_walked own (follows o) ≡ sent_of w member m h
  taken o t = ap (λ z. both_walked own (follows z))
      (t ∙ ap (λ (x : Effects). taken_up (links_of w.topology.now g.ports.v) g.ports.v x.tail m) does) ∙ whole

  pub sent-ends : None ≡ taken_up (links_of w.topology.now g.ports.v) g.ports.v e.tail m → w1 ≡ sent_of w member m h
  sent-ends t = own-gave ∙ (both-nowhere own ∙ taken None t)

  pub sent-goes : (on : Onward) (k : HeaderOf)
      → Some on ≡ taken_up (links_of w.topology.now g.ports.v) g.ports.v e.tail m
      → k ≡ arriving on.rewrite on.place.port h →
      w2 ≡ with_more w1 on.rewrite (walk (ground_of (network_of w)) w.hops on.place.v k) → w2 ≡ sent_of w member m h
  sent-goes on k t ek f = f
      ∙ ((λ i. with_more (own-gave i) on.rewrite (walk (ground_of (network_of w)) w.hops on.place.v (ek i)))
      ∙ taken (Some on) t)

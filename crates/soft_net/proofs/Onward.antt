-- Steps of a packet over cables.
use Rattle.std.proofs.Common.{◌≡◌, ◌≢◌, ◌∙◌, ℕ, suc, ◌-◌, List, [], ◌∷◌, ◌++◌, Option, sym, ap, arith}
use Rattle.std.proofs.Common.{append_assoc}
use Rattle.std.proofs.lemmas.List.{append-nil}
use Rattle.virtual_topology.specs.Wires.{far_end_of}
use Rattle.virtual_topology.specs.declared.plan.TopologyPlan.{TopologyPlan}
use Rattle.soft_net.specs.Nets.{NetOf, SwitchOf, all_go, at_switch, both, comes_in, goes_out, nothing, passed_on, switch_at}
use Rattle.soft_net.specs.Nets.{taken_up}
use Rattle.soft_net.specs.declared.cabled.NetPassed.{NetPassed}
use Rattle.soft_net.specs.declared.passed.Packet.{Packet}
use Rattle.soft_net.specs.declared.passed.Passed.{Passed}

pub both_groups : (a b c : NetPassed) → both (both a b) c ≡ both a (both b c)
both_groups a b c = λ i. record {
  outs = (append_assoc a.outs b.outs c.outs) i;
  copies = (append_assoc a.copies b.copies c.copies) i;
  hits = (append_assoc a.hits b.hits c.hits) i;
}

pub both_nothing : (a : NetPassed) → both a nothing ≡ a
both_nothing a = λ i. record {
  outs = (append-nil a.outs) i;
  copies = (append-nil a.copies) i;
  hits = (append-nil a.hits) i;
}

module _ (plan : TopologyPlan) (on : ℕ → ℕ → List ℕ → NetPassed) (switch : ℕ) where
  abbrev goes : Packet → NetPassed
  goes packet = goes_out (far_end_of plan switch packet.port) switch packet on

  go_more : (ps : List Packet) (p : Packet)
      → all_go plan on switch (ps ++ p ∷ []) ≡ both (all_go plan on switch ps) (goes p)
  go_more [] p = both_nothing (goes p)
  go_more (q ∷ qs) p =
      ap (both (goes q)) (go_more qs p) ∙ sym (both_groups (goes q) (all_go plan on switch qs) (goes p))

  -- one packet more went
  pub one_went : (ps : List Packet) (p : Packet) (first all new : NetPassed)
      → all ≡ both first (all_go plan on switch ps) → new ≡ both all (goes p)
      → new ≡ both first (all_go plan on switch (ps ++ p ∷ []))
  one_went ps p first all new so more =
      more ∙ (ap (λ a. both a (goes p)) so
      ∙ (both_groups first (all_go plan on switch ps) (goes p) ∙ ap (both first) (sym (go_more ps p))))

  -- all went that a switch sent
  pub all_went : (passed : Passed) (first noted all : NetPassed)
      → noted ≡ both first (at_switch switch passed.copies passed.hits)
      → all ≡ both noted (all_go plan on switch passed.outs) → all ≡ both first (passed_on plan on switch passed)
  all_went passed first noted all so more =
      more ∙ (ap (λ a. both a (all_go plan on switch passed.outs)) so
      ∙ both_groups first (at_switch switch passed.copies passed.hits) (all_go plan on switch passed.outs))

turn : (n : ℕ) → n ≢ 0 → n ≡ suc (n - 1)
turn n ne = omega arith

-- a switch takes a packet up
pub took : (n : NetOf) (turns switch port : ℕ) (frame : List ℕ) (o : Option SwitchOf) → turns ≢ 0
    → switch_at n switch ≡ o
    → taken_up n turns switch port frame ≡ comes_in n.plan (taken_up n (turns - 1)) switch port frame o
took n turns switch port frame o ne at =
    ap (λ k. taken_up n k switch port frame) (turn turns ne)
    ∙ ap (comes_in n.plan (taken_up n (turns - 1)) switch port frame) at

-- What holds of the ports of members.
use Rattle.std.proofs.Common.{ℕ, zero, suc, ◌<◌, List, [], ◌∷◌, All, IfSome, length, slice_get, arith}
use Rattle.std.proofs.lemmas.List.Elements.{All-from_recursion, All-weaker}
use Rattle.of10_actions.specs.Ports.{AreRising}
use Rattle.policies.specs.Policies.{PolicyOf}
use Rattle.policies.specs.Sound.{IsSound, IsSoundGrant, IsSoundMember}
use Rattle.policies.specs.declared.policy.MemberItem.{MemberItem}
use Rattle.virtual_topology.specs.declared.plan.VirtualItem.{VirtualItem}

-- what follows from an item that is there
of_item : {A : Type 0} (P : A → Type 0) (Q : Type 0) (xs : List A) (n : ℕ) → n < length xs → IfSome (slice_get xs n) P
    → ((x : A) → P x → Q) → Q
of_item P Q [] n lt h f = absurd (omega arith)
of_item P Q (x ∷ xs) zero lt h f = f x h
of_item P Q (x ∷ xs) (suc n) lt h f = of_item P Q xs n (omega arith) h f

-- the ports of a sound member rise
rising_of : (virtuals : List VirtualItem) (m : MemberItem) → IsSoundMember virtuals m → AreRising m.grant.ports
rising_of virtuals m h = of_item (IsSoundGrant m.grant) (AreRising m.grant.ports) virtuals m.grant.ports.v h.there
    h.grant (λ x g. g.rising)

-- and those of all members of a policy
pub all_rising : (p : PolicyOf) → IsSound p → All (λ (m : MemberItem). AreRising m.grant.ports) p.members
all_rising p h =
    All-weaker (IsSoundMember p.virtuals) (λ (m : MemberItem). AreRising m.grant.ports)
    (λ m sound. rising_of p.virtuals m sound) p.members
    (All-from_recursion (IsSoundMember p.virtuals) p.members h.limits.members)

-- the virtual switch of each member is there
pub all_there : (p : PolicyOf) → IsSound p → All (λ (m : MemberItem). m.grant.ports.v < length p.virtuals) p.members
all_there p h =
    All-weaker (IsSoundMember p.virtuals) (λ (m : MemberItem). m.grant.ports.v < length p.virtuals)
    (λ m sound. sound.there) p.members
    (All-from_recursion (IsSoundMember p.virtuals) p.members h.limits.members)

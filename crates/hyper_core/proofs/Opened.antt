-- A machine as it opens has what the policy says.
use Rattle.std.proofs.Common.{◌≡◌, ◌∙◌, List, All, length, map, ap, sym}
use Rattle.std.proofs.lemmas.List.{length-map}
use Rattle.std.proofs.lemmas.List.Elements.{All-from_recursion, All-weaker}
use Rattle.policies.specs.Policies.{PolicyOf}
use Rattle.policies.specs.Sound.{IsSound, IsSoundMember}
use Rattle.machine_drafts.specs.Machines.{HasBits}

-- the levels of members are as many as there may be
pub all_bits : (p : PolicyOf) → IsSound p → All HasBits p.members
all_bits p h =
    All-weaker (IsSoundMember p.virtuals) HasBits (λ m s. record { least = s.least_bits; most = s.most_bits }) p.members
    (All-from_recursion (IsSoundMember p.virtuals) p.members h.limits.members)

-- there are as many items as those that they were made of
pub as_many : {A B C : Type 0} (f : A → C) (g : B → C) (xs : List A) (ys : List B) → map f xs ≡ map g ys
    → length xs ≡ length ys
as_many f g xs ys e = sym (length-map xs f) ∙ (ap (λ zs. length zs) e ∙ length-map ys g)

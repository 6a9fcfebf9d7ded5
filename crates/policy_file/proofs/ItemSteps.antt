-- Items, one after the other.
use Rattle.std.proofs.Common.{◌≡◌, ◌∙◌, ◌⊎◌, inl, inr, sym, ap, ℕ, List, ◌∷◌, Result, Ok, Err}
use Rattle.toml.specs.Data.{Data, Members}
use Rattle.policies.specs.declared.fault.PolicyFault.{PolicyFault}
use Rattle.policies.specs.declared.fault.PolicyFault.TheVariants.{Memory}
use Rattle.policy_file.specs.declared.keys.ItemKind.{ItemKind}
use Rattle.policy_file.specs.declared.section.Section.{Section}
use Rattle.policy_file.specs.declared.section.Section.TheVariants.{Item}
use Rattle.policies.specs.Outcomes.{then_do}
use Rattle.policy_file.specs.Plans.{with_item, items_after}

-- one that can't be read ends the list
pub items_stopped : {A : Type 0} (read : List A → Section → Members
    → Result A PolicyFault) (kind : ItemKind) (list : List A) (ds rest : List (ℕ × Data)) (i : ℕ × Data)
    (wanted : Result (List A) PolicyFault) (fault : PolicyFault)
    → ds ≡ i ∷ rest → (fault ≡ Memory) ⊎ (with_item read (Item kind i.0) list i.1 ≡ Err fault)
    → items_after read kind list ds ≡ wanted → (fault ≡ Memory) ⊎ (wanted ≡ Err fault)
items_stopped read kind list ds rest i wanted fault d (inl none) e = inl none
items_stopped {A} read kind list ds rest i wanted fault d (inr stop) e =
    inr (sym e
    ∙ (ap (items_after read kind list) d
    ∙ ap (λ (r : Result (List A) PolicyFault). then_do r (λ more. items_after read kind more rest)) stop))

use Rattle.std.proofs.Common.{◌≡◌, ℕ, List, sym, subst, nat_eq}
use Rattle.std.specs.Map.{lookup}
use Rattle.member_table.specs.Entries.{same_identity}
use Rattle.member_table.specs.InsideOrders.{IsInStep}
use Rattle.member_table.specs.declared.entry.Entry.{Entry}
use Rattle.member_table.specs.declared.entry.Identity.{Identity}
use Rattle.member_table.proofs.order.Order.reserve.Goals as goal

-- the same lists are in step
moved : (ns ns' : List ℕ) (ps ps' : List (ℕ × Entry)) (ks ks' : List (Identity × ℕ)) → ns' ≡ ns → ps' ≡ ps → ks' ≡ ks
    → IsInStep ns (λ s. lookup (nat_eq s) ps) (λ k. lookup (same_identity k) ks)
    → IsInStep ns' (λ s. lookup (nat_eq s) ps') (λ k. lookup (same_identity k) ks')
moved ns ns' ps ps' ks ks' n p k i =
    subst (λ (x : List ℕ × (List (ℕ × Entry) × List (Identity × ℕ))). IsInStep x.0 (λ s. lookup (nat_eq s) x.1.0)
    (λ j. lookup (same_identity j) x.1.1)) (λ t. (sym n t, (sym p t, sym k t))) i

pub invariant_of-self-in_err-reserve-3 : goal.invariant_of-self-in_err-reserve-3
invariant_of-self-in_err-reserve-3 c = moved _ _ _ _ _ _ c.reserve.ensures.items c.reserve-2.ensures.entries
    c.reserve-3.ensures.entries c.self.invariant

pub invariant_of-self-2 : goal.invariant_of-self-2
invariant_of-self-2 c = moved _ _ _ _ _ _ c.reserve.ensures.items c.reserve-2.ensures.entries
    c.reserve-3.ensures.entries c.self.invariant

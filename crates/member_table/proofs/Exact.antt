-- The rank of what is written without a wildcard.
use Rattle.std.proofs.Common.{◌≡◌, ◌∙◌, ◌==◌, ◌↔◌, ℕ, Bool, true, false, IsTrue, refl, sym, ap, eq-eqb, eqb-true, ◌%◌}
use Rattle.std.proofs.Common.{◌^◌}
use Rattle.of10_match.specs.Numbers.{rank_by}
use Rattle.of10_match.specs.OfpMatchFields.{fields_in}
use Rattle.of10_msgs.specs.declared.message.FlowMod.{FlowMod}
use Rattle.member_table.specs.Tables.{rank_of}

-- a test that holds exactly at zero
at_zero : (b : Bool) (n : ℕ) → (IsTrue b ↔ (n ≡ 0)) → b ≡ (n == 0)
at_zero true n h = sym (eq-eqb n 0 (h.0 refl))
at_zero false n h = by (n == 0) refl
  where
    by : (b : Bool) → (n == 0) ≡ b → false ≡ (n == 0)
    by true t = h.1 (eqb-true n 0 t) ∙ sym t
    by false t = sym t

pub rank_is : (exact : Bool) (m : FlowMod) → (IsTrue exact ↔ ((fields_in m.m).wildcards % 2 ^ 22 ≡ 0))
    → rank_by exact m.priority ≡ rank_of m
rank_is exact m h = ap (λ b. rank_by b m.priority) (at_zero exact ((fields_in m.m).wildcards % 2 ^ 22) h)

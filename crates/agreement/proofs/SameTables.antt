-- What a switch may use hangs on its entries alone, and not on their order.
use Rattle.std.proofs.Common.{◌≡◌, ◌≤◌, ◌⊎◌, inl, inr, true, false, Option, Some, None, List}
use Rattle.std.specs.List.{AllByRecursion}
use Rattle.of10_match.specs.Fields.{HeaderOf}
use Rattle.of10_match.specs.Matching.{holds}
use Rattle.switch_meaning.specs.MayUse.{IsTop, MayUse, priority_of, rank_of}
use Rattle.switch_meaning.specs.declared.entry.FlowEntry.{FlowEntry}
use Rattle.switch_meaning.proofs.Members.{all-in, from-place, in-all, place}
use Rattle.agreement.specs.Agree.{SameEntries}

carried : (P : FlowEntry → Type 0) (a b : List FlowEntry) → SameEntries a b → AllByRecursion P a → AllByRecursion P b
carried P a b same all = all-in P b (λ e i. in-all P (from-place e a (same.back e (place e b i))) all)

highest-carried : (a b : List FlowEntry) (h : HeaderOf) (e : FlowEntry) → SameEntries a b
    → (IsTop rank_of a h e ⊎ IsTop priority_of a h e) → (IsTop rank_of b h e ⊎ IsTop priority_of b h e)
highest-carried a b h e same (inl top) =
    inl (carried (λ (d : FlowEntry). holds d.m h ≡ true → rank_of d ≤ rank_of e) a b same top)
highest-carried a b h e same (inr top) =
    inr (carried (λ (d : FlowEntry). holds d.m h ≡ true → priority_of d ≤ priority_of e) a b same top)

pub may-carried : (a b : List FlowEntry) (h : HeaderOf) (used : Option FlowEntry) → SameEntries a b → MayUse a h used
    → MayUse b h used
may-carried a b h None same may = carried (λ (d : FlowEntry). holds d.m h ≡ false) a b same may
may-carried a b h (Some e) same may =
    record {
      stands = same.there e may.stands;
      holds_it = may.holds_it;
      highest = highest-carried a b h e same may.highest;
    }

-- In whatever order what is wanted is listed, the change is the same.
use Rattle.std.proofs.Common.{◌≡◌, ◌++◌, ℕ, List, ap, filter, map, not}
use Rattle.std.specs.Prelude.{IsPermutation}
use Rattle.std.proofs.lemmas.List.Sorted.{IsPermutation-refl, list_any-IsPermutation}
use Rattle.agreement.specs.FreeOrder.{BatchIsTheSame, HaveMatches}
use Rattle.install_plan.specs.Tables.{entry_of, numbered}
use Rattle.install_plan.specs.declared.written.Written.{Written}
use Rattle.switch_meaning.specs.BatchLaw.{HasOneAKey}
use Rattle.switch_meaning.specs.Same.{same_entry}
use Rattle.switch_meaning.specs.declared.entry.Difference.{Difference}
use Rattle.switch_meaning.specs.declared.entry.PhysEntry.{PhysEntry}
use Rattle.machine_meaning.specs.Batches.{batch_between, by_key, coming, going, is_among, standing_after, staying}

module _ (stood : List Written) (wanted others : List PhysEntry) (permuted : IsPermutation wanted others) where
  among : (w : Written) → is_among wanted w ≡ is_among others w
  among w = list_any-IsPermutation (same_entry w.entry) wanted others permuted

  goes : going stood wanted ≡ going stood others
  goes = λ i. by_key (filter (λ (w : Written). not (among w i)) stood)

  stays : staying stood wanted ≡ staying stood others
  stays = λ i. filter (λ (w : Written). among w i) stood

  module _ (same : BatchIsTheSame) (stood_once : HasOneAKey (map entry_of stood)) (once : HasOneAKey wanted)
      (stood_ranged : HaveMatches (map entry_of stood)) (ranged : HaveMatches wanted) (next : ℕ) where
    comes : coming next stood wanted ≡ coming next stood others
    comes =
        ap (λ (d : Difference). numbered next d.adds)
        (same (map entry_of stood) wanted (map entry_of stood) others stood_once once stood_ranged ranged
        (IsPermutation-refl (map entry_of stood)) permuted)

    pub batch_in_any_order : batch_between next stood wanted ≡ batch_between next stood others
    batch_in_any_order = λ i. record { deletes = goes i; adds = comes i }

    pub standing_in_any_order : standing_after next stood wanted ≡ standing_after next stood others
    standing_in_any_order = λ i. by_key (stays i ++ comes i)

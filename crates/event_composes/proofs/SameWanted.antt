-- In whatever order what is wanted of a switch is listed, the change to it is the same.
use Rattle.std.proofs.Common.{◌≡◌, ◌∙◌, ℕ, Bool, not, List, [], ◌++◌, map, filter, sym, ap}
use Rattle.std.specs.Prelude.{IsPermutation}
use Rattle.std.specs.List.{list_any}
use Rattle.std.proofs.lemmas.List.Sorted.{IsPermutation-refl, list_any-IsPermutation}
use Rattle.agreement.specs.FreeOrder.{HaveMatches}
use Rattle.agreement.proofs.Cables.{all-filter}
use Rattle.agreement.proofs.FreeOrder.{batch-is-the-same}
use Rattle.install_plan.specs.Tables.{entry_of, numbered}
use Rattle.install_plan.specs.declared.written.Written.{Written}
use Rattle.list_change.proofs.Kept.{permuted-filter}
use Rattle.of10_match.specs.Ranges.{IsMatch}
use Rattle.switch_meaning.specs.BatchLaw.{HasOneAKey}
use Rattle.switch_meaning.specs.Batches.{by_key as entries_by_key, missing}
use Rattle.switch_meaning.specs.Keys.{same_key}
use Rattle.switch_meaning.specs.Same.{same_entry}
use Rattle.switch_meaning.specs.declared.entry.Difference.{Difference}
use Rattle.switch_meaning.specs.declared.entry.PhysEntry.{PhysEntry}
use Rattle.switch_meaning.proofs.Members.{distinct-filter}
use Rattle.told_batches.specs.declared.change.Change.{Change}
use Rattle.machine_meaning.specs.Batches.{batch_between, by_key, coming, going, is_among, next_after, standing_after}
use Rattle.machine_meaning.specs.Batches.{staying}
use Rattle.machine_meaning.proofs.StandingAfter.{all_missing, none_apart}
use Rattle.event_composes.specs.Settled.{IsSettled}
use Rattle.event_composes.specs.Sources.{IsChangeTo}

module _ (wanted others : List PhysEntry) (one : HasOneAKey wanted) (matches : HaveMatches wanted)
    (p : IsPermutation wanted others) where
  among : (w : Written) → is_among wanted w ≡ is_among others w
  among w = list_any-IsPermutation (same_entry w.entry) wanted others p

  goes : (stood : List Written) → going stood wanted ≡ going stood others
  goes stood = λ i. by_key (filter (λ (w : Written). not (among w i)) stood)

  stays : (stood : List Written) → staying stood wanted ≡ staying stood others
  stays stood = λ i. filter (λ (w : Written). among w i) stood

  -- what comes is sorted by key
  in_order : (before : List PhysEntry)
      → entries_by_key (missing before wanted) ≡ entries_by_key (missing before others)
  in_order before =
      let test : PhysEntry → Bool = λ e. not (list_any (λ (d : PhysEntry). same_entry d e) before) in
      let xs = missing before wanted in
      let ys = missing before others in
      let differ = batch-is-the-same [] xs [] ys none_apart (distinct-filter same_key test wanted one) tt
      (all-filter (λ (e : PhysEntry). IsMatch e.m) test wanted matches) (IsPermutation-refl [])
      (permuted-filter test wanted others p) in
      ap entries_by_key (sym (all_missing xs))
      ∙ (ap (λ (d : Difference). d.adds) differ ∙ ap entries_by_key (all_missing ys))

  comes : (next : ℕ) (stood : List Written) → coming next stood wanted ≡ coming next stood others
  comes next stood = ap (numbered next) (in_order (map entry_of stood))

  batch_same : (next : ℕ) (stood : List Written) → batch_between next stood wanted ≡ batch_between next stood others
  batch_same next stood = λ i. record { deletes = goes stood i; adds = comes next stood i }

  standing_same : (next : ℕ) (stood : List Written)
      → standing_after next stood wanted ≡ standing_after next stood others
  standing_same next stood = λ i. by_key (stays stood i ++ comes next stood i)

  -- what stands already is settled
  pub settled_permuted : (stood : List Written) → IsSettled stood wanted → IsSettled stood others
  settled_permuted stood h = record {
    nothing = λ next. sym (batch_same next stood) ∙ h.nothing next;
    stays = λ next. sym (standing_same next stood) ∙ h.stays next;
  }

  -- the change to the one is the change to the other
  pub change_permuted : (c : Change) (next : ℕ) (stood : List Written) → IsChangeTo c next stood others
      → IsChangeTo c next stood wanted
  change_permuted c next stood h = record {
    batch = h.batch ∙ sym (batch_same next stood);
    standing = h.standing ∙ sym (standing_same next stood);
    next_is = h.next_is ∙ ap (next_after next) (sym (comes next stood));
  }

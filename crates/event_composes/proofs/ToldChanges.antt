-- What is told of a switch is the change from what stands there to what a setting wants.
use Rattle.std.proofs.Common.{◌≡◌, ◌∙◌, ℕ, true, false, not, List, [], ◌∷◌, ◌++◌, map, filter, refl, sym, ap, subst}
use Rattle.std.specs.Prelude.{IsPermutation}
use Rattle.std.specs.List.{list_any}
use Rattle.std.proofs.lemmas.List.Sorted.{IsPermutation-sym, IsPermutation-trans}
use Rattle.std.proofs.lemmas.Map.Keys.{IsDistinct-IsPermutation}
use Rattle.agreement.specs.FreeOrder.{HaveMatches}
use Rattle.agreement.proofs.Cables.{all-filter}
use Rattle.agreement.proofs.FreeOrder.{batch-is-the-same}
use Rattle.install_plan.specs.Tables.{IsBatch, IsTable, entry_of, numbered}
use Rattle.install_plan.specs.declared.written.Batch.{Batch}
use Rattle.install_plan.specs.declared.written.Written.{Written}
use Rattle.of10_match.specs.Ranges.{IsMatch}
use Rattle.switch_meaning.specs.BatchLaw.{HasNoTwins, HasOneAKey}
use Rattle.switch_meaning.specs.Batches.{by_key as entries_by_key}
use Rattle.switch_meaning.specs.Keys.{displaces, installed, passing, same_key}
use Rattle.switch_meaning.specs.declared.entry.PhysEntry.{PhysEntry}
use Rattle.switch_meaning.proofs.Batched.{by_key-permutes, key-flips}
use Rattle.switch_meaning.proofs.ByKey.{installed-has-one-a-key}
use Rattle.switch_meaning.proofs.Members.{all-permuted}
use Rattle.switch_tables.specs.Tables.{HasNow, SwitchTableOf}
use Rattle.switch_tables.proofs.Switching.{stands-as-installed}
use Rattle.told_batches.specs.Told.{IsToldOf, has_key_in}
use Rattle.told_batches.proofs.ToldBatches.{batches-told, told_between}
use Rattle.told_batches.proofs.Rising.{in_order, sorted_rise}
use Rattle.machine_meaning.specs.Batches.{by_key, coming, going, staying}
use Rattle.machine_meaning.proofs.Unchanged.{nothing_after}
use Rattle.event_composes.specs.Settled.{IsSettled}
use Rattle.event_composes.proofs.SameWanted.{settled_permuted}

-- what is installed of entries that a switch is put -----------------------------------------------------------------

module _ (entries : List PhysEntry) (none : HasNoTwins entries) (x : SwitchTableOf) (has : HasNow entries x) where
  pub wanted_once : HasOneAKey (installed entries)
  wanted_once = installed-has-one-a-key entries none

  pub wanted_in_range : HaveMatches (installed entries)
  wanted_in_range =
      all-filter (λ (e : PhysEntry). IsMatch e.m)
      (λ (e : PhysEntry). not (list_any (λ (d : PhysEntry). displaces d e) (passing entries))) (passing entries)
      (all-permuted (λ (e : PhysEntry). IsMatch e.m) x.installed.now.entries (passing entries)
      (IsPermutation-sym (passing entries) x.installed.now.entries has.passing_are) has.in_range)

  module _ (table : IsTable x.installed.now) where
    abbrev rows : List PhysEntry
    rows = map entry_of x.installed.now.standing

    pub stands : IsPermutation (installed entries) rows
    stands = stands-as-installed entries x none has table

    rows_once : HasOneAKey rows
    rows_once = IsDistinct-IsPermutation same_key key-flips (installed entries) rows stands wanted_once

    rows_in_range : HaveMatches rows
    rows_in_range = all-permuted (λ (e : PhysEntry). IsMatch e.m) (installed entries) rows stands wanted_in_range

-- what is told ------------------------------------------------------------------------------------------------------

module _ (entries others : List PhysEntry) (none : HasNoTwins entries) (none_then : HasNoTwins others)
    (x y : SwitchTableOf) (has : HasNow entries x) (has_then : HasNow others y)
    (table : IsTable x.installed.now) (table_then : IsTable y.installed.now) where
  -- the batch of what stood and what stands
  pub is_told : (k : ℕ) (told : Batch) → IsBatch x.installed.now y.installed.now k told
      → (stood : List Written) → map entry_of stood ≡ entries_by_key (installed entries)
      → IsToldOf stood (installed others) told
  is_told k told batch stood given =
      let was = rows entries none x has table in
      let is = rows others none_then y has_then table_then in
      let standing = map entry_of stood in
      record {
        difference_is =
            batches-told batch-is-the-same x.installed.now y.installed.now k told batch
            (rows_once entries none x has table) (rows_once others none_then y has_then table_then)
            (rows_in_range entries none x has table) (rows_in_range others none_then y has_then table_then)
            stood (installed others)
            (IsPermutation-trans was (installed entries) standing
            (IsPermutation-sym (installed entries) was (stands entries none x has table))
            (subst (λ es. IsPermutation (installed entries) es) (sym given) (by_key-permutes (installed entries))))
            (IsPermutation-sym (installed others) is (stands others none_then y has_then table_then));
        rises =
            sorted_rise stood (installed entries) (wanted_once entries none x has)
            (wanted_in_range entries none x has) given;
      }

-- where what is to stand is the same, what stood settled is settled
pub still_settled : (entries others : List PhysEntry) → HasNoTwins entries → HasNoTwins others → (x : SwitchTableOf)
    → HasNow entries x → HasNow others x → IsTable x.installed.now → (stood : List Written)
    → IsSettled stood (installed entries) → IsSettled stood (installed others)
still_settled entries others none none_then x has has_then table stood h =
    let rows = map entry_of x.installed.now.standing in
    settled_permuted (installed entries) (installed others) (wanted_once entries none x has)
    (wanted_in_range entries none x has)
    (IsPermutation-trans (installed entries) rows (installed others) (stands entries none x has table)
    (IsPermutation-sym (installed others) rows (stands others none_then x has_then table)))
    stood h

-- nothing is told ---------------------------------------------------------------------------------------------------

all_pass : (ws : List Written) → filter (λ (w : Written). true) ws ≡ ws
all_pass [] = refl
all_pass (w ∷ ws) = ap (λ vs. w ∷ vs) (all_pass ws)

none_pass : (ws : List Written) → filter (λ (w : Written). false) ws ≡ []
none_pass [] = refl
none_pass (w ∷ ws) = none_pass ws

module _ (stood : List Written) (wanted : List PhysEntry) (told : Batch) (deletes : told.deletes ≡ [])
    (adds : told.adds ≡ []) (h : IsToldOf stood wanted told) where
  none_goes : going stood wanted ≡ []
  none_goes =
      sym (told_between 0 stood wanted told h).goes
      ∙ (ap (λ (ws : List Written). by_key (filter (has_key_in (map entry_of ws)) stood)) deletes
      ∙ ap by_key (none_pass stood))

  all_stay : staying stood wanted ≡ stood
  all_stay =
      sym (told_between 0 stood wanted told h).stays
      ∙ (ap (λ (ws : List Written). filter (λ (w : Written). not (has_key_in (map entry_of ws) w)) stood) deletes
      ∙ all_pass stood)

  none_comes : (next : ℕ) → coming next stood wanted ≡ []
  none_comes next =
      sym (told_between next stood wanted told h).comes
      ∙ ap (λ (ws : List Written). numbered next (map entry_of ws)) adds

  -- where nothing is told, what is wanted stands
  pub nothing_told : IsSettled stood wanted
  nothing_told = record {
    nothing = λ next. λ i. record { deletes = none_goes i; adds = none_comes next i };
    stays = λ next.
        (λ i. by_key (all_stay i ++ none_comes next i))
        ∙ (ap by_key (nothing_after stood) ∙ in_order stood h.rises);
  }

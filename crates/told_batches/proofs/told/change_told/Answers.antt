use Rattle.std.proofs.Common.{◌≡◌, ◌∙◌, ◌++◌, ℕ, Bool, List, ap, filter, map, not, subst, sym}
use Rattle.install_plan.specs.Tables.{entry_of, numbered}
use Rattle.install_plan.specs.declared.written.Batch.{Batch}
use Rattle.install_plan.specs.declared.written.Written.{Written}
use Rattle.policy_meaning.specs.LeafFact.{EachPair}
use Rattle.shared_rows.specs.Rows.{IsLower, Rise}
use Rattle.shared_rows.proofs.Put.{risen, rows_rise}
use Rattle.switch_meaning.specs.declared.entry.PhysEntry.{PhysEntry}
use Rattle.machine_meaning.specs.Batches.{by_key, coming, going, next_after, staying}
use Rattle.told_batches.specs.Told.{AreListed, IsBetween, has_key_in}
use Rattle.told_batches.proofs.Rising.{pairs_kept}
use Rattle.told_batches.proofs.ToldBatches.{told_between}
use Rattle.told_batches.proofs.told.change_told.Goals as goal

module _ (next : ℕ) (stood : List Written) (wanted : List PhysEntry) (told : Batch)
    (b : IsBetween next stood wanted told) (rises : EachPair IsLower stood) where
  listed : (ds : List Written) → ds ≡ told.deletes → AreListed (map entry_of ds) stood
  listed ds is = subst (λ (xs : List Written). AreListed (map entry_of xs) stood) (sym is) b.listed

  goes_is : (ds went : List Written) → ds ≡ told.deletes → went ≡ filter (has_key_in (map entry_of ds)) stood
      → went ≡ going stood wanted
  goes_is ds went is says =
      let up : Rise (filter (has_key_in (map entry_of ds)) stood) =
      rows_rise (filter (has_key_in (map entry_of ds)) stood)
      (pairs_kept IsLower (has_key_in (map entry_of ds)) stood rises) in
      says
      ∙ (sym (risen (filter (has_key_in (map entry_of ds)) stood) up)
      ∙ (ap (λ (xs : List Written). by_key (filter (has_key_in (map entry_of xs)) stood)) is ∙ b.goes))

  stays_is : (ds stayed : List Written) → ds ≡ told.deletes
      → stayed ≡ filter (λ w. not (has_key_in (map entry_of ds) w)) stood → stayed ≡ staying stood wanted
  stays_is ds stayed is says =
      says
      ∙ (ap (λ (xs : List Written). filter (λ w. not (has_key_in (map entry_of xs) w)) stood) is ∙ b.stays)

  stay_rise : (ds stayed : List Written) → stayed ≡ filter (λ w. not (has_key_in (map entry_of ds) w)) stood
      → Rise stayed
  stay_rise ds stayed says =
      let left : Written → Bool = λ w. not (has_key_in (map entry_of ds) w) in
      subst Rise (sym says) (rows_rise (filter left stood) (pairs_kept IsLower left stood rises))

  comes_is : (added : List Written) (es : List PhysEntry) → added ≡ told.adds → es ≡ map entry_of added
      → numbered next es ≡ coming next stood wanted
  comes_is added es is says = ap (numbered next) (says ∙ ap (map entry_of) is) ∙ b.comes

pub returns-clause-batch : goal.returns-clause-batch
returns-clause-batch c wanted h =
    let stood = c.args.standing.now in
    let next = c.args.next in
    let told = c.args.told.now in
    let b = told_between next stood wanted told h in
    let ds = c.as_slice.result.now in
    let all = listed next stood wanted told b h.rises ds c.as_slice.ensures in
    let deletes =
    goes_is next stood wanted told b h.rises ds c.in_ok-left.left.going c.as_slice.ensures
    (c.in_ok-left.ensures.going h.rises all) in
    let adds = c.in_ok-come.ensures.entries
    ∙ comes_is next stood wanted told b h.rises c.as_slice-2.result.now c.in_ok-entries.entries c.as_slice-2.ensures
    c.in_ok-entries.ensures in
    λ i. record { deletes = deletes i; adds = adds i }

pub returns-clause-standing : goal.returns-clause-standing
returns-clause-standing c wanted h =
    let stood = c.args.standing.now in
    let next = c.args.next in
    let told = c.args.told.now in
    let b = told_between next stood wanted told h in
    let ds = c.as_slice.result.now in
    let all = listed next stood wanted told b h.rises ds c.as_slice.ensures in
    let says = c.in_ok-left.ensures.staying h.rises all in
    let stays = stays_is next stood wanted told b h.rises ds c.in_ok-left.left.staying c.as_slice.ensures says in
    let adds = c.in_ok-come.ensures.entries
    ∙ comes_is next stood wanted told b h.rises c.as_slice-2.result.now c.in_ok-entries.entries c.as_slice-2.ensures
    c.in_ok-entries.ensures in
    c.in_ok-after.ensures
    (stay_rise next stood wanted told b h.rises ds c.in_ok-left.left.staying says)
    ∙ (λ i. by_key (stays i ++ (c.as_slice-3.ensures ∙ adds) i))

pub returns-clause-next : goal.returns-clause-next
returns-clause-next c wanted h =
    let stood = c.args.standing.now in
    let next = c.args.next in
    let told = c.args.told.now in
    let b = told_between next stood wanted told h in
    c.in_ok-come.ensures.next
    ∙ ap (next_after next)
    (comes_is next stood wanted told b h.rises c.as_slice-2.result.now c.in_ok-entries.entries c.as_slice-2.ensures
    c.in_ok-entries.ensures)

use Rattle.std.proofs.Common.{◌≡◌, ◌∙◌, ◌++◌, ap}
use Rattle.std.proofs.lemmas.Result.{IfOk-weaker}
use Rattle.machine_meaning.specs.Batches.{batch_between, by_key, coming, next_after, standing_after}
use Rattle.told_batches.specs.declared.change.Change.{Change}
use Rattle.told_batches.proofs.between.change_of_rows.Goals as goal

pub returns : goal.returns
returns c =
    let stood = c.args.standing.now in
    let wanted = c.args.wanted.now in
    let next = c.args.next in
    let deletes = ap by_key c.in_ok-parted.ensures.going in
    let stays = c.in_ok-parted.ensures.staying in
    let adds = c.in_ok-come.ensures.entries in
    record {
      batch =
          IfOk-weaker c.change_of.result _ (λ (x : Change). x.batch ≡ batch_between next stood wanted)
          (λ x e. e ∙ (λ i. record { deletes = deletes i; adds = adds i })) c.change_of.ensures.batch;
      standing =
          IfOk-weaker c.change_of.result _ (λ (x : Change). x.standing ≡ standing_after next stood wanted)
          (λ x e. e ∙ (λ i. by_key (stays i ++ adds i))) c.change_of.ensures.standing;
      next =
          IfOk-weaker c.change_of.result _ (λ (x : Change). x.next ≡ next_after next (coming next stood wanted))
          (λ x e. e ∙ c.in_ok-come.ensures.next) c.change_of.ensures.next;
    }

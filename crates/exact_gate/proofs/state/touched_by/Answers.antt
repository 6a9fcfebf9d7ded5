use Rattle.std.proofs.Common.{◌≡◌, ◌∙◌, List, ap, map}
use Rattle.std.proofs.lemmas.Result.{IfOk-weaker}
use Rattle.exact_gate.specs.InsideChanges.{IsTouched, touched_of}
use Rattle.exact_gate.specs.declared.key.Key.{Key}
use Rattle.exact_gate.proofs.state.touched_by.Goals as goal

pub returns : goal.returns
returns c =
    let pool = c.args.pool.now in
    let keys = c.in_ok-keys.keys.keys in
    IfOk-weaker c.with_before.result (λ list. list ≡ map (touched_of pool) c.as_slice.result.now)
    (IsTouched pool c.args.gone.now c.args.come.now)
    (λ list e. record {
      keys = keys;
      is = e ∙ ap (λ (ks : List Key). map (touched_of pool) ks) c.as_slice.ensures.keys;
      once = c.as_slice.ensures.unique;
      going = c.in_ok-keys.ensures.gone;
      coming = c.in_ok-keys.ensures.come;
    }) c.with_before.ensures

use Rattle.std.proofs.Common.{sym, ◌∙◌}
use Rattle.incr_compile.proofs.Finding.{found-rules}
use Rattle.incr_compile.proofs.candidates.candidates.Goals as goal

pub returns : goal.returns
returns c by p =
    found-rules by c.args.m c.args.index.now.items c.args.store.now c.in_ok-ids.ids.items c.in_ok-found.found.items p
    c.in_ok-ids.ensures
    (λ hs rest e s. c.in_ok-found.ensures hs rest (e ∙ sym c.deref.ensures.value) s)

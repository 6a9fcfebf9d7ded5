use Rattle.std.proofs.Common.{◌∙◌, ◌<◌, ◌*◌, ◌^◌, ℕ, List, ap, length, map, subst, sym, arith}
use Rattle.std.proofs.lemmas.List.{length_push}
use Rattle.hop_rules.specs.Building.{arrival_stand, size_at}
use Rattle.hop_rules.specs.declared.building.Rising.{Rising}
use Rattle.hop_rules.proofs.Risings.{next-fits, one-more}
use Rattle.hop_rules.proofs.building.add_level.Goals as goal

pub next_peers-requires-clause-count : goal.next_peers-requires-clause-count
next_peers-requires-clause-count c =
    let r = c.requires.1 in
    let a = ap length c.as_slice-2.ensures in
    let n = r.risen.count in
    let m = r.fabric.count in
    omega arith

pub next_peers-requires-clause-fits : goal.next_peers-requires-clause-fits
next_peers-requires-clause-fits c v lt =
    let r = c.requires in
    subst (λ (ps : List ℕ). size_at c.args.sizes.now v * size_at ps v < 2 ^ 64) (sym c.as_slice-2.ensures)
    (next-fits r.0 c.args.ends.now c.args.given.now c.args.sizes.now c.args.rising.now r.1 v lt)

pub returns-clause-count : goal.returns-clause-count
returns-clause-count c = let p = ap length c.in_ok-push.ensures.pushed in let l =
    length_push c.args.rising.now.levels c.in_ok-level.level in omega arith

pub returns-clause-risen : goal.returns-clause-risen
returns-clause-risen c f r =
    let rising = c.args.rising.now in
    let level = c.in_ok-level.level in
    let n = c.in_ok-peers.ensures in
    let next = n.0 in
    let peers = c.as_slice-2.ensures in
    let then : Rising = record { levels = c.push.new.self; peers = c.in_ok-peers.peers } in
    one-more f c.args.ends.now c.args.given.now c.args.sizes.now r.fabric rising r.risen level
    (c.in_ok-level.ensures.stands ∙ ap (λ (ps : List ℕ). map (arrival_stand ps) c.args.ends.now) c.as_slice.ensures)
    c.in_ok-level.ensures.count c.in_ok-level.ensures.nodes
    next n.1 (λ v lt. n.2 v lt ∙ ap (λ (ps : List ℕ). size_at c.args.sizes.now v * size_at ps v) peers)
    then c.in_ok-push.ensures.pushed n.3

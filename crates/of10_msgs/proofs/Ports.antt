-- The ports of a FEATURES_REPLY, one after the other.
use Rattle.std.proofs.Common.{◌≡◌, ℕ, ◌+◌, ◌-◌, ◌*◌, ◌<◌, ◌≤◌, suc, List, [], ◌∷◌, ◌++◌, sym, ap, ◌∙◌, append_assoc}
use Rattle.std.proofs.Common.{arith}
use Rattle.std.proofs.lemmas.List.{append-nil}
use Rattle.of10_msgs.specs.Reading.{port_at, ports_at}
use Rattle.of10_msgs.specs.declared.message.PhyPort.{PhyPort}

-- one more port is read
pub ports_more : (count place : ℕ) (frame : List ℕ) (front : List PhyPort) (total : List PhyPort) → place < count
    → front ++ ports_at (count - place) (32 + 48 * place) frame ≡ total
    → (front ++ port_at (32 + 48 * place) frame ∷ []) ++ ports_at (count - (place + 1)) (32 + 48 * (place + 1)) frame
    ≡ total
unfolding ports_at
ports_more count place frame front total more so_far =
    let k : count - place ≡ suc (count - (place + 1)) = omega arith in
    let a : 32 + 48 * (place + 1) ≡ 32 + 48 * place + 48 = omega arith in
    append_assoc front (port_at (32 + 48 * place) frame ∷ [])
    (ports_at (count - (place + 1)) (32 + 48 * (place + 1)) frame)
    ∙ (ap (λ (at : ℕ). front ++ port_at (32 + 48 * place) frame ∷ ports_at (count - (place + 1)) at frame) a
    ∙ (ap (λ (n : ℕ). front ++ ports_at n (32 + 48 * place) frame) (sym k) ∙ so_far))

-- no more ports are left
pub ports_end : (count place : ℕ) (frame : List ℕ) (front : List PhyPort) (total : List PhyPort) → count ≤ place
    → front ++ ports_at (count - place) (32 + 48 * place) frame ≡ total → front ≡ total
unfolding ports_at
ports_end count place frame front total ended so_far =
    let k : count - place ≡ 0 = omega arith in
    sym (append-nil front) ∙ (ap (λ (n : ℕ). front ++ ports_at n (32 + 48 * place) frame) (sym k) ∙ so_far)

-- What is told of a refused message.
use Rattle.std.proofs.Common.{◌≡◌, ℕ, ◌+◌, min, List, ◌++◌, length, take, ap, ◌∙◌}
use Rattle.std.proofs.lemmas.List.{take_min}
use Rattle.of10_frames.specs.Wire.{error_head_bytes, error_bytes, xid_field}

-- a head and the bytes that are told make the ERROR
pub error_is : (kind code told xid : ℕ) (refused head out : List ℕ) → told ≡ min 64 (length refused)
    → xid ≡ xid_field refused → head ≡ error_head_bytes kind code (12 + length (take told refused)) xid
    → out ≡ head ++ take told refused → out ≡ error_bytes kind code refused
error_is kind code told xid refused head out t x h o =
    let e : take told refused ≡ take 64 refused = ap (λ (n : ℕ). take n refused) t ∙ take_min 64 refused in
    o ∙ (ap (λ (y : List ℕ). y ++ take told refused)
    (h ∙ ap (λ (y : ℕ). error_head_bytes kind code (12 + length (take told refused)) y) x)
    ∙ ap (λ (y : List ℕ). error_head_bytes kind code (12 + length y) (xid_field refused) ++ y) e)

-- What a match, a port and a list of ports that were read say of their bytes.
use Rattle.std.proofs.Common.{◌≡◌, ℕ, zero, suc, ◌+◌, ◌*◌, ◌^◌, ◌<◌, ◌≤◌, List, ◌∷◌, ◌++◌, length, get_or, take, drop}
use Rattle.std.proofs.Common.{refl, sym, ap, ◌∙◌, append_assoc, arith, get_or-set_other, get_or-set_same}
use Rattle.std.specs.Prelude.{slice_index, slice_set}
use Rattle.std.specs.List.{flat_map, AllByRecursion}
use Rattle.std.proofs.lemmas.List.{drop-drop, drop_all, drop_more, length-set, length-drop, length-take-le, set-get_or}
use Rattle.std.proofs.lemmas.List.{take-append-drop}
use Rattle.std.proofs.lemmas.List.Concat.{flat_map-cons}
use Rattle.byteorder.specs.Endian.{big_bytes, big_number}
use Rattle.byteorder.specs.Numbers.{big_from-lt}
use Rattle.of10_actions.specs.Spelling.{IsBytes}
use Rattle.of10_actions.proofs.Digits.{IsBytes-drop}
use Rattle.of10_msgs.specs.Ranges.{HasAddress, PortFits}
use Rattle.of10_msgs.specs.Reading.{port_at, ports_at}
use Rattle.of10_msgs.specs.Spelling.{clear_match, port_bytes}
use Rattle.of10_msgs.proofs.Fields.{split}

-- a number that is read fits its bytes
pub number_lt : (n at : ℕ) (frame : List ℕ) → IsBytes frame → big_number n (drop at frame) < 256 ^ n
number_lt n at frame fits = big_from-lt 0 n (drop at frame) (IsBytes-drop at frame fits)

-- so many bytes, and then the rest
pub part : (n at : ℕ) (frame : List ℕ) → drop at frame ≡ take n (drop at frame) ++ drop (at + n) frame
part n at frame = sym (take-append-drop n (drop at frame))
    ∙ ap (λ (x : List ℕ). take n (drop at frame) ++ x) (drop-drop n at frame)

pub length_part : (n at : ℕ) (frame : List ℕ) → at + n ≤ length frame → length (take n (drop at frame)) ≡ n
length_part n at frame long = length-take-le n (drop at frame) (omega (arith, length-drop at frame))

-- a byte, and then the rest
pub byte : (at : ℕ) (frame : List ℕ) → at < length frame → drop at frame ≡ slice_index frame at ∷ drop (at + 1) frame
byte at frame lt = drop_more frame at 0 lt

-- a cleared match stays as it is
pub clear_twice : (m : List ℕ) → length m ≡ 40 → clear_match (clear_match m) ≡ clear_match m
clear_twice m long =
    let a = slice_set m 21 0 in
    let b = slice_set a 26 0 in
    let c = slice_set b 27 0 in
    let la : length a ≡ 40 = length-set m 21 0 ∙ long in
    let lb : length b ≡ 40 = length-set a 26 0 ∙ la in
    let n1 : (◌≡◌ {A = ℕ} 21 27 → ⊥) = omega arith in
    let n2 : (◌≡◌ {A = ℕ} 21 26 → ⊥) = omega arith in
    let n3 : (◌≡◌ {A = ℕ} 26 27 → ⊥) = omega arith in
    let z21 : get_or c 21 0 ≡ 0 = get_or-set_other b 27 21 0 0 n1
    ∙ (get_or-set_other a 26 21 0 0 n2 ∙ get_or-set_same m 21 0 0 (omega arith)) in
    let z26 : get_or c 26 0 ≡ 0 = get_or-set_other b 27 26 0 0 n3 ∙ get_or-set_same a 26 0 0 (omega arith) in
    let z27 : get_or c 27 0 ≡ 0 = get_or-set_same b 27 0 0 (omega arith) in
    let stays : (i : ℕ) → get_or c i 0 ≡ 0 → slice_set c i 0 ≡ c = λ i z. ap (slice_set c i) (sym z)
    ∙ set-get_or c i 0 in
    ap (λ (x : List ℕ). slice_set (slice_set x 26 0) 27 0) (stays 21 z21)
    ∙ (ap (λ (x : List ℕ). slice_set x 27 0) (stays 26 z26) ∙ stays 27 z27)

-- the bytes of a port that is read, and then the rest
pub port_found : (at : ℕ) (frame : List ℕ) → IsBytes frame → at + 48 ≤ length frame
    → drop at frame ≡ port_bytes (port_at at frame) ++ drop (at + 48) frame
unfolding port_at port_bytes
port_found at frame fits long =
    let p = port_at at frame in
    let rest = drop (at + 48) frame in
    let at2 : (k n m : ℕ) → k + n ≡ m → drop ((at + k) + n) frame ≡ drop (at + m) frame =
    λ k n m e. ap (λ (x : ℕ). drop x frame) (omega (arith, e)) in
    let number : (n k m : ℕ) → k + n ≡ m → m ≤ 48
    → drop (at + k) frame ≡ big_bytes n (big_number n (drop (at + k) frame)) ++ drop (at + m) frame =
    λ n k m e le. split n (at + k) frame fits (omega (arith, e))
    ∙ ap (λ (x : List ℕ). big_bytes n (big_number n (drop (at + k) frame)) ++ x) (at2 k n m e) in
    let name : drop (at + 8) frame ≡ take 16 (drop (at + 8) frame) ++ drop (at + 24) frame = part 16 (at + 8) frame
    ∙ ap (λ (x : List ℕ). take 16 (drop (at + 8) frame) ++ x) (at2 8 16 24 refl) in
    let f8 = number 4 44 48 refl (omega arith) in
    let f7 = number 4 40 44 refl (omega arith) ∙ ap (λ (x : List ℕ). big_bytes 4 p.supported ++ x) f8 in
    let f6 = number 4 36 40 refl (omega arith) ∙ ap (λ (x : List ℕ). big_bytes 4 p.advertised ++ x) f7 in
    let f5 = number 4 32 36 refl (omega arith) ∙ ap (λ (x : List ℕ). big_bytes 4 p.curr ++ x) f6 in
    let f4 = number 4 28 32 refl (omega arith) ∙ ap (λ (x : List ℕ). big_bytes 4 p.state ++ x) f5 in
    let f3 = number 4 24 28 refl (omega arith) ∙ ap (λ (x : List ℕ). big_bytes 4 p.config ++ x) f4 in
    let ends = big_bytes 4 p.config
    ++ (big_bytes 4 p.state
    ++ (big_bytes 4 p.curr ++ (big_bytes 4 p.advertised ++ (big_bytes 4 p.supported ++ big_bytes 4 p.peer)))) in
    let f2 = name ∙ (ap (λ (x : List ℕ). p.name ++ x) f3 ∙ sym (append_assoc p.name ends rest)) in
    let f1 = number 6 2 8 refl (omega arith) ∙ ap (λ (x : List ℕ). big_bytes 6 p.hw_addr ++ x) f2 in
    split 2 at frame fits (omega arith) ∙ ap (λ (x : List ℕ). big_bytes 2 p.port_no ++ x) f1

pub port_fits : (at : ℕ) (frame : List ℕ) → IsBytes frame → at + 48 ≤ length frame
    → PortFits (port_at at frame) × HasAddress (port_at at frame)
unfolding port_at
port_fits at frame fits long = (
  record {
    port_no = number_lt 2 at frame fits;
    name = length_part 16 (at + 8) frame (omega arith);
    config = number_lt 4 (at + 24) frame fits;
    state = number_lt 4 (at + 28) frame fits;
    curr = number_lt 4 (at + 32) frame fits;
    advertised = number_lt 4 (at + 36) frame fits;
    supported = number_lt 4 (at + 40) frame fits;
    peer = number_lt 4 (at + 44) frame fits;
  },
  number_lt 6 (at + 2) frame fits,
)

-- the bytes of ports that are read, up to the end
pub ports_found : (n at : ℕ) (frame : List ℕ) → IsBytes frame → at + 48 * n ≡ length frame
    → drop at frame ≡ flat_map port_bytes (ports_at n at frame)
unfolding ports_at
ports_found zero at frame fits whole = drop_all at frame (omega arith)
ports_found (suc n) at frame fits whole =
    port_found at frame fits (omega arith)
    ∙ (ap (λ (x : List ℕ). port_bytes (port_at at frame) ++ x) (ports_found n (at + 48) frame fits (omega arith))
    ∙ sym (flat_map-cons port_bytes (port_at at frame) (ports_at n (at + 48) frame)))

pub ports_fit : (n at : ℕ) (frame : List ℕ) → IsBytes frame → at + 48 * n ≡ length frame
    → AllByRecursion PortFits (ports_at n at frame) × AllByRecursion HasAddress (ports_at n at frame)
unfolding ports_at
ports_fit zero at frame fits whole = (tt, tt)
ports_fit (suc n) at frame fits whole =
    let first = port_fits at frame fits (omega arith) in
    let others = ports_fit n (at + 48) frame fits (omega arith) in
    ((first.0, others.0), (first.1, others.1))

-- A port that is spelled is read.
use Rattle.std.proofs.Common.{◌≡◌, ℕ, ◌+◌, ◌*◌, List, [], ◌∷◌, ◌++◌, length, take, drop, refl, sym, ap, ◌∙◌}
use Rattle.std.proofs.Common.{append_assoc, arith}
use Rattle.std.specs.List.{flat_map, AllByRecursion}
use Rattle.std.proofs.lemmas.List.{take_at, drop_at, drop-drop, length-append}
use Rattle.std.proofs.lemmas.List.Concat.{flat_map-cons}
use Rattle.byteorder.specs.Endian.{big_bytes, big_number}
use Rattle.of10_msgs.specs.Ranges.{HasAddress, PortFits}
use Rattle.of10_msgs.specs.Reading.{port_at, ports_at}
use Rattle.of10_msgs.specs.Spelling.{port_bytes}
use Rattle.of10_msgs.specs.declared.message.PhyPort.{PhyPort}
use Rattle.of10_msgs.proofs.Fields.{again, drop_past}

-- the six numbers at a port's end
abbrev ends : PhyPort → List ℕ → List ℕ
ends p rest = big_bytes 4 p.config
    ++ (big_bytes 4 p.state
    ++ (big_bytes 4 p.curr ++ (big_bytes 4 p.advertised ++ (big_bytes 4 p.supported ++ (big_bytes 4 p.peer ++ rest)))))

abbrev spread : PhyPort → List ℕ → List ℕ
spread p rest = big_bytes 2 p.port_no ++ (big_bytes 6 p.hw_addr ++ (p.name ++ ends p rest))

port_spread : (p : PhyPort) (rest : List ℕ) → port_bytes p ++ rest ≡ spread p rest
unfolding port_bytes
port_spread p rest = ap (λ (x : List ℕ). big_bytes 2 p.port_no ++ (big_bytes 6 p.hw_addr ++ x))
    (append_assoc p.name (ends p []) rest)

pub length_port : (p : PhyPort) → PortFits p → length (port_bytes p) ≡ 48
unfolding port_bytes
length_port p fits = omega (arith, length-append p.name (ends p []), fits.name)

pub port_read : (at : ℕ) (frame rest : List ℕ) (p : PhyPort) → PortFits p → HasAddress p
    → drop at frame ≡ port_bytes p ++ rest → port_at at frame ≡ p
unfolding port_at
port_read at frame rest p fits address e =
    let s : drop at frame ≡ spread p rest = e ∙ port_spread p rest in
    let place : (k : ℕ) → drop (at + k) frame ≡ drop k (spread p rest) = λ k. sym (drop-drop k at frame)
    ∙ ap (drop k) s in
    let past : (k : ℕ) → drop (16 + k) (p.name ++ ends p rest) ≡ drop k (ends p rest) =
    λ k. drop_past 16 k p.name (ends p rest) fits.name in
    let supported = big_bytes 4 p.supported ++ (big_bytes 4 p.peer ++ rest) in
    let advertised = big_bytes 4 p.advertised ++ supported in
    let curr = big_bytes 4 p.curr ++ advertised in
    let state = big_bytes 4 p.state ++ curr in
    let e0 : big_number 2 (drop at frame) ≡ p.port_no = ap (big_number 2) s
    ∙ again 2 p.port_no (big_bytes 6 p.hw_addr ++ (p.name ++ ends p rest)) fits.port_no in
    let e1 : big_number 6 (drop (at + 2) frame) ≡ p.hw_addr = ap (big_number 6) (place 2)
    ∙ again 6 p.hw_addr (p.name ++ ends p rest) address in
    let e2 : take 16 (drop (at + 8) frame) ≡ p.name = ap (take 16) (place 8)
    ∙ take_at p.name (ends p rest) 16 fits.name in
    let e3 : big_number 4 (drop (at + 24) frame) ≡ p.config = ap (big_number 4) (place 24 ∙ past 0)
    ∙ again 4 p.config state fits.config in
    let e4 : big_number 4 (drop (at + 28) frame) ≡ p.state = ap (big_number 4) (place 28 ∙ past 4)
    ∙ again 4 p.state curr fits.state in
    let e5 : big_number 4 (drop (at + 32) frame) ≡ p.curr = ap (big_number 4) (place 32 ∙ past 8)
    ∙ again 4 p.curr advertised fits.curr in
    let e6 : big_number 4 (drop (at + 36) frame) ≡ p.advertised = ap (big_number 4) (place 36 ∙ past 12)
    ∙ again 4 p.advertised supported fits.advertised in
    let e7 : big_number 4 (drop (at + 40) frame) ≡ p.supported = ap (big_number 4) (place 40 ∙ past 16)
    ∙ again 4 p.supported (big_bytes 4 p.peer ++ rest) fits.supported in
    let e8 : big_number 4 (drop (at + 44) frame) ≡ p.peer = ap (big_number 4) (place 44 ∙ past 20)
    ∙ again 4 p.peer rest fits.peer in
    λ i. record {
      port_no = e0 i;
      hw_addr = e1 i;
      name = e2 i;
      config = e3 i;
      state = e4 i;
      curr = e5 i;
      advertised = e6 i;
      supported = e7 i;
      peer = e8 i;
    }

pub ports_read : (ps : List PhyPort) (at : ℕ) (frame : List ℕ) → AllByRecursion PortFits ps
    → AllByRecursion HasAddress ps → drop at frame ≡ flat_map port_bytes ps → ports_at (length ps) at frame ≡ ps
unfolding ports_at
ports_read [] at frame fits addresses e = refl
ports_read (p ∷ ps) at frame fits addresses e =
    let s : drop at frame ≡ port_bytes p ++ flat_map port_bytes ps = e ∙ flat_map-cons port_bytes p ps in
    let first = port_read at frame (flat_map port_bytes ps) p fits.0 addresses.0 s in
    let after : drop (at + 48) frame ≡ flat_map port_bytes ps = sym (drop-drop 48 at frame)
    ∙ (ap (drop 48) s ∙ drop_at (port_bytes p) (flat_map port_bytes ps) 48 (length_port p fits.0)) in
    let others = ports_read ps (at + 48) frame fits.1 addresses.1 after in
    λ i. first i ∷ others i

pub length_ports : (ps : List PhyPort) → AllByRecursion PortFits ps → length (flat_map port_bytes ps) ≡ 48 * length ps
length_ports [] fits = refl
length_ports (p ∷ ps) fits =
    omega (
      arith,
      ap length (flat_map-cons port_bytes p ps),
      length-append (port_bytes p) (flat_map port_bytes ps),
      length_port p fits.0,
      length_ports ps fits.1,
    )

-- How many bytes entries, ports and texts take.
use Rattle.std.proofs.Common.{◌≡◌, ℕ, ◌+◌, ◌*◌, ◌^◌, ◌<◌, List, [], ◌∷◌, ◌++◌, length, map, replicate, ap, refl, ◌∙◌}
use Rattle.std.proofs.Common.{arith}
use Rattle.std.specs.Prelude.{sum}
use Rattle.std.specs.List.{flat_map}
use Rattle.std.proofs.lemmas.List.{length-append}
use Rattle.std.proofs.lemmas.List.Concat.{flat_map-cons}
use Rattle.std.proofs.lemmas.List.Sums.{sum_by-cons}
use Rattle.byteorder.specs.Endian.{big_bytes}
use Rattle.of10_stats.specs.Parts.{bytes_of}
use Rattle.of10_stats.specs.Ranges.{CanWriteBody, widths}
use Rattle.of10_stats.specs.Spelling.{body_bytes, entry_bytes, entry_size, entry_with, joined, port_bytes, port_with}
use Rattle.of10_stats.specs.declared.reply.FlowStat.{FlowStat}
use Rattle.of10_stats.specs.declared.reply.PortStat.{PortStat}
use Rattle.of10_stats.specs.declared.reply.ReplyBody.{ReplyBody}
use Rattle.of10_stats.specs.declared.reply.ReplyBody.TheVariants as bodies

pub length_entry : (e : FlowStat) → length (entry_bytes e) ≡ entry_size e
unfolding entry_with
length_entry e =
    let rest = big_bytes 4 e.duration_sec
    ++ (big_bytes 4 e.duration_nsec
    ++ (big_bytes 2 e.priority
    ++ (big_bytes 2 e.idle
    ++ (big_bytes 2 e.hard
    ++ (replicate 6 0
    ++ (big_bytes 8 e.cookie ++ (big_bytes 8 e.packets ++ (big_bytes 8 e.bytes ++ e.actions)))))))) in
    omega (arith, length-append e.m rest)

pub length_entries : (es : List FlowStat) → length (flat_map entry_bytes es) ≡ bytes_of es
length_entries [] = refl
length_entries (e ∷ es) =
    omega (
      arith,
      ap length (flat_map-cons entry_bytes e es),
      length-append (entry_bytes e) (flat_map entry_bytes es),
      length_entry e,
      length_entries es,
      sum_by-cons entry_size e es,
    )

length_port : (p : PortStat) → length (port_bytes p) ≡ 104
unfolding port_with
length_port p = refl

pub length_ports : (ps : List PortStat) → length (flat_map port_bytes ps) ≡ 104 * length ps
length_ports [] = refl
length_ports (p ∷ ps) =
    omega (
      arith,
      ap length (flat_map-cons port_bytes p ps),
      length-append (port_bytes p) (flat_map port_bytes ps),
      length_port p,
      length_ports ps,
    )

pub sum_cons : (x : ℕ) (xs : List ℕ) → sum (x ∷ xs) ≡ x + sum xs
sum_cons x xs = sum_by-cons (λ (n : ℕ). n) x xs

-- the bytes of texts
length_joined : (texts : List (List ℕ)) → length (joined texts) ≡ sum (map length texts)
length_joined [] = refl
length_joined (text ∷ texts) =
    omega (
      arith,
      ap length (flat_map-cons (λ (t : List ℕ). t) text texts),
      length-append text (joined texts),
      length_joined texts,
      sum_cons (length text) (map length texts),
    )

pub length_texts : (texts : List (List ℕ)) → map length texts ≡ widths → length (joined texts) ≡ 1056
length_texts texts e = length_joined texts ∙ ap sum e

-- every reply but a FLOW reply fits a message
pub whole_small : (body : ReplyBody) → ((entries : List FlowStat) → body ≡ bodies.Flow entries → ⊥) → CanWriteBody body
    → 12 + length (body_bytes body) < 2 ^ 16
whole_small (bodies.Desc texts) other can = omega (arith, length_texts texts can)
whole_small (bodies.Flow entries) other can = absurd (other entries refl)
whole_small (bodies.Aggregate packets bytes flows) other can = omega arith
whole_small (bodies.Table table_id name wildcards max_entries active lookup matched) other can = omega (arith, can)
whole_small (bodies.Port ports) other can = omega (arith, can)

-- Entries and ports that were read at the front of bytes are there in whole.
use Rattle.std.proofs.Common.{◌≡◌, ℕ, ◌-◌, ◌≤◌, Bool, true, false, List, length, Some, refl, sym, ap, ◌∙◌, arith}
use Rattle.std.specs.Prelude.{◌&&◌, nat_le}
use Rattle.std.proofs.lemmas.Bool.{leb-true}
use Rattle.std.proofs.lemmas.Option.{cond_some}
use Rattle.of10_actions.specs.Reading.{u16_at}
use Rattle.of10_msgs.specs.Reading.{span}
use Rattle.of10_msgs.proofs.FoundParts.{length_part}
use Rattle.of10_msgs.proofs.SpelledBodies.{length_clear}
use Rattle.of10_stats.specs.Reading.{entry_at, entry_of, port_at, port_of}
use Rattle.of10_stats.specs.Spelling.{entry_size}
use Rattle.of10_stats.specs.declared.reply.FlowStat.{FlowStat}
use Rattle.of10_stats.specs.declared.reply.PortStat.{PortStat}

pub and_both : (a b : Bool) → (a && b) ≡ true → (a ≡ true) × (b ≡ true)
and_both true b e = (refl, e)
and_both false b e = absurd cc

-- an entry that is read has the length that it says
pub size_of_entry : (bytes : List ℕ) → 88 ≤ u16_at 0 bytes → u16_at 0 bytes ≤ length bytes
    → entry_size (entry_of bytes) ≡ u16_at 0 bytes
unfolding entry_of
size_of_entry bytes least within =
    let n = u16_at 0 bytes in
    omega (
      arith,
      length_clear (span 4 40 bytes),
      length_part 40 4 bytes (omega (arith, least, within)),
      length_part (n - 88) 88 bytes (omega (arith, least, within)),
    )

pub record IsWhole (bytes : List ℕ) (e : FlowStat) : Type 0 where
  pub least : 88 ≤ u16_at 0 bytes
  pub within : u16_at 0 bytes ≤ length bytes
  pub size : entry_size e ≡ u16_at 0 bytes
  pub is : entry_of bytes ≡ e

pub entry_whole : (bytes : List ℕ) (e : FlowStat) → entry_at bytes ≡ Some e → IsWhole bytes e
entry_whole bytes e read =
    let found = cond_some (nat_le 88 (u16_at 0 bytes) && nat_le (u16_at 0 bytes) (length bytes)) (entry_of bytes) e
    read in
    let both = and_both (nat_le 88 (u16_at 0 bytes)) (nat_le (u16_at 0 bytes) (length bytes)) found.0 in
    let least = leb-true _ _ both.0 in
    let within = leb-true _ _ both.1 in
    record {
      least = least;
      within = within;
      size = ap entry_size (sym found.1)
          ∙ size_of_entry bytes least within;
      is = found.1;
    }

pub port_whole : (bytes : List ℕ) (p : PortStat) → port_at bytes ≡ Some p → (104 ≤ length bytes) × (port_of bytes ≡ p)
port_whole bytes p read =
    let found = cond_some (nat_le 104 (length bytes)) (port_of bytes) p read in
    (leb-true _ _ found.0, found.1)

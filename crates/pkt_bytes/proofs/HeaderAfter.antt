-- The header of a rewritten frame is the rewritten header.
use Rattle.std.proofs.Common.{◌≡◌, ℕ, true, List, Option, Some, None, refl, inl, inr}
use Rattle.std.proofs.lemmas.Bool.{cases_Bool}
use Rattle.of10_actions.specs.Fields.{RewriteOf}
use Rattle.of10_actions.specs.Rewriting.{apply}
use Rattle.pkt_bytes.specs.declared.ipv4.Ipv4.{Ipv4}
use Rattle.pkt_bytes.specs.Headers.{header_in}
use Rattle.pkt_bytes.specs.Ipv4.{ipv4_of}
use Rattle.pkt_bytes.specs.Numbers.{has}
use Rattle.pkt_bytes.specs.Rewritten.{rewritten}
use Rattle.pkt_bytes.specs.Touched.{AreWhole, IsRewrite}
use Rattle.pkt_bytes.proofs.PacketAfter.{packet_after}
use Rattle.pkt_bytes.proofs.PlainAfter.{after_plain, after_short}

carried : (r : RewriteOf) (in_port : ℕ) (xs : List ℕ) (found : Option Ipv4) → ipv4_of xs ≡ found → IsRewrite r
    → AreWhole r xs → has 14 xs ≡ true
    → header_in in_port (rewritten r xs) ≡ apply r (header_in in_port xs)
carried r in_port xs None is fits whole long = after_plain r in_port xs fits whole long is
carried r in_port xs (Some ip) is fits whole long =
    packet_after r in_port xs ip fits whole (record { long = long; is = is })

pub header_after : (r : RewriteOf) (in_port : ℕ) (xs : List ℕ) → IsRewrite r → AreWhole r xs
    → header_in in_port (rewritten r xs) ≡ apply r (header_in in_port xs)
header_after r in_port xs fits whole =
    elim (cases_Bool (has 14 xs)) [
      | inl e ↦ carried r in_port xs (ipv4_of xs) refl fits whole e
      | inr e ↦ after_short r in_port xs whole e
    ]

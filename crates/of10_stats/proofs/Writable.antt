-- What is read of a message can be written.
use Rattle.std.proofs.Common.{◌≡◌, ℕ, ◌+◌, ◌*◌, ◌≤◌, List, [], ◌∷◌, ◌++◌, length, Result, Ok, Err, ap, sym, ◌∙◌, arith}
use Rattle.std.specs.Prelude.{IfOk}
use Rattle.std.specs.List.{AllByRecursion}
use Rattle.std.proofs.lemmas.List.{length-append}
use Rattle.std.proofs.lemmas.List.Elements.{All-from_recursion, recursion_from_All}
use Rattle.byteorder.specs.Endian.{big_bytes}
use Rattle.of10_actions.specs.Spelling.{IsBytes}
use Rattle.of10_stats.specs.Ranges.{CanWriteBody, CanWriteEntry, CanWriteRequest, IsBody, IsEntry}
use Rattle.of10_stats.specs.Reading.{Gives, reply_in, request_in}
use Rattle.of10_stats.specs.Spelling.{SpellsBody, SpellsEach, SpellsEntry, SpellsPort, entry_size}
use Rattle.of10_stats.specs.declared.fault.StatsFault.{StatsFault}
use Rattle.of10_stats.specs.declared.reply.FlowStat.{FlowStat}
use Rattle.of10_stats.specs.declared.reply.PortStat.{PortStat}
use Rattle.of10_stats.specs.declared.reply.ReplyBody.{ReplyBody}
use Rattle.of10_stats.specs.declared.reply.ReplyBody.TheVariants as bodies
use Rattle.of10_stats.specs.declared.reply.StatsReply.{StatsReply}
use Rattle.of10_stats.specs.declared.request.StatsRequest.{StatsRequest}
use Rattle.of10_stats.proofs.Found.{reply_is_spelled, request_is_spelled}
use Rattle.of10_stats.proofs.Lengths.{length_ports}
use Rattle.of10_stats.proofs.Spelled.{clear_request}
use Rattle.of10_stats.proofs.SpelledItems.{length_port_with, length_with}

entries_writable : (es : List FlowStat) (rest : List ℕ) → length rest ≤ 65523 → SpellsEach SpellsEntry es rest
    → AllByRecursion IsEntry es → AllByRecursion CanWriteEntry es
entries_writable [] rest room spells good = tt
entries_writable (e ∷ es) rest room spells good =
    let front = spells.0 in
    let back = spells.1 in
    let s = spells.3 in
    let long : length front ≡ entry_size e = ap length s.whole ∙ length_with e s.m s.pad s.pads s.matched s.pads_fit in
    let whole : length rest ≡ length front + length back = ap length spells.2 ∙ length-append front back in (
      record { clear = good.0.clear; small = omega (arith, long, whole, room) },
      entries_writable es back (omega (arith, whole, room)) spells.4 good.1,
    )

ports_take : (ps : List PortStat) (rest : List ℕ) → SpellsEach SpellsPort ps rest → length rest ≡ 104 * length ps
ports_take [] rest spells = ap length spells
ports_take (p ∷ ps) rest spells =
    let front = spells.0 in
    let back = spells.1 in
    let s = spells.3 in
    omega (
      arith,
      ap length spells.2,
      length-append front back,
      ap length s.whole,
      length_port_with p s.pad s.pad_fits,
      ports_take ps back spells.4,
    )

body_writable : (body : ReplyBody) (rest : List ℕ) → length rest ≤ 65523 → SpellsBody body rest → IsBody body
    → CanWriteBody body
body_writable (bodies.Desc texts) rest room spells good = good
body_writable (bodies.Flow entries) rest room spells good =
    All-from_recursion CanWriteEntry entries
    (entries_writable entries rest room spells (recursion_from_All IsEntry entries good))
body_writable (bodies.Aggregate packets bytes flows) rest room spells good = omega arith
body_writable (bodies.Table table_id name wildcards max_entries active lookup matched) rest room spells good =
    omega (
      arith,
      good.0,
      length-append name
          (big_bytes 4 wildcards
          ++ (big_bytes 4 max_entries ++ (big_bytes 4 active ++ (big_bytes 8 lookup ++ big_bytes 8 matched)))),
    )
body_writable (bodies.Port ports) rest room spells good =
    omega (arith, room, ports_take ports rest spells, length_ports ports)

pub reply_writable : (bytes : List ℕ) (r : StatsReply) → IsBytes bytes → 4 ≤ length bytes → 8 + length bytes ≤ 65535
    → reply_in bytes ≡ Ok r → CanWriteBody r.body
reply_writable bytes r fits long room read =
    let found = reply_is_spelled bytes r fits long read in
    let s = found.0 in
    let whole : length bytes ≡ 4 + length s.rest = omega (arith, ap length s.whole) in
    body_writable r.body s.rest (omega (arith, whole, room)) s.body found.1

-- what calls that read a message answered
pub request_answered : (bytes : List ℕ) (answer : Result StatsRequest StatsFault) → IsBytes bytes → 4 ≤ length bytes
    → answer ≡ request_in bytes → IfOk answer CanWriteRequest
request_answered bytes (Ok r) fits long read = clear_request r (request_is_spelled bytes r fits long (sym read)).1
request_answered bytes (Err fault) fits long read = tt

pub reply_answered : (bytes : List ℕ) (answer : Result StatsReply StatsFault) → IsBytes bytes → 4 ≤ length bytes
    → 8 + length bytes ≤ 65535 → Gives answer (reply_in bytes) → IfOk answer (λ r. CanWriteBody r.body)
reply_answered bytes (Ok r) fits long room read = reply_writable bytes r fits long room (sym read)
reply_answered bytes (Err fault) fits long room read = tt

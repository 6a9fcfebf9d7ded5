-- Each message of a reply reads back as its part.
use Rattle.std.proofs.Common.{◌≡◌, ℕ, zero, suc, ◌+◌, ◌<◌, List, [], ◌∷◌, length, drop, All, false, true, Ok, refl, sym}
use Rattle.std.proofs.Common.{ap, subst, arith}
use Rattle.std.proofs.lemmas.List.Elements.{All-cons, All-drop, All-take}
use Rattle.of10_stats.specs.Parts.{part_replies, parts, replies_of}
use Rattle.of10_stats.specs.Ranges.{IsBody, IsEntry}
use Rattle.of10_stats.specs.Reading.{reply_in}
use Rattle.of10_stats.specs.Spelling.{reply_message}
use Rattle.of10_stats.specs.declared.reply.FlowStat.{FlowStat}
use Rattle.of10_stats.specs.declared.reply.ReplyBody.{ReplyBody}
use Rattle.of10_stats.specs.declared.reply.ReplyBody.TheVariants as bodies
use Rattle.of10_stats.specs.declared.reply.StatsReply.{StatsReply}
use Rattle.of10_stats.specs.Parts.{taken}
use Rattle.of10_stats.proofs.Greedy.{behind, behind_shorter, first_part, last_part, more_parts}
use Rattle.of10_stats.proofs.Spelled.{written_reply}

abbrev pub ReadsBack : ℕ → StatsReply → Type 0
ReadsBack xid r = reply_in (drop 8 (reply_message xid r)) ≡ Ok r

none_left : {A : Type 0} (P : A → Type 0) → All P []
none_left P k d lt = absurd (omega (arith, lt))

-- a part, by what is behind it
part_read : (xid : ℕ) (es rest : List FlowStat) → behind es ≡ rest → All IsEntry es
    → (0 < length (behind es) → All (ReadsBack xid) (part_replies (parts (behind es))))
    → All (ReadsBack xid) (part_replies (parts es))
part_read xid es [] is good others =
    let last : StatsReply = record { more = false; body = bodies.Flow (first_part es) } in
    let first : All IsEntry (first_part es) = All-take IsEntry (taken 0 es) es good in
    subst (All (ReadsBack xid)) (sym (last_part es (ap length is)))
    (All-cons (ReadsBack xid) last [] (written_reply last first) (none_left (ReadsBack xid)))
part_read xid es (b ∷ bs) is good others =
    let some : 0 < length (behind es) = omega (arith, ap length is) in
    let part : StatsReply = record { more = true; body = bodies.Flow (first_part es) } in
    let first : All IsEntry (first_part es) = All-take IsEntry (taken 0 es) es good in
    subst (All (ReadsBack xid)) (sym (more_parts es some))
    (All-cons (ReadsBack xid) part (part_replies (parts (behind es))) (written_reply part first) (others some))

parts_read : (xid n : ℕ) (es : List FlowStat) → length es < n → All IsEntry es
    → All (ReadsBack xid) (part_replies (parts es))
parts_read xid zero es lt good = absurd (omega (arith, lt))
parts_read xid (suc n) es lt good =
    part_read xid es (behind es) refl good
    (λ some. parts_read xid n (behind es) (omega (arith, lt, behind_shorter es some))
    (All-drop IsEntry (taken 0 es) es good))

one_read : (xid : ℕ) (body : ReplyBody) → IsBody body → All (ReadsBack xid) (record { more = false; body = body } ∷ [])
one_read xid body good =
    let whole : StatsReply = record { more = false; body = body } in
    All-cons (ReadsBack xid) whole [] (written_reply whole good) (none_left (ReadsBack xid))

pub written_replies : (xid : ℕ) (body : ReplyBody) → IsBody body → All (ReadsBack xid) (replies_of body)
written_replies xid (bodies.Desc texts) good = one_read xid (bodies.Desc texts) good
written_replies xid (bodies.Flow entries) good = parts_read xid (length entries + 1) entries (omega arith) good
written_replies xid (bodies.Aggregate packets bytes flows) good =
    one_read xid (bodies.Aggregate packets bytes flows) good
written_replies xid (bodies.Table table_id name wildcards max_entries active lookup matched) good =
    one_read xid (bodies.Table table_id name wildcards max_entries active lookup matched) good
written_replies xid (bodies.Port ports) good = one_read xid (bodies.Port ports) good

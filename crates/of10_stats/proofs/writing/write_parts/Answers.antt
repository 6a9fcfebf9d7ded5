use Rattle.std.proofs.Common.{◌≡◌, ◌<◌, ◌++◌, ◌∷◌, [], List, ℕ, All, true, false, length, map, sym, ap, subst, ◌∙◌}
use Rattle.std.proofs.Common.{take, drop, eqb-true, not, arith}
use Rattle.of10_stats.specs.Parts.{bytes_of, part_replies, parts}
use Rattle.of10_stats.specs.Ranges.{CanWriteEntry}
use Rattle.of10_stats.specs.Spelling.{reply_message}
use Rattle.of10_stats.specs.declared.reply.FlowStat.{FlowStat}
use Rattle.of10_stats.specs.declared.reply.ReplyBody.TheVariants as bodies
use Rattle.of10_stats.proofs.Greedy.{behind, behind_shorter, behind_writable, first_part, first_small, not_none}
use Rattle.of10_stats.proofs.Greedy.{sends_last, sends_more, taken_le}
use Rattle.of10_stats.proofs.writing.write_parts.Goals as goal

pub split_at-requires : goal.split_at-requires
split_at-requires c = omega (arith, c.part_length.ensures, taken_le 0 c.loop-left.left.now)

pub write_part-requires : goal.write_part-requires
write_part-requires c =
    let part = c.split_at.ensures.front ∙ ap (λ (n : ℕ). take n c.loop-left.left.now) c.part_length.ensures in
    omega (arith, ap bytes_of part, first_small c.loop-left.left.now c.loop-left.invariant.writable)

pub returns-then-is_empty : goal.returns-then-is_empty
returns-then-is_empty c =
    let left = c.loop-left.left.now in
    let part : c.split_at.result.0.now ≡ first_part left = c.split_at.ensures.front
    ∙ ap (λ (n : ℕ). take n left) c.part_length.ensures in
    let rest : c.split_at.result.1.now ≡ behind left = c.split_at.ensures.back
    ∙ ap (λ (n : ℕ). drop n left) c.part_length.ensures in
    let ended : length (behind left) ≡ 0 = ap length (sym rest) ∙ eqb-true _ _ (sym c.if-is_empty.ensures) in
    let more : not c.is_empty.result ≡ false = ap not (c.is_empty.ensures ∙ sym c.if-is_empty.ensures) in
    let message = c.in_ok-write_part.ensures
    ∙ (λ i. reply_message c.args.xid (record { more = more i; body = bodies.Flow (part i) })) in
    c.in_ok-push.ensures.pushed ∙ (ap (λ (m : List ℕ). c.loop-left.messages ++ m ∷ []) message
    ∙ sends_last c.args.xid left c.loop-left.messages
    (c.args.messages.now ++ map (reply_message c.args.xid) (part_replies (parts c.args.entries.now))) ended
    c.loop-left.invariant.so_far)

pub loop-left-smaller : goal.loop-left-smaller
loop-left-smaller c =
    let left = c.loop-left.left.now in
    let rest : c.split_at.result.1.now ≡ behind left = c.split_at.ensures.back
    ∙ ap (λ (n : ℕ). drop n left) c.part_length.ensures in
    let some : 0 < length (behind left) = subst (λ (es : List FlowStat). 0 < length es) rest
    (not_none (length c.split_at.result.1.now) (sym c.if-is_empty.ensures)) in
    subst (λ (es : List FlowStat). length es < length left) (sym rest) (behind_shorter left some)

pub loop-left-preserved : goal.loop-left-preserved
loop-left-preserved c =
    let left = c.loop-left.left.now in
    let part : c.split_at.result.0.now ≡ first_part left = c.split_at.ensures.front
    ∙ ap (λ (n : ℕ). take n left) c.part_length.ensures in
    let rest : c.split_at.result.1.now ≡ behind left = c.split_at.ensures.back
    ∙ ap (λ (n : ℕ). drop n left) c.part_length.ensures in
    let some : 0 < length (behind left) = subst (λ (es : List FlowStat). 0 < length es) rest
    (not_none (length c.split_at.result.1.now) (sym c.if-is_empty.ensures)) in
    let more : not c.is_empty.result ≡ true = ap not (c.is_empty.ensures ∙ sym c.if-is_empty.ensures) in
    let message = c.in_ok-write_part.ensures
    ∙ (λ i. reply_message c.args.xid (record { more = more i; body = bodies.Flow (part i) })) in
    let pushed = c.in_ok-push.ensures.pushed ∙ ap (λ (m : List ℕ). c.loop-left.messages ++ m ∷ []) message in
    let total = c.args.messages.now ++ map (reply_message c.args.xid) (part_replies (parts c.args.entries.now)) in
    record {
      so_far = (λ i. pushed i ++ map (reply_message c.args.xid) (part_replies (parts (rest i))))
          ∙ sends_more c.args.xid left c.loop-left.messages total some c.loop-left.invariant.so_far;
      writable = subst (λ (es : List FlowStat). All CanWriteEntry es) (sym rest)
          (behind_writable left c.loop-left.invariant.writable);
    }

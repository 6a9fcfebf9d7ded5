use Rattle.std.proofs.Common.{ap, length, map, refl, ◌∙◌}
use Rattle.std.proofs.lemmas.Result.{IfOk-weaker}
use Rattle.of10_stats.specs.declared.reply.ReplyBody.TheVariants.{Desc}
use Rattle.member_replies.specs.Statistics.{messages}
use Rattle.member_replies.proofs.Replies.{texts_fit}
use Rattle.member_replies.proofs.statistics.desc_reply.Goals as goal

pub write_reply-requires : goal.write_reply-requires
write_reply-requires c = record {
  whole = refl;
  body = ap (map length) c.in_ok-described.ensures
      ∙ texts_fit c.args.dpid c.args.name.now;
}

pub returns : goal.returns
returns c =
    IfOk-weaker c.write_reply.result _ _ (λ sent is. is
    ∙ ap (λ texts. messages c.args.xid (Desc texts)) c.in_ok-described.ensures) c.write_reply.ensures

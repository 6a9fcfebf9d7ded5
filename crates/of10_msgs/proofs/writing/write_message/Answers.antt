use Rattle.std.proofs.Common.{rules, ◌≡◌, ◌<◌, ◌^◌, ◌∙◌, ap}
use Rattle.of10_msgs.specs.Reading.{reading}
use Rattle.of10_msgs.specs.Spelling.{spelling}
use Rattle.of10_msgs.proofs.Spelled.{written_is_read}
use Rattle.of10_msgs.proofs.writing.write_message.Goals as goal

pub returns-clause-reads_back : goal.returns-clause-reads_back
returns-clause-reads_back c =
    let m = c.args.m.now in
    let written : c.write_body.new.out ≡ spelling m = search rules in
    let xid : m.xid < 2 ^ 32 = search rules in
    ap reading written
    ∙ written_is_read m (record { xid = xid; body = c.requires; fits = c.in_ok-write_body.ensures.types })

use Rattle.of10_stats.proofs.Lengths.{whole_small}
use Rattle.of10_stats.proofs.writing.write_reply.Goals as goal

pub write_whole-requires : goal.write_whole-requires
write_whole-requires c = record {
  writable = c.requires.body;
  fits = whole_small c.args.r.now.body c.in_default.not-Flow c.requires.body;
}

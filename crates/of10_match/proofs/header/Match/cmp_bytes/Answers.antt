use Rattle.std.proofs.Common.{rules}
use Rattle.of10_match.proofs.ByteOrder.{by_bytes_exact}
use Rattle.of10_match.proofs.header.Match.cmp_bytes.Goals as goal

pub returns-clause-equal : goal.returns-clause-equal
returns-clause-equal c =
    by_bytes_exact _ c.write.result c.write-2.result c.args.self.now c.args.other.now (search rules)
    c.write.ensures.names c.write-2.ensures.names c.write.ensures.value c.write-2.ensures.value

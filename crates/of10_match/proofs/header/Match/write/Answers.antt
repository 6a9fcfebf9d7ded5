use Rattle.std.proofs.Common.{subst, rules}
use Rattle.of10_match.specs.Ranges.{IsMatch}
use Rattle.of10_match.proofs.ReadingBack.{bytes_name, bytes_read, bytes_wildcards}
use Rattle.of10_match.proofs.header.Match.write.Goals as goal

pub returns-clause-wildcards : goal.returns-clause-wildcards
returns-clause-wildcards c =
    bytes_wildcards c.to_bytes.result c.args.self.now (subst IsMatch c.self.view_is c.self.invariant) (search rules)

pub returns-clause-names : goal.returns-clause-names
returns-clause-names c =
    bytes_name c.to_bytes.result c.args.self.now (subst IsMatch c.self.view_is c.self.invariant) (search rules)

pub returns-clause-reads_back : goal.returns-clause-reads_back
returns-clause-reads_back c =
    bytes_read c.to_bytes.result c.args.self.now (subst IsMatch c.self.view_is c.self.invariant) (search rules)

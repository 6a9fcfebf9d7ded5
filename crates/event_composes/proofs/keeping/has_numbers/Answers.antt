use Rattle.std.proofs.lemmas.Bool.{lt-ltb, ltb-true}
use Rattle.event_composes.proofs.Serials.{members_have}
use Rattle.event_composes.proofs.keeping.has_numbers.Goals as goal

pub returns : goal.returns
returns c = (
  (λ t. record {
    cookies = ltb-true c.args.held.now.next_cookie 18446744073709551615 t;
    serials = members_have c.args.held.now.members c.have_serials.ensures;
  }),
  (λ numbers. lt-ltb c.args.held.now.next_cookie 18446744073709551615 numbers.cookies),
)

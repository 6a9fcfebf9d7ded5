use Rattle.std.proofs.Common.{◌≡◌, ◌∙◌, sym, ap, subst, filter, Option, ℕ}
use Rattle.soft_net.specs.Entries.{is_at}
use Rattle.soft_net.specs.InsideTables.{IsKeyed, entries_in}
use Rattle.soft_net.specs.Tables.{TableOf, serials_of}
use Rattle.soft_net.proofs.Finding.{at_none, at_one}
use Rattle.soft_net.proofs.Outcomes.{if_ok}
use Rattle.soft_net.proofs.table.Table.at.Goals as goal

pub returns-in-Some : goal.returns-in-Some
returns-in-Some c =
    let es = entries_in c.self.inside.entries.entries in
    let I : Option ℕ → Type 0 = λ o. IsKeyed o c.args.key.now es in
    if_ok (λ found. found ≡ _) (λ found. found ≡ serials_of (filter (is_at c.args.key.now) c.args.self.now.entries))
    c.from_slice.result (λ found e. e ∙ (sym (at_one c.args.key.now _ es c.self.invariant.listing.rising
    (subst I (sym c.in-Some.ensures.value) (c.self.invariant.keyed c.args.key.now)))
    ∙ ap (λ (o : TableOf). serials_of (filter (is_at c.args.key.now) o.entries)) c.self.view_is))
    c.from_slice.ensures

pub returns-in-None : goal.returns-in-None
returns-in-None c =
    let es = entries_in c.self.inside.entries.entries in
    let I : Option ℕ → Type 0 = λ o. IsKeyed o c.args.key.now es in
    c.new.ensures ∙ (sym (at_none c.args.key.now es
    (subst I (sym c.in-None.ensures.value) (c.self.invariant.keyed c.args.key.now)))
    ∙ ap (λ (o : TableOf). serials_of (filter (is_at c.args.key.now) o.entries)) c.self.view_is)

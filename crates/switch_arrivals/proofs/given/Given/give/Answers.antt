use Rattle.std.proofs.Common.{List, ◌≡◌, ◌∙◌, ap, get_or, slice_set, subst, sym, true}
use Rattle.switch_arrivals.proofs.Apart.{apart_back, kept_given, none_given}
use Rattle.switch_arrivals.proofs.Places.{if_some, put_back, there}
use Rattle.switch_arrivals.specs.Claims.{AreApart, after_giving, is_nobody}
use Rattle.switch_arrivals.specs.declared.claim.Claim.{Claim}
use Rattle.switch_arrivals.proofs.given.Given.give.Goals as goal

pub invariant_of-self : goal.invariant_of-self
invariant_of-self g c =
    let same : c.give.new.self.dpid ≡ c.index-as_mut_slice-place.result.dpid =
    kept_given c.args.now (get_or c.as_mut_slice.result.now c.args.place c.index-as_mut_slice-place.result) c.give.new.self c.give.ensures.claims
    ∙ ap (λ (y : Claim g.row.L.Denot g.row.C.Denot). y.dpid) (sym c.index-as_mut_slice-place.is) in
    apart_back c.self.inside.claims c.as_mut_slice.result.now c.args.place c.index-as_mut_slice-place.result
    c.give.new.self c.as_mut_slice.ensures.value c.index-as_mut_slice-place.is same c.self.invariant

pub returns-clause-given : goal.returns-clause-given
returns-clause-given g c k at =
    let v : c.args.self.now ≡ c.self.inside.claims = cc in
    let same : c.index-as_mut_slice-place.result ≡ k =
    there c.args.self.now c.self.inside.claims c.as_mut_slice.result.now c.args.place
    c.index-as_mut_slice-place.result k v c.as_mut_slice.ensures.value c.index-as_mut_slice-place.is at in
    cc (c.give.ensures.given, c.index-as_mut_slice-place.is, same)

pub returns-clause-alone : goal.returns-clause-alone
returns-clause-alone g c k at =
    let v : c.args.self.now ≡ c.self.inside.claims = cc in
    let same : c.index-as_mut_slice-place.result ≡ k =
    there c.args.self.now c.self.inside.claims c.as_mut_slice.result.now c.args.place
    c.index-as_mut_slice-place.result k v c.as_mut_slice.ensures.value c.index-as_mut_slice-place.is at in
    if_some c.give.result c.give.ensures.alone
    (λ nobody.
    let free : is_nobody k.holder ≡ true =
    ap (λ (y : Claim g.row.L.Denot g.row.C.Denot). is_nobody y.holder) (sym same ∙ c.index-as_mut_slice-place.is)
    ∙ ap is_nobody nobody in
    let apart : AreApart c.args.self.now =
    subst (λ (zs : List (Claim g.row.L.Denot g.row.C.Denot)). AreApart zs) (sym v) c.self.invariant in
    none_given c.args.self.now c.args.place k at free apart)

pub returns-clause-claims : goal.returns-clause-claims
returns-clause-claims g c k at =
    let v : c.args.self.now ≡ c.self.inside.claims = cc in
    let same : c.index-as_mut_slice-place.result ≡ k =
    there c.args.self.now c.self.inside.claims c.as_mut_slice.result.now c.args.place
    c.index-as_mut_slice-place.result k v c.as_mut_slice.ensures.value c.index-as_mut_slice-place.is at in
    let w : c.give.new.self ≡ after_giving c.args.now k =
    cc (c.give.ensures.claims, c.index-as_mut_slice-place.is, same) in
    put_back c.args.self.now c.self.inside.claims c.as_mut_slice.result.now c.args.place c.give.new.self v
    c.as_mut_slice.ensures.value
    ∙ ap (slice_set c.args.self.now c.args.place) w

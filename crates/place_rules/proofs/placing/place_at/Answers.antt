use Rattle.std.proofs.Common.{◌∙◌, Option, Some, if◌then◌else◌, ap}
use Rattle.std.specs.Prelude.{ℕ, option_map}
use Rattle.of10_match.specs.Fields.{MatchOf}
use Rattle.of10_match.specs.Matching.{meet}
use Rattle.agreement.specs.Entries.{flat}
use Rattle.switch_meaning.specs.Placing.{entry_with, untagged}
use Rattle.switch_meaning.specs.declared.entry.PhysEntry.{PhysEntry}
use Rattle.place_rules.specs.InsideActions.{entry_by}
use Rattle.place_rules.specs.Joined.{wiring_of}
use Rattle.place_rules.proofs.placing.place_at.Goals as goal

pub returns-in-None : goal.returns-in-None
returns-in-None c =
    let w = wiring_of c.args.topology.now in
    let r = c.args.rule.now in
    ap (option_map (entry_with w c.args.site (flat r)))
    (c.in-None.ensures
    ∙ ap (λ (i : Option ℕ). option_map (λ (n : MatchOf). record n { in_port = i })
    (if c.args.site.spread then meet r.m untagged else Some r.m)) c.ingress_of-ingress.ensures)

pub returns : goal.returns
returns c =
    let w = wiring_of c.args.topology.now in
    let r = c.args.rule.now in
    ap (λ (e : PhysEntry). Some e) (c.in_ok-entry_with.ensures
    ∙ ap (λ (i : Option ℕ). entry_by w c.args.site i c.in-Some.m r) c.ingress_of-ingress.ensures)
    ∙ ap (option_map (entry_with w c.args.site (flat r)))
    (c.in-Some.ensures
    ∙ ap (λ (i : Option ℕ). option_map (λ (n : MatchOf). record n { in_port = i })
    (if c.args.site.spread then meet r.m untagged else Some r.m)) c.ingress_of-ingress.ensures)

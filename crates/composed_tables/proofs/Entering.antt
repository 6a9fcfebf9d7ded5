-- The entries of a switch, by the entrances of their rules.
use Rattle.std.proofs.Common.{◌≡◌, ℕ, Bool, true, false, List, [], ◌∷◌, ◌++◌, Option, Some, None, map, refl, sym, ap}
use Rattle.std.proofs.Common.{◌∙◌}
use Rattle.std.specs.Prelude.{filter_map, flat_map, if◌then◌else◌}
use Rattle.std.specs.List.{AllByRecursion, enumerate_from}
use Rattle.agreement.specs.Entries.{dropping, enters_on, entries_for, flat, placed, site_at}
use Rattle.agreement.specs.declared.state.Setting.{Setting}
use Rattle.hop_rules.specs.declared.delta.PortDelta.{PortDelta}
use Rattle.install_plan.proofs.Flat.{flat-mapped}
use Rattle.list_change.specs.Changes.{Changed}
use Rattle.list_change.proofs.Flat.{flat-same}
use Rattle.policy_meaning.specs.Switches.{SwitchOf}
use Rattle.policy_meaning.specs.declared.fabric.Entering.{Entering}
use Rattle.policy_meaning.specs.declared.rule.Rule.{Rule}
use Rattle.policy_meaning.proofs.Lists.{all-map}
use Rattle.switch_meaning.specs.Fixed.{fixed_entries}
use Rattle.switch_meaning.specs.Placing.{entry_of}
use Rattle.switch_meaning.specs.declared.entry.PhysEntry.{PhysEntry}
use Rattle.switch_meaning.specs.declared.entry.Site.{Site}
use Rattle.switch_meaning.specs.declared.wiring.Wiring.{Wiring}
use Rattle.composed_tables.specs.Composing.{rules_in}
use Rattle.composed_tables.specs.ComposedLaw.{EntriesByEntrance, EntriesChange}
use Rattle.composed_tables.specs.Placing.{RulesBy, changed_by, entrance, entrances, entries_of_one, rules_at}
use Rattle.composed_tables.specs.declared.part.Part.{Part}
use Rattle.composed_tables.specs.declared.part.Part.TheVariants.{Come, Gone}
use Rattle.composed_tables.proofs.Moving.{changed-each, changed-if, changed-made}

-- rules that enter at an entrance
abbrev entering_by : (Option ℕ → List Rule) → Option ℕ → Entering
entering_by rules e = record { port = e; rules = rules e }

one-is : (p : Entering → List PhysEntry) (rules : Option ℕ → List Rule) (outside : List ℕ) (b : Bool)
    → flat_map p (if b then record { port = None; rules = rules None } ∷ []
    else map (λ q. record { port = Some q; rules = rules (Some q) }) outside)
    ≡ flat_map (λ e. p (entering_by rules e)) (if b then None ∷ [] else map Some outside)
one-is p rules outside true = refl
one-is p rules outside false =
    flat-mapped p (λ q. record { port = Some q; rules = rules (Some q) }) outside
    ∙ sym (flat-mapped (λ e. p (entering_by rules e)) Some outside)

of-one : (s : Setting) (n : ℕ) (i : ℕ × SwitchOf) → entries_for s n i ≡ entries_of_one s.wiring (rules_in s) n i
of-one s n i = one-is (placed s.wiring (site_at n i.0 i.1) i.1.outside) (rules_in s i) i.1.outside i.1.whole

pub entries-by-entrance : EntriesByEntrance
entries-by-entrance s n =
    ap (λ (z : List PhysEntry). z ++ (fixed_entries s.wiring n ++ dropping s n))
    (flat-same (entries_for s n) (entries_of_one s.wiring (rules_in s) n) (of-one s n)
    (enumerate_from 0 s.network.switches))

-- the entries of rules change with them
changed-placed : (w : Wiring) (site : Site) (outside : List ℕ) (e : Option ℕ) (before after gone come : List Rule)
    → Changed before after gone come
    → Changed (placed w site outside (record { port = e; rules = before }))
    (placed w site outside (record { port = e; rules = after }))
    (placed w site outside (record { port = e; rules = gone }))
    (placed w site outside (record { port = e; rules = come }))
changed-placed w site outside e before after gone come c =
    let f = λ (r : Rule). entry_of w site (flat r) in
    changed-if (enters_on w site outside e) (filter_map f before) (filter_map f after) (filter_map f gone)
    (filter_map f come)
    (changed-made f before after gone come c)

pub entries-change : EntriesChange
entries-change w switches before after deltas exact n =
    changed-each (entries_of_one w before n) (entries_of_one w after n) (entries_of_one w (changed_by Gone deltas) n)
    (entries_of_one w (changed_by Come deltas) n)
    (enumerate_from 0 switches)
    (all-map
    (λ (i : ℕ × SwitchOf). AllByRecursion
    (λ (e : Option ℕ). Changed (before i e) (after i e) (changed_by Gone deltas i e) (changed_by Come deltas i e))
    (entrances i.1))
    (λ (i : ℕ × SwitchOf). Changed (entries_of_one w before n i) (entries_of_one w after n i)
    (entries_of_one w (changed_by Gone deltas) n i) (entries_of_one w (changed_by Come deltas) n i))
    (enumerate_from 0 switches)
    (λ i a. let put = λ (rules : RulesBy) (e : Option ℕ). placed w (site_at n i.0 i.1) i.1.outside
    (record { port = e; rules = rules i e }) in
    changed-each (put before) (put after) (put (changed_by Gone deltas)) (put (changed_by Come deltas)) (entrances i.1)
    (all-map (λ (e : Option ℕ). Changed (before i e) (after i e) (changed_by Gone deltas i e)
    (changed_by Come deltas i e))
    (λ (e : Option ℕ). Changed (put before e) (put after e) (put (changed_by Gone deltas) e)
    (put (changed_by Come deltas) e)) (entrances i.1)
    (λ e c. changed-placed w (site_at n i.0 i.1) i.1.outside e (before i e) (after i e) (changed_by Gone deltas i e)
    (changed_by Come deltas i e) c) a))
    exact)

-- the entries at the ports of a virtual switch whose rules aren't for all ports at once
pub ports-entered : (w : Wiring) (part : Part) (deltas : List PortDelta) (n v : ℕ) (x : SwitchOf) (site : Site)
    (outside : List ℕ)
    → site ≡ site_at n v x → outside ≡ x.outside → x.whole ≡ false
    → flat_map
    (λ (p : ℕ). placed w site outside
    (record { port = Some p; rules = rules_at part deltas (entrance site.v (Some p)) })) outside
    ≡ entries_of_one w (changed_by part deltas) n (v, x)
ports-entered w part deltas n v x site outside s o f =
    let put = λ (e : Option ℕ). placed w (site_at n v x) x.outside
    (record { port = e; rules = changed_by part deltas (v, x) e }) in
    let at = λ (t : Site) (ps : List ℕ). flat_map
    (λ (p : ℕ). placed w t ps (record { port = Some p; rules = rules_at part deltas (entrance t.v (Some p)) }))
    ps in
    (λ i. at (s i) (o i)) ∙ (sym (flat-mapped put Some x.outside)
    ∙ ap (λ (b : Bool). flat_map put (if b then None ∷ [] else map Some x.outside)) (sym f))

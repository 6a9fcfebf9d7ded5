-- A port that lies on a switch, and the entry of a rule there; of the entries of rules that of the best rule is the
-- best.
use Rattle.std.proofs.Common.{◌≡◌, ℕ, ◌+◌, ◌<◌, Bool, true, false, ◌&&◌, List, [], ◌∷◌, Option, Some, None, refl, ap}
use Rattle.std.proofs.Common.{◌∙◌, sym, subst, arith, eq-eqb, eqb-true}
use Rattle.std.specs.Prelude.{◌==◌, filter_map, not, option_map}
use Rattle.std.specs.List.{AllByRecursion, cons_option}
use Rattle.std.specs.Option.{option_map_or}
use Rattle.of10_match.specs.Fields.{HeaderOf, MatchOf}
use Rattle.of10_match.specs.Matching.{both, fits, holds}
use Rattle.of10_match.proofs.FieldTests.{holds-fields}
use Rattle.policy_meaning.specs.Best as rules
use Rattle.policy_meaning.specs.Leaf.{has_port}
use Rattle.policy_meaning.specs.Walk.{takes}
use Rattle.policy_meaning.specs.declared.rule.Rule.{Rule}
use Rattle.policy_meaning.proofs.Booleans.{or_right, some_injective}
use Rattle.policy_meaning.proofs.Lists.{all-filter_map, all-zip}
use Rattle.policy_meaning.proofs.Meeting.{meet_holds, meet_there, some_meet}
use Rattle.switch_meaning.specs.BestLaw.{IsBest, first, later}
use Rattle.switch_meaning.specs.Placing.{actions_of, entry_of, entry_with, ingress_of, match_written, outs_written}
use Rattle.switch_meaning.specs.Placing.{untagged}
use Rattle.switch_meaning.specs.Wirings.{outside_at}
use Rattle.switch_meaning.specs.declared.entry.FlatRule.{FlatRule}
use Rattle.switch_meaning.specs.declared.entry.PhysEntry.{PhysEntry}
use Rattle.switch_meaning.specs.declared.entry.Site.{Site}
use Rattle.switch_meaning.specs.declared.wiring.Outside.{Outside}
use Rattle.switch_meaning.specs.declared.wiring.Wiring.{Wiring}
use Rattle.switch_meaning.proofs.Items.{mapped}
use Rattle.agreement.specs.Entries.{flat, lies_on, stands_on}
use Rattle.agreement.specs.Seeing.{comes_by}
use Rattle.agreement.proofs.Alone.{Lower}
use Rattle.agreement.proofs.Levels.{left_of}
use Rattle.agreement.proofs.Turned.{by_port, rest}

-- what is known of a port that lies on a switch
pub record Lies (w : Wiring) (switch v p : ℕ) : Type 0 where
  pub o : Outside
  pub at : outside_at w v p ≡ Some o
  pub here : o.at.switch ≡ switch

lies-by : (w : Wiring) (switch v p : ℕ) (o : Option Outside) → outside_at w v p ≡ o
    → option_map_or (λ (o : Outside). o.at.switch == switch) o false ≡ true → Lies w switch v p
lies-by w switch v p None e t = cc
lies-by w switch v p (Some o) e t = record { o = o; at = e; here = eqb-true o.at.switch switch t }

pub lies-where : (w : Wiring) (switch v p : ℕ) → lies_on w switch v p ≡ true → Lies w switch v p
lies-where w switch v p t = lies-by w switch v p (outside_at w v p) refl t

-- and of ports of which some does
pub record Stands (w : Wiring) (switch v : ℕ) (ports : List ℕ) : Type 0 where
  pub port : ℕ
  pub has : has_port ports port ≡ true
  pub lies : Lies w switch v port

stands-next : (w : Wiring) (switch v p : ℕ) (ps : List ℕ) (b : Bool) → lies_on w switch v p ≡ b
    → (b ≡ false → Stands w switch v ps) → Stands w switch v (p ∷ ps)
stands-next w switch v p ps true e f =
    record { port = p; has = rw (eq-eqb p p refl) refl; lies = lies-where w switch v p e }
stands-next w switch v p ps false e f = let s = f refl in
    record { port = s.port; has = or_right (p == s.port) (has_port ps s.port) s.has; lies = s.lies }

pub stands-where : (w : Wiring) (switch v : ℕ) (ports : List ℕ) → stands_on w switch v ports ≡ true
    → Stands w switch v ports
stands-where w switch v [] t = cc
stands-where w switch v (p ∷ ps) t = stands-next w switch v p ps (lies_on w switch v p) refl
    (λ e. stands-where w switch v ps (rw e at t))

-- what is known of the entry of a rule
pub record Written (w : Wiring) (site : Site) (r : FlatRule) (d : PhysEntry) : Type 0 where
  pub left : MatchOf
  pub is_left : left_of site.spread r.m ≡ Some left
  pub m : d.m ≡ by_port (ingress_of w site r) left
  pub priority : d.priority ≡ r.level + 1
  pub actions : d.actions ≡ actions_of w site.switch (ingress_of w site r) (outs_written site r)

pub written : (w : Wiring) (site : Site) (r : FlatRule) (d : PhysEntry) → entry_of w site r ≡ Some d
    → Written w site r d
written w site r d e =
    let m = mapped (entry_with w site r) (match_written w site r) d e in
    let n = mapped (λ (m : MatchOf). by_port (ingress_of w site r) m) (left_of site.spread r.m) m.from m.was in
    record {
      left = n.from;
      is_left = n.was;
      m = ap (λ (z : PhysEntry). z.m) (sym m.is) ∙ sym n.is;
      priority = ap (λ (z : PhysEntry). z.priority) (sym m.is);
      actions = ap (λ (z : PhysEntry). z.actions) (sym m.is);
    }

abbrev pub by : PhysEntry → ℕ
by d = d.priority

-- the entries of rules that are such
module _ (w : Wiring) (site : Site) (G : Rule → Type 0) where
  abbrev entry_for : Rule → Option PhysEntry
  entry_for r = entry_of w site (flat r)

  -- by a port that none of them names, none holds a packet
  pub none-holds : (k : HeaderOf) → ((r : Rule) → G r → fits (ingress_of w site (flat r)) k.in_port ≡ false)
      → (xs : List Rule) → AllByRecursion G xs
      → AllByRecursion (λ (d : PhysEntry). holds d.m k ≡ false) (filter_map entry_for xs)
  none-holds k f xs g =
      all-filter_map G (λ (d : PhysEntry). holds d.m k ≡ false) entry_for xs
      (λ r d e n. let u = written w site (flat r) d e in ap (λ (m : MatchOf). holds m k) u.m
      ∙ ap (λ (b : Bool). b && rest u.left k) (f r n)) g

  -- where an entry passes as its rule holds a header
  module _ (h : HeaderOf) (passes : PhysEntry → Bool) (up : (r : Rule) (d : PhysEntry) → G r → entry_for r ≡ Some d
      → passes d ≡ true → holds r.m h ≡ true) where
    lower : (b x : Rule) (c d : PhysEntry) → entry_for b ≡ Some c → G x → (holds x.m h ≡ true → x.level < b.level)
        → entry_for x ≡ Some d → passes d ≡ true → by d < by c
    lower b x c d e g low f t =
        let lt : x.level < b.level = low (up x d g f t) in
        let pc = (written w site (flat b) c e).priority in let pd = (written w site (flat x) d f).priority in
        omega arith

    all-lower : (b : Rule) (c : PhysEntry) → entry_for b ≡ Some c → (xs : List Rule) → AllByRecursion G xs
        → rules.EachAt h (rules.Below b.level) xs → Lower passes by c (filter_map entry_for xs)
    all-lower b c e xs g low =
        all-filter_map (λ (x : Rule). G x × (holds x.m h ≡ true → x.level < b.level)) (λ d. passes d ≡ true
        → by d < by c) entry_for xs
        (λ x d f q. lower b x c d e q.0 q.1 f)
        (all-zip G (λ (x : Rule). holds x.m h ≡ true → x.level < b.level) xs g low)

    best-option : (o : Option PhysEntry) (ys : List PhysEntry) (c : PhysEntry)
        → ((d : PhysEntry) → o ≡ Some d → passes d ≡ true → by d < by c) → IsBest passes by ys c
        → IsBest passes by (cons_option o ys) c
    best-option None ys c f b = b
    best-option (Some d) ys c f b = later (f d refl) b

    -- the entry of the best rule is the best
    pub best-entry : {xs : List Rule} {b : Rule} (c : PhysEntry) → entry_for b ≡ Some c → passes c ≡ true
        → AllByRecursion G xs → rules.IsBest h xs b → IsBest passes by (filter_map entry_for xs) c
    best-entry c e p g (rules.first {r = r} {rs = rs} t low) =
        subst (λ (z : Option PhysEntry). IsBest passes by (cons_option z (filter_map entry_for rs)) c) (sym e)
        (first p (all-lower r c e rs g.1 low))
    best-entry c e p g (rules.later {r = r} {x = x} {rs = rs} lt best) =
        best-option (entry_for x) (filter_map entry_for rs) c (λ d f. lower r x c d e g.0 lt f)
        (best-entry c e p g.1 best)

-- the entry of a rule that holds a packet which is taken
pub record Best (w : Wiring) (site : Site) (r : FlatRule) (k : HeaderOf) : Type 0 where
  pub entry : PhysEntry
  pub is : entry_of w site r ≡ Some entry
  pub passes : holds entry.m k ≡ true

-- what is left of a match that holds a header which is taken
record Left (b : Bool) (m : MatchOf) (h : HeaderOf) : Type 0 where
  left : MatchOf
  is : left_of b m ≡ Some left
  holds_it : holds left h ≡ true

untagged-holds : (h : HeaderOf) → takes true h ≡ true → holds untagged h ≡ true
untagged-holds h e = by_tag (h.dl_vlan == 65535) refl e
  where
    by_tag : (b : Bool) → (h.dl_vlan == 65535) ≡ b → not (true && not b) ≡ true → holds untagged h ≡ true
    by_tag true t u = rw (eq-eqb 65535 h.dl_vlan (sym (eqb-true h.dl_vlan 65535 t))) refl
    by_tag false t u = cc

left-there : (b : Bool) (m : MatchOf) (h : HeaderOf) → takes b h ≡ true → holds m h ≡ true → Left b m h
left-there false m h t e = record { left = m; is = refl; holds_it = e }
left-there true m h t e = let u = meet_there m untagged h e (untagged-holds h t) in
    record { left = both m untagged; is = rw (u.1) refl; holds_it = u.0 }

pub best-there : (w : Wiring) (site : Site) (r : FlatRule) (h : HeaderOf) (a : ℕ) → takes site.spread h ≡ true
    → holds r.m h ≡ true → ((m : MatchOf) → left_of site.spread r.m ≡ Some m
    → holds (by_port (ingress_of w site r) m) (comes_by a h) ≡ holds m h) → Best w site r (comes_by a h)
best-there w site r h a t e turned =
    let l = left-there site.spread r.m h t e in
    record {
      entry = entry_with w site r (by_port (ingress_of w site r) l.left);
      is = ap (λ o. option_map (entry_with w site r) (option_map (λ (m : MatchOf). by_port (ingress_of w site r) m) o))
          l.is;
      passes = turned l.left l.is ∙ l.holds_it;
    }

-- what is left of a match holds only what is taken
pub left-takes : (b : Bool) (m n : MatchOf) (h : HeaderOf) → left_of b m ≡ Some n → holds n h ≡ true → takes b h ≡ true
left-takes false m n h e p = refl
left-takes true m n h e p =
    let s = some_meet m untagged n e in
    let u : holds untagged h ≡ true = (meet_holds m untagged h (ap (λ (z : MatchOf). holds z h) s.1 ∙ p) s.0).1 in
    let f : (65535 == h.dl_vlan) ≡ true = (holds-fields untagged h u).dl_vlan in
    rw (eq-eqb h.dl_vlan 65535 (sym (eqb-true 65535 h.dl_vlan f))) refl

pub left-all : (b : Bool) (m n : MatchOf) → b ≡ false → left_of b m ≡ Some n → m ≡ n
left-all true m n lone e = cc
left-all false m n lone e = some_injective e

pub never-taken : (b : Bool) (h : HeaderOf) → b ≡ false → takes b h ≡ false → ⊥
never-taken true h e t = cc
never-taken false h e t = cc

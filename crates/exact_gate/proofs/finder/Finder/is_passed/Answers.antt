use Rattle.std.proofs.Common.{◌≡◌, ◌∙◌, Bool, true, false, Some, None, List, if◌then◌else◌, sym, ap, subst, refl}
use Rattle.std.specs.Prelude.{nat_lt}
use Rattle.std.specs.List.{list_any}
use Rattle.of10_match.specs.Fields.{HeaderOf}
use Rattle.of10_match.specs.Matching.{is_one_header}
use Rattle.match_index.specs.Items.{IsFirst}
use Rattle.match_index.specs.Questions.{is_holding}
use Rattle.match_index.specs.declared.item.Item.{Item}
use Rattle.exact_gate.specs.InsideKeys.{header_of}
use Rattle.exact_gate.proofs.Finding.{first-over, none-over, open-not_over}
use Rattle.exact_gate.proofs.finder.Finder.is_passed.Goals as goal

-- what is known of a header that is named, or isn't
not_named : (b : Bool) (h : HeaderOf) → None ≡ (if b then Some h else None) → b ≡ false
not_named true h e = cc
not_named false h e = refl

pub record Named (b : Bool) (h g : HeaderOf) : Type 0 where
  pub exact : b ≡ true
  pub is : g ≡ h

named : (b : Bool) (h g : HeaderOf) → Some g ≡ (if b then Some h else None) → Named b h g
named true h g e = record { exact = refl; is = cc }
named false h g e = cc

pub returns-in-None : goal.returns-in-None
returns-in-None c =
    let k = c.args.key.now in
    sym (open-not_over k c.args.self.now (not_named (is_one_header k.m) (header_of k.m) c.in-None.ensures))

pub returns-in-None-best : goal.returns-in-None-best
returns-in-None-best c =
    let k = c.args.key.now in
    let n = named (is_one_header k.m) (header_of k.m) c.in-Some.header c.in-Some.ensures in
    let P : HeaderOf → List Item → Type 0 = λ h xs. list_any (is_holding h) xs ≡ false in
    sym (none-over k c.args.self.now
    (subst (λ xs. P (header_of k.m) xs) c.self.view_is
    (subst (λ h. P h c.self.inside.all.items) n.is c.in-None-best.ensures)))

pub returns-in-Some-best : goal.returns-in-Some-best
returns-in-Some-best c =
    let k = c.args.key.now in
    let n = named (is_one_header k.m) (header_of k.m) c.in-Some.header c.in-Some.ensures in
    let P : HeaderOf → List Item → Type 0 = λ h xs. IsFirst (is_holding h) xs c.in-Some-best.item in
    ap (λ n. nat_lt n c.in-Some-best.item.rank) c.from.ensures
    ∙ first-over k c.args.self.now c.in-Some-best.item n.exact
    (subst (λ xs. P (header_of k.m) xs) c.self.view_is
    (subst (λ h. P h c.self.inside.all.items) n.is c.in-Some-best.ensures))

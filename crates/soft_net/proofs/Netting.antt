-- The switches of a net under their numbers.
use Rattle.std.proofs.Common.{◌≡◌, ◌∙◌, ℕ, Bool, true, false, cond, List, [], ◌∷◌, Some, None, refl, sym, ap}
use Rattle.std.specs.BTreeMap.{insert_entry}
use Rattle.std.specs.Map.{lookup, remove_entry, set_value}
use Rattle.std.specs.Ordering.{match_ordering, nat_cmp}
use Rattle.std.specs.Prelude.{option_map}
use Rattle.std.specs.declared.cmp.Ordering.{Ordering}
use Rattle.std.specs.declared.cmp.Ordering.TheVariants.{Equal, Greater, Less}
use Rattle.soft_net.specs.Counting.{changed}
use Rattle.soft_net.specs.Nets.{SwitchOf, numbered, switch_of}
use Rattle.soft_net.specs.declared.switch.SoftSwitch.{SoftSwitch}

some_is : {X : Type 0} (x y : X) → Some x ≡ Some y → x ≡ y
some_is x y q = cc

pub lookup_numbered : (test : ℕ → Bool) (ps : List (ℕ × SoftSwitch))
    → lookup test (numbered ps) ≡ option_map switch_of (lookup test ps)
lookup_numbered test [] = refl
lookup_numbered test (p ∷ ps) = by (test p.0) (lookup_numbered test ps)
  where
    by : (b : Bool) → lookup test (numbered ps) ≡ option_map switch_of (lookup test ps)
        → cond b (Some (switch_of p.1)) (lookup test (numbered ps))
        ≡ option_map switch_of (cond b (Some p.1) (lookup test ps))
    by true m = refl
    by false m = m

-- the switch that is found is another one afterwards
pub numbered_set : (test : ℕ → Bool) (f : SwitchOf → SwitchOf) (ps : List (ℕ × SoftSwitch)) (v w : SoftSwitch)
    → lookup test ps ≡ Some v → switch_of w ≡ f (switch_of v)
    → numbered (set_value test ps w) ≡ changed test f (numbered ps)
numbered_set test f [] v w e is = refl
numbered_set test f (p ∷ ps) v w e is = by (test p.0) refl (λ m. numbered_set test f ps v w m is)
  where
    by : (b : Bool) → test p.0 ≡ b
        → (lookup test ps ≡ Some v → numbered (set_value test ps w) ≡ changed test f (numbered ps))
        → numbered (cond b ((p.0, w) ∷ ps) (p ∷ set_value test ps w))
        ≡ cond b ((p.0, f (switch_of p.1)) ∷ numbered ps) ((p.0, switch_of p.1) ∷ changed test f (numbered ps))
    by true t m =
        let same : p.1 ≡ v = some_is p.1 v (sym (ap (λ b. cond b (Some p.1) (lookup test ps)) t) ∙ e) in
        let Pair : SwitchOf → ℕ × SwitchOf = λ s. (p.0, s) in
        ap (λ s. Pair s ∷ numbered ps) (is ∙ ap (λ s. f (switch_of s)) (sym same))
    by false t m = ap (λ qs. (p.0, switch_of p.1) ∷ qs) (m (sym (ap (λ b. cond b (Some p.1) (lookup test ps)) t) ∙ e))

changed_same : (test : ℕ → Bool) (ps : List (ℕ × SwitchOf)) → changed test (λ s. s) ps ≡ ps
changed_same test [] = refl
changed_same test (p ∷ ps) = by (test p.0) (changed_same test ps)
  where
    by : (b : Bool) → changed test (λ s. s) ps ≡ ps → cond b ((p.0, p.1) ∷ ps) (p ∷ changed test (λ s. s) ps) ≡ p ∷ ps
    by true m = refl
    by false m = ap (λ qs. p ∷ qs) m

-- or is seen as it was
pub numbered_kept : (test : ℕ → Bool) (ps : List (ℕ × SoftSwitch)) (v w : SoftSwitch) → lookup test ps ≡ Some v
    → switch_of w ≡ switch_of v → numbered (set_value test ps w) ≡ numbered ps
numbered_kept test ps v w e is = numbered_set test (λ s. s) ps v w e is ∙ changed_same test (numbered ps)

pub numbered_none : (test : ℕ → Bool) (f : SwitchOf → SwitchOf) (ps : List (ℕ × SoftSwitch)) → lookup test ps ≡ None
    → changed test f (numbered ps) ≡ numbered ps
numbered_none test f [] e = refl
numbered_none test f (p ∷ ps) e = by (test p.0) refl (λ m. numbered_none test f ps m)
  where
    by : (b : Bool) → test p.0 ≡ b → (lookup test ps ≡ None → changed test f (numbered ps) ≡ numbered ps)
        → cond b ((p.0, f (switch_of p.1)) ∷ numbered ps) ((p.0, switch_of p.1) ∷ changed test f (numbered ps))
        ≡ (p.0, switch_of p.1) ∷ numbered ps
    by true t m = let q : Some p.1 ≡ None = sym (ap (λ b. cond b (Some p.1) (lookup test ps)) t) ∙ e in absurd (cc)
    by false t m = ap (λ qs. (p.0, switch_of p.1) ∷ qs) (m (sym (ap (λ b. cond b (Some p.1) (lookup test ps)) t) ∙ e))

pub numbered_inserted : (ps : List (ℕ × SoftSwitch)) (n : ℕ) (s : SoftSwitch)
    → numbered (insert_entry nat_cmp ps n s) ≡ insert_entry nat_cmp (numbered ps) n (switch_of s)
numbered_inserted [] n s = refl
numbered_inserted (p ∷ ps) n s = by (nat_cmp n p.0) (numbered_inserted ps n s)
  where
    by : (o : Ordering) → numbered (insert_entry nat_cmp ps n s) ≡ insert_entry nat_cmp (numbered ps) n (switch_of s)
        → numbered (match_ordering o ((n, s) ∷ p ∷ ps) ((p.0, s) ∷ ps) (p ∷ insert_entry nat_cmp ps n s))
        ≡ match_ordering o ((n, switch_of s) ∷ (p.0, switch_of p.1) ∷ numbered ps) ((p.0, switch_of s) ∷ numbered ps)
        ((p.0, switch_of p.1) ∷ insert_entry nat_cmp (numbered ps) n (switch_of s))
    by Less m = refl
    by Equal m = refl
    by Greater m = ap (λ qs. (p.0, switch_of p.1) ∷ qs) m

pub numbered_removed : (test : ℕ → Bool) (ps : List (ℕ × SoftSwitch))
    → numbered (remove_entry test ps) ≡ remove_entry test (numbered ps)
numbered_removed test [] = refl
numbered_removed test (p ∷ ps) = by (test p.0) (numbered_removed test ps)
  where
    by : (b : Bool) → numbered (remove_entry test ps) ≡ remove_entry test (numbered ps)
        → numbered (cond b ps (p ∷ remove_entry test ps))
        ≡ cond b (numbered ps) ((p.0, switch_of p.1) ∷ remove_entry test (numbered ps))
    by true m = refl
    by false m = ap (λ qs. (p.0, switch_of p.1) ∷ qs) m

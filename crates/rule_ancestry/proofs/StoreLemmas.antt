-- The links stay those of what is held.
use Rattle.std.proofs.Common.{◌≡◌, ◌≢◌, inl, inr, ℕ, ◌∷◌, [], arith, Bool, true, false, not, ◌&&◌, ◌||◌, List, Option}
use Rattle.std.proofs.Common.{Some, None, refl, sym, ap, ◌∙◌}
use Rattle.std.specs.Prelude.{nat_eq}
use Rattle.std.specs.Ordering.{nat_cmp, ordering_then, is_eq}
use Rattle.std.specs.declared.cmp.Ordering.{Ordering}
use Rattle.std.specs.declared.cmp.Ordering.TheVariants.{Less, Equal, Greater}
use Rattle.std.specs.Cmp.{nat_cmp_is}
use Rattle.std.specs.BTreeSet.{BTreeSet, contains}
use Rattle.std.proofs.lemmas.Bool.{cases_eq}
use Rattle.std.proofs.lemmas.Map.Lookups.{exact_unsigned}
use Rattle.rule_ancestry.specs.InsideSlots.{Updated, at}
use Rattle.rule_ancestry.specs.declared.links.Link.{Link}
use Rattle.rule_ancestry.specs.Names.{names, names_at}
use Rattle.rule_ancestry.specs.InsideLinks.{by_link, links_to, AreLinks}

then-equal : (o p : Ordering) → p ≡ Equal → is_eq (ordering_then o p) ≡ is_eq o
then-equal Less p e = refl
then-equal Equal p e = ap is_eq e
then-equal Greater p e = refl

then-unequal : (o p : Ordering) → is_eq p ≡ false → is_eq (ordering_then o p) ≡ false
then-unequal Less p e = refl
then-unequal Equal p e = e
then-unequal Greater p e = refl

unequal-by : (o : Ordering) → (o ≡ Equal → ⊥) → is_eq o ≡ false
unequal-by Less n = refl
unequal-by Equal n = absurd (n refl)
unequal-by Greater n = refl

pub equal-ids : (i j : ℕ) → j ≡ i → nat_cmp i j ≡ Equal
equal-ids i j e = sym (nat_cmp_is i j Equal (sym e))

pub unequal-ids : (i j : ℕ) → j ≢ i → is_eq (nat_cmp i j) ≡ false
unequal-ids i j n = unequal-by (nat_cmp i j) (λ e. n (sym (exact_unsigned i j e)))

pub eq-same : (i j : ℕ) → j ≡ i → nat_eq i j ≡ true
eq-same i j e = grind arith

pub eq-other : (i j : ℕ) → j ≢ i → nat_eq i j ≡ false
eq-other i j n = grind arith

or-none : (a : Bool) → (a || false) ≡ a
or-none true = refl
or-none false = refl

pub and-none : (a : Bool) → (a && false) ≡ false
and-none true = refl
and-none false = refl

not-and : (a : Bool) → (not a && a) ≡ false
not-and true = refl
not-and false = refl

module _ {N : Type 0} (cmp : N → N → Ordering) where
  -- to the id itself, the names that are borne
  links-here : (borne : List N) (id : ℕ) (q : Link N) → q.id ≡ id → links_to cmp borne id q ≡ names cmp borne q.name
  links-here [] id q e = refl
  links-here (n ∷ ns) id q e =
      ap (λ b. b || links_to cmp ns id q) (then-equal (cmp n q.name) (nat_cmp id q.id) (equal-ids id q.id e))
      ∙ ap (λ b. is_eq (cmp n q.name) || b) (links-here ns id q e)

  -- to another id, none
  links-other : (borne : List N) (id : ℕ) (q : Link N) → q.id ≢ id → links_to cmp borne id q ≡ false
  links-other [] id q n = refl
  links-other (b ∷ bs) id q n =
      ap (λ t. t || links_to cmp bs id q) (then-unequal (cmp b q.name) (nat_cmp id q.id) (unequal-ids id q.id n))
      ∙ links-other bs id q n

undo-here : (t k old mid new : Bool) → old ≡ k → (t ≡ false → mid ≡ old) → (old ≡ true → mid ≡ true)
    → new ≡ ((not t || k) && mid) → new ≡ old
undo-here true true old mid new a b c d = d ∙ c a ∙ sym a
undo-here true false old mid new a b c d = d ∙ sym a
undo-here false k old mid new a b c d = d ∙ b refl

pub undone-link : {N : Type 0} (cmp : N → N → Ordering) (borne known : List N) (id : ℕ) (q : Link N)
    (old mid new : Bool) → (q.id ≡ id → old ≡ links_to cmp known id q) → (links_to cmp borne id q ≡ false → mid ≡ old)
    → (old ≡ true → mid ≡ true) →
    new ≡ ((not (links_to cmp borne id q) || links_to cmp known id q) && mid) → new ≡ old
undone-link cmp borne known id q old mid new a b c d = elim (cases_eq q.id id) [
  | inl e ↦ undo-here (links_to cmp borne id q) (links_to cmp known id q) old mid new (a e) b c d
  | inr n ↦ d ∙ ap (λ t. (not t || links_to cmp known id q) && mid) (links-other cmp borne id q n)
      ∙ b (links-other cmp borne id q n)
]

module _ {N R : Type 0} (cmp : N → N → Ordering) (borne : R → List N) where
  pub added-links : (old new : List (Option R)) (links links' : BTreeSet (Link N)) (id : ℕ) (r : R)
      → AreLinks cmp borne old links → at old id ≡ None → Updated old new id (Some r) →
      ((q : Link N) → contains (by_link cmp) links' q ≡ (links_to cmp (borne r) id q || contains (by_link cmp) links q))
      → AreLinks cmp borne new links'
  added-links old new links links' id r are vacant up more q =
      elim (cases_eq q.id id) [
        | inl e ↦
            more q
            ∙ ap (λ b. links_to cmp (borne r) id q || b) (are q
            ∙ ap (λ o. names_at cmp borne o q.name) (ap (at old) e ∙ vacant))
            ∙ or-none (links_to cmp (borne r) id q)
            ∙ links-here cmp (borne r) id q e
            ∙ sym (ap (λ o. names_at cmp borne o q.name) (ap (at new) e ∙ up.here))
        | inr n ↦
            more q
            ∙ ap (λ b. b || contains (by_link cmp) links q) (links-other cmp (borne r) id q n)
            ∙ are q
            ∙ sym (ap (λ o. names_at cmp borne o q.name) (up.others q.id n))
      ]

  -- no name of an id that holds nothing is linked to it
  pub vacant-links : (old : List (Option R)) (links : BTreeSet (Link N)) (id : ℕ) → AreLinks cmp borne old links
      → at old id ≡ None → (q : Link N) → q.id ≡ id → contains (by_link cmp) links q ≡ false
  vacant-links old links id are vacant q e = are q ∙ ap (λ o. names_at cmp borne o q.name) (ap (at old) e ∙ vacant)

  -- those of the item that an id holds are linked to it
  pub known-links : (old : List (Option R)) (links : BTreeSet (Link N)) (id : ℕ) (r : R) → AreLinks cmp borne old links
      → at old id ≡ Some r → (q : Link N) → q.id ≡ id → contains (by_link cmp) links q ≡ links_to cmp (borne r) id q
  known-links old links id r are there q e = are q ∙ ap (λ o. names_at cmp borne o q.name) (ap (at old) e ∙ there)
      ∙ sym (links-here cmp (borne r) id q e)

  pub same-links : (old : List (Option R)) (links links' : BTreeSet (Link N)) → AreLinks cmp borne old links
      → ((q : Link N) → contains (by_link cmp) links' q ≡ contains (by_link cmp) links q)
      → AreLinks cmp borne old links'
  same-links old links links' are same q = same q ∙ are q

  pub removed-links : (old new : List (Option R)) (links links' : BTreeSet (Link N)) (id : ℕ) (r : R)
      → AreLinks cmp borne old links → at old id ≡ Some r → Updated old new id None →
      ((q : Link N) → contains (by_link cmp) links' q
      ≡ ((not (links_to cmp (borne r) id q) || false) && contains (by_link cmp) links q))
      → AreLinks cmp borne new links'
  removed-links old new links links' id r are there up less q =
      elim (cases_eq q.id id) [
        | inl e ↦
            less q
            ∙ ap (λ b. b && contains (by_link cmp) links q) (or-none (not (links_to cmp (borne r) id q)))
            ∙ ap (λ b. not b && contains (by_link cmp) links q) (links-here cmp (borne r) id q e)
            ∙ ap (λ b. not (names cmp (borne r) q.name) && b)
            (are q ∙ ap (λ o. names_at cmp borne o q.name) (ap (at old) e ∙ there))
            ∙ not-and (names cmp (borne r) q.name)
            ∙ sym (ap (λ o. names_at cmp borne o q.name) (ap (at new) e ∙ up.here))
        | inr n ↦
            less q
            ∙ ap (λ b. (not b || false) && contains (by_link cmp) links q) (links-other cmp (borne r) id q n)
            ∙ are q
            ∙ sym (ap (λ o. names_at cmp borne o q.name) (up.others q.id n))
      ]

  turned : (was is : Bool) → ((not was || is) && (is || was)) ≡ is
  turned true true = refl
  turned true false = refl
  turned false true = refl
  turned false false = refl

  -- another item under the id, whose names were linked before those of the old one went
  pub renamed-links : (old new : List (Option R)) (links more links' : BTreeSet (Link N)) (id : ℕ) (was item : R)
      → AreLinks cmp borne old links → at old id ≡ Some was → Updated old new id (Some item) →
      ((q : Link N) → contains (by_link cmp) more q
      ≡ (links_to cmp (borne item) id q || contains (by_link cmp) links q)) →
      ((q : Link N) → contains (by_link cmp) links' q
      ≡ ((not (links_to cmp (borne was) id q) || links_to cmp (borne item) id q) && contains (by_link cmp) more q))
      → AreLinks cmp borne new links'
  renamed-links old new links more links' id was item are there up first then q =
      elim (cases_eq q.id id) [
        | inl e ↦
            let w = links_to cmp (borne was) id q in
            let i = links_to cmp (borne item) id q in
            then q
            ∙ ap (λ b. (not w || i) && b) (first q ∙ ap (λ b. i || b) (known-links old links id was are there q e))
            ∙ turned w i
            ∙ links-here cmp (borne item) id q e
            ∙ sym (ap (λ o. names_at cmp borne o q.name) (ap (at new) e ∙ up.here))
        | inr n ↦
            then q
            ∙ ap (λ b. (not b || links_to cmp (borne item) id q) && contains (by_link cmp) more q)
            (links-other cmp (borne was) id q n)
            ∙ first q
            ∙ ap (λ b. b || contains (by_link cmp) links q) (links-other cmp (borne item) id q n)
            ∙ are q
            ∙ sym (ap (λ o. names_at cmp borne o q.name) (up.others q.id n))
      ]

  or-into : (a b : Bool) → (a ≡ true → b ≡ true) → b ≡ (a || b)
  or-into true b h = h refl
  or-into false b h = refl

  -- no link is wanting, where an item bears no other names
  pub fewer-links : (old : List (Option R)) (links : BTreeSet (Link N)) (id : ℕ) (item : R)
      → AreLinks cmp borne old links
      → ((name : N) → names cmp (borne item) name ≡ true → names_at cmp borne (at old id) name ≡ true) →
      (q : Link N) → contains (by_link cmp) links q ≡ (links_to cmp (borne item) id q || contains (by_link cmp) links q)
  fewer-links old links id item are fewer q =
      or-into (links_to cmp (borne item) id q) (contains (by_link cmp) links q) (elim (cases_eq q.id id) [
        | inl e ↦ λ h. are q ∙ ap (λ o. names_at cmp borne o q.name) (ap (at old) e)
            ∙ fewer q.name (sym (links-here cmp (borne item) id q e) ∙ h)
        | inr n ↦ λ h. absurd (let z : true ≡ false = sym h ∙ links-other cmp (borne item) id q n in cc)
      ])

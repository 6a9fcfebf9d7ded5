-- Links, one name at a time.
use Rattle.std.proofs.Common.{◌≡◌, ℕ, ◌+◌, ◌<◌, Bool, true, false, not, ◌&&◌, ◌||◌, cond, List, [], ◌∷◌, length, get_or}
use Rattle.std.proofs.Common.{take, drop, refl, sym, ap, ◌∙◌}
use Rattle.std.specs.Ordering.{is_eq, nat_cmp, ordering_then}
use Rattle.std.specs.declared.cmp.Ordering.{Ordering}
use Rattle.std.specs.declared.cmp.Ordering.TheVariants.{Less, Equal, Greater}
use Rattle.std.specs.Cmp.{IsTotalOrder, alike_right}
use Rattle.std.proofs.lemmas.List.Folds.{list_any_more, list_any-append}
use Rattle.std.proofs.lemmas.List.{take-append-drop}
use Rattle.rule_ancestry.specs.declared.links.Link.{Link}
use Rattle.rule_ancestry.specs.Names.{names}
use Rattle.rule_ancestry.specs.InsideLinks.{by_link, links_to}

or-more : (t a o : Bool) → cond t true (a || o) ≡ ((a || t) || o)
or-more true true o = refl
or-more true false o = refl
or-more false true o = refl
or-more false false o = refl

and-more : (t a k o : Bool) → ((not t || k) && ((not a || k) && o)) ≡ ((not (a || t) || k) && o)
and-more true true true o = refl
and-more true true false o = refl
and-more true false true o = refl
and-more true false false o = refl
and-more false true true o = refl
and-more false true false o = refl
and-more false false true o = refl
and-more false false false o = refl

or-true : (a : Bool) → (a || true) ≡ true
or-true true = refl
or-true false = refl

or-left : (a b : Bool) → (a || b) ≡ false → a ≡ false
or-left false b e = refl
or-left true b e = e

module _ {N : Type 0} (cmp : N → N → Ordering) (borne : List N) (i : ℕ) (d : N) (id : ℕ) (q : Link N) where
  pub attached : (old before after : Bool) → i < length borne → before ≡ (links_to cmp (take i borne) id q || old)
      → after ≡ cond (is_eq (by_link cmp (record { name = get_or borne i d; id = id }) q)) true before →
      after ≡ (links_to cmp (take (i + 1) borne) id q || old)
  attached old before after lt far now =
      now ∙ ap (cond (is_eq (by_link cmp (record { name = get_or borne i d; id = id }) q)) true) far
      ∙ or-more (is_eq (by_link cmp (record { name = get_or borne i d; id = id }) q)) (links_to cmp (take i borne) id q)
      old
      ∙ ap (λ b. b || old)
      (sym (list_any_more (λ n. is_eq (by_link cmp (record { name = n; id = id }) q)) borne i d lt))

  pub detached : (keep old before after : Bool) → i < length borne
      → before ≡ ((not (links_to cmp (take i borne) id q) || keep) && old)
      → after ≡ ((not (is_eq (by_link cmp (record { name = get_or borne i d; id = id }) q)) || keep) && before) →
      after ≡ ((not (links_to cmp (take (i + 1) borne) id q) || keep) && old)
  detached keep old before after lt far now =
      now ∙ ap (λ b. (not (is_eq (by_link cmp (record { name = get_or borne i d; id = id }) q)) || keep) && b) far
      ∙ and-more (is_eq (by_link cmp (record { name = get_or borne i d; id = id }) q))
      (links_to cmp (take i borne) id q) keep old
      ∙ ap (λ b. (not b || keep) && old)
      (sym (list_any_more (λ n. is_eq (by_link cmp (record { name = n; id = id }) q)) borne i d lt))

module _ {N : Type 0} (cmp : N → N → Ordering) (borne : List N) (i : ℕ) (id : ℕ) (q : Link N) where
  fewer : links_to cmp borne id q ≡ false → links_to cmp (take i borne) id q ≡ false
  fewer e =
      or-left (links_to cmp (take i borne) id q) (links_to cmp (drop i borne) id q)
      (sym (list_any-append (λ n. is_eq (by_link cmp (record { name = n; id = id }) q)) (take i borne) (drop i borne))
      ∙ ap (λ ns. links_to cmp ns id q) (take-append-drop i borne) ∙ e)

  pub untouched : (old before after : Bool) → before ≡ (links_to cmp (take i borne) id q || old) → after ≡ before
      → links_to cmp borne id q ≡ false → after ≡ old
  untouched old before after far now none = now ∙ far ∙ ap (λ b. b || old) (fewer none)

  pub still-there : (old before after : Bool) → before ≡ (links_to cmp (take i borne) id q || old) → after ≡ before
      → old ≡ true → after ≡ true
  still-there old before after far now there = now ∙ far ∙ ap (λ b. links_to cmp (take i borne) id q || b) there
      ∙ or-true (links_to cmp (take i borne) id q)

-- ---- one link less

is-equal : (o : Ordering) → is_eq o ≡ true → o ≡ Equal
is-equal Less e = absurd (cc)
is-equal Equal e = refl
is-equal Greater e = absurd (cc)

then-first : (o p : Ordering) → is_eq (ordering_then o p) ≡ true → o ≡ Equal
then-first Less p e = absurd (cc)
then-first Equal p e = refl
then-first Greater p e = absurd (cc)

then-last : (o p : Ordering) → is_eq (ordering_then o p) ≡ true → p ≡ Equal
then-last Less p e = absurd (cc)
then-last Equal p e = is-equal p e
then-last Greater p e = absurd (cc)

both-equal : (o p : Ordering) → p ≡ Equal → is_eq (ordering_then o p) ≡ is_eq o
both-equal Less p e = refl
both-equal Equal p e = ap is_eq e
both-equal Greater p e = refl

gone-or-not : (hit keep old : Bool) → (hit ≡ true → keep ≡ false) → cond hit false old ≡ ((not hit || keep) && old)
gone-or-not true keep old e = ap (λ k. k && old) (sym (e refl))
gone-or-not false keep old e = refl

module _ {N : Type 0} (cmp : N → N → Ordering) (total : IsTotalOrder cmp) where
  -- a name that is equal to another is kept as that is
  same-kept : (keep : List N) (name : N) (id : ℕ) (q : Link N)
      → is_eq (by_link cmp (record { name = name; id = id }) q) ≡ true → links_to cmp keep id q ≡ names cmp keep name
  same-kept [] name id q e = refl
  same-kept (n ∷ ns) name id q e =
      ap (λ b. b || links_to cmp ns id q)
      (both-equal (cmp n q.name) (nat_cmp id q.id) (then-last (cmp name q.name) (nat_cmp id q.id) e)
      ∙ ap is_eq (sym (alike_right total name q.name n (then-first (cmp name q.name) (nat_cmp id q.id) e))))
      ∙ ap (λ b. is_eq (cmp n name) || b) (same-kept ns name id q e)

  hit-kept : (t : Bool) (keep : List N) (name : N) (id : ℕ) (q : Link N) (old : Bool)
      → is_eq (by_link cmp (record { name = name; id = id }) q) ≡ t → names cmp keep name ≡ true
      → old ≡ ((not t || links_to cmp keep id q) && old)
  hit-kept true keep name id q old e b = ap (λ k. k && old) (sym (same-kept keep name id q e ∙ b))
  hit-kept false keep name id q old e b = refl

  pub unlinked-kept : (keep : List N) (name : N) (id : ℕ) (q : Link N) (old : Bool) → names cmp keep name ≡ true
      → old ≡ ((not (is_eq (by_link cmp (record { name = name; id = id }) q)) || links_to cmp keep id q) && old)
  unlinked-kept keep name id q old b = hit-kept (is_eq (by_link cmp (record { name = name; id = id }) q)) keep name id q
      old refl b

  pub unlinked : (keep : List N) (name : N) (id : ℕ) (q : Link N) (old after : Bool) → names cmp keep name ≡ false
      → after ≡ cond (is_eq (by_link cmp (record { name = name; id = id }) q)) false old →
      after ≡ ((not (is_eq (by_link cmp (record { name = name; id = id }) q)) || links_to cmp keep id q) && old)
  unlinked keep name id q old after b now = now
      ∙ gone-or-not (is_eq (by_link cmp (record { name = name; id = id }) q)) (links_to cmp keep id q) old
      (λ e. same-kept keep name id q e ∙ b)

-- Rules that stay are made of both sides, one after the other.
use Rattle.std.proofs.Common.{◌≡◌, ℕ, Bool, true, false, ◌||◌, List, [], ◌∷◌, ◌++◌, Option, Some, map, refl, subst, sym}
use Rattle.std.proofs.Common.{ap, ◌∙◌, append_assoc, arith, length}
use Rattle.std.specs.Prelude.{IsPermutation}
use Rattle.std.specs.List.{list_any}
use Rattle.std.specs.Ordering.{is_eq}
use Rattle.std.specs.declared.cmp.Ordering.{Ordering}
use Rattle.std.proofs.lemmas.List.{append-nil, map-append}
use Rattle.std.proofs.lemmas.List.Folds.{list_any-append}
use Rattle.std.proofs.lemmas.List.Sorted.{IsPermutation-append_comm, IsPermutation-append_left}
use Rattle.std.proofs.lemmas.List.Sorted.{IsPermutation-append_right, IsPermutation-middle, IsPermutation-sym}
use Rattle.std.proofs.lemmas.List.Sorted.{IsPermutation-to_front, IsPermutation-trans}
use Rattle.list_change.proofs.Permute.{by-equation}
use Rattle.policy_meaning.specs.declared.rule.Rule.{Rule}
use Rattle.rule_ancestry.specs.Holding.{Held, item_at, with_item}
use Rattle.rule_ancestry.specs.Names.{names, names_at}
use Rattle.made_rules.specs.Changing.{AreOld, AreWide, AreWidened, IsOld, IsWidened, NotesOne, anew, is_of, side_of}
use Rattle.made_rules.specs.Changing.{was_of, wide_of}
use Rattle.made_rules.specs.Parting.{was_of as old_of}
use Rattle.made_rules.specs.Rules.{rule_held, rules_in}
use Rattle.made_rules.specs.declared.made.Made.{Made}
use Rattle.made_rules.specs.declared.made.Origin.{Origin}
use Rattle.made_rules.specs.declared.parting.Both.{Both}
use Rattle.made_rules.specs.declared.stay.Stay.{Stay}
use Rattle.made_rules.proofs.Ids.{Rising, in-place, item-there, same-held}

left-or : (a b : Bool) → b ≡ true → (a || b) ≡ true
left-or true b e = refl
left-or false b e = e

module _ {N : Type 0} where
  any-of-both : (us vs : List N) (P : N → Bool) → list_any P us ≡ true → list_any P (us ++ vs) ≡ true
  any-of-both us vs P e = list_any-append P us vs ∙ ap (λ b. b || list_any P vs) e

  any-of-later : (us vs : List N) (P : N → Bool) → list_any P vs ≡ true → list_any P (us ++ vs) ≡ true
  any-of-later us vs P e = list_any-append P us vs ∙ left-or (list_any P us) (list_any P vs) e

module _ {X : Type 0} where
  pub at-front : (s rest : List X) (x : X) → IsPermutation s (rest ++ x ∷ []) → IsPermutation s (x ∷ rest)
  at-front s rest x p = IsPermutation-trans s _ _ p (IsPermutation-to_front rest x)

  pub at-end : (s rest : List X) (x : X) → IsPermutation s (x ∷ rest) → IsPermutation s (rest ++ x ∷ [])
  at-end s rest x p = IsPermutation-trans s _ _ p (IsPermutation-sym _ _ (IsPermutation-to_front rest x))

  -- the last but one goes to the end, and back among the first
  last-out : (a b : List X) (x : X) → IsPermutation (a ++ (b ++ x ∷ [])) ((a ++ b) ++ x ∷ [])
  last-out a b x = by-equation _ _ (sym (append_assoc a b (x ∷ [])))

  last-in : (a d b : List X) (x : X) → IsPermutation (((a ++ d) ++ b) ++ x ∷ []) ((a ++ x ∷ d) ++ b)
  last-in a d b x =
      IsPermutation-trans _ (((x ∷ []) ++ (a ++ d)) ++ b) _ (IsPermutation-append_comm ((a ++ d) ++ b) (x ∷ []))
      (IsPermutation-append_left b (x ∷ (a ++ d)) (a ++ x ∷ d) (IsPermutation-sym _ _ (IsPermutation-middle a x d)))

-- ---- rules that stay are made of one side alone
module _ (held rest : List (Held Made)) (stay : Stay) (up : Rising held)
    (p : IsPermutation held (rest ++ wide_of stay ∷ [])) where
  pub wide-there : item_at held stay.id ≡ Some ((wide_of stay).item)
  wide-there = item-there held rest (wide_of stay) up (at-front held rest (wide_of stay) p)

  pub narrowed : (back : Bool) (new : List (Held Made)) (item : Made) → item ≡ (side_of back stay).item
      → new ≡ with_item stay.id item held → IsPermutation new (rest ++ side_of back stay ∷ [])
  narrowed true new item i e =
      rw (e, i)
      (at-end _ _ _ (in-place held rest (wide_of stay) ((was_of stay).item) up (at-front held rest (wide_of stay) p)))
  narrowed false new item i e =
      rw (e, i)
      (at-end _ _ _ (in-place held rest (wide_of stay) ((is_of stay).item) up (at-front held rest (wide_of stay) p)))

-- some are, and some are not yet
pub record Narrowed (rest now : List (Held Made)) (stays left : List Stay) (back : Bool) : Type 0 where
  pub done : List Stay
  pub parts : stays ≡ left ++ done
  pub all : IsPermutation now ((rest ++ map (side_of back) done) ++ map wide_of left)

abbrev pub Narrowing : List (Held Made) → List (Held Made) → List Stay → List Stay → Bool → Type 0
Narrowing first now stays left back = (rest : List (Held Made)) → IsPermutation first (rest ++ map wide_of stays)
    → Narrowed rest now stays left back

pub narrowing-none : (first : List (Held Made)) (stays : List Stay) (back : Bool)
    → Narrowing first first stays stays back
narrowing-none first stays back rest p = record {
  done = [];
  parts = sym (append-nil stays);
  all = subst (λ z. IsPermutation first (z ++ map wide_of stays)) (sym (append-nil rest)) p;
}

pub narrowing-next : (rest now : List (Held Made)) (stays left left' : List Stay) (back : Bool) (stay : Stay)
    → left ≡ left' ++ stay ∷ [] → (n : Narrowed rest now stays left back) →
    IsPermutation now (((rest ++ map (side_of back) n.done) ++ map wide_of left') ++ wide_of stay ∷ [])
narrowing-next rest now stays left left' back stay e n =
    let a = rest ++ map (side_of back) n.done in
    IsPermutation-trans _ _ _ n.all
    (by-equation _ _ (ap (λ z. a ++ map wide_of z) e ∙ ap (λ z. a ++ z) (map-append wide_of left' (stay ∷ []))
    ∙ sym (append_assoc a (map wide_of left') (wide_of stay ∷ []))))

pub narrowing-more : (first now now' : List (Held Made)) (stays left left' : List Stay) (back : Bool) (stay : Stay)
    → left ≡ left' ++ stay ∷ [] → Narrowing first now stays left back →
    ((rest : List (Held Made)) → IsPermutation now (rest ++ wide_of stay ∷ [])
    → IsPermutation now' (rest ++ side_of back stay ∷ [])) → Narrowing first now' stays left' back
narrowing-more first now now' stays left left' back stay e h one rest p =
    let n = h rest p in
    record {
      done = stay ∷ n.done;
      parts = n.parts ∙ ap (λ z. z ++ n.done) e ∙ append_assoc left' (stay ∷ []) n.done;
      all = IsPermutation-trans _ _ _ (one _ (narrowing-next rest now stays left left' back stay e n))
          (last-in rest (map (side_of back) n.done) (map wide_of left') (side_of back stay));
    }

pub narrowing-all : (first now : List (Held Made)) (stays left : List Stay) (back : Bool) → left ≡ []
    → Narrowing first now stays left back → (rest : List (Held Made)) → IsPermutation first (rest ++ map wide_of stays)
    → IsPermutation now (rest ++ map (side_of back) stays)
narrowing-all first now stays left back e h rest p =
    let n = h rest p in
    IsPermutation-trans _ _ _ n.all
    (by-equation _ _ (ap (λ z. (rest ++ map (side_of back) n.done) ++ map wide_of z) e ∙ append-nil _
    ∙ ap (λ z. rest ++ map (side_of back) z) (sym (n.parts ∙ ap (λ z. z ++ n.done) e))))

-- what was made of one side is made of both
pub narrow-fewer : (cmp : Origin → Origin → Ordering) (back : Bool) (stay : Stay) (o : Option Made) (item : Made)
    → item ≡ (side_of back stay).item → o ≡ Some (wide_of stay).item →
    (name : Origin) → names cmp item.origins name ≡ true → names_at cmp (λ m. m.origins) o name ≡ true
narrow-fewer cmp true stay o item i e name h =
    ap (λ z. names_at cmp (λ m. m.origins) z name) e
    ∙ any-of-both stay.was stay.is (λ n. is_eq (cmp n name))
    (ap (λ (m : Made). names cmp m.origins name) (sym i) ∙ h)
narrow-fewer cmp false stay o item i e name h =
    ap (λ z. names_at cmp (λ m. m.origins) z name) e
    ∙ any-of-later stay.was stay.is (λ n. is_eq (cmp n name))
    (ap (λ (m : Made). names cmp m.origins name) (sym i) ∙ h)

-- some are made of both, and some are not yet
pub record Widening (rest was : List (Held Made)) (all left : List Both) (held : List (Held Made))
    (stays : List Stay) : Type 0 where
  pub first : List (Held Made)
  pub todo : List (Held Made)
  pub done : List Both
  pub parts : was ≡ first ++ todo
  pub all_are : all ≡ done ++ left
  pub same : rules_in todo ≡ map old_of left
  pub wide : AreWidened (rest ++ todo) first done held stays

module _ {X : Type 0} where
  -- the first that is still to do goes to the end
  out : (rest todo m : List X) (t : X) → IsPermutation ((rest ++ t ∷ todo) ++ m) (((rest ++ todo) ++ m) ++ t ∷ [])
  out rest todo m t =
      IsPermutation-trans _ ((rest ++ (todo ++ t ∷ [])) ++ m) _
      (IsPermutation-append_left m _ _
      (IsPermutation-append_right rest (t ∷ todo) (todo ++ t ∷ []) (IsPermutation-append_comm (t ∷ []) todo)))
      (IsPermutation-trans _ (((rest ++ todo) ++ t ∷ []) ++ m) _
      (by-equation _ _ (ap (λ z. z ++ m) (sym (append_assoc rest todo (t ∷ [])))))
      (IsPermutation-trans _ ((rest ++ todo) ++ (t ∷ [] ++ m)) _
      (by-equation _ _ (append_assoc (rest ++ todo) (t ∷ []) m))
      (IsPermutation-trans _ ((rest ++ todo) ++ (m ++ t ∷ [])) _
      (IsPermutation-append_right (rest ++ todo) _ _ (IsPermutation-append_comm (t ∷ []) m))
      (by-equation _ _ (sym (append_assoc (rest ++ todo) m (t ∷ [])))))))

pub widening-none : (rest was : List (Held Made)) (both : List Both) (held : List (Held Made)) (stays : List Stay)
    → rules_in was ≡ map old_of both → IsPermutation held (rest ++ was) → stays ≡ []
    → Widening rest was both both held stays
widening-none rest was both held stays same p e = record {
  first = [];
  todo = was;
  done = [];
  parts = refl;
  all_are = refl;
  same = same;
  wide = record {
    as_was = ap (map was_of) e;
    as_is = ap (map is_of) e;
    all = IsPermutation-trans _ _ _ p
        (by-equation _ _ (sym (ap (λ z. (rest ++ was) ++ map wide_of z) e ∙ append-nil (rest ++ was))));
  };
}

record Next (rest was : List (Held Made)) (all left : List Both) (one : Both) (held : List (Held Made))
    (stays : List Stay) : Type 0 where
  first : List (Held Made)
  now : Held Made
  todo : List (Held Made)
  done : List Both
  parts : was ≡ first ++ now ∷ todo
  all_are : all ≡ done ++ one ∷ left
  here : rule_held now ≡ old_of one
  same : rules_in todo ≡ map old_of left
  wide : AreWidened (rest ++ now ∷ todo) first done held stays

next-of : (rest was : List (Held Made)) (all left : List Both) (one : Both) (held : List (Held Made))
    (stays : List Stay) → Widening rest was all (one ∷ left) held stays → Next rest was all left one held stays
next-of rest was all left one held stays w = by-todo w.todo w.parts w.same w.wide
  where
    by-todo : (todo : List (Held Made)) → was ≡ w.first ++ todo → rules_in todo ≡ map old_of (one ∷ left)
        → AreWidened (rest ++ todo) w.first w.done held stays → Next rest was all left one held stays
    by-todo [] p e a = absurd (cc)
    by-todo (t ∷ todo) p e a =
        let head : rule_held t ≡ old_of one = cc in
        let tail : rules_in todo ≡ map old_of left = cc in
        record {
          first = w.first;
          now = t;
          todo = todo;
          done = w.done;
          parts = p;
          all_are = w.all_are;
          here = head;
          same = tail;
          wide = a;
        }

pub widening-old : (rest was : List (Held Made)) (all left : List Both) (one : Both) (held : List (Held Made))
    (stays : List Stay) → Widening rest was all (one ∷ left) held stays → IsOld held one
widening-old rest was all left one held stays w =
    let n = next-of rest was all left one held stays w in
    record {
      rest = (rest ++ n.todo) ++ map wide_of stays;
      was = n.now;
      same = n.here;
      all = IsPermutation-trans _ _ _ n.wide.all (out rest n.todo (map wide_of stays) n.now);
    }

pub widening-more : (rest was : List (Held Made)) (all left : List Both) (one : Both) (held held' : List (Held Made))
    (stays stays' : List Stay) → Widening rest was all (one ∷ left) held stays →
    ((rest : List (Held Made)) (was : Held Made) → rule_held was ≡ old_of one → IsPermutation held (rest ++ was ∷ [])
    → NotesOne rest was one held' stays stays') → Widening rest was all left held' stays'
widening-more rest was all left one held held' stays stays' w did =
    let n = next-of rest was all left one held stays w in
    let o = did ((rest ++ n.todo) ++ map wide_of stays) n.now n.here
    (IsPermutation-trans _ _ _ n.wide.all (out rest n.todo (map wide_of stays) n.now)) in
    let d = o.widened in
    let stay = o.stay in
    let e = o.noted in
    record {
      first = n.first ++ n.now ∷ [];
      todo = n.todo;
      done = n.done ++ one ∷ [];
      parts = n.parts ∙ sym (append_assoc n.first (n.now ∷ []) n.todo);
      all_are = n.all_are ∙ sym (append_assoc n.done (one ∷ []) left);
      same = n.same;
      wide = record {
        as_was = ap (map was_of) e ∙ map-append was_of stays (stay ∷ []) ∙ ap (λ z. z ++ was_of stay ∷ []) n.wide.as_was
            ∙ ap (λ z. n.first ++ z ∷ []) d.as_was;
        as_is = ap (map is_of) e ∙ map-append is_of stays (stay ∷ []) ∙ ap (λ z. z ++ is_of stay ∷ []) n.wide.as_is
            ∙ ap (λ z. map anew n.done ++ z ∷ []) d.as_is ∙ sym (map-append anew n.done (one ∷ []));
        all = IsPermutation-trans _ _ _ d.all
            (by-equation _ _ (append_assoc (rest ++ n.todo) (map wide_of stays) (wide_of stay ∷ [])
            ∙ ap (λ z. (rest ++ n.todo) ++ z) (sym (ap (map wide_of) e ∙ map-append wide_of stays (stay ∷ [])))));
      };
    }

pub widening-all : (rest was : List (Held Made)) (both left : List Both) (held : List (Held Made)) (stays : List Stay)
    → left ≡ [] → Widening rest was both left held stays → AreWidened rest was both held stays
widening-all rest was both left held stays none w = by-todo w.todo w.parts (w.same ∙ ap (map old_of) none) w.wide
  where
    all-done : both ≡ w.done
    all-done = w.all_are ∙ ap (λ z. w.done ++ z) none ∙ append-nil w.done

    by-todo : (todo : List (Held Made)) → was ≡ w.first ++ todo → rules_in todo ≡ []
        → AreWidened (rest ++ todo) w.first w.done held stays → AreWidened rest was both held stays
    by-todo [] p e a = record {
      as_was = a.as_was ∙ sym (p ∙ append-nil w.first);
      as_is = a.as_is ∙ ap (map anew) (sym all-done);
      all = IsPermutation-trans _ _ _ a.all (by-equation _ _ (ap (λ z. z ++ map wide_of stays) (append-nil rest)));
    }
    by-todo (t ∷ todo) p e a = absurd (cc)

pub widening-wide : (rest was : List (Held Made)) (all left : List Both) (held : List (Held Made)) (stays : List Stay)
    → Widening rest was all left held stays → AreWide held stays
widening-wide rest was all left held stays w = (rest ++ w.todo, w.wide.all)

-- they are narrowed back
pub widening-undone : (first held new rest was : List (Held Made)) (all left : List Both) (stays : List Stay)
    → Rising first → Rising new → IsPermutation first (rest ++ was) → (w : Widening rest was all left held stays) →
    ((rest : List (Held Made)) → IsPermutation held (rest ++ map wide_of stays)
    → IsPermutation new (rest ++ map was_of stays)) → new ≡ first
widening-undone first held new rest was all left stays up rise p w back =
    same-held new first rise up
    (IsPermutation-trans _ _ _ (back (rest ++ w.todo) w.wide.all)
    (IsPermutation-trans _ _ _ (by-equation _ _ (ap (λ z. (rest ++ w.todo) ++ z) w.wide.as_was))
    (IsPermutation-trans _ _ _ (by-equation _ _ (append_assoc rest w.todo w.first))
    (IsPermutation-trans _ _ _ (IsPermutation-append_right rest _ _ (IsPermutation-append_comm w.todo w.first))
    (IsPermutation-trans _ _ _ (by-equation _ _ (ap (λ z. rest ++ z) (sym w.parts))) (IsPermutation-sym _ _ p))))))

-- ---- one rule that stays is made of both sides
by-parts : (store new rest : List (Held Made)) (id id' : ℕ) (wr br : Rule) (wo bo origins : List Origin) (field : Made)
    → id ≡ id' → wr ≡ br → Rising store →
    IsPermutation store (rest ++ (record { id = id; item = record { rule = wr; origins = wo } }) ∷ [])
    → item_at store id' ≡ Some field → origins ≡ wo ++ bo
    → new ≡ with_item id' (record { rule = br; origins = origins }) store →
    IsWidened rest (record { id = id; item = record { rule = wr; origins = wo } })
    (record { id = id'; made = record { rule = br; origins = bo } }) new
    (record { id = id'; rule = field.rule; was = field.origins; is = bo })
by-parts store new rest id id' wr br wo bo origins field i r up p there o n =
    let was : Held Made = record { id = id'; item = record { rule = br; origins = wo } } in
    let q : IsPermutation store (rest ++ was ∷ []) =
    subst
    (λ (z : Rule). IsPermutation store
    (rest ++ (record { id = id'; item = record { rule = z; origins = wo } }) ∷ [])) r
    (subst
    (λ (z : ℕ). IsPermutation store (rest ++ (record { id = z; item = record { rule = wr; origins = wo } }) ∷ [])) i
    p) in
    let e : Some field ≡ Some was.item = sym there ∙ item-there store rest was up (at-front store rest was q) in
    let f : field ≡ was.item = cc in
    record {
      as_was =
          ap (λ (m : Made). record { id = id'; item = m }) f
          ∙ ap (λ (z : Rule). record { id = id'; item = record { rule = z; origins = wo } }) (sym r)
          ∙ ap (λ (z : ℕ). record { id = z; item = record { rule = wr; origins = wo } }) (sym i);
      as_is = ap (λ (m : Made). record { id = id'; item = record { rule = m.rule; origins = bo } }) f;
      all =
          subst
          (λ (m : Made). IsPermutation new
          (rest ++ (record { id = id'; item = record { rule = m.rule; origins = m.origins ++ bo } }) ∷ [])) (sym f)
          (subst
          (λ z. IsPermutation z
          (rest ++ (record { id = id'; item = record { rule = br; origins = wo ++ bo } }) ∷ []))
          (sym (n ∙ ap (λ z. with_item id' (record { rule = br; origins = z }) store) o))
          (at-end _ _ _ (in-place store rest was (record { rule = br; origins = wo ++ bo }) up
          (at-front store rest was q))));
    }

pub widened-one : (store new rest : List (Held Made)) (was : Held Made) (both : Both) (origins : List Origin)
    (field : Made) → Rising store → rule_held was ≡ old_of both → IsPermutation store (rest ++ was ∷ []) →
    item_at store both.id ≡ Some field → origins ≡ was.item.origins ++ both.made.origins
    → new ≡ with_item both.id (record { rule = both.made.rule; origins = origins }) store →
    IsWidened rest was both new
    (record { id = both.id; rule = field.rule; was = field.origins; is = both.made.origins })
widened-one store new rest was both origins field up same p there o n =
    by-parts store new rest was.id both.id was.item.rule both.made.rule was.item.origins both.made.origins origins field
    (ap (λ (h : Held Rule). h.id) same) (ap (λ (h : Held Rule). h.item) same) up p there o n

-- what the id of a rule that is made again holds
pub old-there : (store rest : List (Held Made)) (was : Held Made) (both : Both) → Rising store
    → rule_held was ≡ old_of both → IsPermutation store (rest ++ was ∷ []) → item_at store both.id ≡ Some was.item
old-there store rest was both up same p =
    subst (λ (z : ℕ). item_at store z ≡ Some was.item) (ap (λ (h : Held Rule). h.id) same)
    (item-there store rest was up (at-front store rest was p))

pub nothing-left : {X : Type 0} (xs : List X) → length xs ≡ 0 → xs ≡ []
nothing-left [] h = refl
nothing-left (x ∷ xs) h = absurd (omega arith)

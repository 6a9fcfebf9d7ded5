-- Cookies are given.
use Rattle.std.proofs.Common.{◌≡◌, ℕ, ◌⊎◌, inl, inr, Bool, true, false, cond, List, [], ◌∷◌, ◌++◌, refl, sym, ap, subst}
use Rattle.std.proofs.Common.{◌∙◌, map, true≢false}
use Rattle.std.specs.Prelude.{Option, Some, None, IsSome, is_some, option_to_list, unwrap_or, if◌then◌else◌}
use Rattle.std.specs.BTreeMap.{is_at}
use Rattle.std.specs.List.{AllByRecursion}
use Rattle.std.specs.List.Sorted.{IsStrictlySortedBy}
use Rattle.of10_match.specs.Ranges.{IsMatch}
use Rattle.switch_meaning.specs.declared.entry.PhysEntry.{PhysEntry}
use Rattle.switch_meaning.proofs.Alike.{entry_decides}
use Rattle.switch_meaning.proofs.Members.{IsIn, here, in-left, in-right}
use Rattle.install_plan.specs.InsideNumbering.{come, cookie_for, entries_at, entries_of, gone, head, is_same_head}
use Rattle.install_plan.specs.InsideNumbering.{numbered_at, past}
use Rattle.install_plan.specs.InsideSlots.{Fits, Slots, as_is, as_saved, by_ancestry, first, key_of, order, slot_at}
use Rattle.install_plan.specs.InsideSlots.{table_by, top}
use Rattle.install_plan.specs.Tables.{after, entry_of, numbered}
use Rattle.install_plan.specs.declared.key.Key.{Key}
use Rattle.install_plan.specs.declared.slot.Slot.{Slot}
use Rattle.install_plan.specs.declared.written.Written.{Written}
use Rattle.install_plan.proofs.Keyed.{Rise, at_exact, at_flips, flat-written, found-in, found-written, in-flat}
use Rattle.install_plan.proofs.Keyed.{in-found}
use Rattle.install_plan.proofs.Writing.{fit-of, found}

pub entries-numbered : (n : ℕ) (es : List PhysEntry) → map entry_of (numbered n es) ≡ es
entries-numbered n [] = refl
entries-numbered n (e ∷ es) = ap (λ xs. e ∷ xs) (entries-numbered (after n) es)

-- one entry more, if there is one
pub numbered-more : (o : Option PhysEntry) (n : ℕ) (es : List PhysEntry)
    → numbered n (option_to_list o ++ es) ≡ numbered n (option_to_list o) ++ numbered (past o n) es
numbered-more None n es = refl
numbered-more (Some e) n es = refl

append-assoc : {A : Type 0} (xs ys zs : List A) → (xs ++ ys) ++ zs ≡ xs ++ (ys ++ zs)
append-assoc [] ys zs = refl
append-assoc (x ∷ xs) ys zs = ap (λ ws. x ∷ ws) (append-assoc xs ys zs)

-- a step of a loop that appends
pub list-step : {A : Type 0} (old new more rest all : List A) → new ≡ old ++ more → old ++ (more ++ rest) ≡ all
    → new ++ rest ≡ all
list-step old new more rest all e h = ap (λ xs. xs ++ rest) e ∙ (append-assoc old more rest ∙ h)

pub numbered-step : (old new : List Written) (o : Option PhysEntry) (n m : ℕ) (rest : List PhysEntry)
    (all : List Written)
    → new ≡ old ++ numbered n (option_to_list o) → m ≡ past o n → old ++ numbered n (option_to_list o ++ rest) ≡ all
    → new ++ numbered m rest ≡ all
numbered-step old new o n m rest all e f h =
    ap (λ k. new ++ numbered k rest) f
    ∙ list-step old new (numbered n (option_to_list o)) (numbered (past o n) rest) all e
    (ap (λ xs. old ++ xs) (sym (numbered-more o n rest)) ∙ h)

-- a cookie leaves the entries

pub entries-kept : (k q : Key) (c : ℕ) (slots : Slots) → IsSome (slot_at k slots)
    → entries_at (numbered_at k c slots) q ≡ entries_at slots q
entries-kept k q c slots t =
    let f = found (slot_at k slots) t in
    ap entries_of (found-written k q f.0 (record { entries = entries_at slots k; cookie = c }) slots f.1)
    ∙ by (is_at (order k) q) refl
  where
    by : (b : Bool) → is_at (order k) q ≡ b
        → entries_of (cond b (Some (record { entries = entries_at slots k; cookie = c })) (slot_at q slots))
        ≡ entries_at slots q
    by true e = ap (entries_at slots) (at_exact k q e)
    by false e = refl

module _ (k : Key) (c : ℕ) (slots : Slots) (s : Slot) (e : slot_at k slots ≡ Some s) where
  abbrev pub new_slot : Slot
  new_slot = record { entries = entries_at slots k; cookie = c }

  pub same-entries : s.entries ≡ entries_at slots k
  same-entries = sym (ap entries_of e)

  pub numbered-fits : AllByRecursion Fits slots → Fits (k, new_slot)
  numbered-fits a =
      let f = fit-of k s slots a e in
      record {
        keys = subst (λ es. AllByRecursion (λ (d : PhysEntry). (key_of d ≡ k) × IsMatch d.m) es) same-entries f.keys;
        rising = subst (IsStrictlySortedBy by_ancestry) same-entries f.rising;
      }

  pub numbered-entries : (table_by as_is (numbered_at k c slots)).entries ≡ (table_by as_is slots).entries
  numbered-entries = flat-written (λ (p : Key × Slot). p.1.entries) (is_at (order k)) s new_slot slots e
      (λ q t. sym same-entries)

-- what is not yet numbered stands as it stood, or under a cookie of the batch
abbrev pub Stands : List Written → List Written → Slots → Slots → Type 0
Stands old adds rest slots = (p : Key × Slot) → IsIn p slots → (w : Written) → top p.1 ≡ Some w
    → (IsIn w old ⊎ IsIn w adds) ⊎ IsSome (slot_at p.0 rest)

pub some-same : {A : Type 0} {x y : A} → Some x ≡ Some y → x ≡ y
some-same e = cc

pub none-some : {A B : Type 0} {x : A} → None ≡ Some x → B
none-some e = cc

-- what stands of a slot that was numbered
pub numbered-top : (old : Slot) (es : List PhysEntry) (n : ℕ) (w : Written) → first es (cookie_for old es n) ≡ Some w
    → (top old ≡ Some w) ⊎ IsIn w (numbered n (option_to_list (come old es)))
numbered-top old [] n w e = none-some e
numbered-top old (d ∷ ds) n w e = by (is_same_head (head old.entries) (Some d)) refl
  where
    new : is_same_head (head old.entries) (Some d) ≡ false → IsIn w (numbered n (option_to_list (come old (d ∷ ds))))
    new t =
        let c : come old (d ∷ ds) ≡ Some d = ap (λ b. if b then None else Some d) t in
        let is : record { entry = d; cookie = n } ≡ w =
        some-same (sym (ap (λ (b : Bool). Some (record { entry = d; cookie = if b then old.cookie else n })) t)
        ∙ e) in
        subst (λ (o : Option PhysEntry). IsIn w (numbered n (option_to_list o))) (sym c)
        (subst (λ (v : Written). IsIn w (v ∷ [])) (sym is) here)

    kept : (os : List PhysEntry) → old.entries ≡ os → is_same_head (head os) (Some d) ≡ true
        → record { entry = d; cookie = old.cookie } ≡ w → top old ≡ Some w
    kept [] h t c = absurd (true≢false (sym t))
    kept (o ∷ os) h t is =
        let same : o ≡ d = (entry_decides o d).0 t in
        ap (λ xs. first xs old.cookie) h
        ∙ ap Some (ap (λ (z : PhysEntry). record { entry = z; cookie = old.cookie }) same ∙ is)

    by : (b : Bool) → is_same_head (head old.entries) (Some d) ≡ b
        → (top old ≡ Some w) ⊎ IsIn w (numbered n (option_to_list (come old (d ∷ ds))))
    by true t =
        inl (kept old.entries refl t
        (some-same (sym (ap (λ (b : Bool). Some (record { entry = d; cookie = if b then old.cookie else n })) t) ∙ e)))
    by false t = inr (new t)

-- one slot more is numbered
pub stands-step : (stood adds adds' : List Written) (rest : Slots) (k : Key) (old : Slot) (slots slots' : Slots) (n : ℕ)
    → Rise slots → Rise slots' → IsSome (slot_at k slots) → ((w : Written) → top old ≡ Some w → IsIn w stood)
    → slots' ≡ numbered_at k (cookie_for old (entries_at slots k) n) slots
    → adds' ≡ adds ++ numbered n (option_to_list (come old (entries_at slots k)))
    → Stands stood adds ((k, old) ∷ rest) slots → Stands stood adds' rest slots'
stands-step stood adds adds' rest k old slots slots' n rise rise' t was written added so_far p i w e =
    by (is_at (order k) p.0) refl
  where
    c : ℕ
    c = cookie_for old (entries_at slots k) n

    new : Slot
    new = record { entries = entries_at slots k; cookie = c }

    at : (q : Key) → slot_at q slots' ≡ cond (is_at (order k) q) (Some new) (slot_at q slots)
    at q = let f = found (slot_at k slots) t in ap (slot_at q) written ∙ found-written k q f.0 new slots f.1

    is : slot_at p.0 slots' ≡ Some p.1
    is = in-found p.0 p.1 slots' rise' i

    fresh : (top old ≡ Some w) ⊎ IsIn w (numbered n (option_to_list (come old (entries_at slots k))))
        → (IsIn w stood ⊎ IsIn w adds') ⊎ IsSome (slot_at p.0 rest)
    fresh (inl o) = inl (inl (was w o))
    fresh (inr j) =
        inl (inr
        (subst (IsIn w) (sym added) (in-right adds (numbered n (option_to_list (come old (entries_at slots k)))) j)))

    stays : is_at (order k) p.0 ≡ false → (IsIn w stood ⊎ IsIn w adds) ⊎ IsSome (slot_at p.0 ((k, old) ∷ rest))
        → (IsIn w stood ⊎ IsIn w adds') ⊎ IsSome (slot_at p.0 rest)
    stays f (inl (inl j)) = inl (inl j)
    stays f (inl (inr j)) =
        inl (inr (subst (IsIn w) (sym added) (in-left (numbered n (option_to_list (come old (entries_at slots k)))) j)))
    stays f (inr r) = inr (subst IsSome (ap (λ b. cond b (Some old) (slot_at p.0 rest)) (at_flips p.0 k ∙ f)) r)

    by : (b : Bool) → is_at (order k) p.0 ≡ b → (IsIn w stood ⊎ IsIn w adds') ⊎ IsSome (slot_at p.0 rest)
    by true u =
        let same : Some new ≡ Some p.1 = sym (at p.0 ∙ ap (λ b. cond b (Some new) (slot_at p.0 slots)) u) ∙ is in
        fresh (numbered-top old (entries_at slots k) n w (ap top (some-same same) ∙ e))
    by false u =
        let before : slot_at p.0 slots ≡ Some p.1 = sym (at p.0 ∙ ap (λ b. cond b (Some new) (slot_at p.0 slots)) u)
        ∙ is in
        stays u (so_far p (found-in p.0 p.1 slots before) w e)

-- what is saved and what isn't, before anything is numbered
pub stands-first : (saved slots : Slots) → Stands (table_by (as_saved saved) slots).standing [] saved slots
stands-first saved slots p i w e = by (slot_at p.0 saved) refl
  where
    by : (o : Option Slot) → slot_at p.0 saved ≡ o
        → (IsIn w (table_by (as_saved saved) slots).standing ⊎ IsIn w []) ⊎ IsSome (slot_at p.0 saved)
    by (Some s) f = inr (ap is_some f)
    by None f =
        let same : option_to_list (top (as_saved saved p)) ≡ w ∷ [] =
        ap (λ (o : Option Slot). option_to_list (top (unwrap_or o p.1))) f ∙ ap option_to_list e in
        inl (inl (in-flat (λ (q : Key × Slot). option_to_list (top (as_saved saved q))) i
        (subst (IsIn w) (sym same) here)))

-- a saved slot stood
pub saved-stood : (saved slots : Slots) (k : Key) (old : Slot) (w : Written) → slot_at k saved ≡ Some old
    → IsSome (slot_at k slots) → top old ≡ Some w → IsIn w (table_by (as_saved saved) slots).standing
saved-stood saved slots k old w e t f =
    let s = found (slot_at k slots) t in
    let same : option_to_list (top (as_saved saved (k, s.0))) ≡ w ∷ [] =
    ap (λ (o : Option Slot). option_to_list (top (unwrap_or o s.0))) e ∙ ap option_to_list f in
    in-flat (λ (q : Key × Slot). option_to_list (top (as_saved saved q))) (found-in k s.0 slots s.1)
    (subst (IsIn w) (sym same) here)

-- the same heads, or not

pub gone-same : (old : Slot) (es : List PhysEntry) (b : Bool) → b ≡ is_same_head (head old.entries) (head es)
    → gone old es ≡ (if b then None else top old)
gone-same old es b e = ap (λ (c : Bool). if c then None else top old) (sym e)

pub come-same : (old : Slot) (es : List PhysEntry) (b : Bool) → b ≡ is_same_head (head old.entries) (head es)
    → come old es ≡ (if b then None else head es)
come-same old es b e = ap (λ (c : Bool). if c then None else head es) (sym e)

pub cookie-same : (old : Slot) (es : List PhysEntry) (n : ℕ) (b : Bool) → b ≡ is_same_head (head old.entries) (head es)
    → cookie_for old es n ≡ (if b then old.cookie else n)
cookie-same old es n b e = ap (λ (c : Bool). if c then old.cookie else n) (sym e)

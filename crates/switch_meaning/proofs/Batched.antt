-- A batch makes one table of another.
use Rattle.std.proofs.Common.{◌≡◌, ◌⊎◌, inl, inr, Bool, true, false, List, [], ◌∷◌, ◌++◌, refl, ap, sym, subst, ◌∙◌}
use Rattle.std.proofs.Common.{map, Decides, append-nil}
use Rattle.std.specs.Prelude.{◌==◌, not, filter, Some, None, if◌then◌else◌, IsPermutation}
use Rattle.std.specs.List.{AllByRecursion, IsDistinct, list_any}
use Rattle.std.specs.Ordering.{is_le}
use Rattle.std.proofs.lemmas.Bool.Decides.{Decides-and, Decides-eqb}
use Rattle.std.proofs.lemmas.List.Sorted.{IsPermutation-cons, IsPermutation-middle, IsPermutation-refl}
use Rattle.std.proofs.lemmas.List.Sorted.{IsPermutation-sym, IsPermutation-trans}
use Rattle.std.proofs.lemmas.Map.Keys.{IsDistinct-IsPermutation}
use Rattle.of10_match.specs.Matching.{everything}
use Rattle.of10_match.specs.Same.{same_match}
use Rattle.of10_match.proofs.Same.{match_decides}
use Rattle.switch_meaning.specs.BatchLaw.{BatchGivesTable, FreshGivesTable, HasOneAKey, IsTableOf, OrderIsFree}
use Rattle.switch_meaning.specs.Batches.{adding, by_key, deleting, difference, key_cmp, missing, put_by_key}
use Rattle.switch_meaning.specs.Keys.{flow_of, same_key}
use Rattle.switch_meaning.specs.MayUse.{IsTop, priority_of, rank_of}
use Rattle.switch_meaning.specs.Same.{same_entry}
use Rattle.switch_meaning.specs.Tables.{has_key, put_in, table_after, table_after_all, takes_out}
use Rattle.switch_meaning.specs.declared.entry.Change.{Change}
use Rattle.switch_meaning.specs.declared.entry.Change.TheVariants.{Add, DeleteStrict, Delete}
use Rattle.switch_meaning.specs.declared.entry.FlowEntry.{FlowEntry}
use Rattle.switch_meaning.specs.declared.entry.PhysEntry.{PhysEntry}
use Rattle.switch_meaning.proofs.Alike.{entry_decides}
use Rattle.switch_meaning.proofs.Gate.{not_true}
use Rattle.switch_meaning.proofs.Items.{all-in-map}
use Rattle.switch_meaning.proofs.Members.{Comes, IsIn, all-in, all-permuted, any-passes, filter-in, from-place, here}
use Rattle.switch_meaning.proofs.Members.{in-all, in-either, in-filter, in-left, in-map, in-one, in-permuted, in-right}
use Rattle.switch_meaning.proofs.Members.{distinct-filter, map-in, one-alike, passes-any, place, same-items, there}

-- entries with one key
abbrev same_flow : FlowEntry → FlowEntry → Bool
same_flow d e = has_key d.m d.priority e

flow_decides : (d e : FlowEntry) → Decides (same_flow d e) ((d.m ≡ e.m) × (d.priority ≡ e.priority))
flow_decides d e = Decides-and (same_match d.m e.m) (d.priority == e.priority) (match_decides d.m e.m)
    (Decides-eqb d.priority e.priority)

flow-self : (e : FlowEntry) → same_flow e e ≡ true
flow-self e = (flow_decides e e).1 (refl, refl)

same_tests : (a b : Bool) → (a ≡ true → b ≡ true) → (b ≡ true → a ≡ true) → a ≡ b
same_tests true b f g = sym (f refl)
same_tests false true f g = g refl
same_tests false false f g = refl

flow-flips : (d e : FlowEntry) → same_flow d e ≡ same_flow e d
flow-flips d e =
    same_tests (same_flow d e) (same_flow e d)
    (λ t. let k = (flow_decides d e).0 t in (flow_decides e d).1 (sym k.0, sym k.1))
    (λ t. let k = (flow_decides e d).0 t in (flow_decides d e).1 (sym k.0, sym k.1))

pub key-self : (e : PhysEntry) → same_key e e ≡ true
key-self e = flow-self (flow_of e)

pub key-flips : (d e : PhysEntry) → same_key d e ≡ same_key e d
key-flips d e = flow-flips (flow_of d) (flow_of e)

-- what a change leaves

-- the change puts in again what it takes out
abbrev Restores : FlowEntry → Change → Type 0
Restores f c = takes_out c f ≡ true → IsIn f (put_in c)

one-after : (c : Change) (t : List FlowEntry) (f : FlowEntry) → IsIn f t → Restores f c → IsIn f (table_after t c)
one-after c t f i r = by (takes_out c f) refl
  where
    by : (b : Bool) → takes_out c f ≡ b → IsIn f (table_after t c)
    by true e = in-right (filter (λ e. not (takes_out c e)) t) (put_in c) (r e)
    by false e = in-left (put_in c) (in-filter (λ e. not (takes_out c e)) i (ap not e))

stays : (cs : List Change) (t : List FlowEntry) (f : FlowEntry) → IsIn f t → AllByRecursion (Restores f) cs
    → IsIn f (table_after_all t cs)
stays [] t f i a = i
stays (c ∷ cs) t f i a = stays cs (table_after t c) f (one-after c t f i a.0) a.1

comes : {c : Change} {cs : List Change} (t : List FlowEntry) (f : FlowEntry) → IsIn c cs → IsIn f (put_in c)
    → AllByRecursion (Restores f) cs → IsIn f (table_after_all t cs)
comes {c} t f (here {xs = cs}) i a = stays cs (table_after t c) f
    (in-right (filter (λ e. not (takes_out c e)) t) (put_in c) i) a.1
comes t f (there {y = d} {xs = cs} j) i a = comes (table_after t d) f j i a.1

-- one of the changes put the entry in
record PutBy (f : FlowEntry) (cs : List Change) : Type 0 where
  change : Change
  stands : IsIn change cs
  puts : IsIn f (put_in change)

-- an entry that is there after changes was there before, and none took it out, or one of them put it in
source : (cs : List Change) (t : List FlowEntry) (f : FlowEntry) → IsIn f (table_after_all t cs)
    → (IsIn f t × AllByRecursion (λ c. takes_out c f ≡ false) cs) ⊎ PutBy f cs
source [] t f i = inl (i, tt)
source (c ∷ cs) t f i = by (source cs (table_after t c) f i)
  where
    first : AllByRecursion (λ c. takes_out c f ≡ false) cs
        → IsIn f (filter (λ e. not (takes_out c e)) t) ⊎ IsIn f (put_in c)
        → (IsIn f t × AllByRecursion (λ c. takes_out c f ≡ false) (c ∷ cs)) ⊎ PutBy f (c ∷ cs)
    first a (inl j) = let r = filter-in (λ e. not (takes_out c e)) f t j in inl (r.0, (not_true (takes_out c f) r.1, a))
    first a (inr j) = inr (record { change = c; stands = here; puts = j })

    by : (IsIn f (table_after t c) × AllByRecursion (λ c. takes_out c f ≡ false) cs) ⊎ PutBy f cs
        → (IsIn f t × AllByRecursion (λ c. takes_out c f ≡ false) (c ∷ cs)) ⊎ PutBy f (c ∷ cs)
    by (inl r) = first r.1 (in-either (filter (λ e. not (takes_out c e)) t) (put_in c) r.0)
    by (inr p) = inr (record { change = p.change; stands = there p.stands; puts = p.puts })

-- a table keeps one entry for each key

all-push : (P : FlowEntry → Type 0) (xs : List FlowEntry) (x : FlowEntry) → AllByRecursion P xs → P x
    → AllByRecursion P (xs ++ x ∷ [])
all-push P [] x a p = (p, tt)
all-push P (y ∷ ys) x a p = (a.0, all-push P ys x a.1 p)

distinct-push : (xs : List FlowEntry) (x : FlowEntry) → IsDistinct same_flow xs
    → AllByRecursion (λ y. same_flow y x ≡ false) xs → IsDistinct same_flow (xs ++ x ∷ [])
unfolding IsDistinct
distinct-push [] x d a = (tt, tt)
distinct-push (y ∷ ys) x d a = (all-push (λ z. same_flow y z ≡ false) ys x d.0 a.0, distinct-push ys x d.1 a.1)

distinct-map : (es : List PhysEntry) → IsDistinct same_key es → IsDistinct same_flow (map flow_of es)
unfolding IsDistinct
distinct-map [] d = tt
distinct-map (e ∷ es) d = (all-in-map (λ y. same_flow (flow_of e) y ≡ false) flow_of es d.0, distinct-map es d.1)

distinct-after : (c : Change) (t : List FlowEntry) → IsDistinct same_flow t → IsDistinct same_flow (table_after t c)
distinct-after (Add e) t d =
    let p = λ (f : FlowEntry). not (takes_out (Add e) f) in
    distinct-push (filter p t) e (distinct-filter same_flow p t d)
    (all-in (λ y. same_flow y e ≡ false) (filter p t) (λ y i. flow-flips y e
    ∙ not_true (same_flow e y) (filter-in p y t i).1))
distinct-after (DeleteStrict m priority) t d =
    let p = λ (f : FlowEntry). not (takes_out (DeleteStrict m priority) f) in
    subst (IsDistinct same_flow) (sym (append-nil (filter p t))) (distinct-filter same_flow p t d)
distinct-after (Delete m) t d =
    let p = λ (f : FlowEntry). not (takes_out (Delete m) f) in
    subst (IsDistinct same_flow) (sym (append-nil (filter p t))) (distinct-filter same_flow p t d)

distinct-after_all : (cs : List Change) (t : List FlowEntry) → IsDistinct same_flow t
    → IsDistinct same_flow (table_after_all t cs)
distinct-after_all [] t d = d
distinct-after_all (c ∷ cs) t d = distinct-after_all cs (table_after t c) (distinct-after c t d)

-- sorting keeps the entries

put-permutes : (e : PhysEntry) (ds : List PhysEntry) → IsPermutation (e ∷ ds) (put_by_key e ds)
put-permutes e [] = IsPermutation-refl (e ∷ [])
put-permutes e (d ∷ ds) = by (is_le (key_cmp e d)) (put-permutes e ds)
  where
    by : (b : Bool) → IsPermutation (e ∷ ds) (put_by_key e ds)
        → IsPermutation (e ∷ d ∷ ds) (if b then e ∷ d ∷ ds else d ∷ put_by_key e ds)
    by true p = IsPermutation-refl (e ∷ d ∷ ds)
    by false p =
        IsPermutation-trans (e ∷ d ∷ ds) (d ∷ e ∷ ds) (d ∷ put_by_key e ds)
        (IsPermutation-sym (d ∷ e ∷ ds) (e ∷ d ∷ ds) (IsPermutation-middle (d ∷ []) e ds))
        (IsPermutation-cons d (e ∷ ds) (put_by_key e ds) p)

pub by_key-permutes : (es : List PhysEntry) → IsPermutation es (by_key es)
by_key-permutes [] = IsPermutation-refl []
by_key-permutes (e ∷ es) =
    IsPermutation-trans (e ∷ es) (e ∷ by_key es) (by_key (e ∷ es))
    (IsPermutation-cons e es (by_key es) (by_key-permutes es)) (put-permutes e (by_key es))

-- what is missing in one table of another

missing-in : (other table : List PhysEntry) (e : PhysEntry) → IsIn e (missing other table)
    → IsIn e table × (list_any (λ (d : PhysEntry). same_entry d e) other ≡ false)
missing-in other table e i =
    let r = filter-in (λ (e : PhysEntry). not (list_any (λ (d : PhysEntry). same_entry d e) other)) e table i in
    (r.0, not_true (list_any (λ (d : PhysEntry). same_entry d e) other) r.1)

in-missing : (other table : List PhysEntry) (e : PhysEntry) → IsIn e table
    → list_any (λ (d : PhysEntry). same_entry d e) other ≡ false → IsIn e (missing other table)
in-missing other table e i n = in-filter (λ (e : PhysEntry). not (list_any (λ (d : PhysEntry). same_entry d e) other)) i
    (ap not n)

-- an entry that stands in both is not missing
not-missing : (other table : List PhysEntry) (e : PhysEntry) → IsIn e (missing other table) → IsIn e other → ⊥
not-missing other table e i j =
    let t : list_any (λ (d : PhysEntry). same_entry d e) other ≡ true =
    passes-any (λ (d : PhysEntry). same_entry d e) j ((entry_decides e e).1 refl) in
    let f = (missing-in other table e i).1 in cc

-- an entry of one table stands in the other, or is missing there
is-missing : (other table : List PhysEntry) (e : PhysEntry) → IsIn e table → IsIn e other ⊎ IsIn e (missing other table)
is-missing other table e i = by (list_any (λ (d : PhysEntry). same_entry d e) other) refl
  where
    by : (b : Bool) → list_any (λ (d : PhysEntry). same_entry d e) other ≡ b
        → IsIn e other ⊎ IsIn e (missing other table)
    by true t = let p = any-passes (λ (d : PhysEntry). same_entry d e) other t in
        inl (subst (λ (z : PhysEntry). IsIn z other) ((entry_decides p.item e).0 p.passes) p.stands)
    by false n = inr (in-missing other table e i n)

module _ (before after : List PhysEntry) (one_before : HasOneAKey before) (one_after : HasOneAKey after)
    (deletes adds : List Change)
    (first : IsPermutation (deleting (difference before after)) deletes)
    (second : IsPermutation (adding (difference before after)) adds) where
  delete-from : (c : Change) → IsIn c deletes
      → Comes (λ (e : PhysEntry). DeleteStrict e.m e.priority) c (by_key (missing after before))
  delete-from c i = map-in (λ (e : PhysEntry). DeleteStrict e.m e.priority) c (by_key (missing after before))
      (in-permuted deletes (deleting (difference before after)) c
      (IsPermutation-sym (deleting (difference before after)) deletes first) i)

  add-from : (c : Change) → IsIn c adds → Comes (λ (e : PhysEntry). Add (flow_of e)) c (by_key (missing before after))
  add-from c i = map-in (λ (e : PhysEntry). Add (flow_of e)) c (by_key (missing before after))
      (in-permuted adds (adding (difference before after)) c
      (IsPermutation-sym (adding (difference before after)) adds second) i)

  unsorted : (es : List PhysEntry) (e : PhysEntry) → IsIn e (by_key es) → IsIn e es
  unsorted es e i = in-permuted (by_key es) es e (IsPermutation-sym es (by_key es) (by_key-permutes es)) i

  -- an entry that goes is deleted
  is-deleted : (e : PhysEntry) → IsIn e (missing after before) → IsIn (DeleteStrict e.m e.priority) deletes
  is-deleted e i =
      in-permuted (deleting (difference before after)) deletes (DeleteStrict e.m e.priority) first
      (in-map (λ (e : PhysEntry). DeleteStrict e.m e.priority)
      (in-permuted (missing after before) (by_key (missing after before)) e (by_key-permutes (missing after before))
      i))

  -- an entry that comes is added
  is-added : (e : PhysEntry) → IsIn e (missing before after) → IsIn (Add (flow_of e)) adds
  is-added e i =
      in-permuted (adding (difference before after)) adds (Add (flow_of e)) second
      (in-map (λ (e : PhysEntry). Add (flow_of e))
      (in-permuted (missing before after) (by_key (missing before after)) e (by_key-permutes (missing before after))
      i))

  -- no delete takes out an entry that stays
  deletes-spare : (e : PhysEntry) → IsIn e before → IsIn e after → AllByRecursion (Restores (flow_of e)) deletes
  deletes-spare e i j = all-in (Restores (flow_of e)) deletes (λ c k. spared c (delete-from c k))
    where
      spared : (c : Change) → Comes (λ (e : PhysEntry). DeleteStrict e.m e.priority) c (by_key (missing after before))
          → Restores (flow_of e) c
      spared c from =
          let g = from.from in
          let there = unsorted (missing after before) g from.stands in
          subst (Restores (flow_of e)) from.is (λ t.
          let same : g ≡ e = one-alike same_key key-self key-flips one_before (missing-in after before g there).0 i t in
          absurd (not-missing after before g there (subst (λ (z : PhysEntry). IsIn z after) (sym same) j)))

  -- an add takes out no entry of the new table but the one that it puts there
  adds-spare : (e : PhysEntry) → IsIn e after → AllByRecursion (Restores (flow_of e)) adds
  adds-spare e j = all-in (Restores (flow_of e)) adds (λ c k. spared c (add-from c k))
    where
      spared : (c : Change) → Comes (λ (e : PhysEntry). Add (flow_of e)) c (by_key (missing before after))
          → Restores (flow_of e) c
      spared c from =
          let g = from.from in
          let there = unsorted (missing before after) g from.stands in
          subst (Restores (flow_of e)) from.is (λ t.
          let same : g ≡ e = one-alike same_key key-self key-flips one_after (missing-in before after g there).0 j t in
          subst (λ (z : PhysEntry). IsIn (flow_of e) (flow_of z ∷ [])) (sym same) here)

  module _ (table : List FlowEntry) (held : IsTableOf before table) where
    -- each entry of the new table is there
    is-there : (e : PhysEntry) → IsIn e after → IsIn (flow_of e) (table_after_all (table_after_all table deletes) adds)
    is-there e j = by (is-missing before after e j)
      where
        by : IsIn e before ⊎ IsIn e (missing before after)
            → IsIn (flow_of e) (table_after_all (table_after_all table deletes) adds)
        by (inl i) =
            stays adds (table_after_all table deletes) (flow_of e)
            (stays deletes table (flow_of e)
            (in-permuted (map flow_of before) table (flow_of e) held (in-map flow_of i)) (deletes-spare e i j))
            (adds-spare e j)
        by (inr i) = comes (table_after_all table deletes) (flow_of e) (is-added e i) here (adds-spare e j)

    -- an entry of the old table that no delete takes out stands in the new one
    not-deleted : (f : FlowEntry) → IsIn f table → AllByRecursion (λ c. takes_out c f ≡ false) deletes
        → IsIn f (map flow_of after)
    not-deleted f i a =
        by (map-in flow_of f before
        (in-permuted table (map flow_of before) f (IsPermutation-sym (map flow_of before) table held) i))
      where
        or-gone : (e : PhysEntry) → flow_of e ≡ f → IsIn e after ⊎ IsIn e (missing after before)
            → IsIn f (map flow_of after)
        or-gone e is (inl j) = subst (λ (z : FlowEntry). IsIn z (map flow_of after)) is (in-map flow_of j)
        or-gone e is (inr j) =
            let n : takes_out (DeleteStrict e.m e.priority) f ≡ false =
            in-all (λ c. takes_out c f ≡ false) (is-deleted e j) a in
            let t : takes_out (DeleteStrict e.m e.priority) f ≡ true =
            subst (λ (z : FlowEntry). same_flow (flow_of e) z ≡ true) is (flow-self (flow_of e)) in cc

        by : Comes flow_of f before → IsIn f (map flow_of after)
        by from = or-gone from.from from.is (is-missing after before from.from from.stands)

    -- no delete puts anything in
    put-by-none : {A : Type 0} (f : FlowEntry) → PutBy f deletes → A
    put-by-none {A} f p = by (delete-from p.change p.stands)
      where
        by : Comes (λ (e : PhysEntry). DeleteStrict e.m e.priority) p.change (by_key (missing after before)) → A
        by from = let i : IsIn f [] = subst (λ (c : Change). IsIn f (put_in c)) (sym from.is) p.puts in elim i [ ]

    -- what an add puts in stands in the new table
    put-by-add : (f : FlowEntry) → PutBy f adds → IsIn f (map flow_of after)
    put-by-add f p = by (add-from p.change p.stands)
      where
        by : Comes (λ (e : PhysEntry). Add (flow_of e)) p.change (by_key (missing before after))
            → IsIn f (map flow_of after)
        by from =
            let i : IsIn f (flow_of from.from ∷ []) = subst (λ (c : Change). IsIn f (put_in c)) (sym from.is) p.puts in
            subst (λ (z : FlowEntry). IsIn z (map flow_of after)) (sym (in-one i))
            (in-map flow_of
            (missing-in before after from.from (unsorted (missing before after) from.from from.stands)).0)

    -- an entry that is there stands in the new table
    is-new : (f : FlowEntry) → IsIn f (table_after_all (table_after_all table deletes) adds)
        → IsIn f (map flow_of after)
    is-new f i = by (source adds (table_after_all table deletes) f i)
      where
        before-adds : (IsIn f table × AllByRecursion (λ c. takes_out c f ≡ false) deletes) ⊎ PutBy f deletes
            → IsIn f (map flow_of after)
        before-adds (inl r) = not-deleted f r.0 r.1
        before-adds (inr p) = put-by-none f p

        by : (IsIn f (table_after_all table deletes) × AllByRecursion (λ c. takes_out c f ≡ false) adds) ⊎ PutBy f adds
            → IsIn f (map flow_of after)
        by (inl r) = before-adds (source deletes table f r.0)
        by (inr p) = put-by-add f p

    batched : IsTableOf after (table_after_all (table_after_all table deletes) adds)
    batched =
        let result = table_after_all (table_after_all table deletes) adds in
        same-items same_flow flow-self flow-flips (map flow_of after) result (distinct-map after one_after)
        (distinct-after_all adds (table_after_all table deletes) (distinct-after_all deletes table
        (IsDistinct-IsPermutation same_flow flow-flips (map flow_of before) table held
        (distinct-map before one_before))))
        (λ f i. by f (map-in flow_of f after i)) is-new
      where
        by : (f : FlowEntry) → Comes flow_of f after → IsIn f (table_after_all (table_after_all table deletes) adds)
        by f from = subst (λ (z : FlowEntry). IsIn z (table_after_all (table_after_all table deletes) adds)) from.is
            (is-there from.from from.stands)

pub batch-gives-table : BatchGivesTable
batch-gives-table before after one_before one_after table held deletes first adds second =
    batched before after one_before one_after deletes adds first second table held

none-apart : HasOneAKey []
unfolding IsDistinct
none-apart = tt

-- all is deleted
cleared : (t : List FlowEntry) → table_after t (Delete everything) ≡ []
cleared [] = refl
cleared (e ∷ es) = cleared es

pub fresh-gives-table : FreshGivesTable
fresh-gives-table after one table adds second =
    subst (λ (t : List FlowEntry). IsTableOf after (table_after_all t adds)) (sym (cleared table))
    (batch-gives-table [] after none-apart one [] (IsPermutation-refl []) (deleting (difference [] after))
    (IsPermutation-refl (deleting (difference [] after))) adds second)

pub order-is-free : OrderIsFree
order-is-free table other p h None may = all-permuted _ table other p may
order-is-free table other p h (Some e) may =
    record {
      stands = place e other (in-permuted table other e p (from-place e table may.stands));
      holds_it = may.holds_it;
      highest = by may.highest;
    }
  where
    by : IsTop rank_of table h e ⊎ IsTop priority_of table h e → IsTop rank_of other h e ⊎ IsTop priority_of other h e
    by (inl top) = inl (all-permuted _ table other p top)
    by (inr top) = inr (all-permuted _ table other p top)

-- What is put into outboxes changes nothing of tables, of cookies and of leaves.
use Rattle.std.proofs.Common.{◌≡◌, ◌∙◌, ℕ, zero, suc, ◌+◌, Bool, true, false, true≢false, List, [], ◌∷◌, map, length}
use Rattle.std.proofs.Common.{Option, Some, None, if◌then◌else◌, nat_lt, arith, refl, sym, ap, subst}
use Rattle.std.specs.Prelude.{option_map, slice_get}
use Rattle.std.specs.List.{enumerate_from}
use Rattle.std.specs.Option.{option_map_or}
use Rattle.install_plan.specs.declared.written.Written.{Written}
use Rattle.outbox.specs.Outboxes.{OutboxOf, with_more}
use Rattle.policy_meaning.proofs.Booleans.{some_injective}
use Rattle.stats_map.specs.Counting.{CountsOf}
use Rattle.machine_meaning.specs.Drafts.{Draft}
use Rattle.machine_meaning.specs.Putting.{for_switch, put_to, put_to_member, put_to_switch}
use Rattle.machine_meaning.specs.Sound.{IsOutbox}
use Rattle.machine_meaning.specs.States.{MemberOf, SwitchOf}
use Rattle.machine_meaning.proofs.CountWrites.{cookied}
use Rattle.machine_meaning.proofs.KeptCookies.{AreKeptCookies, IsKeptSide, marks, standing_in}
use Rattle.machine_meaning.proofs.KeptLeaves.{table_in}
use Rattle.machine_meaning.proofs.Times.{times}

table_put : (d : Draft) (j : ℕ) (ms : List MemberOf) (n : ℕ)
    → table_in (map (put_to_member d) (enumerate_from j ms)) n ≡ table_in ms n
table_put d j [] n = refl
table_put d j (x ∷ xs) zero = refl
table_put d j (x ∷ xs) (suc n) = table_put d (j + 1) xs n

pub put_table : (d : Draft) (ms : List MemberOf) (n : ℕ)
    → table_in (map (put_to_member d) (enumerate_from 0 ms)) n ≡ table_in ms n
put_table d ms n = table_put d 0 ms n

-- a switch that is put messages
switch_put : (d : Draft) (j : ℕ) (xs : List SwitchOf) (n : ℕ)
    → slice_get (map (put_to_switch d) (enumerate_from j xs)) n
    ≡ option_map (λ (x : SwitchOf). put_to_switch d (j + n, x)) (slice_get xs n)
switch_put d j [] n = refl
switch_put d j (x ∷ xs) zero = ap (λ (k : ℕ). Some (put_to_switch d (k, x))) (let e : j ≡ j + 0 = omega arith in e)
switch_put d j (x ∷ xs) (suc n) =
    switch_put d (j + 1) xs n
    ∙ ap (λ (k : ℕ). option_map (λ (y : SwitchOf). put_to_switch d (k, y)) (slice_get xs n))
    (let e : (j + 1) + n ≡ j + suc n = omega arith in e)

long_put : (d : Draft) (j : ℕ) (xs : List SwitchOf)
    → length (map (put_to_switch d) (enumerate_from j xs)) ≡ length xs
long_put d j [] = refl
long_put d j (x ∷ xs) = ap suc (long_put d (j + 1) xs)

-- nothing waits for a session that isn't up
outbox_put : (ms : List (List ℕ)) (o : OutboxOf) → IsOutbox o → IsOutbox (put_to ms o)
outbox_put ms o h = by o.up refl
  where
    by : (u : Bool) → o.up ≡ u → IsOutbox (if u then with_more ms o else o)
    by true e f = absurd (true≢false (sym e ∙ f))
    by false e f = h f

up_put : (ms : List (List ℕ)) (o : OutboxOf) → (put_to ms o).up ≡ o.up
up_put ms o = by o.up
  where
    by : (u : Bool) → (if u then with_more ms o else o).up ≡ o.up
    by true = refl
    by false = refl

pub put_cookies : (d : Draft) (standing : List (List Written)) (switches : List SwitchOf) (counts : CountsOf)
    (next : ℕ) → AreKeptCookies standing switches counts next
    → AreKeptCookies standing (map (put_to_switch d) (enumerate_from 0 switches)) counts next
put_cookies d standing switches counts next h = record {
  long = h.long ∙ sym (long_put d 0 switches);
  sides = λ n x e. side n (slice_get switches n) refl x (sym (switch_put d 0 switches n) ∙ e);
  rises = h.rises;
  once = λ n c. let o = h.once n c in let m = same n c in omega (arith, o, m);
  below = λ n c lt. h.below n c (let m = same n c in omega (arith, m, lt));
  live = λ n c. h.live n c ∙ ap (nat_lt 0) (sym (same n c));
}
  where
    put : List SwitchOf
    put = map (put_to_switch d) (enumerate_from 0 switches)

    deleted_of : Option SwitchOf → List ℕ
    deleted_of o = option_map_or (λ (x : SwitchOf). x.known.deleted) o []

    same_deleted : (n : ℕ) (o : Option SwitchOf)
        → deleted_of (option_map (λ (x : SwitchOf). put_to_switch d (0 + n, x)) o) ≡ deleted_of o
    same_deleted n None = refl
    same_deleted n (Some x) = refl

    same : (n c : ℕ) → marks standing put n c ≡ marks standing switches n c
    same n c =
        ap (λ (ds : List ℕ). cookied c (standing_in standing n) + times c ds)
        (ap deleted_of (switch_put d 0 switches n) ∙ same_deleted n (slice_get switches n))

    side : (n : ℕ) (o : Option SwitchOf) → slice_get switches n ≡ o → (x : SwitchOf)
        → option_map (λ (y : SwitchOf). put_to_switch d (0 + n, y)) o ≡ Some x
        → IsKeptSide (standing_in standing n) next x
    side n None at x e = absurd (cc e)
    side n (Some y) at x e =
        let old = h.sides n y at in
        let ms = for_switch d (0 + n) in
        subst (IsKeptSide (standing_in standing n) next) (some_injective e)
        (record {
          outbox = outbox_put ms y.outbox old.outbox;
          down = λ f. old.down (sym (up_put ms y.outbox) ∙ f);
          xid = old.xid;
          begun = old.begun;
          cookies = old.cookies;
        })

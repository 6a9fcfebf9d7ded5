-- What is known of a switch after it was sent messages: the last xid, and the cookies that were deleted.
use Rattle.std.proofs.Common.{◌≡◌, ◌∙◌, ℕ, ◌+◌, ◌<◌, ◌≤◌, ◌^◌, ◌==◌, Bool, true, false, List, [], ◌∷◌, ◌++◌, map}
use Rattle.std.proofs.Common.{if◌then◌else◌, nat_cmp, is_eq, Ordering, Less, Equal, Greater, arith, refl, sym, ap}
use Rattle.std.proofs.Common.{subst, eq-eqb}
use Rattle.std.specs.Prelude.{fold}
use Rattle.std.specs.BTreeSet.{insert_key}
use Rattle.std.specs.Ordering.{match_ordering}
use Rattle.std.proofs.lemmas.Bool.{eqb-false}
use Rattle.install_plan.specs.declared.written.Batch.{Batch}
use Rattle.install_plan.specs.declared.written.Written.{Written}
use Rattle.of10_msgs.specs.declared.message.Body.{Body}
use Rattle.of10_msgs.specs.declared.message.Body.TheVariants.{BarrierRequest, SetConfig}
use Rattle.switch_state.specs.Known.{KnownOf}
use Rattle.switch_state.specs.Messages.{addition, batch_messages, beginning, delete_all, delete_strict, phase}
use Rattle.switch_state.specs.Messages.{switch_messages}
use Rattle.switch_state.specs.Sending.{Sending, known_after, next_xid, send, send_all}
use Rattle.machine_meaning.proofs.Tallies.{one}
use Rattle.machine_meaning.proofs.Times.{is_at_number, times}

-- cookies that are deleted, one after the other
abbrev pub with_deleted : List ℕ → List ℕ → List ℕ
with_deleted ds cs = fold (insert_key nat_cmp) ds cs

-- what is known after messages that delete these cookies
pub record IsSent (old : KnownOf) (cookies : List ℕ) (new : KnownOf) : Type 0 where
  pub xid : new.xid < 2 ^ 32
  pub first : new.first ≡ old.first
  pub deleted : new.deleted ≡ with_deleted old.deleted cookies

xid_fits : (xid : ℕ) → xid < 2 ^ 32 → next_xid xid < 2 ^ 32
xid_fits xid fits = by (xid == 4294967295) refl
  where
    by : (b : Bool) → (xid == 4294967295) ≡ b → (if b then 1 else xid + 1) < 2 ^ 32
    by true e = omega arith
    by false e = let n = eqb-false xid 4294967295 e in omega (arith, fits)

-- a message that deletes nothing
pub record IsPlain (body : Body) : Type 0 where
  pub xid : (xid : ℕ) (x : KnownOf) → (known_after body xid x).xid ≡ xid
  pub first : (xid : ℕ) (x : KnownOf) → (known_after body xid x).first ≡ x.first
  pub deleted : (xid : ℕ) (x : KnownOf) → (known_after body xid x).deleted ≡ x.deleted

pub plain_sent : (body : Body) → IsPlain body → (s : Sending) → s.known.xid < 2 ^ 32
    → IsSent s.known [] (send s body).known
plain_sent body plain s fits =
    let xid = next_xid s.known.xid in
    record {
      xid = subst (λ (n : ℕ). n < 2 ^ 32) (sym (plain.xid xid s.known)) (xid_fits s.known.xid fits);
      first = plain.first xid s.known;
      deleted = plain.deleted xid s.known;
    }

barrier_plain : IsPlain BarrierRequest
barrier_plain = record { xid = λ n x. refl; first = λ n x. refl; deleted = λ n x. refl }

addition_plain : (w : Written) → IsPlain (addition w)
addition_plain w = record { xid = λ n x. refl; first = λ n x. refl; deleted = λ n x. refl }

empty_plain : IsPlain delete_all
empty_plain = record { xid = λ n x. refl; first = λ n x. refl; deleted = λ n x. refl }

config_plain : (flags len : ℕ) → IsPlain (SetConfig flags len)
config_plain flags len = record { xid = λ n x. refl; first = λ n x. refl; deleted = λ n x. refl }

-- messages, one after the other -------------------------------------------------------------------------------------

sent_both : (xs ys : List Body) (s : Sending) → send_all (xs ++ ys) s ≡ send_all ys (send_all xs s)
sent_both [] ys s = refl
sent_both (x ∷ xs) ys s = sent_both xs ys (send s x)

nothing_sent : (x : KnownOf) → x.xid < 2 ^ 32 → IsSent x [] x
nothing_sent x fits = record { xid = fits; first = refl; deleted = refl }

plain_then : {a b c : KnownOf} {cs : List ℕ} → IsSent a [] b → IsSent b cs c → IsSent a cs c
plain_then {cs = cs} p q = record {
  xid = q.xid;
  first = q.first ∙ p.first;
  deleted = q.deleted ∙ ap (λ (ds : List ℕ). with_deleted ds cs) p.deleted;
}

then_plain : {a b c : KnownOf} {cs : List ℕ} → IsSent a cs b → IsSent b [] c → IsSent a cs c
then_plain p q = record { xid = q.xid; first = q.first ∙ p.first; deleted = q.deleted ∙ p.deleted }

deletes_sent : (ws : List Written) (s : Sending) → s.known.xid < 2 ^ 32
    → IsSent s.known (map (λ (w : Written). w.cookie) ws) (send_all (map delete_strict ws) s).known
deletes_sent [] s fits = nothing_sent s.known fits
deletes_sent (w ∷ ws) s fits =
    let r = deletes_sent ws (send s (delete_strict w)) (xid_fits s.known.xid fits) in
    record { xid = r.xid; first = r.first; deleted = r.deleted }

adds_sent : (ws : List Written) (s : Sending) → s.known.xid < 2 ^ 32
    → IsSent s.known [] (send_all (map addition ws) s).known
adds_sent [] s fits = nothing_sent s.known fits
adds_sent (w ∷ ws) s fits =
    let first = plain_sent (addition w) (addition_plain w) s fits in
    plain_then first (adds_sent ws (send s (addition w)) first.xid)

-- a phase ends with a barrier
phase_sent : (bodies : List Body) (cs : List ℕ) (s : Sending) → s.known.xid < 2 ^ 32
    → IsSent s.known cs (send_all bodies s).known → IsSent s.known cs (send_all (phase bodies) s).known
phase_sent [] cs s fits h = h
phase_sent (x ∷ xs) cs s fits h =
    subst (λ (t : Sending). IsSent s.known cs t.known) (sym (sent_both (x ∷ xs) (BarrierRequest ∷ []) s))
    (then_plain h (plain_sent BarrierRequest barrier_plain (send_all (x ∷ xs) s) h.xid))

batch_sent : (b : Batch) (s : Sending) → s.known.xid < 2 ^ 32
    → IsSent s.known (map (λ (w : Written). w.cookie) b.deletes) (send_all (batch_messages b) s).known
batch_sent b s fits =
    let deletes = phase (map delete_strict b.deletes) in
    let adds = phase (map addition b.adds) in
    let cs = map (λ (w : Written). w.cookie) b.deletes in
    let first = phase_sent (map delete_strict b.deletes) cs s fits (deletes_sent b.deletes s fits) in
    let t = send_all deletes s in
    subst (λ (u : Sending). IsSent s.known cs u.known) (sym (sent_both deletes adds s))
    (then_plain first (phase_sent (map addition b.adds) [] t first.xid (adds_sent b.adds t first.xid)))

beginning_sent : (begins : Bool) (s : Sending) → s.known.xid < 2 ^ 32
    → IsSent s.known [] (send_all (beginning begins) s).known
beginning_sent false s fits = nothing_sent s.known fits
beginning_sent true s fits =
    let one = plain_sent (SetConfig 0 0xffff) (config_plain 0 0xffff) s fits in
    let s1 = send s (SetConfig 0 0xffff) in
    let two = plain_sent delete_all empty_plain s1 one.xid in
    let s2 = send s1 delete_all in
    plain_then one (plain_then two (plain_sent BarrierRequest barrier_plain s2 two.xid))

pub messages_sent : (begins : Bool) (b : Batch) (s : Sending) → s.known.xid < 2 ^ 32
    → IsSent s.known (map (λ (w : Written). w.cookie) b.deletes) (send_all (switch_messages begins b) s).known
messages_sent begins b s fits =
    let first = beginning_sent begins s fits in
    let cs = map (λ (w : Written). w.cookie) b.deletes in
    subst (λ (t : Sending). IsSent s.known cs t.known) (sym (sent_both (beginning begins) (batch_messages b) s))
    (plain_then first (batch_sent b (send_all (beginning begins) s) first.xid))

-- how often cookies are deleted -------------------------------------------------------------------------------------

inserted_times : (k c : ℕ) (ds : List ℕ) → times k ds ≡ 0
    → times c (insert_key nat_cmp ds k) ≡ times c ds + one (k == c)
inserted_times k c [] e = omega arith
inserted_times k c (x ∷ xs) e = by (nat_cmp k x) refl (inserted_times k c xs (omega (arith, e)))
  where
    by : (r : Ordering) → nat_cmp k x ≡ r → times c (insert_key nat_cmp xs k) ≡ times c xs + one (k == c)
        → times c (match_ordering r (k ∷ x ∷ xs) (x ∷ xs) (x ∷ insert_key nat_cmp xs k))
        ≡ times c (x ∷ xs) + one (k == c)
    by Less f h = omega arith
    by Equal f h =
        let same : (x == k) ≡ true = sym (is_at_number k x) ∙ ap is_eq f in
        let c = ap one same in
        absurd (omega (arith, e, c))
    by Greater f h = omega (arith, h)

pub deleted_times : (cs ds : List ℕ) → ((c : ℕ) → times c ds + times c cs ≤ 1) → (c : ℕ)
    → times c (with_deleted ds cs) ≡ times c ds + times c cs
deleted_times [] ds few c = omega arith
deleted_times (k ∷ ks) ds few c =
    let none : times k ds ≡ 0 = first in
    let r = deleted_times ks (insert_key nat_cmp ds k)
    (λ d. let is = inserted_times k d ds none in let le = few d in omega (arith, is, le)) c in
    let is = inserted_times k c ds none in
    omega (arith, r, is)
  where
    itself : one (k == k) ≡ 1
    itself = ap one (eq-eqb k k refl)

    first : times k ds ≡ 0
    first = let le = few k in let i = itself in omega (arith, le, i)

-- What composing does to one switch that is up: one batch is written to it, and it has what stands after that.
use Rattle.std.proofs.Common.{◌≡◌, ◌∙◌, ℕ, zero, suc, ◌+◌, ◌<◌, ◌^◌, ◌==◌, Bool, true, false, List, [], ◌∷◌, ◌++◌, map}
use Rattle.std.proofs.Common.{filter, Option, Some, None, arith, refl, sym, ap, ap₂, subst}
use Rattle.std.proofs.Math.Nat.{min-le_right}
use Rattle.std.proofs.lemmas.Bool.{eq-eqb, eqb-false, ne_eqb}
use Rattle.std.specs.Prelude.{fold, if◌then◌else◌, option_map, slice_get, unwrap_or}
use Rattle.std.specs.List.{enumerate_from}
use Rattle.agreement.specs.Entries.{entries_of}
use Rattle.agreement.specs.declared.state.Setting.{Setting}
use Rattle.cv_io.specs.declared.leaf.Who.{Who}
use Rattle.install_plan.specs.Tables.{after}
use Rattle.install_plan.specs.declared.written.Written.{Written}
use Rattle.policy_expr.specs.Policy.{Policy}
use Rattle.policies.specs.Policies.{PolicyOf}
use Rattle.switch_meaning.specs.Keys.{installed}
use Rattle.switch_meaning.specs.declared.entry.PhysEntry.{PhysEntry}
use Rattle.switch_state.specs.Messages.{switch_messages}
use Rattle.switch_state.specs.Sending.{send_all}
use Rattle.machine_meaning.specs.Batches.{batch_between, next_after, standing_after}
use Rattle.machine_meaning.specs.Composing.{compose, compose_at, compose_on, sent_to, write}
use Rattle.machine_meaning.specs.Drafts.{Draft, is_to, letter, said_to}
use Rattle.machine_meaning.specs.Lists.{changed_at, places}
use Rattle.machine_meaning.specs.Sessions.{is_switch, standing_of}
use Rattle.machine_meaning.specs.Settings.{setting_of, ups_with}
use Rattle.machine_meaning.specs.States.{MemberOf, SwitchOf}
use Rattle.machine_meaning.specs.declared.said.Letter.{Letter}
use Rattle.machine_meaning.proofs.Numbered.{at_changed, changed_unseen}
use Rattle.machine_meaning.proofs.Unchanged.{nothing_after}

-- lists -------------------------------------------------------------------------------------------------------------

-- a place that isn't the one that was changed
pub elsewhere : {X : Type 0} (k n : ℕ) (f : X → X) (xs : List X) → (k == n) ≡ false
    → slice_get (changed_at k f xs) n ≡ slice_get xs n
elsewhere k n f [] h = refl
elsewhere zero zero f (x ∷ xs) h = absurd (eqb-false 0 0 h refl)
elsewhere zero (suc n) f (x ∷ xs) h = refl
elsewhere (suc k) zero f (x ∷ xs) h = refl
elsewhere (suc k) (suc n) f (x ∷ xs) h =
    elsewhere k n f xs (ne_eqb k n (λ e. eqb-false (suc k) (suc n) h (ap suc e)))

said_both : (n : ℕ) (xs ys : List Letter) → said_to n (xs ++ ys) ≡ said_to n xs ++ said_to n ys
said_both n [] ys = refl
said_both n (x ∷ xs) ys = by (is_to n x) (said_both n xs ys)
  where
    bytes : List Letter → List (List ℕ)
    bytes ls = map (λ (l : Letter). l.bytes) ls

    by : (b : Bool) → said_to n (xs ++ ys) ≡ said_to n xs ++ said_to n ys
        → bytes (if b then x ∷ filter (is_to n) (xs ++ ys) else filter (is_to n) (xs ++ ys))
        ≡ bytes (if b then x ∷ filter (is_to n) xs else filter (is_to n) xs) ++ said_to n ys
    by true h = ap (λ ms. x.bytes ∷ ms) h
    by false h = h

-- letters to one switch, and to another
said_here : (n : ℕ) (ms : List (List ℕ)) → said_to n (map (letter n) ms) ≡ ms
said_here n [] = refl
said_here n (m ∷ ms) =
    ap (λ b. map (λ (l : Letter). l.bytes)
    (if b then letter n m ∷ filter (is_to n) (map (letter n) ms) else filter (is_to n) (map (letter n) ms)))
    (eq-eqb n n refl)
    ∙ ap (λ xs. m ∷ xs) (said_here n ms)

said_there : (k n : ℕ) (ms : List (List ℕ)) → (k == n) ≡ false → said_to n (map (letter k) ms) ≡ []
said_there k n [] h = refl
said_there k n (m ∷ ms) h =
    ap (λ b. map (λ (l : Letter). l.bytes)
    (if b then letter k m ∷ filter (is_to n) (map (letter k) ms) else filter (is_to n) (map (letter k) ms))) h
    ∙ said_there k n ms h

-- cookies have 64 bits
pub after_fits : (n : ℕ) → after n < 2 ^ 64
after_fits n = let h = min-le_right (n + 1) 18446744073709551615 in omega (arith, h)

pub next_fits : (next : ℕ) (ws : List Written) → next < 2 ^ 64 → next_after next ws < 2 ^ 64
next_fits next [] h = h
next_fits next (w ∷ ws) h = next_fits (after next) ws (after_fits next)

-- a fold over places, at one of which something happens
module _ {A X : Type 0} (f : A → ℕ → A) (P Q : A → Type 0) (n : ℕ)
    (before : (a : A) (k : ℕ) → (k == n) ≡ false → P a → P (f a k)) (here : (a : A) → P a → Q (f a n))
    (behind : (a : A) (k : ℕ) → (k == n) ≡ false → Q a → Q (f a k)) where
  abbrev from : ℕ → List X → List ℕ
  from k xs = map (λ x. x.0) (enumerate_from k xs)

  past : (k : ℕ) (xs : List X) → n < k → (a : A) → Q a → Q (fold f a (from k xs))
  past k [] lt a q = q
  past k (x ∷ xs) lt a q =
      past (k + 1) xs (omega (arith, lt)) (f a k) (behind a k (ne_eqb k n (λ e. omega (arith, e, lt))) q)

  reached : (k i : ℕ) (xs : List X) (x : X) → slice_get xs i ≡ Some x → k + i ≡ n → (a : A) → P a
      → Q (fold f a (from k xs))
  reached k i [] x e s a p = absurd (cc)
  reached k zero (y ∷ xs) x e s a p =
      let same : n ≡ k = omega (arith, s) in
      past (k + 1) xs (omega (arith, s)) (f a k) (subst (λ (j : ℕ). Q (f a j)) same (here a p))
  reached k (suc i) (y ∷ xs) x e s a p =
      reached (k + 1) i xs x e (omega (arith, s)) (f a k) (before a k (ne_eqb k n (λ e. omega (arith, e, s))) p)

  pub once : (xs : List X) (x : X) → slice_get xs n ≡ Some x → (a : A) → P a → Q (fold f a (places xs))
  once xs x e a p = reached 0 n xs x e (omega arith) a p

-- a fold that keeps what holds
pub fold_holds : {A B : Type 0} (f : A → B → A) (P : A → Type 0) → ((a : A) (b : B) → P a → P (f a b)) → (bs : List B)
    (a : A) → P a → P (fold f a bs)
fold_holds f P h [] a p = p
fold_holds f P h (b ∷ bs) a p = fold_holds f P h bs (f a b) (h a b p)

-- one switch --------------------------------------------------------------------------------------------------------

-- what a draft has of a switch
pub record At : Type 0 where
  pub switch : Option SwitchOf
  pub standing : Option (List Written)
  pub said : List (List ℕ)
  pub begun : Bool

abbrev pub at : ℕ → Draft → At
at n d = record {
  switch = slice_get d.state.switches n;
  standing = slice_get d.state.standing n;
  said = said_to n d.batches;
  begun = is_switch n d.begun;
}

apart_at : (setting : Setting) (d : Draft) (k n : ℕ) → (k == n) ≡ false → at n (compose_at setting d k) ≡ at n d
apart_at setting d k n h = by (slice_get d.state.switches k)
  where
    wanted : List PhysEntry
    wanted = installed (entries_of setting k)

    batch_of : SwitchOf → Draft
    batch_of x = write k x wanted (batch_between d.state.next_cookie (standing_of d.state k) wanted) d

    messages_of : SwitchOf → List (List ℕ)
    messages_of x =
        (send_all (switch_messages (is_switch k d.begun)
        (batch_between d.state.next_cookie (standing_of d.state k) wanted))
        (record { known = x.known; messages = [] })).messages

    one : (x : SwitchOf) → at n (batch_of x) ≡ at n d
    one x =
        let sent =
        send_all (switch_messages (is_switch k d.begun)
        (batch_between d.state.next_cookie (standing_of d.state k) wanted))
        (record { known = x.known; messages = [] }) in
        let switch = elsewhere k n (sent_to sent) d.state.switches h in
        let standing =
        elsewhere k n (λ old. standing_after d.state.next_cookie old wanted) d.state.standing h in
        let said =
        said_both n d.batches (map (letter k) sent.messages)
        ∙ (ap (λ ms. said_to n d.batches ++ ms) (said_there k n sent.messages h)
        ∙ nothing_after (said_to n d.batches)) in
        λ i. record { switch = switch i; standing = standing i; said = said i; begun = is_switch n d.begun }

    by : (o : Option SwitchOf) → at n (compose_on k o wanted d) ≡ at n d
    by None = refl
    by (Some x) = up x.outbox.up
      where
        up : (u : Bool) → at n (if u then batch_of x else d) ≡ at n d
        up true = one x
        up false = refl

abbrev IsFew : Draft → Type 0
IsFew d = d.state.next_cookie < 2 ^ 64

few_after : (setting : Setting) (d : Draft) (k : ℕ) → IsFew d → IsFew (compose_at setting d k)
few_after setting d k h = by (slice_get d.state.switches k)
  where
    wanted : List PhysEntry
    wanted = installed (entries_of setting k)

    by : (o : Option SwitchOf) → IsFew (compose_on k o wanted d)
    by None = h
    by (Some x) = up x.outbox.up
      where
        up : (u : Bool)
            → IsFew (if u then write k x wanted (batch_between d.state.next_cookie (standing_of d.state k) wanted) d
            else d)
        up true =
            next_fits d.state.next_cookie
            (batch_between d.state.next_cookie (standing_of d.state k) wanted).adds h
        up false = h

-- a switch was written the batch that makes what stood what is wanted
pub record IsComposed (n : ℕ) (wanted : List PhysEntry) (x : SwitchOf) (stood : List Written) (begins : Bool)
    (d : Draft) : Type 0 where
  pub next : ℕ
  pub few : next < 2 ^ 64
  pub said :
      said_to n d.batches ≡ (send_all (switch_messages begins (batch_between next stood wanted))
      (record { known = x.known; messages = [] })).messages
  pub standing : slice_get d.state.standing n ≡ Some (standing_after next stood wanted)

-- nothing was written to it yet
pub record IsUncomposed (n : ℕ) (x : SwitchOf) (stood : List Written) (begins : Bool) (d : Draft) : Type 0 where
  pub is : at n d ≡ record { switch = Some x; standing = Some stood; said = []; begun = begins }
  pub few : d.state.next_cookie < 2 ^ 64

module _ (setting : Setting) (n : ℕ) (x : SwitchOf) (stood : List Written) (begins : Bool)
    (up : x.outbox.up ≡ true) where
  abbrev wanted : List PhysEntry
  wanted = installed (entries_of setting n)

  one_composed : (d : Draft) → IsUncomposed n x stood begins d
      → IsComposed n wanted x stood begins (compose_at setting d n)
  one_composed d h =
      let switch : slice_get d.state.switches n ≡ Some x = ap (λ (a : At). a.switch) h.is in
      let there : slice_get d.state.standing n ≡ Some stood = ap (λ (a : At). a.standing) h.is in
      let said : said_to n d.batches ≡ [] = ap (λ (a : At). a.said) h.is in
      let begun : is_switch n d.begun ≡ begins = ap (λ (a : At). a.begun) h.is in
      let next = d.state.next_cookie in
      let stands : standing_of d.state n ≡ stood = ap (λ (o : Option (List Written)). unwrap_or o []) there in
      let sent =
      send_all (switch_messages (is_switch n d.begun) (batch_between next (standing_of d.state n) wanted))
      (record { known = x.known; messages = [] }) in
      let is : compose_at setting d n ≡ write n x wanted (batch_between next (standing_of d.state n) wanted) d =
      ap (λ (o : Option SwitchOf). compose_on n o wanted d) switch
      ∙ ap (λ (b : Bool). if b then write n x wanted (batch_between next (standing_of d.state n) wanted) d else d) up in
      subst (IsComposed n wanted x stood begins) (sym is)
      (record {
        next = next;
        few = h.few;
        said =
            said_both n d.batches (map (letter n) sent.messages)
            ∙ (ap₂ (λ (xs ys : List (List ℕ)). xs ++ ys) said (said_here n sent.messages)
            ∙ ap₂ (λ (b : Bool) (ws : List Written).
            (send_all (switch_messages b (batch_between next ws wanted))
            (record { known = x.known; messages = [] })).messages) begun stands);
        standing =
            at_changed n (λ old. standing_after next old wanted) d.state.standing
            ∙ ap (option_map (λ old. standing_after next old wanted)) there;
      })

  pub all_composed : (xs : List SwitchOf) → slice_get xs n ≡ Some x → (d : Draft) → IsUncomposed n x stood begins d
      → IsComposed n wanted x stood begins (fold (compose_at setting) d (places xs))
  all_composed xs e d h =
      once (compose_at setting) (IsUncomposed n x stood begins) (IsComposed n wanted x stood begins) n
      (λ d k t u. record { is = apart_at setting d k n t ∙ u.is; few = few_after setting d k u.few })
      one_composed
      (λ d k t u. record {
        next = u.next;
        few = u.few;
        said = ap (λ (a : At). a.said) (apart_at setting d k n t) ∙ u.said;
        standing = ap (λ (a : At). a.standing) (apart_at setting d k n t) ∙ u.standing;
      })
      xs x e d h

-- the rest ----------------------------------------------------------------------------------------------------------

-- what composing leaves as it is
pub record Rest : Type 0 where
  pub exprs : List Policy
  pub members : List MemberOf
  pub ups : List Bool
  pub begun : Option Who
  pub polls : List Letter
  pub packets : List Letter
  pub echoes : List Letter

abbrev pub rest_of : Draft → Rest
rest_of d = record {
  exprs = d.state.exprs;
  members = d.state.members;
  ups = ups_with d.state.switches;
  begun = d.begun;
  polls = d.polls;
  packets = d.packets;
  echoes = d.echoes;
}

rest_at : (setting : Setting) (d : Draft) (k : ℕ) → rest_of (compose_at setting d k) ≡ rest_of d
rest_at setting d k = by (slice_get d.state.switches k)
  where
    wanted : List PhysEntry
    wanted = installed (entries_of setting k)

    by : (o : Option SwitchOf) → rest_of (compose_on k o wanted d) ≡ rest_of d
    by None = refl
    by (Some x) = up x.outbox.up
      where
        up : (u : Bool)
            → rest_of (if u then write k x wanted (batch_between d.state.next_cookie (standing_of d.state k) wanted) d
            else d) ≡ rest_of d
        up true =
            let sent =
            send_all (switch_messages (is_switch k d.begun)
            (batch_between d.state.next_cookie (standing_of d.state k) wanted))
            (record { known = x.known; messages = [] }) in
            ap (λ (ups : List Bool). record (rest_of d) { ups = ups })
            (changed_unseen (λ (y : SwitchOf). y.outbox.up) (sent_to sent) (λ y. refl) k d.state.switches)
        up false = refl

pub rest_composed : (p : PolicyOf) (d : Draft) → rest_of (compose p d) ≡ rest_of d
rest_composed p d =
    fold_holds (compose_at (setting_of p d.state)) (λ (e : Draft). rest_of e ≡ rest_of d)
    (λ e k h. rest_at (setting_of p d.state) e k ∙ h) (places d.state.switches) d refl

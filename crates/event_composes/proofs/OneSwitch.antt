-- What is written to one switch is what composing makes of it, and of the switch of a number among all.
use Rattle.std.proofs.Common.{◌≡◌, ◌∙◌, ℕ, zero, suc, ◌<◌, Bool, true, false, List, [], ◌∷◌, ◌++◌, length, get_or, set}
use Rattle.std.proofs.Common.{map, slice_get}
use Rattle.std.proofs.Common.{Option, Some, refl, sym, ap, subst}
use Rattle.std.specs.Prelude.{if◌then◌else◌, unwrap_or}
use Rattle.agreement.specs.Entries.{entries_of}
use Rattle.agreement.specs.declared.state.Setting.{Setting}
use Rattle.cv_io.specs.declared.leaf.Who.{Who}
use Rattle.install_plan.specs.declared.written.Batch.{Batch}
use Rattle.install_plan.specs.declared.written.Written.{Written}
use Rattle.stats_map.specs.Counting.{CountsOf}
use Rattle.switch_meaning.specs.Keys.{installed}
use Rattle.switch_meaning.specs.declared.entry.PhysEntry.{PhysEntry}
use Rattle.switch_state.specs.Messages.{switch_messages}
use Rattle.switch_state.specs.Sending.{Sending, send_all}
use Rattle.machine_meaning.specs.Batches.{batch_between, counts_after, next_after, standing_after}
use Rattle.machine_meaning.specs.Composing.{compose_at, compose_on, sent_to, write}
use Rattle.machine_meaning.specs.Drafts.{Draft, letter}
use Rattle.machine_meaning.specs.Lists.{changed_at}
use Rattle.machine_meaning.specs.Sessions.{is_switch, standing_of}
use Rattle.machine_meaning.specs.States.{SwitchOf}
use Rattle.machine_meaning.specs.declared.said.Letter.{Letter}
use Rattle.machine_meaning.proofs.Places.{map-set_changed, map-set_same, slice_get-map}
use Rattle.event_composes.specs.Composed.{IsWrittenTo, with_composed, with_switch}
use Rattle.machine_drafts.specs.Outcomes.{standing_in, switch_bases, switches_in}
use Rattle.event_composes.specs.Settled.{IsSettled}
use Rattle.machine_drafts.specs.SwitchDrafts.{SwitchDraftOf, with_written}
use Rattle.event_composes.proofs.Unneeded.{nothing_written}

-- what f makes of the item at a place is put there
put_made : {A : Type 0} (f : A → A) (xs : List A) (n : ℕ) (x y : A) → slice_get xs n ≡ Some x → y ≡ f x
    → changed_at n (λ old. y) xs ≡ changed_at n f xs
put_made f [] n x y e h = refl
put_made f (z ∷ zs) zero x y e h = let same : x ≡ z = cc in ap (λ a. a ∷ zs) (h ∙ ap f same)
put_made f (z ∷ zs) (suc n) x y e h = ap (λ ws. z ∷ ws) (put_made f zs n x y e h)

-- the item that is there is put there
put_same : {A : Type 0} (xs : List A) (n : ℕ) (x : A) → slice_get xs n ≡ Some x → changed_at n (λ old. x) xs ≡ xs
put_same [] n x e = refl
put_same (z ∷ zs) zero x e = let same : x ≡ z = cc in ap (λ a. a ∷ zs) same
put_same (z ∷ zs) (suc n) x e = ap (λ ws. z ∷ ws) (put_same zs n x e)

-- where another item stands at a place, what stands beside the draft is what it was
pub nth_based : (xs : List SwitchDraftOf) (n : ℕ) (y r : SwitchDraftOf) → n < length xs → y.base ≡ (get_or xs n r).base
    → switch_bases (set xs n y) ≡ switch_bases xs
nth_based xs n y r there e = map-set_same (λ (x : SwitchDraftOf). x.base) xs n y r there e

-- the switch of a number is composed where it is composed alone
pub nth_composed : (setting : Setting) (d : Draft) (begun : Option Who) (xs : List SwitchDraftOf) (n : ℕ)
    (y r : SwitchDraftOf) (counts after : CountsOf) (next later : ℕ) (batches longer : List Letter) → n < length xs
    → ((e : Draft) → IsWrittenTo e n begun (get_or xs n r) counts next batches
    → with_switch n y after later longer e ≡ compose_at setting e n)
    → d.begun ≡ begun
    → with_composed (switches_in (set xs n y)) (standing_in (set xs n y)) after later longer d
    ≡ compose_at setting (with_composed (switches_in xs) (standing_in xs) counts next batches d) n
nth_composed setting d begun xs n y r counts after next later batches longer there one e =
    let now = λ (x : SwitchDraftOf). x.now in
    let standing = λ (x : SwitchDraftOf). x.standing in
    let before = with_composed (switches_in xs) (standing_in xs) counts next batches d in
    let switches : switches_in (set xs n y) ≡ changed_at n (λ old. y.now) (switches_in xs) =
    map-set_changed now (λ old. y.now) xs n y r there refl in
    let stands : standing_in (set xs n y) ≡ changed_at n (λ old. y.standing) (standing_in xs) =
    map-set_changed standing (λ old. y.standing) xs n y r there refl in
    (λ i. with_composed (switches i) (stands i) after later longer d)
    ∙ one before (record {
      begins = e;
      switch = slice_get-map now xs n r there;
      standing = slice_get-map standing xs n r there;
      counts_are = refl;
      next_is = refl;
      batches_are = refl;
    })

module _ (setting : Setting) (d : Draft) (n : ℕ) (begun : Option Who) (x : SwitchDraftOf) where
  -- nothing is written to a switch that is down
  pub composed_down : (counts : CountsOf) (next : ℕ) (batches : List Letter)
      → IsWrittenTo d n begun x counts next batches → x.now.outbox.up ≡ false
      → with_switch n x counts next batches d ≡ compose_at setting d n
  composed_down counts next batches h down =
      let wanted = installed (entries_of setting n) in
      let switches = put_same d.state.switches n x.now h.switch in
      let stands = put_same d.state.standing n x.standing h.standing in
      let counted = sym h.counts_are in
      let cookies = sym h.next_is in
      let said = sym h.batches_are in
      let is : compose_at setting d n ≡ d =
      ap (λ (o : Option SwitchOf). compose_on n o wanted d) h.switch
      ∙ ap (λ (b : Bool).
      if b then write n x.now wanted (batch_between d.state.next_cookie (standing_of d.state n) wanted) d else d)
      down in
      (λ i. with_composed (switches i) (stands i) (counted i) (cookies i) (said i) d) ∙ sym is

  -- nor to one that is up, on which stands what is wanted, and whose round doesn't begin
  pub composed_still : (counts : CountsOf) (next : ℕ) (batches : List Letter)
      → IsWrittenTo d n begun x counts next batches → x.now.outbox.up ≡ true → is_switch n begun ≡ false
      → IsSettled x.standing (installed (entries_of setting n))
      → with_switch n x counts next batches d ≡ compose_at setting d n
  composed_still counts next batches h up begins settled =
      let wanted = installed (entries_of setting n) in
      let switches = put_same d.state.switches n x.now h.switch in
      let stands = put_same d.state.standing n x.standing h.standing in
      let counted = sym h.counts_are in
      let cookies = sym h.next_is in
      let said = sym h.batches_are in
      let batch = batch_between d.state.next_cookie (standing_of d.state n) wanted in
      let is : compose_at setting d n ≡ write n x.now wanted batch d =
      ap (λ (o : Option SwitchOf). compose_on n o wanted d) h.switch
      ∙ ap (λ (b : Bool). if b then write n x.now wanted batch d else d) up in
      let same : write n x.now wanted batch d ≡ d =
      nothing_written n x.now wanted d h.switch (record { standing = x.standing; at = h.standing })
      (λ ws at. let e : x.standing ≡ ws = cc in subst (λ (z : List Written). IsSettled z wanted) e settled)
      (ap (is_switch n) h.begins ∙ begins) in
      (λ i. with_composed (switches i) (stands i) (counted i) (cookies i) (said i) d) ∙ sym (is ∙ same)

  -- what is written to a switch that is up
  pub composed_up : (y : SwitchDraftOf) (counts after : CountsOf) (next later : ℕ) (batches longer : List Letter)
      (wanted : List PhysEntry) (b : Batch) (standing : List Written)
      → IsWrittenTo d n begun x counts next batches → x.now.outbox.up ≡ true
      → wanted ≡ installed (entries_of setting n)
      → b ≡ batch_between next x.standing wanted
      → standing ≡ standing_after next x.standing wanted
      → after ≡ counts_after n b.adds counts
      → later ≡ next_after next b.adds
      → y ≡ with_written
      (send_all (switch_messages (is_switch n begun) b) (record { known = x.now.known; messages = [] })).known standing
      x
      → longer ≡ batches ++ map (letter n)
      (send_all (switch_messages (is_switch n begun) b) (record { known = x.now.known; messages = [] })).messages
      → with_switch n y after later longer d ≡ compose_at setting d n
  composed_up y counts after next later batches longer wanted b standing h up w_is b_is s_is c_is l_is y_is m_is =
      let asked = installed (entries_of setting n) in
      let stood : standing_of d.state n ≡ x.standing = ap (λ (o : Option (List Written)). unwrap_or o []) h.standing in
      let batch = batch_between d.state.next_cookie (standing_of d.state n) asked in
      let sending : Bool → Batch → Sending =
      λ begins z. send_all (switch_messages begins z) (record { known = x.now.known; messages = [] }) in
      let same : b ≡ batch = b_is ∙ (λ i. batch_between (sym h.next_is i) (sym stood i) (w_is i)) in
      let sent = sending (is_switch n d.begun) batch in
      let sends : sending (is_switch n begun) b ≡ sent = λ i. sending (is_switch n (sym h.begins i)) (same i) in
      let now : y.now ≡ sent_to sent x.now =
      ap (λ (z : SwitchDraftOf). z.now) y_is ∙ ap (λ (s : Sending). sent_to s x.now) sends in
      let stands : y.standing ≡ standing_after d.state.next_cookie x.standing asked =
      ap (λ (z : SwitchDraftOf). z.standing) y_is
      ∙ (s_is ∙ (λ i. standing_after (sym h.next_is i) x.standing (w_is i))) in
      let switches = put_made (sent_to sent) d.state.switches n x.now y.now h.switch now in
      let standings =
      put_made (λ old. standing_after d.state.next_cookie old asked) d.state.standing n x.standing y.standing
      h.standing stands in
      let counted : after ≡ counts_after n batch.adds d.state.counts =
      c_is ∙ (λ i. counts_after n (same i).adds (sym h.counts_are i)) in
      let cookies : later ≡ next_after d.state.next_cookie batch.adds =
      l_is ∙ (λ i. next_after (sym h.next_is i) (same i).adds) in
      let said : longer ≡ d.batches ++ map (letter n) sent.messages =
      m_is ∙ (λ i. sym h.batches_are i ++ map (letter n) (sends i).messages) in
      let is : compose_at setting d n ≡ write n x.now asked batch d =
      ap (λ (o : Option SwitchOf). compose_on n o asked d) h.switch
      ∙ ap (λ (u : Bool). if u then write n x.now asked batch d else d) up in
      (λ i. with_composed (switches i) (standings i) (counted i) (cookies i) (said i) d) ∙ sym is

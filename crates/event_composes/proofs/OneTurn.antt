-- What is kept follows a member whose rules change.
use Rattle.std.proofs.Common.{◌≡◌, ◌∙◌, ℕ, ◌+◌, ◌<◌, List, map, Some, get_or, refl, sym, ap, arith, subst}
use Rattle.std.specs.Prelude.{IsPermutation, length, option_map, slice_get}
use Rattle.std.proofs.lemmas.List.{length-map}
use Rattle.std.proofs.lemmas.Option.{slice_get-map, slice_get_read}
use Rattle.composed_tables.specs.Composing.{ComposedOf}
use Rattle.incr_compile.specs.Compiling.{rules_after}
use Rattle.incr_compile.specs.declared.compiled.LeafDelta.{LeafDelta}
use Rattle.member_state.specs.Leaves.{leaf_of}
use Rattle.policies.specs.Policies.{PolicyOf}
use Rattle.policies.specs.Sound.{IsSound}
use Rattle.policies.specs.declared.policy.MemberItem.{MemberItem}
use Rattle.policy_meaning.specs.LeafRules.{leaf_rules}
use Rattle.setting_laws.specs.Mixed.{CanTurn, LeadMixtures, MixturesTurn, mixed}
use Rattle.setting_laws.proofs.Mixed.{mixtures_lead, mixtures_stay}
use Rattle.setting_laws.proofs.Staying.{leaves_stay, settings_stay}
use Rattle.switch_tables.specs.Tables.{SwitchTableOf}
use Rattle.switch_tables.specs.Turning.{AreBatches}
use Rattle.switch_tables.specs.declared.tables.SwitchBatch.{SwitchBatch}
use Rattle.machine_meaning.specs.Sound.{AreSoundTables}
use Rattle.machine_meaning.specs.States.{State}
use Rattle.event_composes.specs.Kept.{IsComposedOf}
use Rattle.machine_drafts.specs.MemberDrafts.{IsLeafDelta, IsUnplanned, MemberDraftOf}
use Rattle.machine_drafts.specs.Outcomes.{state_in}
use Rattle.event_composes.specs.Turning.{ArePortsAt, AreTold, joined, mixed_at, stood_in}
use Rattle.machine_drafts.specs.Views.{member_of}
use Rattle.machine_drafts.specs.declared.outcome.Outcome.{Outcome}
use Rattle.event_composes.specs.declared.turning.Turned.{Turned}
use Rattle.event_composes.specs.declared.turning.Turned.TheVariants.{Nothing, Once, Often}

-- the item at a place is there
pub item_at : {A : Type 0} (xs ys : List A) (n : ℕ) (x : A) → ys ≡ xs → n < length xs → x ≡ get_or ys n x
    → slice_get xs n ≡ Some x
item_at {A = A} xs ys n x same lt is =
    subst (λ (zs : List A). slice_get zs n ≡ Some x) same
    (slice_get_read ys (length ys) n x refl (subst (λ (zs : List A). n < length zs) (sym same) lt) is)

-- there is an item for each member
pub items_long : (p : PolicyOf) (o : Outcome) (n : ℕ) → AreSoundTables p (state_in o) → n < length o.members
    → n < length p.members
items_long p o n after lt =
    let all = after.all_members in
    let long = length-map o.members (λ (m : MemberDraftOf). m.now) in
    omega (arith, all, long, lt)

-- one change more is told
pub told_more : (next : ℕ) (before now then : List SwitchTableOf) (t : Turned) (batches : List SwitchBatch)
    → AreTold next before now t → AreBatches next now then batches → AreTold next before then (joined t batches)
told_more next before now then Nothing batches h b =
    subst (λ (x : List SwitchTableOf). AreBatches next x then batches) h b
told_more next before now then (Once told) batches h b = tt
told_more next before now then Often batches h b = tt

module _ (p : PolicyOf) (o : Outcome) (exprs : o.exprs.now ≡ o.exprs.base) where
  abbrev s : State
  s = stood_in o

  abbrev t : State
  t = state_in o

  as_many : length t.members ≡ length s.members
  as_many =
      length-map o.members (λ (m : MemberDraftOf). m.now)
      ∙ sym (length-map (map (λ (m : MemberDraftOf). m.base) o.members) member_of
      ∙ length-map o.members (λ (m : MemberDraftOf). m.base))

  -- they lead from what stands to what the event leaves
  lead : LeadMixtures s t
  lead = mixtures_lead s t exprs as_many

  pub kept_first : (c : ComposedOf) → IsComposedOf p s c → IsComposedOf p (mixed_at 0 o) c
  kept_first c h = subst (λ (z : State). IsComposedOf p z c) (sym lead.first) h

  pub kept_last : (c : ComposedOf) (n : ℕ) → n ≡ length o.members → IsComposedOf p (mixed_at n o) c
      → IsComposedOf p t c
  kept_last c n all h =
      let long : length s.members ≡ n =
      length-map (map (λ (m : MemberDraftOf). m.base) o.members) member_of
      ∙ (length-map o.members (λ (m : MemberDraftOf). m.base) ∙ sym all) in
      let last = subst (λ (k : ℕ). IsComposedOf p (mixed k s t) c) (sym long) h in
      record {
        of =
            settings_stay p (mixed (length s.members) s t) t
            (leaves_stay p (mixed (length s.members) s t) t lead.last) c last.of;
        compiled = last.compiled;
        plan_is = last.plan_is;
      }

  module _ (n : ℕ) (item : MemberItem) (m : MemberDraftOf) (there : slice_get p.members n ≡ Some item)
      (at : slice_get o.members n ≡ Some m) where
    was : slice_get s.members n ≡ Some (member_of m.base)
    was =
        slice_get-map member_of (map (λ (d : MemberDraftOf). d.base) o.members) n
        ∙ ap (option_map member_of)
        (slice_get-map (λ (d : MemberDraftOf). d.base) o.members n
        ∙ ap (option_map (λ (d : MemberDraftOf). d.base)) at)

    is : slice_get t.members n ≡ Some m.now
    is =
        slice_get-map (λ (d : MemberDraftOf). d.now) o.members n
        ∙ ap (option_map (λ (d : MemberDraftOf). d.now)) at

    -- where nothing is planned for the member
    pub kept_unplanned : (c : ComposedOf) → IsUnplanned m → IsComposedOf p (mixed_at n o) c
        → IsComposedOf p (mixed_at (n + 1) o) c
    kept_unplanned c same h = record {
      of =
          settings_stay p (mixed n s t) (mixed (n + 1) s t)
          (mixtures_stay p s t as_many n item (member_of m.base) m.now there was is (ap (leaf_of n item.grant) same)) c
          h.of;
      compiled = h.compiled;
      plan_is = h.plan_is;
    }

    -- where its rules change
    pub can_turn : MixturesTurn → IsSound p → AreSoundTables p s → AreSoundTables p t → (ports : List ℕ)
        (delta : LeafDelta) → ArePortsAt p item.grant.ports.v ports → IsLeafDelta n item.grant ports m delta
        → CanTurn p s t n item.grant.ports.v delta
    can_turn turn policy before after ports delta all h =
        turn p policy s t before after n item (member_of m.base) m.now there was is delta
        (record {
          member = h.member;
          rules = λ w got.
              subst
              (λ (z : List ℕ). IsPermutation
              (rules_after delta (leaf_rules z (leaf_of n item.grant m.base.kept.state)))
              (leaf_rules z (leaf_of n item.grant m.now.kept)))
              (sym (all s.exprs s.members s.switches w got)) h.rules;
        })

-- What is kept, once it followed an event, and what was told of it give what the setting wants of each switch.
use Rattle.std.proofs.Common.{◌≡◌, ◌∙◌, ℕ, ◌<◌, Bool, true, List, length, map, take, Option, Some, None, sym, ap, subst}
use Rattle.std.proofs.Common.{arith}
use Rattle.std.specs.Prelude.{IfSome, option_map, slice_get}
use Rattle.std.proofs.lemmas.List.{length-map}
use Rattle.std.proofs.lemmas.Option.{slice_get-map, slice_get_within}
use Rattle.agreement.specs.Entries.{entries_of}
use Rattle.agreement.specs.declared.state.Setting.{Setting}
use Rattle.composed_tables.specs.Composing.{AreTables, ComposedOf, IsGood}
use Rattle.composed_tables.proofs.After.{good-no-twins}
use Rattle.install_plan.specs.Tables.{IsTable}
use Rattle.install_plan.specs.declared.written.Written.{Written}
use Rattle.policies.specs.Policies.{PolicyOf}
use Rattle.policies.specs.Sound.{IsSound}
use Rattle.setting_laws.specs.Drafted.{HaveSerials}
use Rattle.setting_laws.specs.Ready.{SettingsAreReady}
use Rattle.setting_laws.proofs.Staying.{leaves_stay, settings_stay}
use Rattle.setting_laws.proofs.Ups.{long_physical}
use Rattle.switch_meaning.specs.Keys.{installed}
use Rattle.switch_tables.specs.Tables.{SwitchTableOf}
use Rattle.switch_tables.specs.Turning.{cookie_after}
use Rattle.machine_meaning.specs.Settings.{setting_of, ups_with}
use Rattle.machine_meaning.specs.States.{SwitchOf}
use Rattle.machine_meaning.proofs.Places.{at_place}
use Rattle.event_composes.specs.Kept.{IsComposedOf, IsKeptBy}
use Rattle.machine_drafts.specs.Outcomes.{bases, members_in, state_in, switch_bases}
use Rattle.event_composes.specs.Settled.{IsUnchanged, WasSettled}
use Rattle.event_composes.specs.Sources.{IsToldFor, IsWantedBy}
use Rattle.machine_drafts.specs.SwitchDrafts.{SwitchDraftOf}
use Rattle.event_composes.specs.Turning.{AreTold, CanFollow, stood_in}
use Rattle.machine_drafts.specs.Views.{standing_of, switch_of}
use Rattle.machine_drafts.specs.declared.outcome.Outcome.{Outcome}
use Rattle.machine_drafts.specs.declared.session.Switch.{Switch}
use Rattle.event_composes.specs.declared.turning.Turned.{Turned}
use Rattle.event_composes.specs.declared.turning.Turned.TheVariants.{Nothing, Once, Often}
use Rattle.event_composes.proofs.ToldChanges.{is_told, still_settled}
use Rattle.event_composes.proofs.Unneeded.{same_kept}
use Rattle.event_composes.proofs.Wanted.{is_there}

-- where the event changed nothing that composition reads, what is kept stays
pub kept_unchanged : (p : PolicyOf) (o : Outcome) (c : ComposedOf) → IsUnchanged o → IsComposedOf p (stood_in o) c
    → IsComposedOf p (state_in o) c
kept_unchanged p o c same h = record {
  of =
      settings_stay p (stood_in o) (state_in o)
      (leaves_stay p (stood_in o) (state_in o)
      (record { exprs = same.exprs; kept = same_kept o.members same.members })) c h.of;
  compiled = h.compiled;
  plan_is = h.plan_is;
}

pub unchanged_kept : (p : PolicyOf) (o : Outcome) (k : Option ComposedOf) → IsUnchanged o
    → IfSome k (IsKeptBy p (bases o) (state_in o)) → IfSome k (IsComposedOf p (state_in o))
unchanged_kept p o None same h = tt
unchanged_kept p o (Some c) same h = kept_unchanged p o c same h.of

-- it can follow the event
pub can_follow : (p : PolicyOf) (o : Outcome) (c : ComposedOf) → IsKeptBy p (bases o) (state_in o) c
    → o.exprs.now ≡ o.exprs.base → HaveSerials (members_in o.members) → CanFollow p o c
can_follow p o c h exprs serials = record {
  all = sym (length-map o.switches (λ (x : SwitchDraftOf). x.base)) ∙ h.all;
  before = h.before;
  after = h.after serials;
  exprs = exprs;
  of = h.of;
}

-- there is a table for each switch, as it is
pub as_many : (p : PolicyOf) (o : Outcome) (c d : ComposedOf) → IsKeptBy p (bases o) (state_in o) c
    → IsComposedOf p (state_in o) d → length o.switches ≡ length d.tables
as_many p o c d kept now =
    sym (length-map o.switches (λ (x : SwitchDraftOf). x.base))
    ∙ (kept.all ∙ sym (now.of.count ∙ long_physical (ups_with (state_in o).switches) p.switches))

-- and as it was
as_many_then : (p : PolicyOf) (o : Outcome) (c : ComposedOf) → IsKeptBy p (bases o) (state_in o) c
    → length o.switches ≡ length c.tables
as_many_then p o c kept =
    sym (length-map o.switches (λ (x : SwitchDraftOf). x.base))
    ∙ (kept.all ∙ sym (kept.of.of.count ∙ long_physical (ups_with (stood_in o).switches) p.switches))

-- what stands beside the draft of a switch
seen_base : {A : Type 0} (f : Switch → A) (xs : List SwitchDraftOf) (n : ℕ) (x : SwitchDraftOf)
    → slice_get xs n ≡ Some x → slice_get (map f (switch_bases xs)) n ≡ Some (f x.base)
seen_base f xs n x at =
    slice_get-map f (switch_bases xs) n
    ∙ ap (option_map f)
    (slice_get-map (λ (y : SwitchDraftOf). y.base) xs n ∙ ap (option_map (λ (y : SwitchDraftOf). y.base)) at)

-- what stands on the switch of a number is a table
table_at : (tables : List SwitchTableOf) (n : ℕ) (x : SwitchTableOf) → AreTables tables → slice_get tables n ≡ Some x
    → IsTable x.installed.now
table_at tables n x all at = at_place (λ (y : SwitchTableOf). IsTable y.installed.now) tables n x all at

module _ (ready : SettingsAreReady) (p : PolicyOf) (policy : IsSound p) (o : Outcome) (c d : ComposedOf)
    (turned : Turned)
    (settled : WasSettled p (bases o)) (kept : IsKeptBy p (bases o) (state_in o) c)
    (serials : HaveSerials (members_in o.members)) (now : IsComposedOf p (state_in o) d)
    (told : AreTold o.next_cookie c.tables d.tables turned)
    (tables : AreTables c.tables) (tables_now : AreTables d.tables)
  where
    abbrev s : Setting
    s = setting_of p (stood_in o)

    abbrev t : Setting
    t = setting_of p (state_in o)

    good : IsGood s
    good = (ready p policy (stood_in o) kept.before).good

    good_now : IsGood t
    good_now = (ready p policy (state_in o) (kept.after serials)).good

    -- there is a table for each switch, as it was and as it is
    many : (n : ℕ) (x : SwitchDraftOf) → slice_get o.switches n ≡ Some x → n < length d.tables
    many n x at =
        let less = slice_get_within o.switches n x at in
        let same : length o.switches ≡ length d.tables = as_many p o c d kept now in
        omega arith

    many_then : (n : ℕ) (x : SwitchDraftOf) → slice_get o.switches n ≡ Some x → n < length c.tables
    many_then n x at =
        let less = slice_get_within o.switches n x at in
        let same : length o.switches ≡ length c.tables = as_many_then p o c kept in
        omega arith

    -- what was told of a switch, from what stood there
    told_for : (n : ℕ) (stood : List Written) → slice_get (ups_with (stood_in o).switches) n ≡ Some true
        → slice_get (stood_in o).standing n ≡ Some stood → n < length c.tables → n < length d.tables → (turned : Turned)
        → AreTold o.next_cookie c.tables d.tables turned → IsToldFor turned n stood (installed (entries_of t n))
    told_for n stood up at lt lt_now Nothing same =
        let y = is_there d.tables n lt_now in
        let was : slice_get c.tables n ≡ Some y.item =
        ap (λ (xs : List SwitchTableOf). slice_get xs n) (sym same) ∙ y.at in
        still_settled (entries_of s n) (entries_of t n) (good-no-twins s good n) (good-no-twins t good_now n) y.item
        (kept.of.of.tables n y.item was) (now.of.tables n y.item y.at)
        (table_at d.tables n y.item tables_now y.at) stood (settled n stood up at)
    told_for n stood up at lt lt_now (Once batches) batched =
        λ b got.
        let x = is_there c.tables n lt in
        let y = is_there d.tables n lt_now in
        is_told (entries_of s n) (entries_of t n) (good-no-twins s good n) (good-no-twins t good_now n) x.item y.item
        (kept.of.of.tables n x.item x.at) (now.of.tables n y.item y.at) (table_at c.tables n x.item tables x.at)
        (table_at d.tables n y.item tables_now y.at) (cookie_after o.next_cookie (take n batches)) b.batch
        (batched n x.item y.item b x.at y.at got) stood (kept.given n stood up at)
    told_for n stood up at lt lt_now Often told = tt

    pub wanted_by : (n : ℕ) (x : SwitchDraftOf) → slice_get o.switches n ≡ Some x → IsWantedBy t n d turned x
    wanted_by n x at = record {
      good = good_now;
      of = now.of;
      told = λ up same.
          subst (λ (ws : List Written). IsToldFor turned n ws (installed (entries_of t n))) (sym same.standing)
          (told_for n x.base.standing
          (slice_get-map (λ (y : SwitchOf). y.outbox.up) (stood_in o).switches n
          ∙ (ap (option_map (λ (y : SwitchOf). y.outbox.up)) (seen_base switch_of o.switches n x at)
          ∙ ap (λ (u : Bool). Some u) (sym same.up ∙ up)))
          (seen_base standing_of o.switches n x at) (many_then n x at) (many n x at) turned told);
    }

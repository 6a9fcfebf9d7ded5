use Rattle.std.proofs.Common.{◌≡◌, ◌∙◌, ℕ, List, [], sym, ap, filter, find, map, Some, if◌then◌else◌}
use Rattle.std.specs.Prelude.{flat_map}
use Rattle.of10_match.specs.Fields.{MatchOf}
use Rattle.of10_match.specs.Wildcards.{normal_of}
use Rattle.soft_net.specs.Answers.{asked_entries, stat}
use Rattle.soft_net.specs.Entries.{has_serial}
use Rattle.soft_net.specs.InsideTables.{stat_if}
use Rattle.soft_net.specs.Tables.{is_selected, serials_of}
use Rattle.soft_net.specs.declared.entry.SoftEntry.{SoftEntry}
use Rattle.soft_net.specs.declared.selection.Selection.TheVariants.{Covered}
use Rattle.soft_net.proofs.Listing.{all_filter}
use Rattle.soft_net.proofs.Outcomes.{if_ok}
use Rattle.soft_net.proofs.Selected.{own_serial, told_are, told_each}
use Rattle.soft_net.proofs.switch.SoftSwitch.flow_stats.Goals as goal

pub returns-in_ok-serials : goal.returns-in_ok-serials
returns-in_ok-serials c =
    let es = c.args.self.now.table.entries in
    let port = c.args.out_port in
    let p = is_selected (Covered (normal_of c.args.m.now)) port in
    let S : MatchOf → List ℕ = λ m. serials_of (filter (is_selected (Covered m) port) es) in
    let T : List ℕ → List _ = flat_map (λ s. stat_if (find (has_serial s) es)) in
    if_ok (λ told. told ≡ T c.as_slice.result.now)
    (λ told. told ≡ map stat (asked_entries c.args.self.now.table c.args.m.now c.args.table_id port)) c.stats.result
    (λ told e. e ∙ (ap T (c.as_slice.ensures ∙ (c.in_ok-serials.ensures.serials ∙ ap S c.read.ensures.value))
    ∙ (told_are stat_if es (filter p es)
    (all_filter (λ (e : SoftEntry). find (has_serial e.serial) es ≡ Some e) p es (own_serial es c.selected.ensures.rising))
    ∙ (told_each stat (filter p es)
    ∙ sym (ap (λ b. map stat (if b then filter p es else [])) (sym c.is_here.ensures ∙ c.if-is_here.true))))))
    c.stats.ensures

pub returns-else-is_here : goal.returns-else-is_here
returns-else-is_here c =
    let es = c.args.self.now.table.entries in
    let p = is_selected (Covered (normal_of c.args.m.now)) c.args.out_port in
    c.new.ensures
    ∙ sym (ap (λ b. map stat (if b then filter p es else [])) (sym c.is_here.ensures ∙ c.if-is_here.false))

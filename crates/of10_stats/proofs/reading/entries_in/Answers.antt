use Rattle.std.proofs.Common.{◌≡◌, ◌<◌, ◌≤◌, ◌+◌, Some, None, drop, length, sym, ap, ◌∙◌, arith}
use Rattle.std.proofs.lemmas.List.{length-drop}
use Rattle.of10_stats.specs.Reading.{entry_at, items_at}
use Rattle.of10_stats.specs.Spelling.{entry_size}
use Rattle.of10_stats.proofs.Items.{fails, goes_on, is_done}
use Rattle.of10_stats.proofs.Whole.{entry_whole}
use Rattle.of10_stats.proofs.reading.entries_in.Goals as goal

pub returns-in_default : goal.returns-in_default
returns-in_default c =
    let bytes = c.args.bytes.now in
    let read : entry_at (drop c.loop-at.at bytes) ≡ None = ap entry_at (sym c.split_at.ensures.back)
    ∙ (sym c.in_ok-entry.ensures ∙ c.in_default.is) in
    fails entry_at entry_size c.loop-at.entries bytes c.loop-at.at (items_at entry_at entry_size 0 bytes)
    c.loop-at-test.true read c.loop-at.invariant.so_far

pub loop-at-preserved : goal.loop-at-preserved
loop-at-preserved c =
    let bytes = c.args.bytes.now in
    let at = c.loop-at.at in
    let entry = c.in-Some.entry in
    let read : entry_at (drop at bytes) ≡ Some entry = ap entry_at (sym c.split_at.ensures.back)
    ∙ (sym c.in_ok-entry.ensures ∙ c.in-Some.is) in
    let whole = entry_whole (drop at bytes) entry read in
    let some : 0 < entry_size entry = omega (arith, whole.size, whole.least) in
    let within : at + entry_size entry ≤ length bytes =
    omega (arith, whole.size, whole.within, length-drop at bytes, c.loop-at-test.true) in
    let so_far = goes_on entry_at entry_size c.loop-at.entries bytes at entry (items_at entry_at entry_size 0 bytes)
    c.loop-at-test.true some read c.loop-at.invariant.so_far in
    rw (c.in_ok-push.ensures.pushed, c.length-at.ensures) (record { within = within; so_far = so_far })

pub returns : goal.returns
returns c = is_done entry_at entry_size c.loop-at.entries c.args.bytes.now c.loop-at.at
    (items_at entry_at entry_size 0 c.args.bytes.now) c.loop-at-test.false c.loop-at.invariant.so_far

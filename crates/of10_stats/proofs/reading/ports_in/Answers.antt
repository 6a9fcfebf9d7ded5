use Rattle.std.proofs.Common.{◌≡◌, ◌≤◌, ◌+◌, Some, None, drop, length, sym, ap, ◌∙◌, arith}
use Rattle.std.proofs.lemmas.List.{length-drop}
use Rattle.of10_stats.specs.Reading.{port_at, items_at}
use Rattle.of10_stats.specs.Spelling.{port_size}
use Rattle.of10_stats.proofs.Items.{fails, goes_on, is_done}
use Rattle.of10_stats.proofs.Whole.{port_whole}
use Rattle.of10_stats.proofs.reading.ports_in.Goals as goal

pub returns-in_default : goal.returns-in_default
returns-in_default c =
    let bytes = c.args.bytes.now in
    let read : port_at (drop c.loop-at.at bytes) ≡ None = ap port_at (sym c.split_at.ensures.back)
    ∙ (sym c.port_at.ensures ∙ c.in_default.is) in
    fails port_at port_size c.loop-at.ports bytes c.loop-at.at (items_at port_at port_size 0 bytes) c.loop-at-test.true
    read c.loop-at.invariant.so_far

pub loop-at-preserved : goal.loop-at-preserved
loop-at-preserved c =
    let bytes = c.args.bytes.now in
    let at = c.loop-at.at in
    let port = c.in-Some.port in
    let read : port_at (drop at bytes) ≡ Some port = ap port_at (sym c.split_at.ensures.back)
    ∙ (sym c.port_at.ensures ∙ c.in-Some.is) in
    let whole = port_whole (drop at bytes) port read in
    let within : at + 104 ≤ length bytes = omega (arith, whole.0, length-drop at bytes, c.loop-at-test.true) in
    let so_far = goes_on port_at port_size c.loop-at.ports bytes at port (items_at port_at port_size 0 bytes)
    c.loop-at-test.true (omega arith) read c.loop-at.invariant.so_far in
    rw c.in_ok-push.ensures.pushed (record { within = within; so_far = so_far })

pub returns : goal.returns
returns c = is_done port_at port_size c.loop-at.ports c.args.bytes.now c.loop-at.at
    (items_at port_at port_size 0 c.args.bytes.now) c.loop-at-test.false c.loop-at.invariant.so_far

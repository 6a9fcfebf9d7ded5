use Rattle.std.proofs.Common.{◌+◌, ap, subst, length, arith}
use Rattle.std.proofs.lemmas.Bool.{leb-true}
use Rattle.of10_msgs.specs.Ranges.{CanWrite}
use Rattle.of10_msgs.specs.Spelling.{body_bytes}
use Rattle.of10_msgs.specs.declared.message.Body.{Body}
use Rattle.soft_net.proofs.switch.SoftSwitch.hear.Goals as goal

pub tell-requires-clause-room : goal.tell-requires-clause-room
unfolding body_bytes
tell-requires-clause-room c =
    let W : Body → Type 0 = λ b. CanWrite b in
    let w = subst W c.in-StatsRequest.is c.requires.body in
    let l = leb-true 12 (8 + length c.in-StatsRequest.body) w.long in
    let s = ap length c.as_slice.ensures in
    omega (arith, l, s)

pub tell-requires-clause-fits : goal.tell-requires-clause-fits
unfolding body_bytes
tell-requires-clause-fits c =
    let W : Body → Type 0 = λ b. CanWrite b in
    let w = subst W c.in-StatsRequest.is c.requires.body in
    let l = w.fits in
    let s = ap length c.as_slice.ensures in
    omega (arith, l, s)

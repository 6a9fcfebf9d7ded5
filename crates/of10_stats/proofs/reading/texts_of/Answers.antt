use Rattle.std.proofs.Common.{◌+◌, ◌++◌, ◌∷◌, List, ℕ, [], take, ap, ◌∙◌, drop, get_or, length, arith}
use Rattle.std.proofs.lemmas.List.{length-drop}
use Rattle.of10_stats.specs.Ranges.{widths}
use Rattle.of10_stats.specs.Reading.{texts_of}
use Rattle.of10_stats.proofs.Texts.{texts_end, texts_more, width_left}
use Rattle.of10_stats.proofs.reading.texts_of.Goals as goal

pub split_at-requires : goal.split_at-requires
split_at-requires c =
    omega (arith, width_left widths c.loop-width.width-index c.loop-width-test.true, c.loop-width.invariant.room)

pub loop-width-preserved : goal.loop-width-preserved
loop-width-preserved c =
    let i = c.loop-width.width-index in
    let left = c.loop-width.left.now in
    let width = get_or widths i 0 in
    let text = c.in_ok-from_slice.ensures ∙ c.split_at.ensures.front in
    let pushed = c.in_ok-push.ensures.pushed ∙ ap (λ (t : List ℕ). c.loop-width.texts ++ t ∷ []) text in
    record {
      room = omega (
        arith,
        width_left widths i c.loop-width-test.true,
        c.loop-width.invariant.room,
        ap length c.split_at.ensures.back,
        length-drop width left,
      );
      so_far = ap (λ (ts : List (List ℕ)). ts ++ texts_of (drop (i + 1) widths) c.split_at.result.1.now) pushed
          ∙ (ap (λ (rest : List ℕ). (c.loop-width.texts ++ take width left ∷ []) ++ texts_of (drop (i + 1) widths) rest)
          c.split_at.ensures.back
          ∙ texts_more widths i left c.loop-width.texts (texts_of widths c.args.rest.now) c.loop-width-test.true
          c.loop-width.invariant.so_far);
    }

pub returns : goal.returns
returns c = texts_end widths c.loop-width.width-index c.loop-width.left.now c.loop-width.texts
    (texts_of widths c.args.rest.now) c.loop-width-test.false c.loop-width.invariant.so_far

use mathlib.Core.Path.{ap, ◌∙◌}
use borrow.Author.Tests.{le-ltb}
use Rattle.buffers.specs.Buffers.{put}
use Rattle.buffers.proofs.Parts.{to_end}
use Rattle.nbiot_c.proofs.Bitmap.{refused_numbers, accepted_numbers}
use Rattle.nbiot_c.proofs.nbiot_bitmap.Goals as goal

pub returns-then-no-ne0 : goal.returns-then-no-ne0
returns-then-no-ne0 c =
    let x = c.args in
    let numbers = refused_numbers _ x.anchor.now x.other.now c.judge_lent-no.ensures c.if-no-ne0.true in
    simp (le-ltb _ _ c.if-cell-lt8.false, le-ltb _ _ c.if-answer-lt3.false)
    (c.put.ensures ∙ ap (λ l. put l x.answer.now) numbers ∙ simp (c.config_at-c.ensures, to_end))

pub returns : goal.returns
returns c =
    let x = c.args in
    let numbers = accepted_numbers _ x.anchor.now x.other.now c.judge_lent-no.ensures c.if-no-ne0.false c.bytes-n.ensures in
    simp (le-ltb _ _ c.if-cell-lt8.false, le-ltb _ _ c.if-answer-lt3.false)
    (c.put-2.ensures ∙ ap (λ l. put l x.answer.now) numbers ∙ simp (c.config_at-c.ensures, to_end))

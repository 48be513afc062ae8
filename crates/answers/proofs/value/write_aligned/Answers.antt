use Rattle.std.proofs.Common.{◌≡◌, ◌∙◌, ◌-◌, ◌++◌, sym, ap, arith, length, length-append, replicate, string_bytes}
use Rattle.std.proofs.lemmas.List.{length-replicate}
use Rattle.answers.proofs.Line.{part_then_end}
use Rattle.answers.proofs.Room.{decimal_short, room}
use Rattle.answers.specs.Line.{aligned}
use Rattle.answers.proofs.value.write_aligned.Goals as goal

pub returns-clause-text : goal.returns-clause-text
returns-clause-text c =
    let digits = c.format-digits.result.now in
    let spaces = c.args.width - length digits in
    let all : c.loop.counter - length digits ≡ spaces = omega (arith, c.loop.invariant.few, c.loop-test.false) in
    rw (sym c.format-digits.ensures.text) (part_then_end c.push_str.result (string_bytes c.args.out.now)
    (string_bytes c.loop.out) (string_bytes c.push_str.new.self) (replicate spaces 32) digits
    (c.loop.invariant.spaces ∙ ap (λ n. string_bytes c.args.out.now ++ replicate n 32) all) c.push_str.ensures.bytes)

pub returns-clause-room : goal.returns-clause-room
returns-clause-room c narrow =
    let short = decimal_short c.args.value c.ranges.value.fits in
    room c.push_str.result (string_bytes c.args.out.now) (string_bytes c.push_str.new.self) (aligned c.args.width c.args.value) 20
    (returns-clause-text c) (simp (length-append, length-replicate) (omega (arith, short)))

pub returns-clause-succeeds : goal.returns-clause-succeeds
returns-clause-succeeds c narrow fits =
    let begun = simp (length-append, length-replicate) at (ap length c.loop.invariant.spaces) in
    c.push_str.ensures.succeeds (omega (arith, begun, c.format-digits.ensures.fits, c.loop.invariant.few, c.loop.invariant.room))

use Rattle.std.proofs.Common.{arith, ◌≡◌, ◌+◌, ◌++◌, take}
use Rattle.std.proofs.lemmas.Grind.{common_steps}
use Rattle.std.proofs.lemmas.Str.{IsAscii-append}
use Rattle.std.specs.List.{flat_map}
use Rattle.answers.specs.Answers.{number_text}
use Rattle.answers.proofs.hex.write_group.Goals as goal

pub loop-i-preserved : goal.loop-i-preserved
loop-i-preserved c =
    let numbers = c.args.numbers.now in
    let so_far = flat_map number_text (take c.loop-i.i numbers) in
    let next : flat_map number_text (take (c.loop-i.i + 1) numbers) ≡ so_far ++ c.spaced_pattern.result =
    grind (arith, common_steps) in (
      grind (arith, common_steps),
      grind (arith, common_steps),
      rw next (IsAscii-append so_far c.spaced_pattern.result c.loop-i.invariant.2 c.spaced_pattern.ensures.ascii),
    )

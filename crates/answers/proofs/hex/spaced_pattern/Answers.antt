use Rattle.std.proofs.Common.{arith, ◌∷◌, [], slice_index_or}
use Rattle.answers.proofs.Digits.{each_ascii}
use Rattle.answers.proofs.hex.spaced_pattern.Goals as goal

pub returns-clause-ascii : goal.returns-clause-ascii
returns-clause-ascii c =
    let digits = c.word_digits.result in
    let small = c.word_digits.ensures.ascii in
    each_ascii
    (32 ∷ slice_index_or digits 0 0 ∷ slice_index_or digits 1 0 ∷ slice_index_or digits 2 0 ∷ slice_index_or digits 3 0 ∷
    slice_index_or digits 4 0 ∷ slice_index_or digits 5 0 ∷ slice_index_or digits 6 0 ∷ slice_index_or digits 7 0 ∷ [])
    (omega arith, (small 0, (small 1, (small 2, (small 3, (small 4, (small 5, (small 6, (small 7, tt)))))))))

use Rattle.std.proofs.Common.{sym, ◌∙◌, ◌/◌, ◌%◌, ◌∷◌, [], arith, slice_index_or}
use Rattle.answers.proofs.Digits.{byte_digits, word_digits, each_ascii}
use Rattle.answers.proofs.hex.word_digits.Goals as goal

pub returns-clause-value : goal.returns-clause-value
returns-clause-value c =
    let x = c.args.x in
    let first = c.byte_digits.ensures.value ∙ byte_digits (x / 0x100_0000) (omega arith) in
    let second = c.byte_digits-2.ensures.value ∙ byte_digits (x / 0x1_0000 % 0x100) (omega arith) in
    let third = c.byte_digits-3.ensures.value ∙ byte_digits (x / 0x100 % 0x100) (omega arith) in
    let last = c.byte_digits-4.ensures.value ∙ byte_digits (x % 0x100) (omega arith) in
    rw (first, second, third, last) (sym (word_digits x c.ranges.x.fits))

pub returns-clause-ascii : goal.returns-clause-ascii
returns-clause-ascii c =
    let first = c.byte_digits.result in
    let second = c.byte_digits-2.result in
    let third = c.byte_digits-3.result in
    let last = c.byte_digits-4.result in
    each_ascii
    (slice_index_or first 0 0 ∷ slice_index_or first 1 0 ∷ slice_index_or second 0 0 ∷ slice_index_or second 1 0 ∷
    slice_index_or third 0 0 ∷ slice_index_or third 1 0 ∷ slice_index_or last 0 0 ∷ slice_index_or last 1 0 ∷ []) (
      c.byte_digits.ensures.ascii 0,
      (
        c.byte_digits.ensures.ascii 1,
        (
          c.byte_digits-2.ensures.ascii 0,
          (
            c.byte_digits-2.ensures.ascii 1,
            (
              c.byte_digits-3.ensures.ascii 0,
              (c.byte_digits-3.ensures.ascii 1, (c.byte_digits-4.ensures.ascii 0, (c.byte_digits-4.ensures.ascii 1, tt))),
            ),
          ),
        ),
      ),
    )

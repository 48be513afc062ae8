use Rattle.std.proofs.Common.{sym, ◌*◌, ◌+◌, ◌/◌, ◌%◌, ◌<◌, ◌∷◌, [], arith, get_or}
use Rattle.answers.proofs.Digits.{byte_digits, held_pair, each_ascii, glyph_ascii}
use Rattle.answers.proofs.hex.byte_digits.Goals as goal
use Rattle.answers.specs.declared.hex.TheConstants.{PAIRS}

pub returns-clause-value : goal.returns-clause-value
returns-clause-value c =
    let held = held_pair c.args.b c.ranges.b.fits in rw (held.0, held.1) (sym (byte_digits c.args.b c.ranges.b.fits))

pub returns-clause-ascii : goal.returns-clause-ascii
returns-clause-ascii c =
    let b = c.args.b in
    let held = held_pair b c.ranges.b.fits in
    let high : get_or PAIRS (2 * b) 0 < 128 = rw held.0 (glyph_ascii (b / 16) (omega arith)) in
    let low : get_or PAIRS (2 * b + 1) 0 < 128 = rw held.1 (glyph_ascii (b % 16) (omega arith)) in
    each_ascii (get_or PAIRS (2 * b) 0 ∷ get_or PAIRS (2 * b + 1) 0 ∷ []) (high, (low, tt))

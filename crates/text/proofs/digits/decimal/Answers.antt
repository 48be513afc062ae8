use Rattle.std.proofs.Common.{sym, ◌∙◌, arith}
use Rattle.std.proofs.lemmas.Option.{cond_some}
use Rattle.text.proofs.Digitwise.{no_digit, odd_at, digit_at, followed_at, past, end_digits, end_followed, none_read, odd_read, large_read, all_read}
use Rattle.text.proofs.digits.decimal.Goals as goal

pub returns-then-is_empty : goal.returns-then-is_empty
returns-then-is_empty c = none_read _ (grind (arith, c.if-is_empty.ensures))

-- a number past 2^64 - 1
pub returns-in_err-checked_mul : goal.returns-in_err-checked_mul
returns-in_err-checked_mul c =
    let o = c.in_err-checked_mul.ensures in
    rw c.from_residual.ensures (large_read _ (past _ _ _ c.loop-b-test.true c.loop-b.invariant.number (omega arith)))

-- a byte that is no digit
pub returns-in_err-digit : goal.returns-in_err-digit
returns-in_err-digit c =
    let f = no_digit _ _ c.in_err-digit.ensures in
    rw c.from_residual-in_err-digit.ensures (odd_read _ (sym c.loop-b.invariant.digits ∙ odd_at _ _ c.loop-b-test.true f))

-- a number past 2^64 - 1
pub returns-in_err-x : goal.returns-in_err-x
returns-in_err-x c =
    let a = cond_some _ _ _ (sym c.in_ok-digit.ensures) in
    let m = c.in_ok-checked_mul.ensures in
    let o = c.in_err-x.ensures in
    rw c.from_residual-in_err-x.ensures (large_read _ (past _ _ _ c.loop-b-test.true c.loop-b.invariant.number (omega arith)))

pub loop-b-preserved : goal.loop-b-preserved
loop-b-preserved c =
    let a = cond_some _ _ _ (sym c.in_ok-digit.ensures) in
    let m = c.in_ok-checked_mul.ensures in
    let x = c.in_ok-x.ensures in
    record {
      fits = omega arith;
      digits = sym (digit_at _ _ c.loop-b-test.true a.0) ∙ c.loop-b.invariant.digits;
      number = rw (x.1, m.1, sym a.1) (sym (followed_at _ _ _ c.loop-b-test.true) ∙ c.loop-b.invariant.number);
    }

pub returns : goal.returns
returns c =
    let l = c.loop-b.invariant in
    let e = c.loop-b-test.false in
    all_read _ _ (grind (arith, c.if-is_empty.ensures)) (sym l.digits ∙ end_digits _ _ e) (sym l.number ∙ end_followed _ _ _ e) l.fits

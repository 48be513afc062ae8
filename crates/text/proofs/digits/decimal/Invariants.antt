-- What is read and what is left make up the whole.
use Rattle.std.proofs.Common.{◌≡◌, ◌<◌, drop}
use Rattle.text.specs.Decimal.{all_digits, followed_by}
use Rattle.text.proofs.digits.decimal.Given as goal

abbrev pub invariant-loop-b : goal.invariant-loop-b
invariant-loop-b l = record {
  fits : l.x < 18446744073709551616;
  digits : all_digits (drop l.b-index l.s) ≡ all_digits l.s;
  number : followed_by l.x (drop l.b-index l.s) ≡ followed_by 0 l.s;
}

-- The bitmap in force has at most five bytes.
use Rattle.std.proofs.Common.{Bool, true, false, cond, List, [], ℕ, ◌≤◌, arith, eqb, length, take}
use Rattle.std.proofs.Math.ListN.{length-take}
use native.Mathlib.Nat.{min-le_left}
use Rattle.bitmap.specs.Bitmap.{bytes_of}
use Rattle.cell.specs.declared.Cell.{Cell}
use Rattle.cell.specs.Bitmap.{own_buffer}
use Rattle.cell.specs.Judge.{judge_of, in_force_of}
use Rattle.query.proofs.asking.bitmap.Goals as goal

five : (s t : Bool) → cond s 0 (cond t 2 5) ≤ 5
five true t = omega arith
five false true = omega arith
five false false = omega arith

few : (bits : ℕ) → bytes_of bits ≤ 5
unfolding bytes_of
few bits = five (eqb bits 0) (eqb bits 10)

front : (t : Bool) (n : ℕ) (own : List ℕ) → n ≤ 5 → length (cond t (take n own) []) ≤ 64
front true n own h = rw length-take (omega (arith, min-le_left n (length own)))
front false n own h = omega arith

short : (c : Cell) (anchor other : List ℕ) → length (in_force_of c anchor other) ≤ 64
unfolding in_force_of
short c anchor other =
    front (eqb (judge_of c anchor other) 0) (bytes_of c.config.bits) (own_buffer c.config anchor other) (few c.config.bits)

pub returns-clause-room : goal.returns-clause-room
returns-clause-room c = c.write_bitmap.ensures.room (rw c.bitmap.ensures (short _ _ _))

pub returns-clause-succeeds : goal.returns-clause-succeeds
returns-clause-succeeds c fits = c.write_bitmap.ensures.succeeds (rw c.bitmap.ensures (short _ _ _)) fits

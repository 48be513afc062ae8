use mathlib.Core.Path.{◌≡◌, ap, sym, ◌∙◌, subst}
use Prim.Native.Nat.{ℕ, ◌*◌, ◌/◌, ◌%◌, ◌≤◌}
use native.Mathlib.Omega.{arith}
use Rattle.counting.specs.Counting.{rank}
use Rattle.sync.specs.Sync.{by_schedule, sib1}
use Rattle.broadcast.proofs.Frames.{index_by, sib1_late, sib1_before}
use Rattle.broadcast.proofs.sib1_index.Goals.{Start, Else-k-eq1}
use Rattle.broadcast.proofs.sib1_index.Goals as goal

-- by the schedule: the first frame is none after t's, and which of the subframes t is
module _ (s : Start) (r : ℕ) (e : s.args.schedule % 3 ≡ r) where
  late : by_schedule r (16 * (s.args.identity % 4)) (16 * (s.args.identity % 2)) (s.args.identity % 2) ≤ s.args.t / 10
  late =
      subst (λ (r : ℕ). by_schedule r (16 * (s.args.identity % 4)) (16 * (s.args.identity % 2)) (s.args.identity % 2) ≤ s.args.t / 10) e
      (sib1_late s.args.identity s.args.schedule s.args.t s.requires.0 s.requires.1)

  index : index_by r s.args.identity (s.args.t / 10) ≡ rank (sib1 s.args.identity s.args.schedule) s.args.t
  index =
      ap (λ (r : ℕ). index_by r s.args.identity (s.args.t / 10)) (sym e)
      ∙ sym (sib1_before s.args.identity s.args.schedule s.args.t s.requires.0 s.requires.1)

-- neither 0 nor 1
two : (c : Else-k-eq1) → c.args.schedule % 3 ≡ 2
two c = omega (arith, c.if-k-eq0.false, c.if-k-eq1.false)

pub overflow_mul-x : goal.overflow_mul-x
overflow_mul-x c = omega arith

pub overflow_sub-x : goal.overflow_sub-x
overflow_sub-x c = late c.before 0 c.if-k-eq0.true

pub overflow_mul-result : goal.overflow_mul-result
overflow_mul-result c = omega (arith, c.requires.0)

pub overflow_add-result : goal.overflow_add-result
overflow_add-result c = omega (arith, c.requires.0)

pub returns-then-k-eq0 : goal.returns-then-k-eq0
returns-then-k-eq0 c = (index c.before 0 c.if-k-eq0.true, omega (arith, c.requires.0))

pub overflow_mul-x-then-k-eq1 : goal.overflow_mul-x-then-k-eq1
overflow_mul-x-then-k-eq1 c = omega arith

pub overflow_sub-x-then-k-eq1 : goal.overflow_sub-x-then-k-eq1
overflow_sub-x-then-k-eq1 c = late c.before.before 1 c.if-k-eq1.true

pub overflow_mul-result-then-k-eq1 : goal.overflow_mul-result-then-k-eq1
overflow_mul-result-then-k-eq1 c = omega (arith, c.requires.0)

pub overflow_add-result-then-k-eq1 : goal.overflow_add-result-then-k-eq1
overflow_add-result-then-k-eq1 c = omega (arith, c.requires.0)

pub returns-then-k-eq1 : goal.returns-then-k-eq1
returns-then-k-eq1 c = (index c.before.before 1 c.if-k-eq1.true, omega (arith, c.requires.0))

pub overflow_sub-x-2 : goal.overflow_sub-x-2
overflow_sub-x-2 c = late c.before.before 2 (two c)

pub overflow_mul-result-2 : goal.overflow_mul-result-2
overflow_mul-result-2 c = omega (arith, c.requires.0)

pub overflow_add-result-2 : goal.overflow_add-result-2
overflow_add-result-2 c = omega (arith, c.requires.0)

pub returns : goal.returns
returns c = (index c.before.before 2 (two c), omega (arith, c.requires.0))

use mathlib.Core.Path.{◌≡◌, sym, ap}
use Prim.Native.Nat.{ℕ, ◌%◌, ◌≤◌}
use native.Mathlib.Omega.{arith}
use Rattle.broadcast.specs.Channels.{sib1_frame}
use Rattle.broadcast.proofs.Channels.{copies_few}
use Rattle.broadcast.proofs.Frames.{frame_by}
use Rattle.broadcast.proofs.sib1_frame.Goals.{Start, Else-k-eq1}
use Rattle.broadcast.proofs.sib1_frame.Goals as goal

-- at most 128 subframes
few : (s : Start) → s.args.i ≤ 128
few s = omega (arith, s.requires, (copies_few (s.args.schedule % 3)).1)

-- by the schedule
frame : (s : Start) (r : ℕ) → s.args.schedule % 3 ≡ r → frame_by r s.args.identity s.args.i ≡ sib1_frame s.args.identity s.args.schedule s.args.i
frame s r e = ap (λ (r : ℕ). frame_by r s.args.identity s.args.i) (sym e)

-- neither 0 nor 1
two : (c : Else-k-eq1) → c.args.schedule % 3 ≡ 2
two c = omega (arith, c.if-k-eq0.false, c.if-k-eq1.false)

pub overflow_mul-result : goal.overflow_mul-result
overflow_mul-result c = omega arith

pub overflow_mul-result-then-k-eq0 : goal.overflow_mul-result-then-k-eq0
overflow_mul-result-then-k-eq0 c = omega (arith, few c.before)

pub overflow_add-result : goal.overflow_add-result
overflow_add-result c = omega (arith, few c.before)

pub overflow_mul-result-then-k-eq0-2 : goal.overflow_mul-result-then-k-eq0-2
overflow_mul-result-then-k-eq0-2 c = omega arith

pub overflow_add-result-then-k-eq0 : goal.overflow_add-result-then-k-eq0
overflow_add-result-then-k-eq0 c = omega (arith, few c.before)

pub returns-then-k-eq0 : goal.returns-then-k-eq0
returns-then-k-eq0 c = frame c.before 0 c.if-k-eq0.true

pub overflow_mul-result-then-k-eq1 : goal.overflow_mul-result-then-k-eq1
overflow_mul-result-then-k-eq1 c = omega arith

pub overflow_mul-result-then-k-eq1-2 : goal.overflow_mul-result-then-k-eq1-2
overflow_mul-result-then-k-eq1-2 c = omega (arith, few c.before.before)

pub overflow_add-result-then-k-eq1 : goal.overflow_add-result-then-k-eq1
overflow_add-result-then-k-eq1 c = omega (arith, few c.before.before)

pub overflow_mul-result-then-k-eq1-3 : goal.overflow_mul-result-then-k-eq1-3
overflow_mul-result-then-k-eq1-3 c = omega arith

pub overflow_add-result-then-k-eq1-2 : goal.overflow_add-result-then-k-eq1-2
overflow_add-result-then-k-eq1-2 c = omega (arith, few c.before.before)

pub returns-then-k-eq1 : goal.returns-then-k-eq1
returns-then-k-eq1 c = frame c.before.before 1 c.if-k-eq1.true

pub overflow_mul-result-2 : goal.overflow_mul-result-2
overflow_mul-result-2 c = omega (arith, few c.before.before)

pub overflow_add-result-2 : goal.overflow_add-result-2
overflow_add-result-2 c = omega (arith, few c.before.before)

pub overflow_mul-result-3 : goal.overflow_mul-result-3
overflow_mul-result-3 c = omega arith

pub overflow_add-result-3 : goal.overflow_add-result-3
overflow_add-result-3 c = omega (arith, few c.before.before)

pub returns : goal.returns
returns c = frame c.before.before 2 (two c)

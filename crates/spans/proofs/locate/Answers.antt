use mathlib.Core.Path.{sym, ◌∙◌}
use native.Mathlib.Omega.{arith}
use Rattle.counting.proofs.Rank.{rank_mono}
use Rattle.spans.specs.Pattern.{allows, period_of}
use Rattle.spans.proofs.Laws.{repeats}
use Rattle.spans.proofs.Located.{early, skipped, past, found, ahead, amid}
use Rattle.spans.proofs.locate.Goals as goal

pub returns-then-t-from : goal.returns-then-t-from
returns-then-t-from c = early (allows c.args.p) (period_of c.args.p) (repeats c.args.p c.requires.0) c.requires.1 _ _ _ _ c.if-t-from.true

pub overflow_sub-i : goal.overflow_sub-i
overflow_sub-i c = omega (arith, c.rank_of.ensures, c.rank_of-2.ensures, rank_mono (allows c.new-counted.result.pattern) c.args.from c.args.t c.if-t-from.false)

pub returns-then-i-skip : goal.returns-then-i-skip
returns-then-i-skip c =
    let t = rw c.new-counted.ensures at c.rank_of.ensures in
    let from = rw c.new-counted.ensures at c.rank_of-2.ensures in
    skipped (allows c.args.p) (period_of c.args.p) (repeats c.args.p c.requires.0) c.requires.1 _ _ _ _ _ _ t from c.if-i-skip.true

pub returns-then-index-many : goal.returns-then-index-many
returns-then-index-many c =
    let t = rw c.new-counted.ensures at c.rank_of.ensures in
    let from = rw c.new-counted.ensures at c.rank_of-2.ensures in
    past (allows c.args.p) (period_of c.args.p) (repeats c.args.p c.requires.0) c.requires.1 _ _ _ _ _ _ t from c.if-t-from.false c.if-i-skip.false c.if-index-many.true

pub returns-then-is_allowed : goal.returns-then-is_allowed
returns-then-is_allowed c =
    let t = rw c.new-counted.ensures at c.rank_of.ensures in
    let from = rw c.new-counted.ensures at c.rank_of-2.ensures in
    found (allows c.args.p) (period_of c.args.p) (repeats c.args.p c.requires.0) c.requires.1 _ _ _ _ _ _ t from c.if-t-from.false c.if-i-skip.false
    (sym c.is_allowed.ensures ∙ c.if-is_allowed.true) c.if-index-many.false

pub returns-then-index-eq0 : goal.returns-then-index-eq0
returns-then-index-eq0 c =
    let t = rw c.new-counted.ensures at c.rank_of.ensures in
    let from = rw c.new-counted.ensures at c.rank_of-2.ensures in
    ahead (allows c.args.p) (period_of c.args.p) (repeats c.args.p c.requires.0) c.requires.1 _ _ _ _ _ _ t from c.if-t-from.false c.if-i-skip.false
    (sym c.is_allowed.ensures ∙ c.if-is_allowed.false) c.if-index-eq0.true

pub returns-else-index-eq0 : goal.returns-else-index-eq0
returns-else-index-eq0 c =
    let t = rw c.new-counted.ensures at c.rank_of.ensures in
    let from = rw c.new-counted.ensures at c.rank_of-2.ensures in
    amid (allows c.args.p) (period_of c.args.p) (repeats c.args.p c.requires.0) c.requires.1 _ _ _ _ _ _ t from c.if-t-from.false c.if-i-skip.false
    (sym c.is_allowed.ensures ∙ c.if-is_allowed.false) c.if-index-many.false c.if-index-eq0.false

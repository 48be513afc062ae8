use mathlib.Core.Bool.{Bool, true}
use mathlib.Core.Path.{◌≡◌, refl, sym, ap, ap₂, ◌∙◌}
use Prim.Native.Nat.{ℕ, ◌/◌}
use lib.Dec.{ltb}
use Rattle.counting.specs.Counting.{rank}
use Rattle.nprach.specs.Windows.{all_periods, are_listed, windows_refusal}
use Rattle.numerology.specs.Numerology.{group_ms}
use Rattle.postponed.specs.Beside.{open_beside}
use Rattle.plain_uplink.specs.declared.obstacles.Obstacles.{Obstacles}
use Rattle.plain_uplink.proofs.Clear.{clear_beside}
use Rattle.plain_uplink.proofs.obstacles.judge.Goals.{Else-not-are_listed, After-is_ever_clear}
use Rattle.plain_uplink.proofs.obstacles.judge.Goals as goal

listed : (c : Else-not-are_listed) → are_listed c.args.ws ≡ true
listed c = sym c.are_listed.ensures ∙ c.if-not-are_listed.false

-- whether some group is open
ever : (c : After-is_ever_clear)
    → let a = c.args in
    c.is_ever_clear.result ≡ ltb 0 (rank (open_beside a.spacing a.s a.ws) (all_periods / group_ms a.spacing))
ever c =
    let b = c in
    let a = b.args in
    c.is_ever_clear.ensures
    ∙ ap₂ (λ (u : ℕ → Bool) (ms : ℕ). ltb 0 (rank u (all_periods / ms)))
    (clear_beside a.spacing a.s a.ws b.beside.result b.beside.ensures.0)
    (ap (λ (x : Obstacles). x.ms) b.beside.ensures.0)

pub returns-then-not-are_listed : goal.returns-then-not-are_listed
unfolding windows_refusal
returns-then-not-are_listed c = rw (sym c.are_listed.ensures ∙ c.if-not-are_listed.true) refl

pub beside-requires : goal.beside-requires
unfolding windows_refusal
beside-requires c = let s = c in (s.requires.0, s.requires.1, listed c)

pub is_ever_clear-requires : goal.is_ever_clear-requires
unfolding windows_refusal
is_ever_clear-requires c = c.beside.ensures.1

pub returns-then-not-is_ever_clear : goal.returns-then-not-is_ever_clear
unfolding windows_refusal
returns-then-not-is_ever_clear c = rw (listed c.before.before.before, sym (ever c.before) ∙ c.if-not-is_ever_clear.true) refl

pub returns : goal.returns
unfolding windows_refusal
returns c = rw (listed c.before.before.before, sym (ever c.before) ∙ c.if-not-is_ever_clear.false) refl

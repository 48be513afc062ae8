-- For the code alone. What the quick code works out: windows as closures.
use Rattle.std.specs.Prelude.{Bool, true, cond, ◌&&◌, List, [], ◌∷◌, ◌≡◌, ℕ, ◌+◌, ◌-◌, ◌*◌, ◌/◌, ltb}
use Rattle.counting.specs.Counting.{rank}
use Rattle.closures.specs.declared.Closure.{Closure}
use Rattle.closures.specs.declared.Closures.{Closures}
use Rattle.closures.specs.declared.Nested.{Nested}
use Rattle.closures.specs.Closures.{clear}
use Rattle.closures.specs.Quick.{WellNested}
use Rattle.nprach.specs.declared.Window.{Window}
use Rattle.nprach.specs.declared.Windows.{Windows}
use Rattle.nprach.specs.Windows.{is_one_of, units_of_ms, all_periods, is_read, shares_tone}

-- a closure that closes nothing, with the shortest period
abbrev pub resting : ℕ → Closure
resting ms = record { period = 40 / ms; phase = 0; closed = 0 }

-- the groups that a window closes, as a closure: a window begins where a group does, and closes each group that its
-- length reaches into
unfoldable pub closure_of : ℕ → ℕ → ℕ → Bool → Window → Closure
closure_of ms a n read w =
    cond (read && shares_tone a n w)
    (record {
      period = w.period / ms;
      phase = (all_periods - w.start) / ms;
      closed = (w.length + (units_of_ms * ms - 1)) / (units_of_ms * ms);
    })
    (resting ms)

unfoldable pub closures_of : ℕ → ℕ → ℕ → Windows → Closures
closures_of ms a n ws = record {
  b1 = closure_of ms a n (is_read ws 1) ws.w1;
  b2 = closure_of ms a n (is_read ws 2) ws.w2;
  b3 = closure_of ms a n (is_read ws 3) ws.w3;
  b4 = closure_of ms a n (is_read ws 4) ws.w4;
}

-- the periods in parts of 8 ms, and in groups, of which `part` last 8 ms
abbrev pub doubles : List ℕ
doubles = 5 ∷ 10 ∷ 20 ∷ 40 ∷ 80 ∷ 160 ∷ 320 ∷ []

abbrev pub scaled : ℕ → List ℕ → List ℕ
scaled part [] = []
scaled part (n ∷ list) = n * part ∷ scaled part list

abbrev pub steps : ℕ → List ℕ
steps part = scaled part doubles

-- nested closures that leave open the groups of ms that a test does; the longest period is one of theirs, its clear
-- groups are counted, and there are some if there are any in 2,560 ms
pub record NestedFor (ms : ℕ) (is_open : ℕ → Bool) (nested : Nested) : Type 0 where
  pub same : (u : ℕ) → clear nested.closures u ≡ is_open u
  pub nesting : WellNested nested
  pub longest : is_one_of (steps (8 / ms)) nested.closures.b4.period ≡ true
  pub counted : nested.clear ≡ rank (clear nested.closures) nested.closures.b4.period
  pub some : ltb 0 nested.clear ≡ ltb 0 (rank is_open (all_periods / ms))

-- What it is for a group to overlap a window in time, said by the window: 02 L4. `overlaps` is the same as one test
-- (proofs/Meaning.antt).
use Rattle.std.specs.Prelude.{◌≡◌, ℕ, ◌+◌, ◌*◌, ◌%◌, ◌<◌}
use Rattle.nprach.specs.declared.Window.{Window}
use Rattle.nprach.specs.Windows.{units_of_ms, all_periods}

-- a window begins at a time that is equal to the start modulo the period, before the end of group u, which lasts ms,
-- and ends past the group's begin; times are counted from 2,560 ms below 0, which is a multiple of every period
pub record Meeting (ms : ℕ) (w : Window) (u : ℕ) : Type 0 where
  pub at : ℕ
  pub begins : at % w.period ≡ w.start % w.period
  pub before : at < all_periods + (ms * u + ms)
  pub past : units_of_ms * (all_periods + ms * u) < units_of_ms * at + w.length

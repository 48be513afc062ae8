-- For the code alone. Random access windows as a walk over slots asks them: 02 L4. `is_clear` of nprach says the same
-- of the windows.
use Rattle.std.specs.Prelude.{Bool, false, cond, not, ◌&&◌, ℕ, ◌+◌, ◌-◌, ◌*◌, ◌%◌, ◌≤◌, ◌<◌, ltb}
use Rattle.std.specs.Prelude.{Option, Some, None, IfSome, is_some, [], ◌∷◌}
use Rattle.std.specs.List.{All, list_any}
use Rattle.numerology.specs.Numerology.{group_ms, narrow_tones}
use Rattle.uplink.specs.declared.Shape.{Shape}
use Rattle.nprach.specs.declared.Window.{Window}
use Rattle.nprach.specs.declared.Windows.{Windows}
use Rattle.nprach.specs.Windows.{units_of_ms, all_periods, is_read, shares_tone}
use Rattle.nprach.specs.Scaffold.{reach}
use Rattle.plain_uplink.specs.declared.obstacles.Obstacle.{Obstacle}
use Rattle.plain_uplink.specs.declared.obstacles.Obstacles.{Obstacles}

-- a window stands in the way of n tones from tone a on: it is read and has one of them
unfoldable pub obstacle_of : ℕ → ℕ → ℕ → Bool → Window → Option Obstacle
obstacle_of ms a n read w =
    cond (read && shares_tone a n w) (Some (record { start = w.start; period = w.period; reach = reach ms w })) None

abbrev pub obstacles_of : ℕ → ℕ → ℕ → Windows → Obstacles
obstacles_of ms a n ws = record {
  ms = ms;
  windows = obstacle_of ms a n (is_read ws 1) ws.w1 ∷ obstacle_of ms a n (is_read ws 2) ws.w2
      ∷ obstacle_of ms a n (is_read ws 3) ws.w3 ∷ obstacle_of ms a n (is_read ws 4) ws.w4 ∷ [];
}

-- on the tones of a shape, by its spacing
abbrev pub obstacles_on : ℕ → Shape → Windows → Obstacles
obstacles_on spacing s ws =
    obstacles_of (group_ms spacing) (narrow_tones spacing * s.tone) (narrow_tones spacing * s.tones) ws

-- a window stands
abbrev pub any_stands : Obstacles → Bool
any_stands os = list_any is_some os.windows

-- it stands, and the last of its windows that begins before e, in ms, ends past the begin of a group that ends at e
unfoldable pub blocks : Option Obstacle → ℕ → Bool
blocks None e = false
blocks (Some o) e = ltb (units_of_ms * ((e + all_periods - 1 - o.start) % o.period + 1)) o.reach

-- group u is blocked by none
unfoldable pub clear_of : Obstacles → ℕ → Bool
clear_of os u = not (list_any (λ w. blocks w (os.ms * u + os.ms)) os.windows)

-- numbers that fit a word, if it stands
abbrev pub Sound : Option Obstacle → Type 0
Sound w = IfSome w (λ o. (0 < o.period) × (o.period ≤ 2560) × (o.start ≤ 1024))

pub record AllSound (os : Obstacles) : Type 0 where
  pub ms_from : 1 ≤ os.ms
  pub ms_to : os.ms ≤ 2
  pub windows : All Sound os.windows

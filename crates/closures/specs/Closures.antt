-- For the code alone. Closures: each closes the first so many numbers of each of its periods. Free is what no closure
-- closes.
use Rattle.std.specs.Prelude.{Bool, not, ◌&&◌, ℕ, ◌+◌, ◌%◌, ltb}
use Rattle.closures.specs.declared.Closure.{Closure}
use Rattle.closures.specs.declared.Closures.{Closures}

-- number t is closed by a closure
unfoldable pub is_closed : Closure → ℕ → Bool
is_closed b t = ltb ((t + b.phase) % b.period) b.closed

unfoldable pub leaves_open : Closure → ℕ → Bool
leaves_open b t = not (is_closed b t)

-- none of four closures closes t
unfoldable pub clear : Closures → ℕ → Bool
clear b t = (leaves_open b.b1 t && leaves_open b.b2 t) && (leaves_open b.b3 t && leaves_open b.b4 t)

-- nor does a fifth
unfoldable pub is_free : Closure → Closures → ℕ → Bool
is_free gap b t = leaves_open gap t && clear b t

-- a closure that closes nothing
abbrev pub idle : Closure
idle = record { period = 1; phase = 0; closed = 0 }

abbrev pub no_closures : Closures
no_closures = record { b1 = idle; b2 = idle; b3 = idle; b4 = idle }

-- For the code alone. What the quick code takes a field apart into.
use Rattle.std.specs.Prelude.{cond, ℕ, ltb}
use Rattle.grid.specs.Grid.{uplink_subcarriers}
use Rattle.npusch.specs.Scaffold.{three_tones, six_tones, all_tones}

-- the first field that names as many tones
unfoldable pub first_field : ℕ → ℕ → ℕ
first_field spacing field =
    cond (ltb field (uplink_subcarriers spacing)) 0
    (cond (ltb field six_tones) three_tones
    (cond (ltb field all_tones) six_tones
    all_tones))

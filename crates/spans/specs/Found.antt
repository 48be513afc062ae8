-- For the code alone. Where a subframe stands to a run of those that pass a test u that repeats after P.
use Rattle.std.specs.Prelude.{Bool, cond, not, ◌&&◌, ℕ, ◌-◌, ltb}
use Rattle.counting.specs.Counting.{count, select, among_first}
use Rattle.spans.specs.declared.Found.{Found}
use Rattle.spans.specs.declared.Found.TheVariants.{At, Between, Nothing}

-- strictly between the first and the last of the first K that pass from f on
abbrev pub amidst : (ℕ → Bool) → ℕ → ℕ → ℕ → ℕ → Bool
amidst u P f K t = ltb (select u P f 0) t && ltb t (select u P f (K - 1))

-- the index of subframe t among the first K that pass from f on; or it lies between them and does not pass
unfoldable pub found_among : (ℕ → Bool) → ℕ → ℕ → ℕ → ℕ → Found
found_among u P f K t =
    cond (among_first u f K t) (At (count u f (t - f))) (cond (not (u t) && amidst u P f K t) Between Nothing)

-- A number that is one of those listed.
use Rattle.std.specs.Prelude.{Bool, false, ◌||◌, List, [], ◌∷◌, ℕ, eqb}

abbrev pub is_one_of : List ℕ → ℕ → Bool
is_one_of [] x = false
is_one_of (n ∷ list) x = eqb x n || is_one_of list x

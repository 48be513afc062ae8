-- For the code alone. Two answers compared.
use Rattle.std.specs.Prelude.{Bool, true, ◌≡◌}

-- r says whether they are the same: true for equal ones, and for these alone
pub record Tells {A : Type 0} (a b : A) (r : Bool) : Type 0 where
  pub same : a ≡ b → r ≡ true
  pub only : r ≡ true → a ≡ b

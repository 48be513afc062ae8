-- For the code alone. What the quick code chooses: the bitmap as a number.
use Rattle.std.specs.Prelude.{true, List, ◌≡◌, ℕ, ◌^◌, ◌≤◌, ◌<◌, length}
use Rattle.spans.specs.Pattern.{mask_bit}
use Rattle.bitmap.specs.Bitmap.{bytes_of, listed_length, allowed}

-- bits and bytes that fit each other
pub record BitmapFits (bits : ℕ) (b : List ℕ) : Type 0 where
  pub listed : listed_length bits ≡ true
  pub long : bytes_of bits ≤ length b

-- m has bit i for subframe i of forty
pub record Loaded (b : List ℕ) (bits m : ℕ) : Type 0 where
  pub small : m < 2 ^ 40
  pub digits : (i : ℕ) → i < 40 → mask_bit m i ≡ allowed b bits i

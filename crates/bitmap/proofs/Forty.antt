-- The bits of a bitmap as forty digits of a number.
use mathlib.Core.Bool.{Bool, true, false, cond, ◌||◌}
use mathlib.Core.List.{List}
use mathlib.Core.Path.{◌≡◌, refl, sym, ap, ◌∙◌, subst}
use mathlib.Core.Logic.{◌⊎◌, inl, inr, ⊎_elim}
use Prim.Native.Nat.{ℕ, ◌+◌, ◌-◌, ◌*◌, ◌/◌, ◌%◌, ◌^◌, ◌<◌}
use native.Mathlib.Nat.{zero-add}
use native.Mathlib.Omega.{arith}
use lib.Dec.{T, eqb}
use lib.Pow.{shr-shr}
use lib.ListN.{get_or, take}
use lib.Seq.{get_or-take}
use borrow.Author.Tests.{eqb-true}
use Rattle.counting.specs.Bits.{bit_at}
use Rattle.counting.proofs.Facts.{each, each_at, either_case}
use Rattle.counting.proofs.Ones.{Front, front_none, front_more}
use Rattle.spans.specs.Pattern.{mask_bit}
use Rattle.bitmap.specs.Bitmap.{bytes_of, listed_length, allowed}
use Rattle.counting.specs.Bits.{bit_of}
use Rattle.bitmap.specs.Quick.{Loaded}

-- ---- 0, 10 and 40 bits

pub by_length : (bits : ℕ) → listed_length bits ≡ true → (bits ≡ 0) ⊎ ((bits ≡ 10) ⊎ (bits ≡ 40))
unfolding listed_length
by_length bits h =
    ⊎_elim (λ e. inl (eqb-true bits 0 e))
    (λ r. inr (⊎_elim (λ e. inl (eqb-true bits 10 e)) (λ e. inr (eqb-true bits 40 e)) (either_case (eqb bits 10) (eqb bits 40) r)))
    (either_case (eqb bits 0) (eqb bits 10 || eqb bits 40) h)

pub two_bytes : (bits : ℕ) → bits ≡ 10 → bytes_of bits ≡ 2
unfolding bytes_of
two_bytes bits e = rw e refl

pub five_bytes : (bits : ℕ) → bits ≡ 40 → bytes_of bits ≡ 5
unfolding bytes_of
five_bytes bits e = rw e refl

-- a bitmap that is neither empty nor of ten bits has forty
pub forty_bits : (bits : ℕ) → listed_length bits ≡ true → (bits ≡ 0 → ⊥) → (bits ≡ 10 → ⊥) → bits ≡ 40
forty_bits bits h a b = ⊎_elim (λ e. absurd (a e)) (λ r. ⊎_elim (λ e. absurd (b e)) (λ e. e) r) (by_length bits h)

ones_table : T (each 40 (λ i. mask_bit 0xff_ffff_ffff i))
ones_table = tt

true_is : (b : Bool) → T b → b ≡ true
true_is true t = refl
true_is false t = absurd t

module _ (b : List ℕ) (bytes : (q : ℕ) → get_or b q 0 < 256) where
  abbrev byte : ℕ → ℕ
  byte q = get_or b q 0

  -- byte q has bits 8q to 8q + 7, the first the highest
  byte_bits : (q x : ℕ) → x < 8 → bit_at (byte q) (7 - x) ≡ bit_of b (8 * q + x)
  byte_bits q x h =
      let d : (8 * q + x) / 8 ≡ q = omega arith in
      let m : (8 * q + x) % 8 ≡ x = omega arith in
      rw (d, m) refl

  pub loaded_none : Loaded b 0 0xff_ffff_ffff
  unfolding allowed
  loaded_none = record { small = omega arith; digits = λ i h. true_is (mask_bit 0xff_ffff_ffff i) (each_at 40 (λ i. mask_bit 0xff_ffff_ffff i) ones_table i h) }

  loaded_front : (bits m : ℕ) → Front (allowed b bits) 40 m → Loaded b bits m
  loaded_front bits m p = record { small = p.small; digits = p.bits }

  -- ---- forty bits, byte by byte

  forty : (q x : ℕ) → q < 5 → x < 8 → bit_at (byte q) (7 - x) ≡ allowed b 40 (8 * q + x)
  unfolding allowed
  forty q x hq hx =
      let m : (8 * q + x) % 40 ≡ 8 * q + x = omega arith in
      byte_bits q x hx ∙ ap (bit_of b) (sym m)

  more : (q m : ℕ) → q < 5 → Front (allowed b 40) (8 * q) m → Front (allowed b 40) (8 * q + 8) (m * 2 ^ 8 + byte q)
  more q m h p = front_more (allowed b 40) (8 * q) 8 m (byte q) (bytes q) (λ x l. forty q x h l) p

  pub loaded_forty : Loaded b 40 ((((byte 0 * 256 + byte 1) * 256 + byte 2) * 256 + byte 3) * 256 + byte 4)
  loaded_forty =
      let e : 0 * 2 ^ 8 + byte 0 ≡ byte 0 = omega arith in
      loaded_front 40 _
      (more 4 _ (omega arith) (more 3 _ (omega arith) (more 2 _ (omega arith) (more 1 _ (omega arith)
      (subst (λ (m : ℕ). Front (allowed b 40) 8 m) e (more 0 0 (omega arith) (front_none (allowed b 40))))))))

  -- ---- ten bits, once and four times

  abbrev ten : ℕ
  ten = byte 0 * 4 + byte 1 / 64

  two_bits : (x : ℕ) → x < 2 → bit_at (byte 1 / 64) (1 - x) ≡ bit_of b (8 + x)
  two_bits x h =
      let e : 6 + (1 - x) ≡ 7 - x = omega arith in
      ap (λ (y : ℕ). eqb (y % 2) 1) (shr-shr (byte 1) 6 (1 - x) ∙ ap (λ (y : ℕ). byte 1 / 2 ^ y) e) ∙ byte_bits 1 x (omega arith)

  ten_front : Front (bit_of b) 10 ten
  ten_front =
      front_more (bit_of b) 8 2 (byte 0) (byte 1 / 64) (omega (arith, bytes 1)) two_bits
      (subst (λ (m : ℕ). Front (bit_of b) 8 m) (zero-add (byte 0))
      (front_more (bit_of b) 0 8 0 (byte 0) (bytes 0) (λ x h. byte_bits 0 x h ∙ ap (bit_of b) (omega arith)) (front_none (bit_of b))))

  ten_bits : (q x : ℕ) → x < 10 → bit_at ten (9 - x) ≡ allowed b 10 (10 * q + x)
  unfolding allowed
  ten_bits q x h =
      let m : (10 * q + x) % 10 ≡ x = omega arith in
      ten_front.bits x h ∙ ap (bit_of b) (sym m)

  more_ten : (q m : ℕ) → q < 4 → Front (allowed b 10) (10 * q) m → Front (allowed b 10) (10 * q + 10) (m * 2 ^ 10 + ten)
  more_ten q m h p = front_more (allowed b 10) (10 * q) 10 m ten ten_front.small (λ x l. ten_bits q x l) p

  pub loaded_ten : Loaded b 10 (ten * 0x4010_0401)
  loaded_ten =
      let e : ((0 * 2 ^ 10 + ten) * 2 ^ 10 + ten) * 2 ^ 10 + ten ≡ ten * 0x100401 = omega arith in
      let f : ten * 0x100401 * 2 ^ 10 + ten ≡ ten * 0x4010_0401 = omega arith in
      loaded_front 10 _
      (subst (λ (m : ℕ). Front (allowed b 10) 40 m) f (more_ten 3 _ (omega arith)
      (subst (λ (m : ℕ). Front (allowed b 10) 30 m) e
      (more_ten 2 _ (omega arith) (more_ten 1 _ (omega arith) (more_ten 0 0 (omega arith) (front_none (allowed b 10))))))))

-- ---- forty bits say all, and the first bytes say all

pub allowed_forty : (b : List ℕ) (bits t : ℕ) → listed_length bits ≡ true → allowed b bits (t % 40) ≡ allowed b bits t
unfolding allowed
allowed_forty b bits t h = by (by_length bits h)
  where
    by : (bits ≡ 0) ⊎ ((bits ≡ 10) ⊎ (bits ≡ 40)) → cond (eqb bits 0) true (bit_of b (t % 40 % bits)) ≡ cond (eqb bits 0) true (bit_of b (t % bits))
    by (inl e) = rw e refl
    by (inr (inl e)) =
        let m : t % 40 % 10 ≡ t % 10 = omega arith in
        rw (e, m) refl
    by (inr (inr e)) =
        let m : t % 40 % 40 ≡ t % 40 = omega arith in
        rw (e, m) refl

pub allowed_front : (b : List ℕ) (bits t : ℕ) → listed_length bits ≡ true → allowed (take (bytes_of bits) b) bits t ≡ allowed b bits t
unfolding allowed bytes_of
allowed_front b bits t h = by (by_length bits h)
  where
    by : (bits ≡ 0) ⊎ ((bits ≡ 10) ⊎ (bits ≡ 40))
        → cond (eqb bits 0) true (bit_of (take (bytes_of bits) b) (t % bits)) ≡ cond (eqb bits 0) true (bit_of b (t % bits))
    by (inl e) = rw e refl
    by (inr (inl e)) = rw e (ap (λ (x : ℕ). bit_at x (7 - t % 10 % 8)) (get_or-take 2 b (t % 10 / 8) 0 (omega arith)))
    by (inr (inr e)) = rw e (ap (λ (x : ℕ). bit_at x (7 - t % 40 % 8)) (get_or-take 5 b (t % 40 / 8) 0 (omega arith)))

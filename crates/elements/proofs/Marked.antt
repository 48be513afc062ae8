-- The references of a symbol as marks of six subcarriers, and the used subcarriers of a row: by tests computed at the listed numbers.
use mathlib.Core.Bool.{Bool, true, false, not, cond, ◌&&◌, ◌||◌}
use mathlib.Core.Path.{◌≡◌, refl, subst}
use mathlib.Core.Logic.{⊎_elim}
use Prim.Native.Nat.{ℕ, ◌+◌, ◌-◌, ◌*◌, ◌/◌, ◌%◌, ◌≤◌, ◌<◌}
use native.Mathlib.Omega.{arith}
use lib.Dec.{T, eqb, ltb, leb, leb→le, ltb→lt, eqb→eq}
use mir.Val.{bool_byte}
use borrow.Author.Tests.{le-ltb, le-leb, lt-leb}
use Rattle.counting.specs.Counting.{rank, in_range}
use Rattle.counting.proofs.Facts.{order, each, each_at, alike, alike_eq}
use Rattle.grid.specs.Grid.{subcarriers, symbols}
use Rattle.references.specs.declared.Marks.{Marks}
use Rattle.elements.specs.Elements.{ncce_width}
use Rattle.references.specs.Quick.{marks_by, marks_of}
use Rattle.elements.specs.declared.Layout.{Layout}
use Rattle.elements.specs.Elements.{nrs_on, nrs, crs_on, crs, reference}
use Rattle.elements.specs.Scaffold.{Valid, Part}
use Rattle.elements.specs.Quick.{sums_of, six_before, free_of, is_free, nth_in, place_in, reference_kind}

pub and_false : (a : Bool) → (a && false) ≡ false
and_false true = refl
and_false false = refl

-- one of twelve subcarriers, in its six
pub six_of : (k : ℕ) → k < subcarriers → k - 6 * bool_byte (leb 6 k) ≡ k % 6
six_of k h = ⊎_elim (λ l. rw (lt-leb 6 k l) (omega arith)) (λ l. rw (le-leb 6 k l) (omega arith)) (order k 6)

-- ---- a test computed at both answers, at all listed ports or at all parts holds at each

pub left : (a b : Bool) → T (a && b) → T a
left true b t = tt
left false b t = t

pub right : (a b : Bool) → T (a && b) → T b
right true b t = t
right false b t = absurd t

truth_is : (b : Bool) → T b → b ≡ true
truth_is true t = refl
truth_is false t = absurd t

abbrev every : (Bool → Bool) → Bool
every f = f true && f false

every_at : (f : Bool → Bool) → T (every f) → (b : Bool) → T (f b)
every_at f t true = left (f true) (f false) t
every_at f t false = right (f true) (f false) t

-- a test of ports and a number below n
abbrev pub listed : ℕ → (ℕ → ℕ → ℕ → Bool) → Bool
listed n f = each 2 (λ a. each 5 (λ b. each n (f (a + 1) b)))

pub listed_at : (n : ℕ) (f : ℕ → ℕ → ℕ → Bool) → T (listed n f) → (g : Layout) → Valid g → (i : ℕ) → i < n → T (f g.nports g.cports i)
listed_at n f t g v i h =
    let e : g.nports - 1 + 1 ≡ g.nports = omega (arith, v.narrowband) in
    subst (λ (p : ℕ). T (f p g.cports i)) e
    (each_at n (f (g.nports - 1 + 1) g.cports)
    (each_at 5 (λ b. each n (f (g.nports - 1 + 1) b)) (each_at 2 (λ a. each 5 (λ b. each n (f (a + 1) b))) t (g.nports - 1) (omega (arith, v.narrowband))) g.cports (omega (arith, v.cell)))
    i h)

pub parts : (P : ℕ → ℕ → Type 0) → P 0 subcarriers → P 0 ncce_width → P ncce_width ncce_width → (from width : ℕ) → Part from width → P from width
parts P a b c from width h = ⊎_elim first second (order from 1)
  where
    first : from < 1 → P from width
    first l =
        let z : 0 ≡ from = omega (arith, h) in
        ⊎_elim (λ w. let e : 6 ≡ width = omega (arith, h) in subst (λ (x : ℕ). P x width) z (subst (P 0) e b))
        (λ w. let e : subcarriers ≡ width = omega (arith, h) in subst (λ (x : ℕ). P x width) z (subst (P 0) e a)) (order width 7)

    second : 1 ≤ from → P from width
    second l =
        let z : 6 ≡ from = omega (arith, h) in
        let e : 6 ≡ width = omega (arith, h) in
        subst (λ (x : ℕ). P x width) z (subst (P 6) e c)

-- ---- the references of a symbol: which of six subcarriers they take, and their kind

abbrev bare : ℕ → ℕ → Layout
bare nports cports = record { v = 0; nports = nports; cports = cports; control = 0 }

abbrev marked : ℕ → ℕ → ℕ → ℕ → ℕ → Bool
marked a b l v i =
    let n = nrs_on (bare a b) l (eqb i v) (eqb i ((v + 3) % 6)) in
    let c = crs_on (bare a b) l (eqb i v) (eqb i ((v + 3) % 6)) in
    let plain = is_free (marks_of v l (6 - free_of a b l)) i in
    alike (not (n || c)) plain && eqb (cond n 1 (cond c 2 0)) (cond plain 0 (reference_kind l))

marked_table : T (listed symbols (λ a b l. each 6 (λ v. each 6 (marked a b l v))))
unfolding six_before sums_of
marked_table = tt

abbrev some : ℕ → ℕ → ℕ → Bool
some a b l = leb 4 (free_of a b l) && leb (free_of a b l) 6

some_table : T (listed symbols some)
unfolding six_before sums_of
some_table = tt

module _ (g : Layout) (v : Valid g) (l : ℕ) (h : l < symbols) where
  abbrev free : ℕ
  free = free_of g.nports g.cports l

  abbrev pub marks_in : Marks
  marks_in = marks_of g.v l (6 - free)

  pub free_some : (4 ≤ free) × (free ≤ 6)
  free_some =
      let t = listed_at symbols some some_table g v l h in
      (leb→le 4 free (left (leb 4 free) (leb free 6) t), leb→le free 6 (right (leb 4 free) (leb free 6) t))

  marked_at : (k : ℕ) → T (marked g.nports g.cports l g.v (k % 6))
  marked_at k =
      each_at 6 (marked g.nports g.cports l g.v)
      (each_at 6 (λ v. each 6 (marked g.nports g.cports l v))
      (listed_at symbols (λ a b l. each 6 (λ v. each 6 (marked a b l v))) marked_table g v l h) g.v v.shift) (k % 6) (omega arith)

  pub reference_marked : (k : ℕ) → not (reference g l k) ≡ is_free marks_in (k % 6)
  unfolding nrs crs
  reference_marked k = alike_eq (not (reference g l k)) (is_free marks_in (k % 6)) (left (alike (not (reference g l k)) (is_free marks_in (k % 6))) _ (marked_at k))

  pub kind_marked : (k : ℕ) → cond (nrs g l k) 1 (cond (crs g l k) 2 0) ≡ cond (is_free marks_in (k % 6)) 0 (reference_kind l)
  unfolding nrs crs
  kind_marked k =
      eqb→eq (cond (nrs g l k) 1 (cond (crs g l k) 2 0)) (cond (is_free marks_in (k % 6)) 0 (reference_kind l))
      (right (alike (not (reference g l k)) (is_free marks_in (k % 6))) _ (marked_at k))

-- ---- the used subcarriers of a row that is no control region

abbrev pub carries : Marks → ℕ → ℕ → ℕ → Bool
carries m from width k = is_free m (k % 6) && in_range from width k

abbrev all : ℕ → ℕ → ℕ → Bool → ℕ → Bool
all from width v far free = eqb (rank (carries (marks_by v far (6 - free)) from width) subcarriers) (width / ncce_width * free)

abbrev placed : ℕ → ℕ → ℕ → Bool → ℕ → Bool
placed from width v far free =
    let m = marks_by v far (6 - free) in
    each subcarriers (λ k. cond (in_range from width k) (eqb (rank (carries m from width) k) (place_in m free from k (k % 6))) true)

abbrev found : ℕ → ℕ → ℕ → Bool → ℕ → ℕ → Bool
found from width v far free j =
    let m = marks_by v far (6 - free) in
    let k = nth_in m free from j in
    ltb k subcarriers && (carries m from width k && eqb (rank (carries m from width) k) j)

abbrev row : ℕ → ℕ → ℕ → Bool → ℕ → Bool
row from width v far free = all from width v far free && (placed from width v far free && each (width / ncce_width * free) (found from width v far free))

abbrev row_test : ℕ → ℕ → Bool
row_test from width = every (λ far. each 6 (λ v. each 7 (λ free. cond (ltb free 4) true (row from width v far free))))

row_table : (from width : ℕ) → Part from width → T (row_test from width)
unfolding rank
row_table = parts (λ f w. T (row_test f w)) tt tt tt

-- the j-th used subcarrier of a row
pub record Nth (m : Marks) (from width j k : ℕ) : Type 0 where
  pub inside : k < subcarriers
  pub carried : carries m from width k ≡ true
  pub before : rank (carries m from width) k ≡ j

module _ (from width : ℕ) (p : Part from width) (v l free : ℕ) (hv : v < 6) (h4 : 4 ≤ free) (h6 : free ≤ 6) where
  abbrev m : Marks
  m = marks_of v l (6 - free)

  abbrev far : Bool
  far = eqb l 4 || eqb l 6

  row_at : T (row from width v far free)
  row_at =
      subst (λ (b : Bool). T (cond b true (row from width v far free))) (le-ltb free 4 h4)
      (each_at 7 (λ free. cond (ltb free 4) true (row from width v far free))
      (each_at 6 (λ v. each 7 (λ free. cond (ltb free 4) true (row from width v far free)))
      (every_at (λ far. each 6 (λ v. each 7 (λ free. cond (ltb free 4) true (row from width v far free)))) (row_table from width p) far) v hv)
      free (omega arith))

  pub row_all : rank (carries m from width) subcarriers ≡ width / ncce_width * free
  row_all = eqb→eq (rank (carries m from width) subcarriers) (width / ncce_width * free) (left (all from width v far free) _ row_at)

  pub row_place : (k : ℕ) → k < subcarriers → in_range from width k ≡ true → rank (carries m from width) k ≡ place_in m free from k (k % 6)
  row_place k h e =
      let t = left (placed from width v far free) _ (right (all from width v far free) _ row_at) in
      eqb→eq (rank (carries m from width) k) (place_in m free from k (k % 6))
      (subst (λ (b : Bool). T (cond b (eqb (rank (carries m from width) k) (place_in m free from k (k % 6))) true)) e
      (each_at subcarriers (λ k. cond (in_range from width k) (eqb (rank (carries m from width) k) (place_in m free from k (k % 6))) true) t k h))

  pub row_nth : (j : ℕ) → j < width / ncce_width * free → Nth m from width j (nth_in m free from j)
  row_nth j h =
      let k : ℕ = nth_in m free from j in
      let t = each_at (width / ncce_width * free) (found from width v far free)
      (right (placed from width v far free) _ (right (all from width v far free) _ row_at)) j h in
      let r = right (ltb k subcarriers) (carries m from width k && eqb (rank (carries m from width) k) j) t in
      record {
        inside = ltb→lt k subcarriers (left (ltb k subcarriers) _ t);
        carried = truth_is (carries m from width k) (left (carries m from width k) _ r);
        before = eqb→eq (rank (carries m from width) k) j (right (carries m from width k) _ r);
      }

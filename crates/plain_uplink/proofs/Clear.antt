-- The obstacles of a shape are the windows that it is asked beside: they block the groups that overlap one.
use mathlib.Core.Bool.{Bool, true, false, cond, not, ◌&&◌, ◌||◌, true≢false}
use mathlib.Core.List.{List, [], ◌∷◌}
use mathlib.Core.Path.{◌≡◌, refl, sym, ap, ap₂, subst, ◌∙◌}
use Prim.Native.Nat.{ℕ, ◌+◌, ◌*◌}
use Rattle.uplink.specs.declared.Shape.{Shape}
use Rattle.uplink.specs.Fits.{OpenRepeats}
use Rattle.nprach.specs.declared.Window.{Window}
use Rattle.nprach.specs.declared.Windows.{Windows}
use Rattle.nprach.specs.Windows.{is_read, shares_tone, overlaps, meets, is_clear, are_listed}
use Rattle.nprach.specs.Scaffold.{reach}
use Rattle.nprach.proofs.Spaced.{accepted_windows}
use Rattle.postponed.specs.Beside.{refusal_beside, open_beside, AtSpacing}
use Rattle.postponed.proofs.Beside.{open_repeats}
use Rattle.plain_uplink.specs.declared.obstacles.Obstacle.{Obstacle}
use Rattle.plain_uplink.specs.declared.obstacles.Obstacles.{Obstacles}
use Rattle.std.specs.Prelude.{Option, Some, None, is_some}
use Rattle.std.specs.List.{list_any}
use Rattle.plain_uplink.specs.Obstacles.{obstacle_of, obstacles_of, obstacles_on, any_stands, blocks, clear_of}

-- none of four, by pairs
none_of : (x y z w : Bool) → not (x || (y || (z || (w || false)))) ≡ ((not x && not y) && (not z && not w))
none_of true y z w = refl
none_of false true z w = refl
none_of false false true w = refl
none_of false false false true = refl
none_of false false false false = refl

-- where no window stands, each group is clear
pub none_stands : (os : Obstacles) (u : ℕ) → any_stands os ≡ false → clear_of os u ≡ true
unfolding clear_of blocks
none_stands os u h = ap not (by os.windows h)
  where
    by : (ws : List (Option Obstacle)) → list_any is_some ws ≡ false → list_any (λ w. blocks w (os.ms * u + os.ms)) ws ≡ false
    by [] h = refl
    by (None ∷ ws) h = by ws h
    by (Some o ∷ ws) h = absurd (true≢false h)

module _ (ms a n : ℕ) where
  one_blocks : (read : Bool) (w : Window) (u : ℕ) → blocks (obstacle_of ms a n read w) (ms * u + ms) ≡ meets ms a n read w u
  unfolding blocks obstacle_of overlaps
  one_blocks read w u = by (read && shares_tone a n w)
    where
      by : (b : Bool)
          → blocks (cond b (Some (record { start = w.start; period = w.period; reach = reach ms w })) None) (ms * u + ms) ≡ (b && overlaps ms w u)
      by true = refl
      by false = refl

  pub clear_is : (ws : Windows) (u : ℕ) → clear_of (obstacles_of ms a n ws) u ≡ is_clear ms a n ws u
  unfolding clear_of is_clear
  clear_is ws u =
      none_of _ _ _ _
      ∙ ap₂ ◌&&◌
      (ap₂ (λ (x y : Bool). not x && not y) (one_blocks (is_read ws 1) ws.w1 u) (one_blocks (is_read ws 2) ws.w2 u))
      (ap₂ (λ (x y : Bool). not x && not y) (one_blocks (is_read ws 3) ws.w3 u) (one_blocks (is_read ws 4) ws.w4 u))

-- ---- beside a shape

module _ (spacing : ℕ) (s : Shape) (ws : Windows) (os : Obstacles) (e : os ≡ obstacles_on spacing s ws) where
  pub clear_beside : clear_of os ≡ open_beside spacing s ws
  clear_beside = λ i u. (ap (λ (x : Obstacles). clear_of x u) e ∙ clear_is _ _ _ ws u) i

  pub leaves : AtSpacing spacing s → refusal_beside spacing s ws ≡ 0 → OpenRepeats s (clear_of os)
  leaves sp z = subst (OpenRepeats s) (sym clear_beside) (open_repeats spacing s sp ws z)

-- windows that do not refuse are listed
pub all_listed : (spacing : ℕ) (s : Shape) (ws : Windows) → refusal_beside spacing s ws ≡ 0 → are_listed ws ≡ true
all_listed spacing s ws z = (accepted_windows _ _ _ ws z).0

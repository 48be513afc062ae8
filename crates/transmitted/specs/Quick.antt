-- For the code alone. What the code keeps of a judged call.
use Rattle.std.specs.Prelude.{Bool, cond, List, ◌≡◌, ℕ, ◌+◌, ◌*◌, ◌%◌, ◌^◌, ◌≤◌, ◌<◌, Float, length}
use Rattle.std.specs.Prelude.{Result, IfOk}
use Rattle.refusals.specs.declared.Refusal.{Refusal}
use Rattle.refusals.specs.Refusal.{refused_by}
use Rattle.grid.specs.Grid.{subcarriers}
use Rattle.cell.specs.declared.Cell.{Cell}
use Rattle.sending.specs.Sending.{Content}
use Rattle.elements.specs.declared.Layout.{Layout}
use Rattle.elements.specs.Elements.{kind_of, used, count_of, number_of}
use Rattle.elements.specs.Scaffold.{Valid}
use Rattle.cell.specs.Layout.{layout_of}
use Rattle.npdsch.specs.declared.NpdschGrant.{NpdschGrant}
use Rattle.symbol.specs.declared.Outgoing.{Outgoing}
use Rattle.symbol.specs.declared.Outgoing.TheVariants.{Ours}
use Rattle.transmitted.specs.declared.Call.{Call}
use Rattle.transmitted.specs.GoesOut.{goes_out, outgoing_of}
use Rattle.transmitted.specs.Refusals.{call_refusal}

-- what goes out at element x of a subframe whose first symbol is `first`
unfoldable pub goes_in : Layout → ℕ → ℕ → Outgoing
goes_in g first x =
    cond (used g 0 subcarriers x) (Ours (first + number_of g 0 subcarriers x))
    (goes_out (Content.not_ours (kind_of g x)))

-- the symbols of the subframe have their bits
pub record Prepared (g : Layout) (first : ℕ) (bits : List ℕ) : Type 0 where
  pub valid : Valid g
  pub room : first + count_of g 0 subcarriers ≤ 4 * length bits
  pub small : first < 2 ^ 32

-- what goes out by an accepted call
pub record Accepted (c : Cell) (anchor other : List ℕ) (g : NpdschGrant) (i : ℕ) (bits : List ℕ) (k : Call)
    : Type 0 where
  pub prepared : Prepared (layout_of c.config) k.first bits
  pub shift : k.v ≡ c.config.identity % 6
  pub going : (x : ℕ) → goes_in (layout_of c.config) k.first x ≡ outgoing_of c anchor other g i x

-- a call judged
pub record CallFor (c : Cell) (anchor other : List ℕ) (g : NpdschGrant) (i : ℕ) (outside : Bool) (bits : List ℕ)
    (wrongOutput : Bool)
    (level : Float) (r : Result Call Refusal) : Type 0 where
  pub number : refused_by r ≡ call_refusal c anchor other g i outside bits wrongOutput level
  pub accepted : IfOk r (Accepted c anchor other g i bits)

-- For the code alone. What the code works out once it knows that a subframe is sent.
use Rattle.std.specs.Prelude.{cond, Result, Ok, Err, IfOk, ◌≡◌, ℕ, ◌+◌, ◌*◌}
use Rattle.refusals.specs.declared.Refusal.{Refusal}
use Rattle.refusals.specs.Refusal.{number_of, refused_by}
use Rattle.sending.specs.CopyOrder.{carried}
use Rattle.sending.specs.Sending.{Content, ours, not_ours}
use Rattle.elements.specs.Elements.{kind_of, used, count_of}
use Rattle.elements.specs.Elements as elements
use Rattle.cell.specs.declared.CellConfig.{CellConfig}
use Rattle.cell.specs.Quick.{WellFormed}
use Rattle.downlink.specs.declared.Burst.{Burst}
use Rattle.downlink.specs.Fits.{Fits}

-- what stands at element x of the i-th subframe that is sent
unfoldable pub content_in : Burst → ℕ → ℕ → Content
content_in b i x =
    cond (used b.layout b.low b.width x)
    (ours (carried b.consecutive 1 b.codeword i * count_of b.layout b.low b.width
    + elements.number_of b.layout b.low b.width x)
    (i * count_of b.layout b.low b.width + elements.number_of b.layout b.low b.width x))
    (not_ours (kind_of b.layout x))

-- a grant judged on a cell of these numbers: its refusal, and for an accepted one burst b, which fits a cell that is
-- well-formed
pub record Judged (c : CellConfig) (grant : ℕ) (b : Burst) (r : Result Burst Refusal) : Type 0 where
  pub number : refused_by r ≡ grant
  pub burst : IfOk r (λ d. d ≡ b)
  pub fits : WellFormed c → IfOk r Fits

-- the answer where there is one, else the zeros of a refusal
abbrev pub told : {A : Type 0} → (ℕ → A) → Result A Refusal → A
told zeros (Ok answer) = answer
told zeros (Err refusal) = zeros (number_of refusal)

use mathlib.Core.Bool.{true}
use mathlib.Core.Path.{◌≡◌, refl}
use Rattle.messages.specs.Quick.{is_silent}
use Rattle.messages.specs.Messages.{no_messages}
use Rattle.cell.proofs.Judging.{cause_config, told_alone}
use Rattle.cell.proofs.cause_own.Goals as goal

silence : is_silent no_messages ≡ true
unfolding is_silent
silence = refl

pub returns-in_err-config_refusal : goal.returns-in_err-config_refusal
returns-in_err-config_refusal c =
    λ ms silent. cause_config _ _ ms silent _ _ _ c.from_residual.ensures.1 c.in_err-config_refusal.ensures

pub is_allowed-requires : goal.is_allowed-requires
is_allowed-requires c = (c.in_ok-v.ensures no_messages silence).accepted.shows.regular

pub returns-then-is_allowed : goal.returns-then-is_allowed
returns-then-is_allowed c =
    λ ms silent. told_alone _ _ ms silent _ (c.in_ok-v.ensures ms silent) _ _ (simp (← c.is_allowed.ensures, c.if-is_allowed.true))

pub returns : goal.returns
returns c =
    λ ms silent.
    told_alone _ _ ms silent _ (c.in_ok-v.ensures ms silent) _ _
    (simp (← c.is_allowed.ensures, c.if-is_allowed.false, c.why_not_free.ensures))

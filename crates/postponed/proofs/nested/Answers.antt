use mathlib.Core.Path.{sym, ◌∙◌}
use Rattle.postponed.proofs.Beside.{unlisted, never_free, accepts, leaves}
use Rattle.postponed.proofs.nested.Goals as goal

pub returns-then-not-are_listed : goal.returns-then-not-are_listed
returns-then-not-are_listed c = (unlisted c.args.spacing c.args.s c.requires.1 c.args.ws (sym c.are_listed.ensures ∙ c.if-not-are_listed.true), tt)

pub returns-then-nested-eq0 : goal.returns-then-nested-eq0
returns-then-nested-eq0 c =
    (never_free c.args.spacing c.args.s c.requires.1 c.args.ws (sym c.are_listed.ensures ∙ c.if-not-are_listed.false) _ c.nested_closures-nested.ensures c.if-nested-eq0.true, tt)

pub returns : goal.returns
returns c =
    let h = sym c.are_listed.ensures ∙ c.if-not-are_listed.false in (
      sym (accepts c.args.spacing c.args.s c.requires.1 c.args.ws h _ c.nested_closures-nested.ensures c.if-nested-eq0.false),
      leaves c.args.spacing c.args.s c.requires.1 c.args.ws h _ c.nested_closures-nested.ensures c.if-nested-eq0.false,
    )

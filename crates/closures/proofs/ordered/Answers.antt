use mathlib.Core.Path.{◌≡◌, sym, ap, ap₂, subst, ◌∙◌}
use Rattle.closures.specs.declared.Closures.{Closures}
use Rattle.closures.specs.Closures.{clear}
use Rattle.closures.specs.Quick.{capped_of, lower_of, upper_of, network_of, ordered_of, OneOfTheirs, Sorted}
use Rattle.closures.proofs.Ordering.{ordered_clear, ordered_sorted, ordered_longest}
use Rattle.closures.proofs.ordered.Goals.{After-upper-high2, After-upper-high1, After-capped-b4, Start}
use Rattle.closures.proofs.ordered.Goals as goal

-- the pairs, and what was made of them
module _ (c : After-upper-high2) where
  abbrev h1 : After-upper-high1
  h1 = c.before

  abbrev k : After-capped-b4
  k = h1.before.before.before

  abbrev given : Start
  given = k.before.before.before.before.before.before.before.before

  abbrev b : Closures
  b = given.args.b

  low_1 : h1.lower-low1.result ≡ lower_of (capped_of b.b1) (capped_of b.b2)
  low_1 = h1.lower-low1.ensures ∙ ap₂ lower_of k.capped-b1.ensures k.capped-b2.ensures

  low_2 : h1.lower-low2.result ≡ lower_of (capped_of b.b3) (capped_of b.b4)
  low_2 = h1.lower-low2.ensures ∙ ap₂ lower_of k.capped-b3.ensures k.capped-b4.ensures

  high_1 : h1.upper-high1.result ≡ upper_of (capped_of b.b1) (capped_of b.b2)
  high_1 = h1.upper-high1.ensures ∙ ap₂ upper_of k.capped-b1.ensures k.capped-b2.ensures

  high_2 : c.upper-high2.result ≡ upper_of (capped_of b.b3) (capped_of b.b4)
  high_2 = c.upper-high2.ensures ∙ ap₂ upper_of k.capped-b3.ensures k.capped-b4.ensures

longest : (s : Start) (r : Closures) → r ≡ ordered_of s.args.b → OneOfTheirs s.args.b r.b4.period
longest s r is test p1 p2 p3 p4 = ap (λ (x : Closures). test x.b4.period) is ∙ ordered_longest s.args.b s.requires.0 s.requires.1 test p1 p2 p3 p4

pub returns : goal.returns
unfolding network_of
returns c =
    let c4 = c in
    let c3 = c4 in
    let c2 = c3 in
    let m2 = c2 in
    let m1 = m2 in
    let h = m1 in
    let s = given h.before.before.before.before.before.before in
    let mid1 = m1.upper-mid1.ensures ∙ ap₂ upper_of (low_1 h.before.before.before.before.before.before) (low_2 h.before.before.before.before.before.before) in
    let mid2 = m2.lower-mid2.ensures ∙ ap₂ lower_of (high_1 h.before.before.before.before.before.before) (high_2 h.before.before.before.before.before.before) in
    let is : record { b1 = c2.lower.result; b2 = c3.lower-2.result; b3 = c4.upper.result; b4 = c.upper-2.result } ≡ ordered_of s.args.b =
    λ j. record {
      b1 = (c2.lower.ensures ∙ ap₂ lower_of (low_1 h.before.before.before.before.before.before) (low_2 h.before.before.before.before.before.before)) j;
      b2 = (c3.lower-2.ensures ∙ ap₂ lower_of mid1 mid2) j;
      b3 = (c4.upper.ensures ∙ ap₂ upper_of mid1 mid2) j;
      b4 = (c.upper-2.ensures ∙ ap₂ upper_of (high_1 h.before.before.before.before.before.before) (high_2 h.before.before.before.before.before.before)) j;
    } in
    (subst Sorted (sym is) (ordered_sorted s.args.b s.requires.0 s.requires.1), λ t. ap (λ (x : Closures). clear x t) is ∙ ordered_clear s.args.b s.requires.0 s.requires.1 t, longest s _ is)

use mathlib.Core.Path.{ap, ◌∙◌}
use Prim.Native.Nat.{ℕ}
use Rattle.closures.specs.declared.Closures.{Closures}
use Rattle.closures.specs.declared.Nested.{Nested}
use Rattle.closures.specs.Closures.{clear}
use Rattle.closures.specs.Quick.{WellNested}
use Rattle.closures.proofs.nest.Goals as goal

-- the nesting does not depend on what is counted of them
stacked_with : (nested : Nested) (n : ℕ) → WellNested nested
    → WellNested (record { closures = nested.closures; counts = nested.counts; clear = n })
stacked_with nested n st = record {
  sorted = st.sorted;
  ranged = record { r1 = st.ranged.r1; r2 = st.ranged.r2; r3 = st.ranged.r3; r4 = st.ranged.r4 };
  o1 = st.o1;
  o2 = st.o2;
  o3 = st.o3;
  o4 = st.o4;
}

pub returns : goal.returns
returns c =
    let s = c in
    record {
      nesting = stacked_with s.with_counts-nested.result c.in_longest-clear.result s.with_counts-nested.ensures.0;
      same = λ t. ap (λ (x : Closures). clear x t) s.with_counts-nested.ensures.1 ∙ s.ordered.ensures.1 t;
      longest = λ test p1 p2 p3 p4.
          ap (λ (x : Closures). test x.b4.period) s.with_counts-nested.ensures.1 ∙ s.ordered.ensures.2 test p1 p2 p3 p4;
      counted = c.in_longest-clear.ensures;
    }

use mathlib.Core.List.{List}
use mathlib.Core.Path.{◌≡◌, refl, sym, ◌∙◌}
use Prim.Native.Nat.{ℕ}
use borrow.Author.Tests.{eq-eqb, ne_eqb}
use Rattle.refusals.proofs.Numbers.{passed_on}
use Rattle.cell.specs.declared.Cell.{Cell}
use Rattle.cell.specs.declared.CellConfig.{CellConfig}
use Rattle.cell.specs.Judge.{judge_of}
use Rattle.downlink.specs.Cells.{question_refusal}
use Rattle.downlink.proofs.Judging.{by_cell}
use Rattle.broadcast.specs.Questions.{carrier_refusal}
use Rattle.broadcast.proofs.refusal.Goals as goal

on_anchor_lem : (c : CellConfig) → c.carrier ≡ 0 → 0 ≡ carrier_refusal c
unfolding carrier_refusal
on_anchor_lem c e = rw (eq-eqb c.carrier 0 e) refl

elsewhere : (c : CellConfig) → (c.carrier ≡ 0 → ⊥) → 25 ≡ carrier_refusal c
unfolding carrier_refusal
elsewhere c n = rw (ne_eqb c.carrier 0 n) refl

-- the carrier's number is the question's on an accepted cell
accepted : (c : Cell) (anchor other : List ℕ) (n : ℕ) → 0 ≡ judge_of c anchor other → question_refusal c anchor other n ≡ n
unfolding question_refusal
accepted c anchor other n h = rw (← h) refl

pub returns-in_err-accept : goal.returns-in_err-accept
unfolding judge_of
returns-in_err-accept c =
    passed_on _ _ c.from_residual.ensures.1 ∙ by_cell c.args.c c.args.anchor.now c.args.other.now _ _ c.in_err-accept.ensures

pub returns-then-c-ne0 : goal.returns-then-c-ne0
returns-then-c-ne0 c =
    elsewhere c.args.c.config c.if-c-ne0.true ∙ sym (accepted c.args.c c.args.anchor.now c.args.other.now _ c.in_ok-accept.ensures)

pub returns : goal.returns
returns c =
    on_anchor_lem c.args.c.config c.if-c-ne0.false ∙ sym (accepted c.args.c c.args.anchor.now c.args.other.now _ c.in_ok-accept.ensures)

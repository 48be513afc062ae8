use Rattle.std.proofs.Common.{sym, ◌∙◌, arith}
use Rattle.text.proofs.Hexwise.{no_text, some_text, pair_read, none_read, all_read, one_left}
use Rattle.text.proofs.heap.bytes.Goals as goal

pub returns-then-is_empty : goal.returns-then-is_empty
returns-then-is_empty c = no_text _ (grind (arith, c.if-is_empty.ensures))

-- two bytes that are no pair of digits
pub returns-in_default-pair : goal.returns-in_default-pair
returns-in_default-pair c =
    none_read _ _ c.in-len2-up.len_at_least c.in_default-pair.ensures
    ∙ sym (some_text _ (grind (arith, c.if-is_empty.ensures)) ∙ c.loop-rest.invariant)

pub loop-rest-preserved : goal.loop-rest-preserved
loop-rest-preserved c =
    rw c.in_ok-push.ensures.items
    (c.loop-rest.invariant ∙ pair_read _ _ _ c.in-len2-up.len_at_least c.in-Some.ensures)

pub returns-then-is_empty-2 : goal.returns-then-is_empty-2
returns-then-is_empty-2 c =
    all_read _ _ (grind (arith, c.if-is_empty-2.ensures))
    ∙ sym (some_text _ (grind (arith, c.if-is_empty.ensures)) ∙ c.loop-rest.invariant)

-- an odd digit
pub returns-else-is_empty-2 : goal.returns-else-is_empty-2
returns-else-is_empty-2 c =
    one_left _ _ c.in_default.len_below (grind (arith, c.if-is_empty-2.ensures))
    ∙ sym (some_text _ (grind (arith, c.if-is_empty.ensures)) ∙ c.loop-rest.invariant)

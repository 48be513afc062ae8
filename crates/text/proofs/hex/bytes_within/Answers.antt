use Rattle.std.proofs.Common.{sym, ◌∙◌, arith}
use Rattle.std.proofs.lemmas.List.{length-replicate}
use Rattle.std.proofs.Math.ListN.{length-set}
use Rattle.text.proofs.Hexwise.{no_text, some_text, none_read, one_left, halved, reads_begun, reads_kept, reads_full, not_hex, kept_whole, too_long}
use Rattle.text.proofs.hex.bytes_within.Goals as goal
use Rattle.text.proofs.hex.bytes_within.Goals.{then-count, else-count}

pub returns-then-is_empty : goal.returns-then-is_empty
returns-then-is_empty g c = not_hex _ _ (no_text _ (grind (arith, c.if-is_empty.ensures)))

pub loop-rest-init : goal.loop-rest-init
loop-rest-init g c = record {
  long = length-replicate g.row.N 0;
  halves = omega arith;
  reads = reads_begun _ _ _;
}

pub overflow_add-count : goal.overflow_add-count
overflow_add-count g c = omega arith

-- two bytes that are no pair of digits
pub returns-in_default-pair : goal.returns-in_default-pair
returns-in_default-pair g c =
    not_hex _ _ (none_read _ _ c.in-len2-up.len_at_least c.in_default-pair.ensures
    ∙ sym (some_text _ (grind (arith, c.if-is_empty.ensures)) ∙ c.loop-rest.invariant.reads.read))

pub loop-rest-preserved : goal.loop-rest-preserved
loop-rest-preserved g c =
    elim c.if-count.branch [
      | then-count w ↦ record {
        long = rw (w.room-is, length-set) c.loop-rest.invariant.long;
        halves = halved _ _ _ c.loop-rest.invariant.halves c.in-len2-up.len_at_least;
        reads = rw w.room-is (reads_kept _ _ _ _ _ _ c.loop-rest.invariant.reads c.in-len2-up.len_at_least c.in-Some.ensures (omega arith));
      }
      | else-count w ↦ record {
        long = rw w.room-is c.loop-rest.invariant.long;
        halves = halved _ _ _ c.loop-rest.invariant.halves c.in-len2-up.len_at_least;
        reads = rw w.room-is (reads_full _ _ _ _ _ _ c.loop-rest.invariant.reads c.in-len2-up.len_at_least c.in-Some.ensures w.if-count.false);
      }
    ]

pub returns-then-count-2 : goal.returns-then-count-2
returns-then-count-2 g c =
    too_long _ _ _ _ _ c.loop-rest.invariant.reads (grind arith) (grind (arith, c.if-is_empty.ensures)) c.if-count-2.true

pub returns-else-count-2 : goal.returns-else-count-2
returns-else-count-2 g c =
    kept_whole _ _ _ _ _ c.loop-rest.invariant.reads (grind arith) (grind (arith, c.if-is_empty.ensures)) (omega arith)

-- an odd digit
pub returns-else-is_empty-2 : goal.returns-else-is_empty-2
returns-else-is_empty-2 g c =
    not_hex _ _ (one_left _ _ c.in_default.len_below (grind arith)
    ∙ sym (some_text _ (grind (arith, c.if-is_empty.ensures)) ∙ c.loop-rest.invariant.reads.read))

use Rattle.std.proofs.Common.{codes, decimal, string_bytes}
use Rattle.answers.proofs.Line.{value_then_end}
use Rattle.answers.proofs.drawn.write_slot_columns.Goals as goal

pub returns-clause-text : goal.returns-clause-text
returns-clause-text c =
    value_then_end c.push_str.result (string_bytes c.args.out.now) (string_bytes c.write_value.new.out)
    (string_bytes c.push_str.new.self) (codes "o data, R reference, . tone not granted\n     slot ") (decimal c.args.slot)
    (codes "\n   l 0123456\n") c.in_ok-write_value.ensures.text c.push_str.ensures.bytes

-- For the code alone. What the quick code's own functions say of six subcarriers.
use Rattle.std.specs.Prelude.{Bool, cond, ◌||◌, ℕ, ◌+◌, ◌-◌, ◌*◌, eqb, ltb, leb}
use mir.Val.{bool_byte}
use Rattle.references.specs.declared.Marks.{Marks}

-- ---- how many are used, in closed form

-- references in six subcarriers of symbols 0 and 4, and of symbol 1
abbrev pub taken_at_0 : ℕ → ℕ
taken_at_0 cports = cond (ltb cports 2) cports 2

abbrev pub taken_at_1 : ℕ → ℕ
taken_at_1 cports = cond (ltb cports 4) 0 2

-- E of one NCCE, from ports and control region: six subcarriers of fourteen symbols, without the control region, the
-- narrowband references of two symbols in each slot, and the cell references of symbols 0, 4 and 1 in each slot that
-- lie outside the control region
abbrev pub closed_count : ℕ → ℕ → ℕ → ℕ
closed_count nports cports control =
    84 - 6 * control
    - (4 * nports + (4 - bool_byte (leb 1 control)) * taken_at_0 cports
    + (2 - bool_byte (leb 2 control)) * taken_at_1 cports)

-- ---- the references of a symbol, so many of six

-- first the near ones or first the far ones; one of the first three subcarriers, one of the last three, 8 more for none
abbrev pub marks_by : ℕ → Bool → ℕ → Marks
marks_by v far taken =
    let low = v - 3 * bool_byte (leb 3 v) in
    let first = bool_byte (eqb (bool_byte far) (bool_byte (leb 3 v))) in
    record { low = low + 8 * bool_byte (ltb (taken + first) 2); high = low + 3 + 8 * bool_byte (ltb taken (1 + first)) }

abbrev pub marks_of : ℕ → ℕ → ℕ → Marks
marks_of v l taken = marks_by v (eqb l 4 || eqb l 6) taken

-- The sizes of the grids and the numbers of their elements: 01 "Time and grid"; TS 36.211 clauses 10.1.2 and 10.2.2.
use Rattle.std.specs.Prelude.{cond, ℕ, ◌+◌, ◌*◌, ◌/◌, ◌%◌, ◌^◌, ◌-◌, eqb}

-- ---- time: t is an absolute subframe number

-- the frame of subframe t, and the subframe's number in it
abbrev pub frame : ℕ → ℕ
frame t = t / 10 % 1024

abbrev pub subframe : ℕ → ℕ
subframe t = t % 10

-- the last subframe that a grant may name: n above it is 9
abbrev pub last_subframe : ℕ
last_subframe = 2 ^ 30 - 1

-- ---- downlink: 12 subcarriers, 7 symbols a slot, two slots a subframe

abbrev pub subcarriers : ℕ
subcarriers = 12

abbrev pub symbols : ℕ
symbols = 7

abbrev pub slots : ℕ
slots = 2

-- elements of a slot and of a subframe
abbrev pub slot_elements : ℕ
slot_elements = symbols * subcarriers

abbrev pub elements : ℕ
elements = slots * slot_elements

-- real and imaginary numbers of a subframe
abbrev pub numbers : ℕ
numbers = 2 * elements

-- elements are numbered by slot, then symbol, then subcarrier
abbrev pub element_of : ℕ → ℕ → ℕ → ℕ
element_of slot l k = (slot * symbols + l) * subcarriers + k

abbrev pub slot_of : ℕ → ℕ
slot_of x = x / slot_elements

abbrev pub symbol_of : ℕ → ℕ
symbol_of x = x / subcarriers % symbols

abbrev pub subcarrier_of : ℕ → ℕ
subcarrier_of x = x % subcarriers

-- ---- uplink: 7 symbols a slot; 48 subcarriers at 3.75 kHz (spacing 0), 12 at 15 kHz (spacing 1)

abbrev pub uplink_subcarriers : ℕ → ℕ
uplink_subcarriers spacing = cond (eqb spacing 0) 48 12

-- elements of an uplink slot of T subcarriers are numbered by symbol, then subcarrier
abbrev pub uplink_element_of : ℕ → ℕ → ℕ → ℕ
uplink_element_of T l k = l * T + k

abbrev pub uplink_elements : ℕ → ℕ
uplink_elements T = symbols * T

abbrev pub uplink_symbol_of : ℕ → ℕ → ℕ
uplink_symbol_of T x = x / T

abbrev pub uplink_subcarrier_of : ℕ → ℕ → ℕ
uplink_subcarrier_of T x = x % T

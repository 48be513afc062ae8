-- For the code alone. The text over and under what is drawn, to the byte.
use Rattle.std.specs.Prelude.{ℕ, ◌/◌, ◌%◌, List, [], ◌∷◌, ◌++◌, decimal, codes}
use Rattle.answers.specs.Line.{values_then}
use Rattle.answers.specs.declared.drawn.Shown.{Shown}

-- the frame of the subframe, its number in it, and which of those sent it is
unfoldable pub place_text : Shown → List ℕ
place_text x =
    values_then
    ((codes "frame ", x.subframe / 10 % 1024) ∷ (codes ", subframe ", x.subframe % 10) ∷ (codes " of it, i=", x.i) ∷
    (codes " of ", x.sent) ∷ [])
    (codes " transmitted, codeword ")

abbrev pub legend : List ℕ
legend = codes "\no ours, N narrowband reference, C cell reference, # control region, . anything else\n"

abbrev pub columns : List ℕ
columns = codes "     slot 0  slot 1\n   l 0123456 0123456\n"

abbrev pub subframe_text : Shown → List ℕ
subframe_text x =
    values_then
    ((codes "subframe ", x.unit) ∷ [])
    (codes ": " ++ (place_text x ++ values_then ((codes "subframe ", x.codeword) ∷ []) (legend ++ columns)))

abbrev pub slot_text : Shown → List ℕ
slot_text x =
    values_then
    ((codes "slot ", x.unit) ∷ (codes ": from subframe ", x.subframe) ∷ [])
    (codes ", " ++ (place_text x ++ (codes "slot " ++ decimal x.codeword)))

abbrev pub unit_text : ℕ → List ℕ
unit_text unit = values_then ((codes ", resource unit ", unit) ∷ []) []

abbrev pub tones_text : ℕ → ℕ → List ℕ
tones_text first last = values_then ((codes ", tones ", first) ∷ (codes " to ", last) ∷ []) (codes "\n")

abbrev pub slot_columns_text : ℕ → List ℕ
slot_columns_text slot =
    values_then
    ((codes "o data, R reference, . tone not granted\n     slot ", slot) ∷ [])
    (codes "\n   l 0123456\n")

abbrev pub more_text : ℕ → List ℕ
more_text frames = values_then ((codes "more frames: ", frames) ∷ []) (codes "\n")

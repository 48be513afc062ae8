-- For the code alone. The text of each answer, to the byte.
use Rattle.std.specs.Prelude.{ℕ, List, [], ◌∷◌, ◌++◌, Bool, if◌then◌else◌, min, take, codes}
use Rattle.std.specs.Float.{binary32}
use Rattle.std.specs.Float.Ieee.{Float, to_bits}
use Rattle.std.specs.List.{flat_map}
use Rattle.answers.specs.Line.{values_then, hex, hex_of}
use Rattle.answers.specs.Words.{cause_word, fault_word}
use Rattle.cell.specs.declared.Cause.{Cause}
use Rattle.cell.specs.declared.CauseAnswer.{CauseAnswer}
use Rattle.cell.specs.declared.ElementCount.{ElementCount}
use Rattle.downlink.specs.declared.DownlinkBack.{DownlinkBack}
use Rattle.downlink.specs.declared.DownlinkPlace.{DownlinkPlace}
use Rattle.downlink.specs.declared.DownlinkPlan.{DownlinkPlan}
use Rattle.questions.specs.declared.question.Fault.{Fault}
use Rattle.search_space.specs.declared.Candidate.{Candidate}
use Rattle.search_space.specs.declared.SearchAnswer.{SearchAnswer}
use Rattle.sending.specs.declared.Back.{Back}
use Rattle.symbol.specs.declared.ElementNumbers.{ElementNumbers}
use Rattle.uplink.specs.declared.UplinkPlace.{UplinkPlace}
use Rattle.uplink.specs.declared.UplinkPlan.{UplinkPlan}
use Rattle.walk.specs.declared.WalkPlace.{WalkPlace}

abbrev pub fault_text : Fault → ℕ → ℕ → List ℕ
fault_text fault line word =
    codes "error=" ++
    (fault_word fault ++ values_then ((codes " line=", line) ∷ (codes " word=", word) ∷ []) (codes "\n"))

abbrev pub cell_text : ℕ → List ℕ
cell_text number = values_then ((codes "no=", number) ∷ []) (codes "\n")

abbrev pub bitmap_text : ℕ → List ℕ → List ℕ
bitmap_text number part = values_then ((codes "no=", number) ∷ []) (codes " part=" ++ (hex_of part ++ codes "\n"))

abbrev pub downlink_plan_text : DownlinkPlan → List ℕ
downlink_plan_text x =
    values_then
    ((codes "no=", x.no) ∷ (codes " first=", x.first) ∷ (codes " last=", x.last) ∷ (codes " copies=", x.copies) ∷
    (codes " places=", x.places) ∷ [])
    (codes "\n")

abbrev pub uplink_plan_text : UplinkPlan → List ℕ
uplink_plan_text x =
    values_then
    ((codes "no=", x.no) ∷ (codes " first=", x.first) ∷ (codes " last=", x.last) ∷ (codes " copies=", x.copies) ∷
    (codes " places=", x.places) ∷ (codes " size=", x.size) ∷ (codes " order=", x.order) ∷ [])
    (codes "\n")

abbrev pub downlink_place_text : DownlinkPlace → List ℕ
downlink_place_text x =
    values_then
    ((codes "no=", x.no) ∷ (codes " t=", x.t) ∷ (codes " slot=", x.slot) ∷ (codes " l=", x.l) ∷ (codes " k=", x.k) ∷
    (codes " symbol=", x.symbol) ∷ [])
    (codes "\n")

abbrev pub uplink_place_text : UplinkPlace → List ℕ
uplink_place_text x =
    values_then
    ((codes "no=", x.no) ∷ (codes " slot=", x.slot) ∷ (codes " l=", x.l) ∷ (codes " k=", x.k) ∷
    (codes " symbol=", x.symbol) ∷ [])
    (codes "\n")

abbrev pub cause_text : CauseAnswer → List ℕ
cause_text x = values_then ((codes "no=", x.no) ∷ []) (codes " cause=" ++ (cause_word x.cause ++ codes "\n"))

abbrev pub count_text : ElementCount → List ℕ
count_text x = values_then ((codes "no=", x.no) ∷ (codes " e=", x.e) ∷ []) (codes "\n")

-- a candidate's first subframe, its R and its last subframe
abbrev pub candidate_text : Candidate → List ℕ
candidate_text x = values_then ((codes " ", x.first) ∷ (codes ",", x.r) ∷ (codes ",", x.last) ∷ []) []

-- the candidates before the count
abbrev pub candidates_text : SearchAnswer → List ℕ
candidates_text x = flat_map candidate_text (take (min 15 x.count) x.list)

abbrev pub search_text : SearchAnswer → List ℕ
search_text x =
    values_then
    ((codes "no=", x.no) ∷ (codes " start=", x.start) ∷ (codes " count=", x.count) ∷ [])
    (candidates_text x ++ codes "\n")

-- what backward answers, and what follows it
abbrev pub back_then : Back → List ℕ → List ℕ
back_then x rest =
    values_then
    ((codes "no=", x.no) ∷ (codes " ours=", x.ours) ∷ (codes " symbol=", x.symbol) ∷ (codes " p=", x.position) ∷
    (codes " kind=", x.kind) ∷ [])
    rest

abbrev pub downlink_back_text : DownlinkBack → List ℕ
downlink_back_text x = back_then x.back (codes " cause=" ++ (cause_word x.cause ++ codes "\n"))

-- a subframe and why it is skipped; a comma stands before it if it is not the first
abbrev pub skipped_text : Bool → ℕ → Cause → List ℕ
skipped_text is_first t cause =
    (if is_first then codes "" else codes ",") ++ values_then ((codes " ", t) ∷ []) (codes " " ++ cause_word cause)

abbrev pub unlisted_text : ℕ → List ℕ
unlisted_text n = values_then ((codes " and ", n) ∷ []) (codes " more\n")

abbrev pub uplink_step_text : WalkPlace → ℕ → List ℕ
uplink_step_text x p =
    values_then
    ((codes "no=", x.no) ∷ (codes " finished=", x.finished) ∷ (codes " slot=", x.slot) ∷ (codes " l=", x.l) ∷
    (codes " k=", x.k) ∷ (codes " symbol=", x.symbol) ∷ (codes " p=", p) ∷ [])
    (codes "\n")

abbrev pub downlink_step_text : WalkPlace → ℕ → List ℕ
downlink_step_text x p =
    values_then
    ((codes "no=", x.no) ∷ (codes " finished=", x.finished) ∷ (codes " t=", x.t) ∷ (codes " slot=", x.slot) ∷
    (codes " l=", x.l) ∷ (codes " k=", x.k) ∷ (codes " symbol=", x.symbol) ∷ (codes " p=", p) ∷ [])
    (codes "\n")

-- the pattern of an f32
abbrev pub pattern_text : Float → List ℕ
pattern_text x = hex 8 (to_bits binary32 x)

abbrev pub element_text : ElementNumbers → List ℕ
element_text x =
    values_then
    ((codes "no=", x.no) ∷ (codes " case=", x.state) ∷ [])
    (codes " re=" ++ (pattern_text x.re ++ (codes " im=" ++ (pattern_text x.im ++ codes "\n"))))

-- a fill's number after a space
abbrev pub number_text : Float → List ℕ
number_text x = codes " " ++ pattern_text x

abbrev pub fill_text : ℕ → List Float → List ℕ
fill_text number numbers = values_then ((codes "no=", number) ∷ []) (flat_map number_text numbers ++ codes "\n")

abbrev pub meaning_text : ℕ → List ℕ → List ℕ
meaning_text number words = values_then ((codes "no=", number) ∷ []) (codes " meaning=" ++ (words ++ codes "\n"))

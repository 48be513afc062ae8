-- The cases of L4 hold: everything computes.
use mathlib.Core.Path.{◌≡◌, refl}
use Prim.Native.Nat.{◌*◌}
use Rattle.counting.specs.Counting.{rank, next, select}
use Rattle.numerology.specs.Numerology.{first_after}
use Rattle.uplink.specs.Timing.{in_block, active, slot_at}
use Rattle.sending.specs.Answer.{answer_of}
use Rattle.uplink.specs.Answers.{refused_plan}
use Rattle.nprach.specs.Windows.{is_listed, are_listed, overlaps, is_clear, windows_refusal}
use Rattle.npusch.specs.Fields.{tones_of, first_tone, unit_slots}
use Rattle.npusch.specs.Refusals.{fields_refusal, refusal}
use Rattle.npusch.specs.Shaping.{shape_of}
use Rattle.npusch.specs.Questions.{plan_of}
use Rattle.npusch.specs.Cases.{Sends, one_window, lasting, long, one_tone, one_copy, WindowCases}

never : plan_of (one_tone 0) (lasting 1376256) ≡ refused_plan 20
unfolding plan_of answer_of refusal fields_refusal tones_of first_tone windows_refusal are_listed is_listed is_clear overlaps rank
never = refl

unlisted : (plan_of (one_tone 0) (lasting 22020096) ≡ refused_plan 19)
    × (plan_of (one_tone 0) (one_window (record { period = 240; start = 8; length = 172032; tone = 0 })) ≡ refused_plan 19)
unfolding plan_of answer_of refusal fields_refusal tones_of first_tone windows_refusal are_listed is_listed
unlisted = (refl, refl)

inside : (plan_of (one_copy 511 18) long).first ≡ 2 * 922
unfolding plan_of answer_of refusal fields_refusal tones_of first_tone windows_refusal are_listed is_listed is_clear overlaps rank shape_of slot_at select next active in_block first_after
inside = refl

below : (plan_of (one_copy 100 0) long).first ≡ 2 * 282
unfolding plan_of answer_of refusal fields_refusal tones_of first_tone windows_refusal are_listed is_listed is_clear overlaps rank shape_of slot_at select next active in_block first_after
below = refl

postponed : Sends (one_tone 0) (lasting 172032) 55 395
unfolding plan_of answer_of refusal fields_refusal tones_of first_tone windows_refusal are_listed is_listed is_clear overlaps rank shape_of slot_at select next active in_block first_after unit_slots
postponed = record { no = refl; first = refl; last = refl }

elsewhere : Sends (one_tone 12) (lasting 172032) 55 330
unfolding plan_of answer_of refusal fields_refusal tones_of first_tone windows_refusal are_listed is_listed is_clear overlaps rank shape_of slot_at select next active in_block first_after unit_slots
elsewhere = record { no = refl; first = refl; last = refl }

pub window_cases : WindowCases
window_cases = record {
  postponed = postponed;
  elsewhere = elsewhere;
  inside = inside;
  below = below;
  never = never;
  unlisted_length = unlisted.0;
  unlisted_period = unlisted.1;
}

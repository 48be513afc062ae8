-- Cases P2 to P6 hold: the numbers that a case leaves open are rewritten away, and the rest computes.
use mathlib.Core.Bool.{Bool}
use mathlib.Core.List.{List, [], ◌∷◌, ◌++◌, map}
use mathlib.Core.Path.{◌≡◌, refl, sym, ap, ap₂, ◌∙◌}
use Prim.Native.Nat.{ℕ, ◌+◌, ◌-◌, ◌*◌, ◌/◌, ◌≤◌}
use native.Mathlib.Omega.{arith}
use borrow.Author.Tests.{le-ltb, lt-ltb, le-leb}
use Rattle.counting.specs.Counting.{rank, next, select}
use Rattle.grid.specs.Grid.{uplink_subcarriers}
use Rattle.grid.specs.Tables.{entry, uplink_copies}
use Rattle.uplink.specs.declared.UplinkPlace.{UplinkPlace}
use Rattle.uplink.specs.Timing.{in_block, active, sent_slots, slot_at}
use Rattle.uplink.specs.Elements.{carries_data, slot_data}
use Rattle.uplink.specs.Mapping.{codeword_symbols, sending_of}
use Rattle.sending.specs.Answer.{extent_of, place_at}
use Rattle.sending.proofs.Answer.{accepted, refused_as}
use Rattle.uplink.specs.declared.UplinkPlan.{UplinkPlan}
use Rattle.uplink.specs.Answers.{refused_plan, plan_shown, refused_place}
use Rattle.uplink.specs.Scaffold.{place_in}
use Rattle.nprach.specs.declared.Windows.{Windows}
use Rattle.nprach.specs.Windows.{none, is_clear}
use Rattle.nprach.proofs.Spaced.{none_refuses}
use Rattle.npusch.specs.declared.NpuschGrant.{NpuschGrant}
use Rattle.numerology.specs.Numerology.{first_after}
use Rattle.npusch.specs.Fields.{tones_of, first_tone, unit_slots, consecutive_of}
use Rattle.npusch.specs.Scaffold.{tone_fields}
use Rattle.npusch.specs.Refusals.{fields_refusal, refusal}
use Rattle.grid.specs.Grid.{last_subframe}
use Rattle.npusch.specs.Shaping.{shape_of, grant_size, grant_order, open_of}
use Rattle.npusch.specs.Questions.{question_of, plan_of, forward_of}
use Rattle.npusch.specs.Cases.{FreeInRange, Sends, up_to, carried_slots, first_pass, twelve_tones, last_tone, three_tones, UplinkCases}
use Rattle.npusch.proofs.Acceptance as acceptance
use Rattle.npusch.proofs.Acceptance.{accepts, fits, plain_open}
use Rattle.uplink.proofs.GapPeriods.{slot_plain}

-- what an accepted grant answers
abbrev planned : NpuschGrant → UplinkPlan
planned g = plan_shown (grant_size g) (grant_order g) (extent_of (sending_of (shape_of g) (open_of g none)))

plan_accepted : (g : NpuschGrant) → refusal g none ≡ 0 → plan_of g none ≡ planned g
unfolding plan_of
plan_accepted g e = accepted refused_plan (refusal g none) (planned g) e

sends : (g : NpuschGrant) (a b : ℕ) → refusal g none ≡ 0 → (planned g).first ≡ a → (planned g).last ≡ b → Sends g none a b
sends g a b e x y = let q = plan_accepted g e in record { no = rw q refl; first = rw q x; last = rw q y }

-- a grant with no window whose numbers are in range is accepted
plain : (g : NpuschGrant) → acceptance.InRange g → refusal g none ≡ 0
plain g r = accepts g none (record { range = r; windows = none_refuses g.spacing _ _ none refl })

twelve_accepted : (mcs : ℕ) → mcs ≤ 4 → refusal (twelve_tones mcs) none ≡ 0
twelve_accepted mcs h = plain (twelve_tones mcs) (record {
  early = omega arith;
  spacing = omega arith;
  subcarrier = omega arith;
  tones = omega arith;
  units = omega arith;
  copies = omega arith;
  delay = omega arith;
  mcs = h;
})

case2 : (mcs : ℕ) → mcs ≤ 4
    → Sends (twelve_tones mcs) none 218 233 × ((plan_of (twelve_tones mcs) none).places ≡ 1152)
    × (codeword_symbols (shape_of (twelve_tones mcs)) ≡ 144)
unfolding shape_of slot_at select next active in_block is_clear first_after tones_of first_tone unit_slots slot_data rank carries_data
case2 mcs h =
    let e = twelve_accepted mcs h in
    (sends (twelve_tones mcs) 218 233 e refl refl, ap (λ (x : UplinkPlan). x.places) (plan_accepted (twelve_tones mcs) e), refl)

case3 : (n mcs : ℕ) → n ≤ last_subframe → mcs ≤ 4 → first_after 0 (n + 8) ≡ 55 → Sends (last_tone n mcs) none 55 70
unfolding shape_of slot_at select next active in_block is_clear tones_of unit_slots
case3 n mcs a h e =
    sends (last_tone n mcs) 55 70
    (plain (last_tone n mcs) (record {
      early = a;
      spacing = omega arith;
      subcarrier = omega arith;
      tones = omega arith;
      units = omega arith;
      copies = omega arith;
      delay = omega arith;
      mcs = h;
    })) (rw e refl) (rw e refl)

-- the chain passes 9 and 10, and stops at 11
case4 : (g : NpuschGrant) (ws : Windows) → FreeInRange g → g.mcs ≤ 15 → g.spacing ≤ 1 → tone_fields g.spacing ≤ g.subcarrier
    → g.subcarrier ≤ 63
    → plan_of g ws ≡ refused_plan 11
unfolding plan_of refusal fields_refusal
case4 g ws r m s c l =
    sym (refused_as refused_plan (λ S. plan_shown (grant_size g) (grant_order g) (extent_of S)) (question_of g ws) 11
    (rw (
      le-ltb last_subframe g.n r.n,
      le-ltb 1 g.spacing s,
      le-ltb 63 g.subcarrier l,
      le-ltb 7 g.units r.units,
      le-ltb 7 g.copies r.copies,
      le-ltb 3 g.delay r.delay,
      le-ltb 15 g.mcs m,
      le-leb (tone_fields g.spacing) g.subcarrier c,
    ) refl) (λ z. omega arith))

map_same : (f h : ℕ → ℕ) → ((i : ℕ) → f i ≡ h i) → (l : List ℕ) → map f l ≡ map h l
map_same f h e [] = refl
map_same f h e (x ∷ l) = ap₂ ◌∷◌ (e x) (map_same f h e l)

case5 : (n delay mcs : ℕ) → n ≤ last_subframe → delay ≤ 3 → mcs ≤ 4 → carried_slots (three_tones n delay mcs) 32 ≡ first_pass ++ first_pass
unfolding forward_of place_at shape_of tones_of first_tone unit_slots consecutive_of slot_data rank carries_data
case5 n delay mcs a b c =
    let g : NpuschGrant = three_tones n delay mcs in
    let e : refusal g none ≡ 0 =
    plain g (record {
      early = a;
      spacing = omega arith;
      subcarrier = omega arith;
      tones = omega arith;
      units = omega arith;
      copies = omega arith;
      delay = b;
      mcs = c;
    }) in
    map_same _ (λ i. (place_in 12 (sending_of (shape_of g) (open_of g none)) (i * 18)).symbol / 18)
    (λ i. ap (λ (x : UplinkPlace). x.symbol / 18)
    (accepted refused_place (refusal g none) (place_in 12 (sending_of (shape_of g) (open_of g none)) (i * 18)) e)) (up_to 32)

-- one tone at 3.75 kHz, one resource unit
module _ (g : NpuschGrant) (r : FreeInRange g) (m : g.mcs ≤ 4) (t : g.subcarrier ≤ 47) (s : g.spacing ≡ 0) (u : g.units ≡ 0) where
  one_tone_sent : sent_slots (shape_of g) ≡ entry uplink_copies g.copies * 16
  unfolding shape_of tones_of unit_slots
  one_tone_sent = rw (s, u, lt-ltb g.subcarrier (uplink_subcarriers 0) (omega arith)) refl

  accepted_one : refusal g none ≡ 0
  accepted_one =
      plain g (record {
        early = r.n;
        spacing = omega arith;
        subcarrier = omega arith;
        tones = rw s (omega arith);
        units = r.units;
        copies = r.copies;
        delay = r.delay;
        mcs = m;
      })

  -- transmitted slot i: 20 slots are left empty after each 128
  one_tone_slot : (i : ℕ) → slot_at (shape_of g) (open_of g none) i ≡ (shape_of g).first + (i + 20 * (i / 128))
  unfolding shape_of
  one_tone_slot i =
      ap (λ (o : ℕ → Bool). slot_at (shape_of g) o i) (λ j u. sym (plain_open g u) j)
      ∙ slot_plain (shape_of g) (fits g none accepted_one) i ∙ rw s refl

  case6 : (copies last : ℕ) → g.copies ≡ copies
      → entry uplink_copies copies * 16 - 1 + 20 * ((entry uplink_copies copies * 16 - 1) / 128) ≡ last
      → (plan_of g none).last ≡ (plan_of g none).first + last
  case6 copies last c e =
      rw (plan_accepted g accepted_one)
      (ap (λ (k : ℕ). slot_at (shape_of g) (open_of g none) (k - 1)) (one_tone_sent ∙ ap (λ (x : ℕ). entry uplink_copies x * 16) c)
      ∙ omega (arith, one_tone_slot 0, one_tone_slot (entry uplink_copies copies * 16 - 1)))

pub uplink_cases : UplinkCases
unfolding first_after next
uplink_cases = record {
  p2 = case2;
  p3 = λ mcs h. (case3 100 mcs (omega arith) h refl, case3 101 mcs (omega arith) h refl);
  p4_narrow = λ g ws r m s c. case4 g ws r m (omega arith) (rw (s, c) (omega arith)) (omega arith);
  p4_wide = λ g ws r m s c. case4 g ws r m (omega arith) (rw (s, c) (omega arith)) (omega arith);
  p5 = case5;
  p6_8 = λ g r m t s u c. case6 g r m t s u 3 127 c refl;
  p6_16 = λ g r m t s u c. case6 g r m t s u 4 275 c refl;
}

use mathlib.Core.Bool.{true}
use mathlib.Core.Path.{◌≡◌}
use Rattle.messages.specs.declared.Messages.{Messages}
use Rattle.messages.specs.declared.Schedule.{Schedule}
use Rattle.messages.specs.Messages.{window_frames, is_listed, are_listed}
use Rattle.messages.proofs.Listing.{listed}
use Rattle.units.specs.Quick.{HasLog}
use Rattle.units.proofs.Timetables.{powers}
use Rattle.units.proofs.logs_of.Goals as goal

has_logs : (ms : Messages) → are_listed ms ≡ true → (s : Schedule) → is_listed (window_frames ms) s ≡ true → HasLog s.every × HasLog s.period
has_logs ms ok s h = let p = powers ms ok s h in (p.0.log, p.1.log)

pub with_schedule-one-requires : goal.with_schedule-one-requires
with_schedule-one-requires c = λ r. has_logs c.args.ms c.requires c.args.ms.s1 ((listed c.args.ms c.requires).l1 r)

pub with_schedule-two-requires : goal.with_schedule-two-requires
with_schedule-two-requires c = λ r. let z = c in let m = z.args.ms in has_logs m z.requires m.s2 ((listed m z.requires).l2 r)

pub with_schedule-three-requires : goal.with_schedule-three-requires
with_schedule-three-requires c = λ r. let z = c in let m = z.args.ms in has_logs m z.requires m.s3 ((listed m z.requires).l3 r)

pub with_schedule-requires : goal.with_schedule-requires
with_schedule-requires c = λ r. let z = c in let m = z.args.ms in has_logs m z.requires m.s4 ((listed m z.requires).l4 r)

-- The bench sheet, by computation.
use Rattle.std.proofs.Common.{refl}
use Rattle.hearers.specs.Set.{has, alone, without, all_but}
use Rattle.words.specs.Refusal.{unless, first_refusal}
use Rattle.words.specs.Pair.{step_of}
use Rattle.rules.specs.Each.{every, some}
use Rattle.rules.specs.Table.{is_head, round, offset, wake_of, numbers_fit, wake_fits, table_fits, table_refusal}
use Rattle.rules.specs.Calendar.{quiet, hears, hear_due, settled, left, taken, send, delivery_due, all_zero, frame_fits, calendar_fits}
use Rattle.rules.specs.State.{head_of, put, listen_wait, coldstart_wait, phase_fits, head_fits, is_zero, place_fits, front_fits, state_fits, state_refusal, fresh}
use Rattle.rules.specs.Step.{timer_due, due, least_timeout, next_instant, advance, slot_after, timer_head, timer_frame, sends, timer, listener_wait, hear_head, hear, moved}
use Rattle.rules.specs.Judge.{name_refusal, due_refusal, last_refusal, step_refusal, state_after, refusal, judged}
use Rattle.sheet.specs.Tables.{refusals, lines}
use Rattle.sheet.specs.Sheet.{Sheet}

pub sheet : Sheet
unfolding has alone without all_but every some unless first_refusal is_head round offset wake_of numbers_fit wake_fits table_fits table_refusal quiet hears hear_due settled left taken send delivery_due all_zero frame_fits calendar_fits head_of put listen_wait coldstart_wait phase_fits head_fits is_zero place_fits front_fits state_fits state_refusal fresh step_of timer_due due least_timeout next_instant advance slot_after timer_head timer_frame sends timer listener_wait hear_head hear moved name_refusal due_refusal last_refusal step_refusal state_after refusal judged refusals lines
sheet = record {
  c1 = (refl, refl);
  c2 = (refl, refl);
  c3 = refl;
  c4 = refl;
  c5 = (refl, refl);
  c6 = ((refl, refl), refl);
  c7 = ((refl, refl), refl, refl);
  c8 = ((refl, refl), refl);
  c9 = ((refl, refl), refl, refl);
  c10 = ((refl, refl), refl);
  c11 = ((refl, refl), (refl, refl), refl, refl);
  c12 = ((refl, refl), refl);
  c13 = (refl, refl);
  listed = (refl, refl);
}

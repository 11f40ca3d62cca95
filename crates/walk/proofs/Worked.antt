-- The listing of table E's seventeen steps, by computation.
use Rattle.std.proofs.Common.{refl}
use Rattle.hearers.specs.Set.{has, alone, without, all_but}
use Rattle.words.specs.Refusal.{unless, first_refusal}
use Rattle.words.specs.Pair.{step_of}
use Rattle.rules.specs.Each.{every, some}
use Rattle.rules.specs.Table.{is_head, round, offset, wake_of, numbers_fit, wake_fits, table_fits, table_refusal}
use Rattle.rules.specs.Calendar.{quiet, hears, hear_due, settled, left, taken, send, delivery_due, all_zero, frame_fits, calendar_fits}
use Rattle.rules.specs.State.{head_of, put, listen_wait, coldstart_wait, phase_fits, head_fits, is_zero, place_fits, front_fits, state_fits, state_refusal, fresh}
use Rattle.rules.specs.Step.{timer_due, due, least_timeout, next_instant, advance, slot_after, timer_head, timer_frame, sends, timer, listener_wait, hear_head, hear, moved}
use Rattle.rules.specs.Judge.{name_refusal, due_refusal, last_refusal, step_refusal, state_after, refusal, judged}
use Rattle.octets.specs.Bytes.{number_at}
use Rattle.octets.specs.Fields.{is_marked, places, or_blank}
use Rattle.table_images.specs.TableImage.{table_in, read_table_refusal}
use Rattle.lines.specs.Decimal.{decimal_in, decimal}
use Rattle.lines.specs.Line.{line_of, row_line, step_line, end_line}
use Rattle.lines.specs.Worked.{bytes}
use Rattle.walk.specs.Listing.{asked_length, table_part, unless_refused, lines_from, listing_of, listing}
use Rattle.walk.specs.Worked.{Worked}

pub worked : Worked
unfolding has alone without all_but every some unless first_refusal is_head round offset wake_of numbers_fit wake_fits table_fits table_refusal quiet hears hear_due settled left taken send delivery_due all_zero frame_fits calendar_fits head_of put listen_wait coldstart_wait phase_fits head_fits is_zero place_fits front_fits state_fits state_refusal fresh step_of timer_due due least_timeout next_instant advance slot_after timer_head timer_frame sends timer listener_wait hear_head hear moved name_refusal due_refusal last_refusal step_refusal state_after refusal judged number_at is_marked places or_blank table_in read_table_refusal decimal_in decimal line_of row_line step_line end_line bytes asked_length table_part unless_refused lines_from listing_of listing
worked = refl

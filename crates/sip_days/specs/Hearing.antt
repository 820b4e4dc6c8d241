-- What one more step tells of the calls of a day.
use Rattle.std.specs.Prelude.{◌≡◌, ℕ, ℤ, ◌==◌, ◌&&◌, Bool, List, ◌++◌, map, filter, Option, None, Some, if◌then◌else◌}
use Rattle.std.specs.Option.{option_and_then}
use Rattle.sip_dialog.specs.declared.dialog.DialogId.{DialogId}
use Rattle.sip_audit.specs.declared.record.Record.{Record}
use Rattle.sip_event.specs.declared.event.Event.{Event}
use Rattle.sip_event.specs.declared.event.StepOut.{StepOut}
use Rattle.sip_event.specs.declared.packet.Packet.{Packet}
use Rattle.sip_model.specs.FinalAnswers.{begins_final}
use Rattle.sip_listener.specs.Heard.{Heard}
use Rattle.sip_days.specs.Calls.{answer_at, bye_by, call_id_in, ending_for, first_of, is_invite, is_taken, source_in}
use Rattle.sip_days.specs.declared.call.Answer.{Answer}
use Rattle.sip_days.specs.declared.call.Ending.{Ending}
use Rattle.sip_days.specs.declared.call.Call.{Call}

-- a call that was taken ends by a BYE of its dialog, if one comes at a moment, and it has no end yet
abbrev pub ended_with : Bool → Option DialogId → ℕ → Option DialogId → Option Ending → Option Ending
ended_with taken dialog at bye (Some ending) = Some ending
ended_with taken dialog at bye None = if taken then option_and_then (λ id. option_and_then (ending_for id at) bye) dialog else None

-- one that wasn't answered doesn't end
abbrev pub ended_of : Option Answer → ℕ → Option DialogId → Option Ending → Option Ending
ended_of None at bye ending = ending
ended_of (Some answer) at bye ending = ended_with (is_taken answer.status) answer.dialog at bye ending

-- a call, and one more step, which brings that BYE: it is answered, or, once it was, it ends
abbrev pub hears_with : Option DialogId → StepOut → Call → Call
hears_with bye out call = record call {
  answer = first_of call.answer (answer_at call.decision.number out);
  ending = ended_of call.answer out.at bye call.ending;
}

-- the call whose record a step makes, as this step alone says it, on a clock that is so many minutes ahead of UTC
abbrev pub begun_by : ℤ → Option Event → StepOut → Record → Call
begun_by offset event out r = record {
  decision = r;
  source = source_in event;
  call_id = call_id_in event;
  offset = offset;
  answer = answer_at r.number out;
  ending = None;
}

-- the calls of a day, and what one more step put out, with its event and the office's clock
abbrev pub calls_with : ℤ → Option Event → StepOut → List Call → List Call
calls_with offset event out calls = map (hears_with (bye_by out event) out) calls ++ map (begun_by offset event out) (filter is_invite out.records)

-- a packet is a final answer to whoever asked (RFC 3261 16.7); a step without one answers no call
abbrev pub is_final : Packet → Bool
is_final p = p.ticket.branch == 0 && begins_final p.bytes

-- a list of calls hears a step
abbrev pub adds_calls : List Call → Heard → List Call → Type 0
adds_calls old step new = new ≡ calls_with step.config.offset step.event step.out old

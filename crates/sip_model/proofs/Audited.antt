-- The numbers of the records of a history rise.
use Rattle.std.proofs.Common.{◌≡◌, ℕ, ◌+◌, ◌≤◌, ◌<◌, List, [], ◌∷◌, Option, Some, None, option_map, refl, sym, ap, subst, arith}
use Rattle.std.specs.List.{AllByRecursion}
use Rattle.std.specs.Option.{option_map_or}
use Rattle.sip_message_form.specs.declared.message.Message.{Message}
use Rattle.sip_uri.specs.declared.addr.Addr.{Addr}
use Rattle.sip_audit.specs.declared.record.Record.{Record}
use Rattle.sip_event.specs.declared.event.Event.TheVariants.{Datagram, Time, Fault}
use Rattle.model_steps.specs.state.declared.server.Server.{Server}
use Rattle.model_steps.specs.state.declared.proxy_state.ProxyState.{ProxyState}
use Rattle.model_steps.specs.state.State.{first_state}
use Rattle.model_steps.specs.state.Arrival.{Arrival}
use Rattle.model_steps.specs.verdict_model.Verdict.{Verdict, Drop, Respond, Copy, AckOn, Cancel, Answer, InDialog, Challenge, Deny, Send, Register, verdict_of}
use Rattle.model_steps.specs.Step.{Act, Given, Passing, IsStep, arrival_of}
use Rattle.sip_model.specs.Run.{Link, under, IsChain}
use Rattle.sip_model.specs.Parts.{HasParts, next_after}
use Rattle.sip_model.specs.Histories.{Judged, judged_at, records_of, records_at}
use Rattle.sip_model.specs.Access.{recorded_by, IsAbove}
use Rattle.sip_model.proofs.Places.{all_weaker}
use Rattle.sip_model.proofs.Settling.{all_append}
use Rattle.sip_model.proofs.Followed.{step_records}
use Rattle.sip_model.proofs.StepParts.{step_parts}

-- a record has a number
abbrev IsNumbered : ℕ → Record → Type 0
IsNumbered number r = r.number ≡ number

-- each record of a verdict has its datagram's
verdict_numbered : (server : Server) (a : Arrival) (m : Message) (v : Verdict) → AllByRecursion (IsNumbered a.number) (records_of server a m v)
verdict_numbered server a m (Challenge q) = (refl, tt)
verdict_numbered server a m (Deny q id) = (refl, tt)
verdict_numbered server a m (Send q id targets) = (refl, tt)
verdict_numbered server a m (Register q id outcome) = (refl, tt)
verdict_numbered server a m Drop = tt
verdict_numbered server a m (Respond r b status) = tt
verdict_numbered server a m (Copy r) = tt
verdict_numbered server a m (AckOn address id) = tt
verdict_numbered server a m (Cancel found) = tt
verdict_numbered server a m (Answer status extras) = tt
verdict_numbered server a m (InDialog address id) = tt

-- what is judged in a step came under the next number
judged_number : (server : Server) (state : ProxyState) (at word : ℕ) (from : Addr) (bytes : List ℕ) (j : Judged)
    → judged_at server state (Given (Datagram at word from bytes)) ≡ Some j → j.arrival.number ≡ state.next
judged_number server state at word from bytes j is = by_option (verdict_of server state (arrival_of state at word from) bytes) is where
  by_option : (o : Option (Message × Verdict)) → option_map (λ x. record { arrival = arrival_of state at word from; message = x.0; verdict = x.1 }) o ≡ Some j
      → j.arrival.number ≡ state.next
  by_option None e = absurd (cc)
  by_option (Some x) e =
      let same : record { arrival = arrival_of state at word from; message = x.0; verdict = x.1 } ≡ j = cc in
      ap (λ (k : Judged). k.arrival.number) (sym same)

-- each record of a step has the number of its datagram, which is taken then
record Numbered (server : Server) (state : ProxyState) (act : Act) (next : ℕ) : Type 0 where
  records : AllByRecursion (λ (r : Record). (r.number ≡ state.next) × (r.number < next)) (records_at server state act)
  later : state.next ≤ next

numbered_at : (server : Server) (state : ProxyState) (act : Act) → Numbered server state act (next_after state act)
numbered_at server state (Given (Datagram at word from bytes)) = record {
  records = by_judged (judged_at server state (Given (Datagram at word from bytes))) refl;
  later = omega arith;
} where
  both : (records : List Record) → AllByRecursion (IsNumbered state.next) records → AllByRecursion (λ (r : Record). (r.number ≡ state.next) × (r.number < state.next + 1))
      records
  both records all = all_weaker (IsNumbered state.next) (λ (r : Record). (r.number ≡ state.next) × (r.number < state.next + 1)) records (λ r e. (e, omega (arith, e))) all

  by_judged : (o : Option Judged) → judged_at server state (Given (Datagram at word from bytes)) ≡ o
      → AllByRecursion (λ (r : Record). (r.number ≡ state.next) × (r.number < state.next + 1)) (option_map_or (λ j. records_of server j.arrival j.message j.verdict) o [])
  by_judged None is = tt
  by_judged (Some j) is =
      let own : j.arrival.number ≡ state.next = judged_number server state at word from bytes j is in
      both (records_of server j.arrival j.message j.verdict)
      (subst (λ (n : ℕ). AllByRecursion (IsNumbered n) (records_of server j.arrival j.message j.verdict)) own (verdict_numbered server j.arrival j.message j.verdict))
numbered_at server state (Given (Time at)) = record { records = tt; later = omega arith }
numbered_at server state (Given (Fault at ticket)) = record { records = tt; later = omega arith }
numbered_at server state (Passing at) = record { records = tt; later = omega arith }

-- those of a step
step_numbered : (server : Server) (link : Link) → IsStep server link.before link.act link.out link.after
    → AllByRecursion (λ (r : Record). (r.number ≡ link.before.next) × (r.number < link.after.next)) link.out.records × (link.before.next ≤ link.after.next)
step_numbered server link step =
    let parts : HasParts server link.before link.act link.out link.after = step_parts server link.before link.act link.out link.after step in
    let h : Numbered server link.before link.act link.after.next = subst (Numbered server link.before link.act) (sym parts.is_next)
    (numbered_at server link.before link.act) in (
      subst (λ (records : List Record). AllByRecursion (λ (r : Record). (r.number ≡ link.before.next) × (r.number < link.after.next)) records)
          (sym (step_records server link.before link.act link.out link.after step)) h.records,
      h.later,
    )

-- each record of a history is of a number that was taken
pub chain_recorded : (server : Server) (first : ℕ) (history : List Link) (last : ProxyState) → IsChain server (first_state first) history last
    → AllByRecursion (λ (r : Record). r.number < last.next) (recorded_by history)
chain_recorded server first [] last chain = tt
chain_recorded server first (link ∷ history) last chain =
    let h = step_numbered (under server link.config) link chain.1 in
    let next : last.next ≡ link.after.next = ap (λ (s : ProxyState). s.next) chain.0 in
    all_append (λ (r : Record). r.number < last.next) link.out.records (recorded_by history)
    (all_weaker (λ (r : Record). (r.number ≡ link.before.next) × (r.number < link.after.next)) (λ (r : Record). r.number < last.next) link.out.records
    (λ r below. let it = below.1 in omega (arith, it, next)) h.0)
    (all_weaker (λ (r : Record). r.number < link.before.next) (λ (r : Record). r.number < last.next) (recorded_by history) (λ r below. let later = h.1 in
    omega (arith, below, later, next)) (chain_recorded server first history link.before chain.2))

-- so those of the next step are above all
pub rising_of_step : (server : Server) (first : ℕ) (link : Link) (history : List Link) → IsStep (under server link.config) link.before link.act link.out link.after
    → IsChain server (first_state first) history link.before
    → AllByRecursion (IsAbove (recorded_by history)) link.out.records
rising_of_step server first link history step chain =
    let before = chain_recorded server first history link.before chain in
    all_weaker (λ (r : Record). (r.number ≡ link.before.next) × (r.number < link.after.next)) (IsAbove (recorded_by history)) link.out.records
    (λ r is. all_weaker (λ (other : Record). other.number < link.before.next) (λ (other : Record). other.number < r.number) (recorded_by history)
    (λ other below. let same = is.0 in omega (arith, below, same)) before)
    (step_numbered (under server link.config) link step).0

-- Each INVITE that is recorded is a call, with its record.
use Rattle.std.proofs.Common.{◌≡◌, List, [], ◌∷◌, ◌++◌, refl, sym, ◌∙◌, ap, append_assoc, append-nil}
use Rattle.std.specs.Prelude.{filter, map}
use Rattle.std.proofs.lemmas.List.Elements.{filter-append}
use Rattle.sip_audit.specs.declared.record.Record.{Record}
use Rattle.sip_model.specs.state.declared.server.Server.{Server}
use Rattle.sip_model.specs.Run.{Link, under}
use Rattle.sip_model.specs.Access.{Access}
use Rattle.sip_model.specs.Histories.{records_at}
use Rattle.sip_listener.specs.Heard.{Heard, heard_at, heard_of}
use Rattle.sip_days.specs.declared.call.Call.{Call}
use Rattle.sip_days.specs.Calls.{call_of, calls_of, decisions_of, invites_in, is_invite}
use Rattle.sip_days.specs.Days.{asked_in}

abbrev pub decision_in : Call → Record
decision_in call = call.decision

pub map_joined : {X Y : Type 0} (f : X → Y) (a b : List X) → map f (a ++ b) ≡ map f a ++ map f b
map_joined f [] b = refl
map_joined f (x ∷ a) b = ap (λ l. f x ∷ l) (map_joined f a b)

own_records : (step : Heard) (later : List Heard) (records : List Record) → map decision_in (map (call_of step later) records) ≡ records
own_records step later [] = refl
own_records step later (r ∷ records) = ap (λ (l : List Record). r ∷ l) (own_records step later records)

pub calls_decided : (day : List Heard) → map (λ (call : Call). call.decision) (calls_of day) ≡ decisions_of day
calls_decided [] = refl
calls_decided (step ∷ later) =
    map_joined decision_in (map (call_of step later) (invites_in step)) (calls_of later)
    ∙ ap (λ (l : List Record). l ++ map decision_in (calls_of later)) (own_records step later (invites_in step))
    ∙ ap (λ (l : List Record). invites_in step ++ l) (calls_decided later)

-- ---- along a history

filter_joined : (a b : List Record) → filter is_invite (a ++ b) ≡ filter is_invite a ++ filter is_invite b
filter_joined a b = filter-append is_invite a b

decisions_joined : (a b : List Heard) → decisions_of (a ++ b) ≡ decisions_of a ++ decisions_of b
decisions_joined [] b = refl
decisions_joined (step ∷ a) b =
    ap (λ (l : List Record). invites_in step ++ l) (decisions_joined a b) ∙ sym (append_assoc (invites_in step) (decisions_of a) (decisions_of b))

pub all_asked : (server : Server) (history : List Link) → Access server history → decisions_of (heard_of history) ≡ filter is_invite (asked_in server history)
all_asked server [] h = refl
all_asked server (link ∷ history) h =
    decisions_joined (heard_of history) (heard_at link ∷ [])
    ∙ ap (λ (l : List Record). decisions_of (heard_of history) ++ l) (append-nil (filter is_invite link.out.records))
    ∙ ap (λ (l : List Record). l ++ filter is_invite link.out.records) (all_asked server history h.1)
    ∙ ap (λ (l : List Record). filter is_invite (asked_in server history) ++ filter is_invite l) h.0.records
    ∙ sym (filter_joined (asked_in server history) (records_at (under server link.config) link.before link.act))

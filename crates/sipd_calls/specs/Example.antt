-- A call as a row shows it.
use Rattle.std.specs.Prelude.{[], ◌∷◌, codes, None, Some, true, false, pos}
use Rattle.sip_audit.specs.declared.record.AuditOperation.TheVariants as AuditOperation
use Rattle.sip_audit.specs.declared.record.AuditOutcome.TheVariants.{Sent}
use Rattle.sip_days.specs.declared.call.Call.{Call}
use Rattle.sipd_calls.specs.declared.choice.CallFilter.{CallFilter}

-- carol calls ivan at the start of 1970-01-02 (UTC), by rule 30; it rings for eight seconds, and ends by her BYE 51 seconds later
abbrev pub carols_call : Call
carols_call = record {
  decision = record {
    at = 86400000;
    number = 7;
    method = codes "INVITE";
    who = Some (codes "carol");
    target = record { user = codes "ivan"; host = codes "office.example" };
    operation = AuditOperation.Send;
    minute = None;
    outcome = Sent 30 1;
  };
  source = Some (record { ip = 192 ∷ 0 ∷ 2 ∷ 2 ∷ []; port = 5060 });
  call_id = Some (codes "x");
  offset = pos 60;
  answer = Some (record { at = 86408000; status = 200; dialog = None });
  ending = Some (record { at = 86459000; by_caller = true });
}

-- every call but those that were asked for a credential
abbrev pub anyone : CallFilter
anyone = record { since = None; until = None; user = None; target = None; from = None; challenged = false }

-- Steps that go by rules which aren't in force any more.
use Rattle.std.specs.Prelude.{ℕ, false, List, [], ◌∷◌, codes, None}
use Rattle.sip_message_form.specs.Text.{text_of}
use Rattle.sip_hops.specs.Examples.{local}
use Rattle.sip_edit_response.specs.Extras.{denial_warning}
use Rattle.sip_edit.specs.OnwardExamples as Onward
use Rattle.sip_audit.specs.declared.record.AuditOperation.TheVariants as AuditOperation
use Rattle.sip_audit.specs.declared.record.AuditOutcome.TheVariants as AuditOutcome
use Rattle.sip_audit.specs.declared.record.Record.{Record}
use Rattle.sip_event.specs.declared.packet.Packet.{Packet}
use Rattle.sip_model.specs.state.declared.proxy_state.ProxyState.{ProxyState}
use Rattle.sip_model.specs.context_model.Calls.{first_branch, one_target}
use Rattle.sip_model.specs.context_model.Sending.{made_answer, answer_packet, branch_packets}
use Rattle.sip_model.specs.steps_model.Examples.{sample, knowing}
use Rattle.sip_model.specs.Run.{Link}
use Rattle.model_laws.specs.Links.{step_by}
use Rattle.model_laws.specs.TwoConfigurations.{help_denied}
use Rattle.model_laws.specs.WrongAnswers.{before_call, invite_comes, answer_to_invite}

-- an INVITE to help comes when calls to him are denied by rule 3, and some packets and records are put out
abbrev pub call_while_denied : List Packet → List Record → ProxyState → Link
call_while_denied packets records after = step_by help_denied (before_call (knowing (codes "5082" ∷ []))) invite_comes 62000 packets records after

-- the INVITE goes to his phone, as by the rules of before
abbrev pub sent_as_before : ProxyState → Link
sent_as_before after = call_while_denied (answer_to_invite 100 ∷ branch_packets sample false one_target first_branch) [] after

-- the denial of it, by a rule
abbrev pub denial_by : ℕ → Packet
denial_by rule =
    answer_packet false 4 Onward.invite (local 5070) (text_of (made_answer sample 4 Onward.invite (local 5070) 403 (denial_warning sample.config.own rule ∷ [])))

-- it is denied, and the Warning names rule 4, which was for it before
abbrev pub denied_as_before : ProxyState → Link
denied_as_before after = call_while_denied (denial_by 4 ∷ []) [] after

-- the record of it, as the rules of before had it: sent to one target by rule 4
abbrev pub sent_by_rule_4 : Record
sent_by_rule_4 =
    record {
      at = 62000;
      number = 4;
      method = codes "INVITE";
      who = None;
      target = record { user = codes "help"; host = codes "host.com" };
      operation = AuditOperation.Send;
      minute = None;
      outcome = AuditOutcome.Sent 4 1;
    }

-- it is denied as it is to, and recorded so
abbrev pub recorded_as_before : ProxyState → Link
recorded_as_before after = call_while_denied (denial_by 3 ∷ []) (sent_by_rule_4 ∷ []) after

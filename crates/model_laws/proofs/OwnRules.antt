-- A step goes by the rules that are in force in it.
use Rattle.std.proofs.Common.{◌≡◌, ◌∙◌, ℕ, Bool, false, List, [], ◌∷◌, drop, get_or, Option, Some, codes, refl, sym, ap}
use Rattle.std.specs.Prelude.{option_map}
use Rattle.std.specs.Option.{option_map_or}
use Rattle.std.specs.Fmt.{digits}
use Rattle.hex.specs.Hex.{encode_with}
use Rattle.sip_uri.specs.Reading.{rest_of, reading_of}
use Rattle.sip_header.specs.CoreFields.{core_in}
use Rattle.sip_digest.specs.NonceText.{nonce_text}
use Rattle.sip_message_form.specs.declared.message.Message.{Message}
use Rattle.sip_message_form.specs.Text.{text_of}
use Rattle.sip_hops.specs.Examples.{local}
use Rattle.sip_edit.specs.OnwardExamples as Onward
use Rattle.sip_audit.specs.Lines.{rule_of}
use Rattle.sip_audit.specs.declared.record.Record.{Record}
use Rattle.sip_event.specs.declared.packet.Packet.{Packet}
use Rattle.sip_model.specs.state.declared.server.Server.{Server}
use Rattle.sip_model.specs.state.declared.proxy_state.ProxyState.{ProxyState}
use Rattle.sip_model.specs.verdict_model.Verdict.{Verdict, message_verdict, verdict_in}
use Rattle.sip_model.specs.steps_model.Examples.{sample, knowing}
use Rattle.sip_model.specs.steps_model.Step.{arrival_of, originals}
use Rattle.sip_model.specs.Run.{Link, under}
use Rattle.sip_model.specs.Histories.{Judged, records_of, records_at}
use Rattle.sip_model.specs.Access.{sent_at_once, sent_for, Access}
use Rattle.model_laws.specs.TwoConfigurations.{help_denied}
use Rattle.model_laws.specs.WrongAnswers.{before_call, invite_comes}
use Rattle.model_laws.specs.WrongRules.{call_while_denied, sent_as_before, denial_by, denied_as_before, sent_by_rule_4, recorded_as_before}
use Rattle.model_laws.proofs.Refused.{some_is_not_none}
use Rattle.model_laws.proofs.Said.{gets}
use Rattle.model_laws.proofs.Messages.{invite_said}
use Rattle.model_laws.proofs.Firsts.{none_open}
use Rattle.model_laws.proofs.Coming.{differ}

-- the server by the rules that deny the call, and what it knows before
abbrev denying : Server
denying = under sample help_denied

abbrev known : ProxyState
known = before_call (knowing (codes "5082" ∷ []))

-- the verdict denies it, by rule 3
is_denied : sent_at_once denying (arrival_of known 62000 9 (local 5070)) Onward.invite
    (message_verdict denying known (arrival_of known 62000 9 (local 5070)) Onward.invite false) ≡ denial_by 3 ∷ []
unfolding digits encode_with rest_of reading_of core_in nonce_text
is_denied = refl

-- so that is all that the INVITE gets
gets_denial : sent_for denying known invite_comes ≡ denial_by 3 ∷ []
gets_denial = gets denying known 62000 9 (local 5070) (text_of Onward.invite) Onward.invite invite_said ∙ is_denied

-- and all that a lawful step sends
sends_denial : (packets : List Packet) (records : List Record) (after : ProxyState) (earlier : List Link)
    → Access sample (call_while_denied packets records after ∷ earlier)
    → originals packets ≡ denial_by 3 ∷ []
sends_denial packets records after earlier access = none_open sample earlier (call_while_denied packets records after) refl access ∙ gets_denial

-- it is one packet
pub not_sent : (after : ProxyState) (earlier : List Link) → Access sample (sent_as_before after ∷ earlier) → ⊥
not_sent after earlier access =
    some_is_not_none _ _ (ap (λ (ps : List Packet). drop 1 ps) (sends_denial (sent_as_before after).out.packets [] after earlier access))

-- the byte that is the rule's number in the first packet
rule_byte : List Packet → ℕ
rule_byte [] = 0
rule_byte (p ∷ ps) = get_or p.bytes 254 0

names_3 : rule_byte (denial_by 3 ∷ []) ≡ 51
unfolding rule_byte digits encode_with rest_of reading_of core_in nonce_text
names_3 = refl

names_4 : rule_byte (denial_by 4 ∷ []) ≡ 52
unfolding rule_byte digits encode_with rest_of reading_of core_in nonce_text
names_4 = refl

-- it names rule 3
pub not_warned : (after : ProxyState) (earlier : List Link) → Access sample (denied_as_before after ∷ earlier) → ⊥
not_warned after earlier access =
    differ 52 51 refl refl (ap (λ (n : ℕ). Some n) (sym names_4 ∙ ap rule_byte (sends_denial (denied_as_before after).out.packets [] after earlier access) ∙ names_3))

-- ---- its record

-- the datagram, its message and the verdict on that
abbrev judged_as : Message × Verdict → Judged
judged_as x = record { arrival = arrival_of known 62000 9 (local 5070); message = x.0; verdict = x.1 }

-- what is recorded of the INVITE, by the verdict on it
its_records : records_at denying known invite_comes ≡ records_of denying (arrival_of known 62000 9 (local 5070)) Onward.invite
    (message_verdict denying known (arrival_of known 62000 9 (local 5070)) Onward.invite false)
its_records =
    ap (λ (said : Option (Message × Bool)).
    option_map_or (λ j. records_of denying j.arrival j.message j.verdict)
    (option_map judged_as
    (verdict_in denying known (arrival_of known 62000 9 (local 5070)) said)) []) invite_said

-- the rule of the first record
first_rule : List Record → ℕ
first_rule [] = 0
first_rule (r ∷ rs) = rule_of r.outcome

by_rule_3 : first_rule (records_of denying (arrival_of known 62000 9 (local 5070)) Onward.invite
    (message_verdict denying known (arrival_of known 62000 9 (local 5070)) Onward.invite false)) ≡ 3
unfolding first_rule digits encode_with rest_of reading_of core_in nonce_text
by_rule_3 = refl

by_rule_4 : first_rule (sent_by_rule_4 ∷ []) ≡ 4
unfolding first_rule
by_rule_4 = refl

-- it is rule 3
pub not_recorded : (after : ProxyState) (earlier : List Link) → Access sample (recorded_as_before after ∷ earlier) → ⊥
not_recorded after earlier access = differ 4 3 refl refl (ap (λ (n : ℕ). Some n) (sym by_rule_4 ∙ ap first_rule (access.0.records ∙ its_records) ∙ by_rule_3))

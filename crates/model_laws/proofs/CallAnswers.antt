-- Answers of targets that don't go to the caller.
use Rattle.std.proofs.Common.{◌≡◌, inl, inr, ℕ, false, List, ◌∷◌, Contains, Some, refl, sym, ap, subst, ◌∙◌, true≢false}
use Rattle.std.specs.Fmt.{digits}
use Rattle.std.specs.List.{AllByRecursion}
use Rattle.hex.specs.Hex.{encode_with}
use Rattle.sip_uri.specs.Reading.{rest_of, reading_of}
use Rattle.sip_header.specs.CoreFields.{core_in}
use Rattle.sip_digest.specs.NonceText.{nonce_text}
use Rattle.sip_message_fields.specs.declared.field_name.FieldName.TheVariants as Name
use Rattle.sip_message_fields.specs.Values.{first_value}
use Rattle.sip_message_form.specs.declared.message.Message.{Message}
use Rattle.sip_message_form.specs.Text.{text_of}
use Rattle.sip_hops.specs.Examples.{local}
use Rattle.sip_best.specs.declared.final_answer.Final.{Final}
use Rattle.sip_edit.specs.OnwardExamples as Onward
use Rattle.sip_edit.specs.ReceivedRequest.{response_address}
use Rattle.sip_event.specs.declared.packet.Packet.{Packet}
use Rattle.sip_model.specs.state.declared.branch.Branch.{Branch}
use Rattle.sip_model.specs.state.declared.branch.Phase.TheVariants.{Cancelled, Done}
use Rattle.sip_model.specs.state.declared.open_request.OpenRequest.{OpenRequest}
use Rattle.sip_model.specs.state.declared.proxy_state.ProxyState.{ProxyState}
use Rattle.sip_model.specs.state.State.{is_success, is_failure, is_provisional, phase_deadline}
use Rattle.sip_model.specs.context_model.Calls.{first_branch, one_target, branch_at}
use Rattle.sip_model.specs.context_model.Sending.{ack_packets}
use Rattle.sip_model.specs.steps_model.Examples.{sample, ringing_from}
use Rattle.sip_model.specs.Run.{Link}
use Rattle.sip_model.specs.Access.{ComesNow, IsAckNow, NoAck, Acks, EndsNow, OthersEnded, Access}
use Rattle.model_laws.specs.WrongAnswers.{two_called, busy, lost_goes_up, accepted_call, late_ringing, trying_there, passed_100}
use Rattle.model_laws.proofs.Refused.{some_is_not_none, holds_of, IsIdle, sends_nothing, not_ready}
use Rattle.model_laws.proofs.Said.{response_comes_for, response_gets_nothing}
use Rattle.model_laws.proofs.Messages.{busy_said, busy_is_for, ringing_said, ringing_is_for, trying_said, trying_is_for}
use Rattle.model_laws.proofs.Coming.{differ, refusal_not_passed, trying_not_passed, late_not_passed, EndsHow, ends_how, all_sent_are}

-- the caller is at port 5070
pub caller_is : (response_address Onward.invite (local 5070)).port ≡ 5070
unfolding digits encode_with rest_of reading_of core_in nonce_text
caller_is = refl

-- a packet goes elsewhere
abbrev IsElsewhere : Packet → Type 0
IsElsewhere p = (Some p.to.port ≡ Some 5070) → ⊥

-- ---- the 486

module _ (known after : ProxyState) (earlier : List Link) where
  abbrev lost : Link
  lost = lost_goes_up known after

  -- it comes for the first target
  busy_for : (r : OpenRequest) (b : Branch) (status : ℕ) (response : Message) → ComesNow sample lost.before lost.act r b status response
      → (b ≡ first_branch) × (status ≡ 486)
  busy_for r b status response comes = response_comes_for sample lost.before 63500 9 (local 5082) (text_of busy) busy busy_said r two_called b first_branch status
      response busy_is_for comes

  -- no branch has its deadline then
  not_due : AllByRecursion (λ (b : Branch). phase_deadline b.phase ≡ Some 63500 → ⊥) two_called.branches
  not_due = (differ 94000 63500 refl refl, (differ 248000 63500 refl refl, tt))

  -- the other target rings
  no_best : (b : Branch) (last : Final) → Contains two_called.branches b → EndsNow sample lost.before lost.act 63500 two_called b last → OthersEnded two_called b → ⊥
  no_best b last there ends others = by_how (ends_how sample lost.before lost.act 63500 refl two_called b last ends) where
    by_how : EndsHow sample lost.before lost.act 63500 two_called b → ⊥
    by_how (inl x) = true≢false (sym ((subst (λ (x : Branch). OthersEnded two_called x) (busy_for two_called b x.0 x.1 x.2).0 others).1.0 refl refl))
    by_how (inr due) = holds_of (λ (x : Branch). phase_deadline x.phase ≡ Some 63500 → ⊥) two_called.branches b not_due there due

  -- the ACK goes to the first target
  acks_are : (packets : List Packet) → IsAckNow sample lost.before lost.act two_called packets → AllByRecursion IsElsewhere packets
  acks_are _ NoAck = tt
  acks_are _ (Acks b status response comes invite failure going) =
      subst (λ (x : Branch). AllByRecursion IsElsewhere (ack_packets sample false two_called x (first_value Name.To response.fields)))
      (sym (busy_for two_called b status response comes).0) (differ 5082 5070 refl refl, tt)

  -- so the caller gets nothing
  pub lost_refused : Access sample (lost ∷ earlier) → ⊥
  lost_refused access =
      (all_sent_are sample (lost ∷ earlier) lost.before lost.act 63500 IsElsewhere (
        record {
          acks_are = acks_are;
          no_answer = record {
            not_passed = λ b status response comes passed.
                refusal_not_passed two_called b status (ap is_provisional (busy_for two_called b status response comes).1)
                (ap is_success (busy_for two_called b status response comes).1) passed;
            no_best = λ b last there going ends others answering. no_best b last there ends others;
          };
          cancels_are = ((differ 5082 5070 refl refl, tt), ((differ 5083 5070 refl refl, tt), tt));
        },
        tt,
      )
      (response_gets_nothing sample lost.before 63500 9 (local 5082) (text_of busy) busy busy_said refl) _ access.0.sent).1.0 (ap (λ (n : ℕ). Some n) caller_is)

-- ---- the 180

module _ (known after : ProxyState) (earlier : List Link) where
  abbrev late : Link
  late = late_ringing known after

  -- it comes for the second target
  ringing_for : (r : OpenRequest) (b : Branch) (status : ℕ) (response : Message) → ComesNow sample late.before late.act r b status response
      → (b ≡ branch_at 2 5083 (Cancelled 95000)) × (status ≡ 180)
  ringing_for r b status response comes =
      response_comes_for sample late.before 63500 9 (local 5083) (text_of (ringing_from 2)) (ringing_from 2) ringing_said r accepted_call b
      (branch_at 2 5083 (Cancelled 95000)) status response
      ringing_is_for comes

  -- so nothing is to be sent
  idle : IsIdle sample (late ∷ earlier) late.before late.act 63500 accepted_call
  idle =
      record {
        no_ack = λ b status response comes failure going. true≢false (sym failure ∙ ap is_failure (ringing_for accepted_call b status response comes).1);
        no_answer = record {
          not_passed = λ b status response comes passed. late_not_passed accepted_call b status refl (ap is_success (ringing_for accepted_call b status response comes).1)
              passed;
          no_best = λ b last there going ends others answering. true≢false (sym answering);
        };
        no_cancel = (
          not_ready sample (late ∷ earlier) late.before late.act 63500 accepted_call (branch_at 1 5082 (Done 95000 200)) refl refl,
          (not_ready sample (late ∷ earlier) late.before late.act 63500 accepted_call (branch_at 2 5083 (Cancelled 95000)) refl refl, tt),
        );
      }

  pub late_refused : Access sample (late ∷ earlier) → ⊥
  late_refused access =
      some_is_not_none _ _
      (sends_nothing sample earlier late (idle, tt) (response_gets_nothing sample late.before 63500 9 (local 5083) (text_of (ringing_from 2)) (ringing_from 2)
      ringing_said refl) access)

-- ---- the 100

module _ (known after : ProxyState) (earlier : List Link) where
  abbrev passed : Link
  passed = passed_100 known after

  -- it comes for the one target
  trying_for : (r : OpenRequest) (b : Branch) (status : ℕ) (response : Message) → ComesNow sample passed.before passed.act r b status response
      → (b ≡ first_branch) × (status ≡ 100)
  trying_for r b status response comes =
      response_comes_for sample passed.before 62100 9 (local 5082) (text_of trying_there) trying_there trying_said r one_target b first_branch status response
      trying_is_for comes

  -- a 100 ends no branch
  goes_on : (b : Branch) (last : Final) → Contains one_target.branches b → EndsNow sample passed.before passed.act 62100 one_target b last → ⊥
  goes_on b last there ends = by_how (ends_how sample passed.before passed.act 62100 refl one_target b last ends) where
    by_how : EndsHow sample passed.before passed.act 62100 one_target b → ⊥
    by_how (inl x) = true≢false (sym (ap is_provisional (trying_for one_target b x.0 x.1 x.2).1) ∙ x.3)
    by_how (inr due) = holds_of (λ (x : Branch). phase_deadline x.phase ≡ Some 62100 → ⊥) one_target.branches b (differ 94000 62100 refl refl, tt) there due

  -- nor does it get an ACK
  no_acks : (packets : List Packet) → IsAckNow sample passed.before passed.act one_target packets → AllByRecursion IsElsewhere packets
  no_acks _ NoAck = tt
  no_acks _ (Acks b status response comes invite failure going) = absurd (true≢false (sym failure ∙ ap is_failure (trying_for one_target b status response comes).1))

  pub passed_refused : Access sample (passed ∷ earlier) → ⊥
  passed_refused access =
      (all_sent_are sample (passed ∷ earlier) passed.before passed.act 62100 IsElsewhere (
        record {
          acks_are = no_acks;
          no_answer = record {
            not_passed = λ b status response comes goes.
                trying_not_passed one_target b status (trying_for one_target b status response comes).1 (ap is_success (trying_for one_target b status response comes).1)
                goes;
            no_best = λ b last there going ends others answering. goes_on b last there ends;
          };
          cancels_are = ((differ 5082 5070 refl refl, tt), tt);
        },
        tt,
      )
      (response_gets_nothing sample passed.before 62100 9 (local 5082) (text_of trying_there) trying_there trying_said refl) _ access.0.sent).0
      (ap (λ (n : ℕ). Some n) caller_is)

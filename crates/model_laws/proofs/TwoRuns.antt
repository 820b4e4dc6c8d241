-- Steps by two configurations are a run under both, and none of one server.
use Rattle.std.proofs.Common.{◌≡◌, ◌∙◌, ℕ, Bool, false, codes, subst, List, [], ◌∷◌, length, Option, Some, None, refl, sym, ap, arith}
use Rattle.std.specs.Option.{option_map_or}
use Rattle.std.specs.Fmt.{digits}
use Rattle.hex.specs.Hex.{encode_with}
use Rattle.sip_uri.specs.Reading.{rest_of, reading_of}
use Rattle.sip_header.specs.CoreFields.{core_in}
use Rattle.sip_digest.specs.NonceText.{nonce_text}
use Rattle.sip_message.specs.Reading as Bytes
use Rattle.sip_message_form.specs.declared.message.Message.{Message}
use Rattle.sip_message_form.specs.Text.{text_of}
use Rattle.sip_hops.specs.Examples.{local}
use Rattle.sip_edit.specs.OnwardExamples as Onward
use Rattle.sip_event.specs.declared.event.Event.{Event}
use Rattle.sip_event.specs.declared.event.Event.TheVariants.{Datagram, Time}
use Rattle.sip_event.specs.declared.event.StepOut.{StepOut}
use Rattle.sip_config_types.specs.declared.config.Config.{Config}
use Rattle.sip_model.specs.state.declared.server.Server.{Server}
use Rattle.sip_model.specs.state.declared.proxy_state.ProxyState.{ProxyState}
use Rattle.sip_model.specs.state.Arrival.{Arrival}
use Rattle.sip_model.specs.state.SameState.{SameState}
use Rattle.sip_model.specs.verdict_model.Verdict.{message_verdict, message_in, verdict_in}
use Rattle.sip_model.specs.state.State.{first_state}
use Rattle.sip_model.specs.steps_model.Effect.{Effect, counted, effect_of, nothing, datagram_effect}
use Rattle.sip_model.specs.steps_model.Examples.{sample, knowing}
use Rattle.sip_model.specs.steps_model.Step.{Given, IsStep, NoneBy, NoneAgainBy, moment_of, arrival_of, originals, retransmissions}
use Rattle.sip_model.specs.Run.{IsChain, under, IsRun}
use Rattle.sip_model.specs.Periods.{IsRunUnder}
use Rattle.model_laws.specs.TwoConfigurations.{closed, after_help, help_again, from_pc}
use Rattle.model_laws.specs.TwoPeriods.{first_second, next_second, two_seconds, both_outs, two_periods, first_asked, next_asked, while_gone, once_back, gone_and_back}
use Rattle.model_laws.specs.TwoPeriods.{outs_of_both, periods_of_both}
use Rattle.model_laws.proofs.Coming.{differ}

-- a state is the same as itself
state_same : (state : ProxyState) → SameState state state
state_same state = record { moment = refl; next = refl; bindings = λ aor moment later. refl; nonces = refl; requests = refl; dialogs = λ p. refl }

-- the first second is a step by the sample configuration
first_is : IsStep sample (first_state 1) (Given (Time 1000)) first_second.out first_second.after
first_is = record {
  none_due = tt;
  none_again_due = tt;
  at_moment = refl;
  quiet = record {
    no_earlier = omega arith;
    no_later = omega arith;
    none_passed = tt;
    none_again_passed = tt;
    does = record { at_moment = refl; sends = refl; repeats = refl; records = refl; leaves = state_same first_second.after };
  };
}

-- the next one is a step by the other
next_is : IsStep (under sample closed) first_second.after (Given (Time 2000)) next_second.out next_second.after
next_is = record {
  none_due = tt;
  none_again_due = tt;
  at_moment = refl;
  quiet = record {
    no_earlier = omega arith;
    no_later = omega arith;
    none_passed = tt;
    none_again_passed = tt;
    does = record { at_moment = refl; sends = refl; repeats = refl; records = refl; leaves = state_same next_second.after };
  };
}

-- each is a run of its own, and both are one under both
pub two_are_one : IsRunUnder sample (first_state 1) two_periods None both_outs two_seconds next_second.after
two_are_one = record {
  own = first_second.out ∷ [];
  further = next_second.out ∷ [];
  earlier = first_second ∷ [];
  later = next_second ∷ [];
  middle = first_second.after;
  is_run = record { chain = (refl, first_is, refl); paced = (tt, tt); of_events = refl; of_steps = refl; configured = (refl, tt) };
  behind = record {
    own = next_second.out ∷ [];
    further = [];
    earlier = next_second ∷ [];
    later = [];
    middle = next_second.after;
    is_run = record { chain = (refl, next_is, refl); paced = (tt, tt); of_events = refl; of_steps = refl; configured = (refl, tt) };
    behind = record { no_steps = refl; no_history = refl; stays = refl };
    of_steps = refl;
    of_history = refl;
  };
  of_steps = refl;
  of_history = refl;
}

-- ---- a user who is gone, and is one again

-- the MESSAGEs are said by their texts
first_said : message_in (Bytes.reading_of (text_of Onward.text_message)) ≡ Some (Onward.text_message, false)
unfolding digits encode_with nonce_text Bytes.reading_of Bytes.datagram_of Bytes.message_from
first_said = refl

next_said : message_in (Bytes.reading_of (text_of (from_pc (codes "msg2") Onward.text_message))) ≡ Some (from_pc (codes "msg2") Onward.text_message, false)
unfolding digits encode_with nonce_text Bytes.reading_of Bytes.datagram_of Bytes.message_from
next_said = refl

module _ (server : Server) (old : ProxyState) (at : ℕ) (m : Message) (says : message_in (Bytes.reading_of (text_of m)) ≡ Some (m, false)) where
  -- the datagram
  abbrev arrival : Arrival
  arrival = arrival_of old at 9 (local 5070)

  -- what its message does
  abbrev done : Effect
  done = effect_of server arrival m (message_verdict server old arrival m false) (counted arrival old)

  -- that is what the datagram does
  is_done : datagram_effect server old arrival (text_of m) ≡ done
  is_done =
      ap (λ (said : Option (Message × Bool)). option_map_or (λ x. effect_of server arrival x.0 x.1 (counted arrival old)) (verdict_in server old arrival said)
      (nothing (counted arrival old))) says

  -- so a step that does it, and sends nothing again, is one of the datagram
  pub delivers : NoneBy (moment_of old at) old.requests → NoneAgainBy (moment_of old at) old.requests → moment_of old at ≡ at → originals done.originals ≡ done.originals
      → retransmissions done.originals ≡ done.again
      → IsStep server old (Given (Datagram at 9 (local 5070) (text_of m))) (record { at = at; packets = done.originals; records = done.records }) done.state
  delivers none none_again now firsts agains = record {
    none_due = none;
    none_again = none_again;
    does = record {
      at_moment = sym now;
      sends = firsts ∙ ap (λ (e : Effect). e.originals) (sym is_done);
      repeats = agains ∙ ap (λ (e : Effect). e.again) (sym is_done);
      records = ap (λ (e : Effect). e.records) (sym is_done);
      leaves = subst (λ (e : Effect). SameState done.state e.state) (sym is_done) (state_same done.state);
    };
  }

-- the first one gets its 404 by the one configuration
gone_is : IsStep (under sample after_help) (knowing (codes "5082" ∷ [])) (Given first_asked) while_gone.out while_gone.after
unfolding digits encode_with rest_of reading_of core_in nonce_text
gone_is = delivers (under sample after_help) (knowing (codes "5082" ∷ [])) 5000 Onward.text_message first_said tt tt refl refl refl

-- nothing of it is due by then
none_due_then : NoneBy 6000 while_gone.after.requests
unfolding digits encode_with rest_of reading_of core_in nonce_text
none_due_then = (omega arith, tt)

none_again_then : NoneAgainBy 6000 while_gone.after.requests
unfolding digits encode_with rest_of reading_of core_in nonce_text
none_again_then = tt

-- the other one is sent on by the other
back_is : IsStep (under sample help_again) while_gone.after (Given next_asked) once_back.out once_back.after
unfolding digits encode_with rest_of reading_of core_in nonce_text
back_is = delivers (under sample help_again) while_gone.after 6000 (from_pc (codes "msg2") Onward.text_message) next_said none_due_then none_again_then refl refl refl

-- both are a run under both
pub gone_and_back_are_one : IsRunUnder sample (knowing (codes "5082" ∷ [])) periods_of_both None outs_of_both gone_and_back once_back.after
gone_and_back_are_one = record {
  own = while_gone.out ∷ [];
  further = once_back.out ∷ [];
  earlier = while_gone ∷ [];
  later = once_back ∷ [];
  middle = while_gone.after;
  is_run = record { chain = (refl, gone_is, refl); paced = (tt, tt); of_events = refl; of_steps = refl; configured = (refl, tt) };
  behind = record {
    own = once_back.out ∷ [];
    further = [];
    earlier = once_back ∷ [];
    later = [];
    middle = once_back.after;
    is_run = record { chain = (refl, back_is, refl); paced = (tt, tt); of_events = refl; of_steps = refl; configured = (refl, tt) };
    behind = record { no_steps = refl; no_history = refl; stays = refl };
    of_steps = refl;
    of_history = refl;
  };
  of_steps = refl;
  of_history = refl;
}

-- and one history of the server
pub gone_and_back_chain : IsChain sample (knowing (codes "5082" ∷ [])) gone_and_back once_back.after
gone_and_back_chain = (refl, back_is, (refl, gone_is, refl))

-- ---- no run of one server

-- the one has three users, and the other one none
pub of_no_server : (server : Server) (events : List Event) (until : Option ℕ) (steps : List StepOut) (last : ProxyState)
    → IsRun server (first_state 1) events until steps two_seconds last → ⊥
of_no_server server events until steps last run =
    differ 3 0 refl refl (ap (λ (config : Config). Some (length config.users)) (run.configured.1.0 ∙ sym run.configured.0))

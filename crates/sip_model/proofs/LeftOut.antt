-- What is left out takes numbers, and does nothing else.
use Rattle.std.proofs.Common.{◌≡◌, ◌∙◌, ℕ, zero, suc, ◌+◌, Bool, max, List, [], ◌∷◌, ◌++◌, reverse, replicate, refl, sym, ap, subst, arith, Option, Some, None}
use Rattle.std.proofs.lemmas.List.{reverse-append}
use Rattle.std.specs.List.{AllByRecursion}
use Rattle.std.specs.Option.{option_map_or}
use Rattle.sip_message_form.specs.declared.message.Message.{Message}
use Rattle.sip_message.specs.Reading.{datagram_of, reading_of}
use Rattle.sip_event.specs.declared.event.Event.{Event}
use Rattle.sip_event.specs.declared.event.StepOut.{StepOut}
use Rattle.model_steps.specs.state.declared.server.Server.{Server}
use Rattle.model_steps.specs.state.declared.proxy_state.ProxyState.{ProxyState}
use Rattle.model_steps.specs.state.Arrival.{Arrival}
use Rattle.model_steps.specs.verdict_model.Verdict.{message_in, verdict_in}
use Rattle.model_steps.specs.Effect.{Effect, counted, datagram_effect, effect_of, nothing}
use Rattle.model_steps.specs.Step.{Does, Given, IsDelivery, NoneBy, NoneAgainBy, arrival_of}
use Rattle.sip_model.specs.Run.{Link, IsChain, IsPaced, IsRun, IsUnder, events_of, steps_of}
use Rattle.sip_model.specs.LeftOut.{left_out, nobody, silent}

-- ---- one

pub says_nothing : message_in (reading_of (0 ∷ [])) ≡ None
unfolding reading_of datagram_of
says_nothing = refl

does_nothing : (server : Server) (s : ProxyState) (a : Arrival) → datagram_effect server s a (0 ∷ []) ≡ nothing (counted a s)
does_nothing server s a =
    ap (λ (said : Option (Message × Bool)).
    option_map_or (λ x. effect_of server a x.0 x.1 (counted a s)) (verdict_in server s a said) (nothing (counted a s))) says_nothing

takes_number : (server : Server) (s : ProxyState) → NoneBy s.moment s.requests → NoneAgainBy s.moment s.requests
    → IsDelivery server s 0 0 nobody (0 ∷ []) (silent s.moment) (record s { next = s.next + 1 })
takes_number server s none again =
    let still : max s.moment 0 ≡ s.moment = omega arith in
    record {
      none_due = subst (λ (moment : ℕ). NoneBy moment s.requests) (sym still) none;
      none_again = subst (λ (moment : ℕ). NoneAgainBy moment s.requests) (sym still) again;
      does = subst (λ (effect : Effect). Does server s (max s.moment 0) effect (silent s.moment) (record s { next = s.next + 1 }))
          (sym (does_nothing server s (arrival_of s 0 0 nobody))) (record {
            at_moment = sym still;
            sends = refl;
            repeats = refl;
            records = refl;
            leaves = record {
              moment = sym still;
              next = refl;
              bindings = λ aor moment later. refl;
              nonces = refl;
              requests = refl;
              dialogs = λ p. refl;
            };
          });
    }

-- ---- so many

push_same : {X : Type 0} (n : ℕ) (x : X) → replicate n x ++ x ∷ [] ≡ x ∷ replicate n x
push_same zero x = refl
push_same {X = X} (suc n) x = ap (λ (xs : List X). x ∷ xs) (push_same n x)

reverse_same : {X : Type 0} (n : ℕ) (x : X) → reverse (replicate n x) ≡ replicate n x
reverse_same zero x = refl
reverse_same {X = X} (suc n) x = reverse-append (x ∷ []) (replicate n x) ∙ ap (λ (xs : List X). xs ++ x ∷ []) (reverse_same n x) ∙ push_same n x

-- a history of them
record PassesOver (server : Server) (s : ProxyState) (count : ℕ) : Type 0 where
  pub history : List Link
  pub chain : IsChain server s history (record s { next = s.next + count })
  pub of_events : events_of history ≡ replicate count left_out
  pub of_steps : steps_of history ≡ replicate count (silent s.moment)
  pub paced : (next : Option ℕ) → IsPaced next history
  pub configured : AllByRecursion (IsUnder server.config) history

passes_over : (server : Server) (s : ProxyState) (count : ℕ) → NoneBy s.moment s.requests → NoneAgainBy s.moment s.requests → PassesOver server s count
passes_over server s zero none again =
    let same : s.next + 0 ≡ s.next = omega arith in
    record {
      history = [];
      chain = ap (λ (n : ℕ). record s { next = n }) same;
      of_events = refl;
      of_steps = refl;
      paced = λ next. tt;
      configured = tt;
    }
passes_over server s (suc count) none again =
    let earlier : PassesOver server s count = passes_over server s count none again in
    let one_more : s.next + suc count ≡ s.next + count + 1 = omega arith in
    record {
      history = record {
        config = server.config;
        before = record s { next = s.next + count };
        act = Given left_out;
        out = silent s.moment;
        after = record s { next = s.next + count + 1 };
      } ∷ earlier.history;
      chain = (
        ap (λ (n : ℕ). record s { next = n }) one_more,
        takes_number server (record s { next = s.next + count }) none again,
        earlier.chain,
      );
      of_events = ap (λ (events : List Event). left_out ∷ events) earlier.of_events;
      of_steps = ap (λ (steps : List StepOut). silent s.moment ∷ steps) earlier.of_steps;
      paced = λ next. (tt, earlier.paced (Some 0));
      configured = (refl, earlier.configured);
    }

-- they are a run, without a packet or a record
pub run_over : (server : Server) (s : ProxyState) (count : ℕ) → NoneBy s.moment s.requests → NoneAgainBy s.moment s.requests
    → (history : List Link) × IsRun server s (replicate count left_out) None (replicate count (silent s.moment)) history (record s { next = s.next + count })
run_over server s count none again =
    let passes : PassesOver server s count = passes_over server s count none again in (
      passes.history,
      record {
        chain = passes.chain;
        paced = passes.paced None;
        of_events = ap (λ (events : List Event). reverse events) passes.of_events ∙ reverse_same count left_out;
        of_steps = ap (λ (steps : List StepOut). reverse steps) passes.of_steps ∙ reverse_same count (silent s.moment);
        configured = passes.configured;
      },
    )

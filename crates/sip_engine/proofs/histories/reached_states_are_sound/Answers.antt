use Rattle.sip_engine.proofs.Numbered.{are_below}
use Rattle.sip_engine.proofs.histories.reached_states_are_sound.Goals as goal

pub returns-clause-none_before : goal.returns-clause-none_before
returns-clause-none_before c = λ server state h. c.no_deadline_passed.ensures.none_before server h.first h.history state h.chain

pub returns-clause-none_again : goal.returns-clause-none_again
returns-clause-none_again c = λ server state h. c.no_deadline_passed.ensures.none_again server h.first h.history state h.chain

pub returns-clause-below : goal.returns-clause-below
returns-clause-below c = λ server state h. are_below state.next state.requests (c.numbers_differ.ensures server h.first h.history state h.chain).are_below

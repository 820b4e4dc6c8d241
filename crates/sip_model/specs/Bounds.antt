-- What bounds a history: what it sends of each request, and how long a request stays open (RFC 3261 16.7, 16.8, 17).
use Rattle.std.specs.Prelude.{ℕ, List}
use Rattle.model_steps.specs.state.declared.server.Server.{Server}
use Rattle.sip_model.specs.Run.{Link}
use Rattle.sip_model.specs.FinalAnswers.{IsAnsweredOnce, AnswersGoAgain}
use Rattle.sip_model.specs.Endings.{EndInTime}
use Rattle.sip_model.specs.Sendings.{GoOutSoOften}
use Rattle.sip_model.specs.Cancels.{GoOutElevenTimes, HasOneCancelEach}

-- At most one final answer goes to the caller of a request for the first time, or several 2xx of an INVITE, counted in packets;
-- these go again no more often than copies
-- of the request came, and to an INVITE ten times more. To a target a request goes out eleven times at most, an INVITE seven times
-- and at its moments alone; and each
-- CANCEL of this server goes out eleven times at most for each time that it is first sent, which for each branch is once. Each open
-- request ends in time.
pub record IsBounded (server : Server) (history : List Link) : Type 0 where
  pub answered : (number : ℕ) → IsAnsweredOnce number history
  pub again : (number : ℕ) → AnswersGoAgain number history
  pub goes_out : GoOutSoOften history
  pub cancels : GoOutElevenTimes history
  pub one_cancel : HasOneCancelEach server history
  pub ends : EndInTime server history

-- A history in which a branch is sent a second CANCEL. Moments are in milliseconds.
use Rattle.std.specs.Prelude.{ℕ, false, List, [], ◌∷◌}
use Rattle.sip_edit.specs.OwnRequests.{cancel_of}
use Rattle.model_steps.specs.state.declared.proxy_state.ProxyState.{ProxyState}
use Rattle.model_steps.specs.state.State.{first_state}
use Rattle.model_steps.specs.context_model.Calls.{sample, first_ringing, one_rings}
use Rattle.model_steps.specs.context_model.Sending.{request_of, to_branch}
use Rattle.model_steps.specs.Step.{Passing}
use Rattle.sip_model.specs.Run.{Link}

-- an INVITE to one target is open, which rings
abbrev pub ringing : ProxyState
ringing = record (first_state 6) { moment = 63000; requests = one_rings ∷ [] }

-- the target is sent its CANCEL at a moment, for the first time, and nothing changes
abbrev pub cancelling : ℕ → Link
cancelling at =
    record {
      config = sample.config;
      before = ringing;
      act = Passing at;
      out = record { at = at; packets = to_branch one_rings first_ringing 0 false (cancel_of (request_of sample one_rings first_ringing)); records = [] };
      after = ringing;
    }

-- and a second later once more
abbrev pub second_cancel : List Link
second_cancel = cancelling 65000 ∷ cancelling 64000 ∷ []

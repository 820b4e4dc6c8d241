-- What becomes of what a proxy knows once policy was asked about a request.
use Rattle.std.specs.Prelude.{ℕ, Bool, true, false, List, ⊤}
use Rattle.sip_dialog_updates.specs.state.Arrival.{Arrival}
use Rattle.sip_auth.specs.Proof.{used}
use Rattle.sip_digest.specs.declared.nonces.Nonce.{Nonce}
use Rattle.sip_digest.specs.Nonces.{issued}
use Rattle.sip_targets.specs.declared.targets.Targets.{Targets}
use Rattle.sip_targets.specs.declared.targets.Targets.TheVariants.{Bindings, Hop, NotFound, Unavailable}
use Rattle.sip_verdict.specs.verdict_model.Verdict as Definition
use Rattle.sip_verdict.specs.declared.verdict.Judged.{Judged}
use Rattle.sip_verdict.specs.declared.verdict.PolicyOutcome.{PolicyOutcome}
use Rattle.sip_verdict.specs.declared.verdict.PolicyOutcome.TheVariants.{Challenge, Deny, Send, Register}
use Rattle.model_transactions.specs.Fits.{IsFinalAnswer}

-- ---- who answers

-- whether targets are nobody
abbrev pub are_nobody : Targets → Bool
are_nobody (Bindings targets) = false
are_nobody (Hop uri address) = false
are_nobody NotFound = true
are_nobody Unavailable = true

-- whether a request is answered here, and isn't sent to targets
abbrev pub is_answered_here : PolicyOutcome → Bool
is_answered_here Challenge = true
is_answered_here (Deny id) = true
is_answered_here (Send id targets) = are_nobody targets
is_answered_here (Register id registering) = true

-- the status for a request that goes to nobody (RFC 3261 16.5)
abbrev pub nobody_status : Targets → ℕ
nobody_status (Bindings targets) = 480
nobody_status (Hop uri address) = 480
nobody_status NotFound = 404
nobody_status Unavailable = 480

-- ---- nonces

-- a challenge issues the nonce of its datagram's word (RFC 3261 22.1)
abbrev pub after_outcome : Arrival → PolicyOutcome → List Nonce → List Nonce
after_outcome a Challenge nonces = issued nonces a.word a.now
after_outcome a (Deny id) nonces = nonces
after_outcome a (Send id targets) nonces = nonces
after_outcome a (Register id registering) nonces = nonces

-- a right credential is used up, whatever was decided (RFC 2617 3.2.2: nonce-count)
abbrev pub after_asking : Arrival → Judged → List Nonce → List Nonce
after_asking a judged nonces = after_outcome a judged.outcome (used nonces a.now judged.question.proof)

-- ---- answers

-- the status that refuses a registration is that of a final answer
abbrev pub RefusesFinally : Definition.Registered → Type 0
RefusesFinally (Definition.Bound rows) = ⊤
RefusesFinally (Definition.Refused status extras) = IsFinalAnswer status

-- So is the status of each answer that a verdict gives at once (RFC 3261 7.2).
abbrev pub AnswersFinally : Definition.Verdict → Type 0
AnswersFinally Definition.Drop = ⊤
AnswersFinally (Definition.Respond r b status) = ⊤
AnswersFinally (Definition.Copy r) = ⊤
AnswersFinally (Definition.AckOn address id) = ⊤
AnswersFinally (Definition.Cancel found) = ⊤
AnswersFinally (Definition.Answer status extras) = IsFinalAnswer status
AnswersFinally (Definition.InDialog address id) = ⊤
AnswersFinally (Definition.Challenge q) = ⊤
AnswersFinally (Definition.Deny q id) = ⊤
AnswersFinally (Definition.Send q id targets) = ⊤
AnswersFinally (Definition.Register q id registered) = RefusesFinally registered

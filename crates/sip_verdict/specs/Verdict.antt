-- When what was decided about a request is the verdict on it.
use Rattle.std.specs.Prelude.{◌≡◌, ℕ, Bool, true, false, List, Option, None, ⊤}
use Rattle.sip_dialog.specs.declared.dialog.Dialog.{Dialog}
use Rattle.sip_message_form.specs.declared.message.Start.{Start}
use Rattle.sip_message_form.specs.declared.message.Start.TheVariants.{Request, Status}
use Rattle.sip_verdict.specs.Registering as Registering
use Rattle.sip_verdict.specs.declared.registering.Registering.{Registering}
use Rattle.sip_location.specs.declared.binding.Binding.{Binding}
use Rattle.sip_location.specs.Locations.{Planned}
use Rattle.sip_digest.specs.declared.nonces.Nonce.{Nonce}
use Rattle.model_verdict.specs.state.declared.open_request.OpenRequest.{OpenRequest}
use Rattle.model_verdict.specs.state.declared.proxy_state.ProxyState.{ProxyState}
use Rattle.model_verdict.specs.state.declared.server.Server.{Server}
use Rattle.sip_targets.specs.declared.targets.Targets.{Targets}
use Rattle.sip_targets.specs.declared.targets.Targets.TheVariants.{Bindings, Hop, NotFound, Unavailable}
use Rattle.model_verdict.specs.declared.question.Question.{Question}
use Rattle.model_verdict.specs.Verdict as Definition
use Rattle.sip_verdict.specs.declared.verdict.Verdict.{Verdict}
use Rattle.sip_verdict.specs.declared.verdict.Verdict.TheVariants.{Dropped, AckOn, Cancel, Answer, InDialog, Judged}
use Rattle.sip_verdict.specs.declared.verdict.PolicyOutcome.{PolicyOutcome}
use Rattle.sip_verdict.specs.declared.verdict.PolicyOutcome.TheVariants.{Challenge, Deny, Send, Register}

-- ---- what is asked

-- a first line is a request's of this method
abbrev pub IsRequestOf : List ℕ → Start → Type 0
IsRequestOf method (Request name uri version) = name ≡ method
IsRequestOf method (Status code reason) = ⊥

-- a state with these bindings, nonces and dialogs, and with 1,024 requests open or fewer
pub record Knows (state : ProxyState) (rows : List Binding) (nonces : List Nonce) (dialogs : List Dialog) (is_full : Bool) : Type 0 where
  pub bindings_are : state.bindings ≡ rows
  pub nonces_are : state.nonces ≡ nonces
  pub dialogs_are : state.dialogs ≡ dialogs
  pub fullness_is : Definition.is_full state ≡ is_full

-- ---- what is decided

-- A verdict is that a REGISTER is taken by a rule, and comes to this for the address of record that policy was asked about.
pub record IsRegistered (rows : List Binding) (now : ℕ) (q : Question) (id : ℕ) (verdict : Definition.Verdict) (registering : Registering) :
    Type 0 where
  pub registered : Definition.Registered
  pub verdict_is : verdict ≡ Definition.Register q id registered
  pub comes_to : Registering.ComesTo rows now q.target registered registering

-- What comes of what policy decided about a question is the verdict.
abbrev pub IsOutcome : List Binding → ℕ → Question → Definition.Verdict → PolicyOutcome → Type 0
IsOutcome rows now q verdict Challenge = verdict ≡ Definition.Challenge q
IsOutcome rows now q verdict (Deny id) = verdict ≡ Definition.Deny q id
IsOutcome rows now q verdict (Send id targets) = verdict ≡ Definition.Send q id targets
IsOutcome rows now q verdict (Register id registering) = IsRegistered rows now q id verdict registering

-- What was decided is the verdict on a request, over some bindings, where a CANCEL names this open request.
abbrev pub Is : Server → List Binding → ℕ → Option OpenRequest → Definition.Verdict → Verdict → Type 0
Is server rows now named verdict Dropped = verdict ≡ Definition.Drop
Is server rows now named verdict (AckOn address id) = verdict ≡ Definition.AckOn address id
Is server rows now named verdict Cancel = verdict ≡ Definition.Cancel named
Is server rows now named verdict (Answer status extras) = verdict ≡ Definition.Answer status extras
Is server rows now named verdict (InDialog address id) = verdict ≡ Definition.InDialog address id
Is server rows now named verdict (Judged judged) =
    (judged.minute ≡ Definition.minute_on server judged.question) × IsOutcome rows now judged.question verdict judged.outcome

-- ---- where it goes on

-- whether targets are somebody, at live bindings or behind a rule's hop (RFC 3261 16.5)
abbrev pub are_somebody : Targets → Bool
are_somebody (Bindings targets) = true
are_somebody (Hop uri address) = true
are_somebody NotFound = false
are_somebody Unavailable = false

-- whether a request goes to somebody by what policy decided (RFC 3261 16.5)
abbrev pub goes_out : PolicyOutcome → Bool
goes_out Challenge = false
goes_out (Deny id) = false
goes_out (Send id targets) = are_somebody targets
goes_out (Register id registering) = false

-- whether a request goes on, in its dialog or to its targets, and is kept until it is answered (RFC 3261 16.6); an ACK
-- and a CANCEL aren't
abbrev pub goes_on : Verdict → Bool
goes_on Dropped = false
goes_on (AckOn address id) = false
goes_on Cancel = false
goes_on (Answer status extras) = false
goes_on (InDialog address id) = true
goes_on (Judged judged) = goes_out judged.outcome

-- ---- bindings

-- the plan of what was decided, if it has one
abbrev pub plan_of : PolicyOutcome → Option Planned
plan_of Challenge = None
plan_of (Deny id) = None
plan_of (Send id targets) = None
plan_of (Register id registering) = Registering.plan_in registering

-- ---- room

-- There is room for the plan of a REGISTER that was let through.
abbrev pub HasRoomFor : ℕ → PolicyOutcome → Type 0
HasRoomFor room Challenge = ⊤
HasRoomFor room (Deny id) = ⊤
HasRoomFor room (Send id targets) = ⊤
HasRoomFor room (Register id registering) = Registering.HasRoom room registering

-- There is room for the plan of a verdict, if it has one.
abbrev pub HasRoom : ℕ → Verdict → Type 0
HasRoom room Dropped = ⊤
HasRoom room (AckOn address id) = ⊤
HasRoom room Cancel = ⊤
HasRoom room (Answer status extras) = ⊤
HasRoom room (InDialog address id) = ⊤
HasRoom room (Judged judged) = HasRoomFor room judged.outcome

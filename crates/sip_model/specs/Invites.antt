-- Which requests of a history were INVITEs.
use Rattle.std.specs.Prelude.{◌≡◌, ℕ, Bool, true, List, codes, Contains}
use Rattle.std.specs.Str.{bytes_eq}
use Rattle.sip_message_form.specs.declared.message.Message.{Message}
use Rattle.model_steps.specs.state.Arrival.{Arrival}
use Rattle.model_steps.specs.Effect.{method_of}
use Rattle.sip_model.specs.Run.{Link}
use Rattle.sip_model.specs.Access.{IsSaidAt}

-- the request of a number was an INVITE: the datagram of that number, of this history, says one
pub record WasInvite (number : ℕ) (history : List Link) : Type 0 where
  pub link : Link
  pub a : Arrival
  pub bytes : List ℕ
  pub m : Message
  pub short : Bool
  pub is_there : Contains history link
  pub is_said : IsSaidAt link.before link.act a bytes m short
  pub is_number : a.number ≡ number
  pub is_invite : bytes_eq (method_of m.start) (codes "INVITE") ≡ true

-- When two requests are of one server transaction, said of their parts (RFC 3261 17.2.3).
use Rattle.std.specs.Prelude.{◌≡◌, ◌⊎◌, ℕ, List, codes, Option, Some, None, true}
use Rattle.sip_text.specs.Words.{is_same_text}
use Rattle.sip_message_fields.specs.declared.field_name.FieldName.TheVariants as Name
use Rattle.sip_message_fields.specs.Values.{first_value}
use Rattle.sip_message_form.specs.declared.message.Start.TheVariants.{Request}
use Rattle.sip_message_form.specs.declared.message.Message.{Message}
use Rattle.sip_header.specs.declared.via.Via.{Via}
use Rattle.sip_header.specs.Via.{via_of}
use Rattle.sip_header.specs.Parameters.{branch_of}

-- what a request says that tells its transaction: its method, and its top Via, which can be read and has a branch
pub record SaysOnTop (m : Message) (method : List ℕ) (via : Via) (branch : List ℕ) : Type 0 where
  pub uri : List ℕ
  pub version : List ℕ
  pub value : List ℕ
  pub is_request : m.start ≡ Request method uri version
  pub is_first : first_value Name.Via m.fields ≡ Some value
  pub reads : via_of value ≡ Some via
  pub has_branch : branch_of via.parameters ≡ Some branch

-- the methods by which an INVITE's transaction is known: its own, and its ACK's
abbrev pub IsOfInvite : List ℕ → Type 0
IsOfInvite method = (method ≡ codes "INVITE") ⊎ (method ≡ codes "ACK")

-- two methods are of one transaction: they are the same, or each is INVITE or ACK
abbrev pub AreOneMethod : List ℕ → List ℕ → Type 0
AreOneMethod left right = (left ≡ right) ⊎ (IsOfInvite left × IsOfInvite right)

-- two ports of sent-by are the same; one that isn't written is 5060 (RFC 3261 18.2.2)
abbrev pub IsSamePort : Option ℕ → Option ℕ → Type 0
IsSamePort None None = Unit {0}
IsSamePort (Some left) None = left ≡ 5060
IsSamePort None (Some right) = 5060 ≡ right
IsSamePort (Some left) (Some right) = left ≡ right

-- two requests are of one server transaction: their branches are the same byte by byte, the hosts of sent-by without case, the ports, and the methods
pub record AreOneTransaction (method : List ℕ) (via : Via) (branch : List ℕ) (other_method : List ℕ) (other_via : Via)
    (other_branch : List ℕ) : Type 0 where
  pub branches : branch ≡ other_branch
  pub hosts : is_same_text via.host other_via.host ≡ true
  pub ports : IsSamePort via.port other_via.port
  pub methods : AreOneMethod method other_method

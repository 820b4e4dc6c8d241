-- Via (RFC 3261 20.42).
use Rattle.std.specs.Prelude.{◌≡◌, ℕ, Bool, true, ◌||◌, ◌==◌, ◌++◌, if◌then◌else◌, List, [], ◌∷◌, codes, Option, Some, None, option_map}
use Rattle.std.specs.Option.{option_and_then}
use Rattle.std.specs.List.{AllZip, list_all}
use Rattle.std.specs.Str.{byte}
use Rattle.sip_text.specs.Words.{is_token_byte, is_token_text, is_same_text}
use Rattle.sip_text.specs.Lists.{trimmed}
use Rattle.sip_text.specs.Cuts.{split_outside, parts_at, IsParted, word_at, behind_word}
use Rattle.sip_uri.specs.Host.{host_port_of, is_place_byte}
use Rattle.sip_header.specs.Parameters.{parameters_in, IsParameter}
use Rattle.sip_header.specs.declared.parameters.HeaderParameter.{HeaderParameter}
use Rattle.sip_header.specs.declared.via.Sender.{Sender}
use Rattle.sip_header.specs.declared.via.Via.{Via}

-- a transport, one or more blanks, a host with its port
abbrev pub sender_behind : List ℕ → Option Sender
sender_behind text =
    if is_token_text (word_at text) then option_map (λ place. record { transport = word_at text; host = place.0; port = place.1 })
    (host_port_of (behind_word text))
    else None

-- the same behind `SIP` `/` and `2.0` `/`
abbrev pub versioned : List ℕ → List ℕ → List ℕ → Option Sender
versioned protocol version text =
    if is_same_text protocol (codes "SIP") then (if is_same_text version (codes "2.0") then sender_behind text else None) else None

-- `SIP/2.0/transport`, one or more blanks, a host with its port
abbrev pub sender_of : List ℕ → Option Sender
sender_of text = option_and_then (λ first. option_and_then (λ second. versioned (trimmed first.0) (trimmed second.0) (trimmed second.1))
    (split_outside (byte "/") first.1)) (split_outside (byte "/") text)

-- a Via of its parts
abbrev pub via_from : Sender → List HeaderParameter → Via
via_from sender parameters = record { transport = sender.transport; host = sender.host; port = sender.port; parameters = parameters }

-- the same of the parts between the `;`
abbrev pub via_in : List (List ℕ) → Option Via
via_in [] = None
via_in (sender ∷ parameters) = option_and_then (λ s. option_map (λ p. via_from s p) (parameters_in parameters)) (sender_of sender)

-- what a Via says
abbrev pub via_of : List ℕ → Option Via
via_of value = via_in (parts_at (byte ";") value)

-- a byte of a transport, the space behind it, or sent-by
abbrev pub is_sender_byte : ℕ → Bool
is_sender_byte b = is_token_byte b || is_place_byte b || b == byte " "

-- A text begins with what stands behind the version of a Via, written by such bytes, and a rest follows it.
pub record IsSenderAt (text : List ℕ) (sender : Sender) (rest : List ℕ) : Type 0 where
  pub front : List ℕ
  pub whole : text ≡ front ++ rest
  pub plain : list_all is_sender_byte front ≡ true
  pub is_sender : sender_behind (trimmed front) ≡ Some sender

-- A text ends where the branch of a Via begins: a token behind it is that branch, the only parameter of a Via of this transport and
-- sent-by.
pub record IsBeforeBranch (front : List ℕ) (via : Via) : Type 0 where
  pub says : (branch : List ℕ) → is_token_text branch ≡ true → via_of (front ++ branch)
      ≡ Some (record { transport = via.transport; host = via.host; port = via.port; parameters = record { name = codes "branch"; value = Some branch } ∷ [] })

-- A value writes a Via: parts at `;`, of which the first writes protocol, transport and sent-by, and each other a parameter.
pub record IsVia (value : List ℕ) (via : Via) : Type 0 where
  pub first : List ℕ
  pub texts : List (List ℕ)
  pub parted : IsParted (byte ";") value (first ∷ texts)
  pub is_sender : sender_of first ≡ Some (record { transport = via.transport; host = via.host; port = via.port })
  pub are_parameters : AllZip IsParameter texts via.parameters

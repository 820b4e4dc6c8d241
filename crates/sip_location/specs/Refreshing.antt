-- A REGISTER that asks for a binding again before it expires (RFC 3261 10.2.4).
use Rattle.std.specs.Prelude.{◌≡◌, ◌≤◌, ◌==◌, ℕ, suc, true, false, nat_lt, if◌then◌else◌, List, [], ◌∷◌, Some, IsOk}
use Rattle.std.specs.Str.{byte}
use Rattle.std.specs.List.{filter_map}
use Rattle.sip_uri_equality.specs.Equality.{names_say_different}
use Rattle.sip_header.specs.declared.parameters.HeaderParameter.{HeaderParameter}
use Rattle.sip_header.specs.declared.name_addr.AnyUri.TheVariants.{Sip}
use Rattle.sip_header.specs.declared.contact_item.ContactItem.TheVariants.{Address}
use Rattle.sip_header.specs.ContactItem.{contact_of}
use Rattle.sip_location.specs.declared.binding.Binding.{Binding}
use Rattle.sip_location.specs.declared.registration.Refresh.{Refresh}
use Rattle.sip_location.specs.declared.registration.Registration.{Registration}
use Rattle.sip_location.specs.Newer.{is_of_call}
use Rattle.sip_location.specs.KeptBinding.{KeptBinding, uri_in}
use Rattle.sip_location.specs.AorBindings.{bindings_of}
use Rattle.sip_location.specs.Registration.{seconds_for, edited, registered}

-- what a REGISTER asks for whose only Contact has this value
abbrev pub asked_by : Refresh → Registration
asked_by r = record {
  aor = r.aor.now;
  contacts = filter_map contact_of (r.contact.now ∷ []);
  expires = r.expires;
  call_id = r.call_id.now;
  cseq = r.cseq;
}

-- how many `;` a text has
abbrev pub semicolons : List ℕ → ℕ
semicolons [] = 0
semicolons (b ∷ bs) = if b == byte ";" then suc (semicolons bs) else semicolons bs

-- A value of Contact is the URI of a text in brackets, and these parameters behind them; no two parameters of the URI have one name, so that it
-- equals itself (RFC 3261 19.1.4).
pub record IsContactOf (value text : List ℕ) (parameters : List HeaderParameter) : Type 0 where
  pub is_contact : contact_of value ≡ Some (Address (record { uri = Sip (uri_in text); parameters = parameters }))
  pub names_differ : names_say_different (uri_in text).parameters ≡ true

-- A binding is asked for again by the value of a Contact, for so many seconds, a minute at least: it lives, was made by nothing newer, and has the URI
-- of this text.
pub record IsAskedAgain (r : Registration) (contact text : List ℕ) (b : Binding) (now seconds : ℕ) : Type 0 where
  pub parameters : List HeaderParameter
  pub lives : nat_lt now b.expires_at ≡ true
  pub not_newer : is_of_call r b ≡ false
  pub has_contact : IsContactOf contact text parameters
  pub uri : uri_in text ≡ b.uri
  pub granted : seconds ≡ seconds_for (Address (record { uri = Sip (uri_in text); parameters = parameters })) r.expires
  pub long : 60 ≤ seconds

-- A REGISTER isn't refused, and makes this of what is kept of its address of record.
pub record IsMade (kept : List KeptBinding) (r : Registration) (now : ℕ) (made : List KeptBinding) : Type 0 where
  pub taken : IsOk (registered (bindings_of r.aor kept) r now)
  pub bindings : bindings_of r.aor made ≡ edited (bindings_of r.aor kept) r now

-- Contacts that were read, and texts of URIs.
use Rattle.std.proofs.Common.{◌≡◌, ℕ, List, [], ◌∷◌, Option, Some, None, Ok, Err, inl, inr, refl, sym, ◌∙◌, ap, subst}
use Rattle.std.specs.Prelude.{◌++◌, length, Result, IfOk}
use Rattle.std.specs.declared.alloc.AllocError.{AllocError}
use Rattle.std.specs.List.{filter_map}
use Rattle.std.proofs.Math.Seq.{take-append_seam, drop-append_seam}
use Rattle.sip_uri.specs.declared.uri.Uri.{Uri}
use Rattle.sip_uri.specs.Uri.{text_of, IsValid}
use Rattle.sip_uri.proofs.ReadingLaws.{valid_again}
use Rattle.sip_header.specs.declared.name_addr.AnyUri.{AnyUri}
use Rattle.sip_header.specs.declared.name_addr.AnyUri.TheVariants.{Sip, Other}
use Rattle.sip_header.specs.declared.name_addr.NameAddr.{NameAddr}
use Rattle.sip_header.specs.declared.contact_item.ContactItem.{ContactItem}
use Rattle.sip_header.specs.declared.contact_item.ContactItem.TheVariants.{Star, Address}
use Rattle.sip_header.specs.NameAddr.{IsAnyUri, IsNameAddr}
use Rattle.sip_header.specs.ContactItem.{IsContact, contact_of}
use Rattle.sip_header.proofs.NameAddrLaws.{written_contact}
use Rattle.sip_location.specs.ReadContacts.{IsValidUri, IsValidContact, AreValidContacts}
use Rattle.sip_location.specs.KeptBinding.{KeptBinding, uri_or_nowhere, uri_in, IsUriText, kept_in}

-- ---- contacts

valid_uri : (text : List ℕ) (uri : AnyUri) → IsAnyUri text uri → IsValidUri uri
valid_uri text (Sip uri) is = is.valid
valid_uri text (Other kept) is = tt

valid_address : (value : List ℕ) (address : NameAddr) → IsNameAddr value address → IsValidUri address.uri
valid_address value address (inl is) = valid_uri _ address.uri is.is_uri
valid_address value address (inr is) = valid_uri _ address.uri is.is_uri

valid_contact : (value : List ℕ) (item : ContactItem) → IsContact value item → IsValidContact item
valid_contact value Star is = tt
valid_contact value (Address address) is = valid_address value address is

-- one more
with_item : (value : List ℕ) (values : List (List ℕ)) (item : Option ContactItem) → contact_of value ≡ item → AreValidContacts (filter_map contact_of values)
    → AreValidContacts (filter_map contact_of (value ∷ values))
with_item value values None e others = rw e others
with_item value values (Some item) e others = rw e (valid_contact value item (written_contact value item e), others)

-- what is read of values is valid
pub valid_contacts : (values : List (List ℕ)) → AreValidContacts (filter_map contact_of values)
valid_contacts [] = tt
valid_contacts (value ∷ values) = with_item value values (contact_of value) refl (valid_contacts values)

-- ---- texts

-- a URI of the grammar is the one that its text says
pub says_again : (uri : Uri) → IsValid uri → uri_in (text_of uri) ≡ uri
says_again uri valid = ap uri_or_nowhere (valid_again uri valid)

pub is_text : (uri : Uri) → IsValid uri → IsUriText (text_of uri)
is_text uri valid = record { reads = valid_again uri valid ∙ ap Ok (sym (says_again uri valid)); writes = ap text_of (says_again uri valid) }

-- what a block of a text and a Call-ID says
pub joined_says : (uri : Uri) (call_id : List ℕ) (cseq expires_at : ℕ) → IsValid uri
    → kept_in (text_of uri ++ call_id) (length (text_of uri)) cseq expires_at ≡ record { uri = uri; call_id = call_id; cseq = cseq; expires_at = expires_at }
joined_says uri call_id cseq expires_at valid =
    rw (take-append_seam (text_of uri) call_id, drop-append_seam (text_of uri) call_id, says_again uri valid) refl

-- so is a text that is its text
pub is_said_text : (uri : Uri) (text : List ℕ) → IsValid uri → text ≡ text_of uri → IsUriText text
is_said_text uri text valid says = subst IsUriText (sym says) (is_text uri valid)

-- a row of such a text says that URI
pub row_says : (result : Result KeptBinding AllocError) (uri : Uri) (text call_id : List ℕ) (cseq expires_at : ℕ) → IsValid uri → text ≡ text_of uri
    → IfOk result (λ row. row ≡ kept_in (text ++ call_id) (length text) cseq expires_at)
    → IfOk result (λ row. row ≡ record { uri = uri; call_id = call_id; cseq = cseq; expires_at = expires_at })
row_says (Ok row) uri text call_id cseq expires_at valid says is =
    is ∙ ap (λ (t : List ℕ). kept_in (t ++ call_id) (length t) cseq expires_at) says ∙ joined_says uri call_id cseq expires_at valid
row_says (Err e) uri text call_id cseq expires_at valid says is = tt

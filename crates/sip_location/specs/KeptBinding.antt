-- How a binding is kept under its address of record: by the text of its URI (RFC 3261 10.3, 19.1.1).
use Rattle.std.specs.Prelude.{◌≡◌, ℕ, List, [], take, drop, Option, None, Result, Ok, Err, IfSome}
use Rattle.sip_uri.specs.declared.aor.Aor.{Aor}
use Rattle.sip_uri.specs.declared.error.UriError.{UriError}
use Rattle.sip_uri.specs.declared.scheme.Scheme.TheVariants.{Sip}
use Rattle.sip_uri.specs.declared.uri.Uri.{Uri}
use Rattle.sip_uri.specs.Reading.{reading_of}
use Rattle.sip_uri.specs.Uri.{text_of, IsValid}
use Rattle.sip_location.specs.declared.binding.Binding.{Binding}

-- a binding without its address of record, under which it stands
pub record KeptBinding : Type 0 where
  pub uri : Uri
  pub call_id : List ℕ
  pub cseq : ℕ
  pub expires_at : ℕ

-- the binding of an address of record that is kept so
abbrev pub binding_of : Aor → KeptBinding → Binding
binding_of aor kept = record { aor = aor; uri = kept.uri; call_id = kept.call_id; cseq = kept.cseq; expires_at = kept.expires_at }

-- what is kept of a binding
abbrev pub kept_of : Binding → KeptBinding
kept_of b = record { uri = b.uri; call_id = b.call_id; cseq = b.cseq; expires_at = b.expires_at }

-- the URI that was read, or one that names nothing
abbrev pub uri_or_nowhere : Result Uri UriError → Uri
uri_or_nowhere (Ok uri) = uri
uri_or_nowhere (Err e) = record { scheme = Sip; userinfo = None; host = []; port = None; parameters = []; headers = [] }

-- the URI that a text writes
abbrev pub uri_in : List ℕ → Uri
uri_in text = uri_or_nowhere (reading_of text)

-- A text is the one of the URI that is read from it.
pub record IsUriText (text : List ℕ) : Type 0 where
  pub reads : reading_of text ≡ Ok (uri_in text)
  pub writes : text_of (uri_in text) ≡ text

-- what a block says: the text of a URI, so many bytes long, and a Call-ID behind it
abbrev pub kept_in : List ℕ → ℕ → ℕ → ℕ → KeptBinding
kept_in block uri_length cseq expires_at = record {
  uri = uri_in (take uri_length block);
  call_id = drop uri_length block;
  cseq = cseq;
  expires_at = expires_at;
}

-- A URI of the grammar, and its text, where that is at hand.
pub record IsWithText (uri : Uri) (text : Option (List ℕ)) : Type 0 where
  pub valid : IsValid uri
  pub says : IfSome text (λ t. t ≡ text_of uri)

-- Nonces and a dialog, for the worked examples.
use Rattle.std.specs.Prelude.{ℕ, Bool, [], codes}
use Rattle.sip_digest.specs.declared.nonces.Nonce.{Nonce}
use Rattle.sip_dialog.specs.declared.dialog.Dialog.{Dialog}

-- a nonce that was issued at a moment, and used so often
abbrev pub issued_at : ℕ → ℕ → Nonce
issued_at since count = record { word = since; since = since; count = count }

-- a call that the INVITE of a number began, with a 2xx or without
abbrev pub begun_by : ℕ → Bool → Dialog
begun_by number has_success = record {
  id = record { call_id = codes "k1"; from_tag = codes "f1"; to_tag = codes "t1" };
  number = number;
  has_success = has_success;
  since = 1000;
  addresses = [];
}

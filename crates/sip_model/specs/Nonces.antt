-- When nonces say the same from a moment on (RFC 2617 3.2.1, 3.3; their life and number are this project's profile).
use Rattle.std.specs.Prelude.{◌≡◌, ℕ, List}
use Rattle.sip_digest.specs.declared.nonces.Nonce.{Nonce}
use Rattle.sip_digest.specs.Nonces.{lasting}

-- Nonces say the same from a moment on: from the first one on that lives they are the same, in their order, each with its count.
abbrev pub SameNonces : ℕ → List Nonce → List Nonce → Type 0
SameNonces now left right = lasting now left ≡ lasting now right

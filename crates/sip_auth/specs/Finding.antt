-- How a proof is kept.
use Rattle.sip_auth.specs.declared.finding.Finding.{Finding}
use Rattle.sip_auth.specs.declared.finding.Finding.TheVariants as Kept
use Rattle.sip_auth.specs.Proof.{Proof, Right, Stale, Wrong}

-- the proof that is kept so
abbrev pub proof_found : Finding → Proof
proof_found (Kept.Right claim) = Right claim.name claim.credential
proof_found Kept.Stale = Stale
proof_found Kept.Wrong = Wrong

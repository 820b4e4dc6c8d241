-- Bytes as a view has them.
use Rattle.std.specs.Prelude.{ℕ, List}
use Rattle.sip_message_fields.specs.declared.piece.ViewPiece.{ViewPiece}
use Rattle.sip_message_fields.specs.declared.piece.ViewPiece.TheVariants.{Part, Joined}

-- the bytes of a piece, wherever they stand
abbrev pub bytes_of : ViewPiece → List ℕ
bytes_of (Part part) = part.now
bytes_of (Joined bytes) = bytes

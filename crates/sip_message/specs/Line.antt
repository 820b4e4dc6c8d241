-- Lines of a head, each a part of the datagram, or bytes of its own once a fold was joined to it.
use Rattle.std.specs.Prelude.{ℕ, Bool, List}
use Rattle.sip_message_fields.specs.declared.piece.ViewPiece.{ViewPiece}
use Rattle.sip_message_fields.specs.declared.piece.ViewPiece.TheVariants.{Joined}
use Rattle.sip_message_fields.specs.declared.piece.ViewPiece.TheVariants as Whole
use Rattle.sip_message_fields.specs.Piece.{bytes_of}
use Rattle.sip_message_fields.specs.Slice.{is_joined}
use Rattle.sip_message.specs.declared.line.WholeLine.{WholeLine}
use Rattle.sip_message.specs.declared.line.WholeLine.TheVariants.{Part, Unfolded}

-- the bytes of a line, where they stand
abbrev pub line_piece : WholeLine → ViewPiece
line_piece (Part part) = Whole.Part part
line_piece (Unfolded line) = Joined line.bytes.items

-- the bytes of a line
abbrev pub line_bytes : WholeLine → List ℕ
line_bytes line = bytes_of (line_piece line)

-- whether a fold was joined to a line
abbrev pub has_fold : WholeLine → Bool
has_fold line = is_joined (line_piece line)

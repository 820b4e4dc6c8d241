-- The dialog of the worked examples: a call of x's to help.
use Rattle.std.specs.Prelude.{ℕ, List, [], ◌∷◌, codes, true, false}
use Rattle.sip_uri.specs.declared.addr.Addr.{Addr}
use Rattle.sip_dialog.specs.declared.dialog.DialogId.{DialogId}
use Rattle.sip_dialog.specs.declared.dialog.Dialog.{Dialog}
use Rattle.sip_dialog.specs.declared.dialog.InviteAnswer.{InviteAnswer}
use Rattle.sip_dialog.specs.Dialogs.{learnt}

-- 127.0.0.1 with a port
abbrev pub at_port : ℕ → Addr
at_port port = record { ip = 127 ∷ 0 ∷ 0 ∷ 1 ∷ []; port = port }

-- the call of a caller and the one whom it reached
abbrev pub call_of : List ℕ → List ℕ → DialogId
call_of from to = record { call_id = codes "k1"; from_tag = from; to_tag = to }

-- the 200 with To tag t1 to an INVITE that came from port 5070 at 62,000 and went to port 5082
abbrev pub success : InviteAnswer
success = record {
  id = call_of (codes "f1") (codes "t1");
  number = 4;
  arrived_at = 62000;
  is_success = true;
  addresses = at_port 5070 ∷ at_port 5082 ∷ at_port 5070 ∷ at_port 5082 ∷ [];
}

-- a 180 with another To tag to the same INVITE
abbrev pub ringing : InviteAnswer
ringing = record success { id = call_of (codes "f1") (codes "t2"); is_success = false }

-- the dialogs after the 200
abbrev pub one_call : List Dialog
one_call = learnt 63000 success []

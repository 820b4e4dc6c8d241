use Rattle.std.proofs.Common.{◌≡◌, ◌∙◌, true, false}
use Rattle.sip_dialog.proofs.rows.DialogRows.meets.Goals as goal

pub returns-then-not-is_recent : goal.returns-then-not-is_recent
returns-then-not-is_recent c = λ _ recent.
    let past : c.is_recent.result ≡ false = c.if-not-is_recent.true in
    let still : c.is_recent.result ≡ true = c.is_recent.ensures ∙ recent in
    absurd (cc)

pub returns : goal.returns
returns c = λ is recent. c.has.ensures is

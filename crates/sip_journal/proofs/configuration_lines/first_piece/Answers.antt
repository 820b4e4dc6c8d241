use Rattle.std.proofs.Common.{◌≤◌, take, refl, arith}
use Rattle.sip_journal.proofs.Configuring.{ended_piece}
use Rattle.sip_journal.proofs.configuration_lines.first_piece.Goals as goal

pub returns-in-Some : goal.returns-in-Some
returns-in-Some c =
    let few : c.min.result ≤ 131072 = omega (arith, c.min.ensures) in
    ended_piece c.args.text.now (take c.min.result c.args.text.now) (take c.in-Some.place (take c.min.result c.args.text.now)) c.min.result c.in-Some.place refl few
    c.in-Some.ensures refl

use Rattle.std.proofs.Common.{◌≡◌, ◌∙◌, subst, OnOk, OnErr}
use Rattle.std.specs.Io.KnownBytes.{Appends}
use Rattle.sip_replay_script.specs.Devices.{WritesFront}
use Rattle.sip_replay_print.specs.Print.{packet_text}
use Rattle.sip_replay_print.proofs.print.print_packet.Goals as goal

pub returns-clause-ok : goal.returns-clause-ok
returns-clause-ok g c =
    let same : c.text_from.result.now ≡ packet_text c.args.at c.args.packet.now = c.text_from.ensures ∙ c.put_packet-start.ensures.text in
    subst (λ l. OnOk c.put_one.result (Appends (g.W.TellingWriter.contents c.args.writer.now) (g.W.TellingWriter.contents c.put_one.new.writer) l)) same
    c.put_one.ensures.ok

pub returns-clause-front : goal.returns-clause-front
returns-clause-front g c =
    let same : c.text_from.result.now ≡ packet_text c.args.at c.args.packet.now = c.text_from.ensures ∙ c.put_packet-start.ensures.text in
    subst (λ l. OnErr c.put_one.result (WritesFront (g.W.TellingWriter.contents c.args.writer.now) (g.W.TellingWriter.contents c.put_one.new.writer) l)) same
    c.put_one.ensures.front

use Rattle.std.proofs.Common.{◌≡◌, ◌∷◌, [], ◌++◌, ◌∙◌, ap, subst, OnOk, OnErr, append-nil, arith}
use Rattle.std.proofs.lemmas.List.{drop_all}
use Rattle.std.specs.Io.KnownBytes.{Appends}
use Rattle.sip_replay_script.specs.Devices.{WritesFront}
use Rattle.sip_replay_print.specs.Print.{head_text, packet_text}
use Rattle.sip_replay_print.proofs.print.print_long.Goals as goal

pub returns-clause-ok : goal.returns-clause-ok
returns-clause-ok g c =
    let none = drop_all 1280 c.args.room.now (omega arith) in
    let head : c.text_from.result.now ≡ head_text c.args.at c.args.packet.now =
    c.text_from.ensures ∙ c.put_head-start.ensures.text ∙ ap (λ l. head_text c.args.at c.args.packet.now ++ l) none ∙ append-nil (head_text c.args.at c.args.packet.now)
    in
    let same : (c.text_from.result.now ++ c.as_slice.result.now ++ 10 ∷ []) ≡ packet_text c.args.at c.args.packet.now =
    ap (λ l. l ++ c.as_slice.result.now ++ 10 ∷ []) head ∙ ap (λ l. head_text c.args.at c.args.packet.now ++ l ++ 10 ∷ []) c.as_slice.ensures in
    subst (λ l. OnOk c.put_three.result (Appends (g.W.TellingWriter.contents c.args.writer.now) (g.W.TellingWriter.contents c.put_three.new.writer) l)) same
    c.put_three.ensures.ok

pub returns-clause-front : goal.returns-clause-front
returns-clause-front g c =
    let none = drop_all 1280 c.args.room.now (omega arith) in
    let head : c.text_from.result.now ≡ head_text c.args.at c.args.packet.now =
    c.text_from.ensures ∙ c.put_head-start.ensures.text ∙ ap (λ l. head_text c.args.at c.args.packet.now ++ l) none ∙ append-nil (head_text c.args.at c.args.packet.now)
    in
    let same : (c.text_from.result.now ++ c.as_slice.result.now ++ 10 ∷ []) ≡ packet_text c.args.at c.args.packet.now =
    ap (λ l. l ++ c.as_slice.result.now ++ 10 ∷ []) head ∙ ap (λ l. head_text c.args.at c.args.packet.now ++ l ++ 10 ∷ []) c.as_slice.ensures in
    subst (λ l. OnErr c.put_three.result (WritesFront (g.W.TellingWriter.contents c.args.writer.now) (g.W.TellingWriter.contents c.put_three.new.writer) l)) same
    c.put_three.ensures.front

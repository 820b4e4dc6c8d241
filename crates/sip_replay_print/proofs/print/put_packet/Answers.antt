use Rattle.std.proofs.Common.{◌≡◌, ◌∷◌, [], ◌++◌, ◌∙◌, ap, sym, drop, append_assoc, arith}
use Rattle.std.proofs.lemmas.List.{drop_all}
use Rattle.sip_replay_print.specs.Print.{head_text}
use Rattle.sip_replay_print.proofs.print.put_packet.Goals as goal

pub returns-clause-text : goal.returns-clause-text
returns-clause-text c =
    let none : drop 1280 c.args.room.now ≡ [] = drop_all 1280 c.args.room.now (omega arith) in
    let last : drop c.put_byte-end.result c.put_byte-end.new.room ≡ 10 ∷ [] = c.put_byte-end.ensures.text ∙ ap (λ l. 10 ∷ l) none in
    let bytes : drop c.put_word-start.result c.put_word-start.new.room ≡ c.args.packet.now.bytes ++ 10 ∷ [] =
    c.put_word-start.ensures.text ∙ ap (λ l. c.as_slice.result.now ++ l) last ∙ ap (λ l. l ++ 10 ∷ []) c.as_slice.ensures in
    c.put_head.ensures.text ∙ ap (λ l. head_text c.args.at c.args.packet.now ++ l) bytes
    ∙ sym (append_assoc (head_text c.args.at c.args.packet.now) c.args.packet.now.bytes (10 ∷ []))

use Rattle.std.proofs.Common.{◌++◌, ◌∙◌, ap, decimal, drop}
use Rattle.std.specs.Prelude.{slice_index}
use Rattle.sip_replay_script.proofs.HeadLines.{address_first}
use Rattle.sip_replay_script.proofs.front.put_addr.Goals as goal

pub returns-clause-text : goal.returns-clause-text
returns-clause-text c =
    let a = c.args in
    let port = drop c.put_number-port.result c.put_number-port.new.room in
    let colon = drop c.put_byte-colon.result c.put_byte-colon.new.room in
    let fourth = drop c.put_number-fourth.result c.put_number-fourth.new.room in
    let dot = drop c.put_byte-dot.result c.put_byte-dot.new.room in
    let third = drop c.put_number-third.result c.put_number-third.new.room in
    let dot2 = drop c.put_byte-dot-2.result c.put_byte-dot-2.new.room in
    let second = drop c.put_number-second.result c.put_number-second.new.room in
    let dot3 = drop c.put_byte-dot-3.result c.put_byte-dot-3.new.room in
    address_first (decimal (slice_index a.addr.ip 0)) (decimal (slice_index a.addr.ip 1)) (decimal (slice_index a.addr.ip 2)) (decimal (slice_index a.addr.ip 3))
    (decimal a.addr.port) (drop a.end a.room.now)
    port colon fourth dot third dot2 second dot3 (drop c.put_number.result c.put_number.new.room)
    (c.put_number-port.ensures.text ∙ ap (λ n. decimal n ++ drop a.end a.room.now) c.from.ensures) c.put_byte-colon.ensures.text
    (c.put_number-fourth.ensures.text ∙ ap (λ n. decimal n ++ colon) c.from-2.ensures) c.put_byte-dot.ensures.text
    (c.put_number-third.ensures.text ∙ ap (λ n. decimal n ++ dot) c.from-3.ensures) c.put_byte-dot-2.ensures.text
    (c.put_number-second.ensures.text ∙ ap (λ n. decimal n ++ dot2) c.from-4.ensures) c.put_byte-dot-3.ensures.text
    (c.put_number.ensures.text ∙ ap (λ n. decimal n ++ dot3) c.from-5.ensures)

use Rattle.std.proofs.Common.{◌∙◌, ◌++◌, ap, codes, decimal, min, ◌+◌, ◌^◌, ◌-◌}
use Rattle.std.proofs.lemmas.Result.{on_ok_weaker}
use Rattle.sipd_config_faults.specs.Encoding.{line_of}
use Rattle.sipd_config_faults.proofs.LineEnds.{five_parts}
use Rattle.sipd_config_faults.proofs.encoding.put_byte.Goals as goal

pub returns : goal.returns
returns c =
    on_ok_weaker c.extend-3.result
    (λ h. five_parts c.args.text.now (codes "line ") (decimal (line_of c.args.bytes.now c.args.place)) (codes ": not UTF-8: byte ")
    (decimal (min (c.args.place + 1) (2 ^ 64 - 1))) (codes " of the file")
    c.extend.new.self c.push_decimal.new.self c.extend-2.new.self c.push_decimal-2.new.self c.extend-3.new.self
    c.in_ok-extend.ensures.ok (c.in_ok-push_decimal.ensures.ok ∙ ap (λ n. c.extend.new.self ++ decimal n) c.line_at.ensures) c.in_ok-extend-2.ensures.ok
    (c.in_ok-push_decimal-2.ensures.ok ∙ ap (λ n. c.extend-2.new.self ++ decimal n) c.saturating_add.ensures) h) c.extend-3.ensures.ok

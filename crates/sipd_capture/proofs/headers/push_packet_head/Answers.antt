use Rattle.std.proofs.Common.{◌/◌, ◌%◌, ◌*◌, ◌++◌, append_assoc, ◌∙◌}
use Rattle.sipd_capture.specs.Headers.{four_bytes}
use Rattle.sipd_capture.proofs.Adding.{two_more_ok}
use Rattle.sipd_capture.proofs.headers.push_packet_head.Goals as goal

pub returns : goal.returns
returns c =
    two_more_ok c.push_fours-2.result c.args.out.now c.push_fours.new.out c.push_fours-2.new.out
    (four_bytes (c.args.at / 1000) ++ four_bytes (c.args.at % 1000 * 1000)) (four_bytes c.args.length) (four_bytes c.args.length)
    (c.in_ok-push_fours.ensures ∙ append_assoc c.args.out.now (four_bytes (c.args.at / 1000)) (four_bytes (c.args.at % 1000 * 1000))) c.push_fours-2.ensures

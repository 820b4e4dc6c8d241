use Rattle.std.proofs.Common.{◌-◌, ◌++◌, length, take, ◌∙◌, ap, arith}
use Rattle.sip_replay_script.specs.declared.gathered.TheConstants.{KEPT}
use Rattle.sip_replay_script.proofs.Keeping.{kept_whole, kept_front}
use Rattle.sip_replay_script.proofs.event.keep.Goals as goal

pub returns-in_ok-extend-clause-kept : goal.returns-in_ok-extend-clause-kept
returns-in_ok-extend-clause-kept c =
    kept_whole KEPT c.args.bytes.now c.args.part.now c.extend.new.self c.requires (omega (arith, c.if-part-room.true, ap length c.as_slice.ensures.bytes))
    c.in_ok-extend.ensures

pub returns-in_ok-extend-2-clause-kept : goal.returns-in_ok-extend-2-clause-kept
returns-in_ok-extend-2-clause-kept c =
    kept_front KEPT c.args.bytes.now c.args.part.now c.extend-else-part-room.new.self c.requires
    (c.in_ok-extend-2.ensures ∙ ap (λ l. c.args.bytes.now ++ take (KEPT - length l) c.args.part.now) c.as_slice.ensures.bytes)

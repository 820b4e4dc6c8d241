use Rattle.std.proofs.Common.{◌∷◌, []}
use Rattle.std.proofs.lemmas.Result.{on_ok_weaker}
use Rattle.sip_replay_script.specs.Script.{unstuffed}
use Rattle.sip_replay_script.specs.declared.gathered.TheConstants.{KEPT}
use Rattle.sip_replay_script.proofs.Keeping.{kept_two}
use Rattle.sip_replay_script.proofs.event.keep_line.Goals as goal

pub returns-clause-kept : goal.returns-clause-kept
returns-clause-kept c =
    on_ok_weaker c.keep-2.result
    (kept_two KEPT c.args.bytes.now (unstuffed c.args.line.now) (13 ∷ 10 ∷ []) c.unstuffed.result.now c.keep.new.bytes c.keep-2.new.bytes c.unstuffed.ensures
    c.in_ok-keep.ensures.kept) c.keep-2.ensures.kept

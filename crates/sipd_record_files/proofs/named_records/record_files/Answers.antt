use Rattle.std.proofs.Common.{ap, map}
use Rattle.std.specs.Prelude.{string_bytes}
use Rattle.sipd_record_files.proofs.Naming.{all_named, one_path_more}
use Rattle.sipd_record_files.proofs.named_records.record_files.Goals as goal

pub loop-path-init : goal.loop-path-init
loop-path-init g c = ap (map string_bytes) c.new-files.ensures.items

pub loop-path-preserved : goal.loop-path-preserved
loop-path-preserved g c =
    one_path_more string_bytes c.args.paths.now c.loop-path.path-index c.path-item.result c.as_str.result.now (map string_bytes c.loop-path.files.items)
    (map string_bytes c.push_files.new.files.items) c.loop-path-test.true c.path-item.is c.as_str.ensures.value c.loop-path.invariant c.in_ok-push_files.ensures

pub returns : goal.returns
returns g c =
    all_named string_bytes c.args.paths.now c.loop-path.path-index (map string_bytes c.loop-path.files.items) c.loop-path-test.false c.loop-path.invariant

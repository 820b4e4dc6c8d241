use Rattle.std.proofs.Common.{refl}
use Rattle.std.specs.Prelude.{string_bytes}
use Rattle.sipd_page.proofs.Adding.{all_added, one_more}
use Rattle.sipd_page.proofs.page.put_records.Goals as goal

pub loop-path-init : goal.loop-path-init
loop-path-init g c = refl

pub loop-path-preserved : goal.loop-path-preserved
loop-path-preserved g c =
    one_more string_bytes c.args.paths.now c.loop-path.path-index c.path-item.result c.as_str.result.now c.args.body.now c.loop-path.body c.put_record.new.body
    c.loop-path-test.true c.path-item.is c.as_str.ensures.value c.loop-path.invariant c.in_ok-put_record.ensures

pub returns : goal.returns
returns g c =
    all_added string_bytes c.args.paths.now c.loop-path.path-index c.args.body.now c.loop-path.body c.loop-path-test.false c.loop-path.invariant

use Rattle.std.proofs.Common.{append-nil, codes, map, sym}
use Rattle.std.specs.Prelude.{string_bytes}
use Rattle.sipd_record_files.specs.RecordNames.{name_of}
use Rattle.sipd_record_files.proofs.Naming.{one_name_more}
use Rattle.sipd_record_files.proofs.named_records.push_names.Goals as goal

pub loop-number-init : goal.loop-number-init
loop-number-init g c = sym (append-nil (map string_bytes c.args.files.now.items))

pub loop-number-preserved : goal.loop-number-preserved
loop-number-preserved g c =
    one_name_more (λ n. name_of c.args.folder.now n (codes "record")) c.args.numbers.now c.loop-number.number-index 0 (map string_bytes c.args.files.now.items)
    (map string_bytes c.loop-number.files.items) (map string_bytes c.push_name.new.files.items) c.loop-number-test.true c.loop-number.invariant
    c.in_ok-push_name.ensures

use Rattle.std.proofs.Common.{map}
use Rattle.std.specs.Prelude.{string_bytes}
use Rattle.sipd_record_files.proofs.Naming.{adds_path}
use Rattle.sipd_record_files.proofs.named_records.push_files.Goals as goal

pub returns : goal.returns
returns g c =
    adds_path c.push_path.result c.args.path.now (map string_bytes c.args.files.now.items) (map string_bytes c.push_path.new.files.items) c.push_path.ensures

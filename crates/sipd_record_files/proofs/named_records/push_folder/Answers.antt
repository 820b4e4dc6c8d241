use Rattle.std.proofs.Common.{map}
use Rattle.std.specs.Prelude.{string_bytes}
use Rattle.sipd_record_files.proofs.Naming.{adds_folder}
use Rattle.sipd_record_files.proofs.named_records.push_folder.Goals as goal

pub returns : goal.returns
returns g c =
    adds_folder c.push_names.result c.args.folder.now c.as_slice.result.now (map string_bytes c.args.files.now.items)
    (map string_bytes c.push_names.new.files.items) c.push_names.ensures

use Rattle.std.proofs.Common.{refl, subst}
use Rattle.std.specs.Prelude.{IfOk}
use Rattle.sipd_record_files.specs.Places.{AreFolderFiles}
use Rattle.sipd_record_files.proofs.making.folder_place.Goals as goal

pub returns : goal.returns
returns g c =
    let are : AreFolderFiles c.args.folder.now c.in_ok-files.files = subst (λ r. IfOk r (AreFolderFiles c.args.folder.now)) c.in_ok-files.ensures.same c.files_in.ensures
    in
    record {
      files = c.in_ok-files.files;
      are = are;
      new_record = record { path_is = refl; part_is = c.in_ok-format.ensures.ok };
      copy = _;
      has_copy = refl;
      new_copy = record { path_is = refl; part_is = c.in_ok-format-2.ensures.ok };
      old_is = refl;
    }

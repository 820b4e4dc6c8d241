-- Which files a start makes that records, from which record it goes on, and why a file isn't made.
use Rattle.std.specs.Prelude.{◌≡◌, ℕ, Bool, false, List, ◌++◌, codes, Option, None, Some, option_map, string_bytes}
use Rattle.std.specs.Str.{bytes_eq}
use Rattle.std.specs.declared.io.ErrorKind.{ErrorKind}
use Rattle.std.specs.declared.io.ErrorKind.TheVariants.{OutOfMemory, AlreadyExists, NotFound, PermissionDenied, NotADirectory, IsADirectory, ReadOnlyFilesystem}
use Rattle.std.specs.declared.io.ErrorKind.TheVariants.{FilesystemLoop, InvalidFilename, InvalidInput, Unsupported}
use Rattle.sip_journal.specs.declared.on_fault.OnFault.{OnFault}
use Rattle.sip_journal.specs.declared.on_fault.OnFault.TheVariants as recorders
use Rattle.sipd_exit.specs.declared.record_place.RecordFault.{RecordFault}
use Rattle.sipd_exit.specs.declared.record_place.RecordFault.TheVariants.{GoOn, End}
use Rattle.sipd_exit.specs.declared.record_place.RecordPlace.{RecordPlace}
use Rattle.sipd_exit.specs.declared.record_place.RecordPlace.TheVariants.{File, Folder}
use Rattle.sipd_exit.specs.declared.exit.Exit.{Exit}
use Rattle.sipd_exit.specs.declared.exit.Exit.TheVariants.{Memory, NewRecord, Recording}
use Rattle.sipd_record_files.specs.RecordNames.{name_of, newer, next_number}
use Rattle.sipd_record_files.specs.declared.making.RecordFiles.{RecordFiles}
use Rattle.sipd_record_files.specs.declared.making.NewFile.{NewFile}
use Rattle.sipd_record_files.specs.declared.record_folder.FolderFiles.{FolderFiles}

-- a file that is made has that name in the end, and that one before
pub record IsNewFile (path part : List ℕ) (file : NewFile) : Type 0 where
  pub path_is : string_bytes file.path ≡ path
  pub part_is : string_bytes file.part ≡ part

-- a record in a file that is named, and the record from which it goes on, where that is named
pub record IsNamedPlace (path : List ℕ) (resume : Option (List ℕ)) (place : RecordFiles) : Type 0 where
  pub new_record : IsNewFile path (path ++ codes ".part") place.record
  pub no_copy : place.copy ≡ None
  pub old_is : option_map (λ old. string_bytes old) place.old ≡ resume

-- A record in a folder: it goes on from the newest record there, where there is one, and the new one's number is behind those of the
-- newest record and the newest configuration, and of the clock.
pub record AreFolderFiles (folder : List ℕ) (files : FolderFiles) : Type 0 where
  pub newest : Option ℕ
  pub copies : Option ℕ
  pub now : ℕ
  pub path_is : string_bytes files.path ≡ name_of folder (next_number (newer newest copies) now) (codes "record")
  pub copy_is : string_bytes files.copy ≡ name_of folder (next_number (newer newest copies) now) (codes "toml")
  pub newest_is : option_map (λ old. string_bytes old) files.newest ≡ option_map (λ n. name_of folder n (codes "record")) newest

pub record IsFolderPlace (folder : List ℕ) (place : RecordFiles) : Type 0 where
  pub files : FolderFiles
  pub are : AreFolderFiles folder files
  pub new_record : IsNewFile (string_bytes files.path) (folder ++ codes "/new.part") place.record
  pub copy : NewFile
  pub has_copy : place.copy ≡ Some copy
  pub new_copy : IsNewFile (string_bytes files.copy) (folder ++ codes "/new.toml.part") copy
  pub old_is : place.old ≡ files.newest

-- the files of a start whose record is wanted there
abbrev pub IsPlaceOf : RecordPlace → RecordFiles → Type 0
IsPlaceOf (File path resume) place = IsNamedPlace (string_bytes path) (option_map (λ old. string_bytes old) resume) place
IsPlaceOf (Folder folder) place = IsFolderPlace (string_bytes folder) place

-- what a recorder does where an event can't be written
abbrev pub on_fault : RecordFault → OnFault
on_fault GoOn = recorders.GoOn
on_fault End = recorders.End

-- how the start ends for an error of this kind on a file of a record: its name can't be had, or it can't be written
abbrev pub exit_of_making : ErrorKind → Exit
exit_of_making OutOfMemory = Memory
exit_of_making AlreadyExists = NewRecord
exit_of_making NotFound = NewRecord
exit_of_making PermissionDenied = NewRecord
exit_of_making NotADirectory = NewRecord
exit_of_making IsADirectory = NewRecord
exit_of_making ReadOnlyFilesystem = NewRecord
exit_of_making FilesystemLoop = NewRecord
exit_of_making InvalidFilename = NewRecord
exit_of_making InvalidInput = NewRecord
exit_of_making Unsupported = NewRecord
exit_of_making kind = Recording

-- whether a record is the program's input: it is called `-`
abbrev pub is_input : List ℕ → Bool
is_input old = bytes_eq old (codes "-")

-- and so it is where one is named
abbrev pub reads_input : Option (List ℕ) → Bool
reads_input None = false
reads_input (Some old) = is_input old

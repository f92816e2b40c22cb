-- What dumping a log comes to.
use Rattle.std.specs.Prelude.{◌≡◌, ◌⊎◌, ℕ, ◌≤◌, List, [], ◌++◌, take, Option, Result, Ok, Err}
use Rattle.std.specs.Option.{option_map}
use Rattle.std.specs.Io.KnownBytes.{Appends}
use Rattle.clfs_lsn.specs.Place.{frontier}
use Rattle.clfs_ports.specs.Cause as ports
use Rattle.clfs_disk.specs.Files.{Files, Unchanged}
use Rattle.clfs_disk.specs.State.{DiskState, TellsContents, Passes}
use Rattle.clfs_recover.specs.Files.{Finds}
use Rattle.clfs_recover.specs.declared.parts.Parts.{Parts}
use Rattle.clfs_recover.specs.declared.refusal.LoadRefusal.{LoadRefusal}
use Rattle.clfs_recover.specs.declared.refusal.LoadRefusal.TheVariants.{NoBase, DiskFault}
use Rattle.clfs_command.specs.declared.words.AskedName.{AskedName}
use Rattle.clfs_command.specs.declared.words.DataWord.{DataWord}
use Rattle.clfs_command.specs.declared.words.DataWord.TheVariants as words
use Rattle.clfs_command.specs.declared.words.DumpOptions.{DumpOptions}
use Rattle.clfs_dump.specs.Telling.{files_told, dump_text}
use Rattle.clfs_dump.specs.declared.selection.DataForm.{DataForm}
use Rattle.clfs_dump.specs.declared.selection.DataForm.TheVariants as forms
use Rattle.clfs_dump.specs.declared.selection.Selection.{Selection}
use Rattle.clfs_operations.specs.Check.{IsCheckStatus}
use Rattle.clfs_lines.specs.Ends.{AppendsFront}
use Rattle.clfs_operations.specs.Ends.{disk_fault_text}
use Rattle.clfs_operations.specs.Opened.{IsNoLog, RefusesLog, no_log_text}

-- ---- what is asked for

-- the form of data
abbrev pub form_of : DataWord → DataForm
form_of words.Hex = forms.Hex
form_of words.Text = forms.Text
form_of words.Nothing = forms.Nothing

-- the name of a stream
abbrev pub name_of : AskedName → List ℕ
name_of name = take name.length name.bytes

-- the records, and how their data are printed
abbrev pub selection_of : DumpOptions → Selection
selection_of options = record {
  from = options.from;
  to = options.to;
  stream = option_map name_of options.stream;
  form = form_of options.form;
}

-- ---- what is printed

-- what is said if no slot is open: nothing of such files is printed
abbrev pub no_base_line : Result ℕ LoadRefusal → List ℕ
no_base_line (Err NoBase) = no_log_text NoBase
no_base_line _ = []

-- The text of files: what is right in them up to their log's end and that, or up to the first wrong byte and that; or that no slot is open.
abbrev pub printed_text : Selection → Files → List ℕ
printed_text selection files = dump_text selection files ++ no_base_line (files_told selection files).found

-- Opening finds a log in files. The text tells of all of its records, dead ones too, if they are selected, and the LSN at which it goes on.
pub record IsDumpOfLog (selection : Selection) (files : Files) : Type 0 where
  pub parts : Parts
  pub found : Finds files (Ok parts)
  pub records : (files_told selection files).records ≡ parts.entries
  pub end : (files_told selection files).found ≡ Ok (frontier parts.place)

-- Opening finds no log in files. The text tells the same cause: the first wrong byte, or that no slot is open.
pub record IsDumpOfNoLog (selection : Selection) (files : Files) : Type 0 where
  pub refusal : LoadRefusal
  pub no_log : IsNoLog refusal
  pub found : Finds files (Err refusal)
  pub told : (files_told selection files).found ≡ Err refusal

-- A front of the text of files was written, and then the line that says that the disk failed.
pub record IsTextUpToFault (selection : Selection) (files : Files) (text : List ℕ) : Type 0 where
  pub count : ℕ
  pub is : text ≡ take count (printed_text selection files) ++ disk_fault_text

-- The disk failed in this call, and a front of what is written then was taken.
pub record IsFrontUpToFault (selection : Selection) (old new : DiskState) (written written_after : Option (List ℕ)) : Type 0 where
  pub fault : RefusesLog DiskFault old new
  pub text : List ℕ
  pub is : IsTextUpToFault selection old.files text
  pub front : AppendsFront written written_after text

-- How dumping ends: what each status says of the log on the disk and of what the sink has taken. What is said of the text holds where the disk
-- tells what its files hold.
pub record EndsDump (selection : Selection) (status : ℕ) (old new : DiskState) (written written_after : Option (List ℕ)) (sink sink_after : ℕ)
    : Type 0 where
  -- there is no other status
  pub statuses : IsCheckStatus status
  -- a log is there, and all of its text was written
  pub done : status ≡ 0 → TellsContents old → IsDumpOfLog selection old.files × Appends written written_after (printed_text selection old.files)
  -- the sink failed in this call, and took a front of the text, or of that and the line for a disk that failed
  pub sink_fault : status ≡ 3 → ports.Rises sink sink_after
  pub sink_fault_front : status ≡ 3 → TellsContents old → AppendsFront written written_after (printed_text selection old.files)
      ⊎ IsFrontUpToFault selection old new written written_after
  -- the disk failed in this call, and after a front of the text the line that says so was written
  pub disk_fault : status ≡ 4 → RefusesLog DiskFault old new
  pub disk_fault_line : status ≡ 4 → TellsContents old
      → (text : List ℕ) × IsTextUpToFault selection old.files text × Appends written written_after text
  -- memory ran out, and a front of the text was written
  pub no_memory_front : status ≡ 5 → TellsContents old → AppendsFront written written_after (printed_text selection old.files)
  -- the files aren't a log's, and all of their text was written
  pub no_log : status ≡ 6 → TellsContents old → IsDumpOfNoLog selection old.files × Appends written written_after (printed_text selection old.files)
  -- whatever the status no file changed, and no image
  pub same : Unchanged old.files new.files
  pub time : Passes Unchanged old new
  -- the sink's count of faults never falls
  pub sink_count : sink ≤ sink_after

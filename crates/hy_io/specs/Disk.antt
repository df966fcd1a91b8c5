-- The files in memory, their counts of faults, and which calls are to fail.
use Rattle.std.specs.Prelude.{◌≡◌, ℕ, zero, suc, ◌/◌, Bool, true, false, ◌==◌, if◌then◌else◌, List, [], ◌∷◌, ◌++◌, length, take, Option, None, Some, is_some}
use Rattle.std.specs.declared.vec.Vec.{Vec}
use Rattle.std.specs.declared.alloc.Global.{Global}
use Rattle.std.specs.List.{list_any}
use Rattle.std.specs.Option.{option_map, option_map_or}
use Rattle.std.specs.Str.{bytes_eq}
use Rattle.hy_io.specs.declared.file.File.{File}
use Rattle.hy_io.specs.Outside.{Store, next}

-- what `MemFiles` is seen as
pub record Disk : Type 0 where
  -- the files; of two with one name the first counts
  pub files : List File
  -- the faults of the names that aren't there, with which a new name begins
  pub absent_reads : ℕ
  pub absent_writes : ℕ
  -- the calls so far, and the numbers of those that are to fail
  pub calls : ℕ
  pub fails : List ℕ

-- the file of this name
abbrev pub file_named : List ℕ → List File → Option File
file_named name [] = None
file_named name (f ∷ fs) = if bytes_eq f.name name then Some f else file_named name fs

-- the files, where the one of this name is changed
abbrev pub changed : (File → File) → List ℕ → List File → List File
changed change name [] = []
changed change name (f ∷ fs) = if bytes_eq f.name name then change f ∷ fs else f ∷ changed change name fs

-- the first file of this name stands at this place
abbrev pub FirstAt : List ℕ → List File → ℕ → Type 0
FirstAt name [] i = ⊥
FirstAt name (f ∷ fs) zero = bytes_eq f.name name ≡ true
FirstAt name (f ∷ fs) (suc i) = (bytes_eq f.name name ≡ false) × FirstAt name fs i

-- the bytes under a name
abbrev pub held : Disk → Store
held disk name = option_map (λ f. f.bytes) (file_named name disk.files)

abbrev pub read_faults : Disk → List ℕ → ℕ
read_faults disk name = option_map_or (λ f. f.failed_reads) (file_named name disk.files) disk.absent_reads

abbrev pub write_faults : Disk → List ℕ → ℕ
write_faults disk name = option_map_or (λ f. f.failed_writes) (file_named name disk.files) disk.absent_writes

-- whether the call that comes is to fail
abbrev pub fails_now : Disk → Bool
fails_now disk = list_any (λ k. k == disk.calls) disk.fails

-- one call more
abbrev pub after_call : Disk → Disk
after_call disk = record disk { calls = next disk.calls }

-- what the call that comes can read under a name
abbrev pub readable : Disk → List ℕ → Option (List ℕ)
readable disk name = if fails_now disk then None else held disk name

-- a file with one more failed read
abbrev pub with_failed_read : File → File
with_failed_read f = record f { failed_reads = next f.failed_reads }

-- after a read of this name that failed
abbrev pub after_failed_read : Disk → List ℕ → Disk
after_failed_read disk name = record disk {
  files = changed with_failed_read name disk.files;
  absent_reads = if is_some (file_named name disk.files) then disk.absent_reads else next disk.absent_reads;
  calls = next disk.calls;
}

-- a file that these bytes are written to: all of them, or where the write fails the first half, and the fault is counted
abbrev pub rewritten : List ℕ → Bool → File → File
rewritten bytes fails f = record f {
  bytes = if fails then take (length bytes / 2) bytes else bytes;
  failed_writes = if fails then next f.failed_writes else f.failed_writes;
}

-- the files, where the one of the fresh file's name is changed, or the fresh one is put behind them and changed
abbrev pub put : (File → File) → File → List File → List File
put change fresh files = if is_some (file_named fresh.name files) then changed change fresh.name files else files ++ change fresh ∷ []

-- a file that begins
abbrev pub begun : Disk → List ℕ → File
begun disk name = record { name = name; bytes = []; failed_reads = disk.absent_reads; failed_writes = disk.absent_writes }

-- after a write of these bytes
abbrev pub after_write : Disk → List ℕ → List ℕ → Disk
after_write disk name bytes = record disk {
  files = put (rewritten bytes (fails_now disk)) (begun disk name) disk.files;
  calls = next disk.calls;
}

-- a file as it is handed in
abbrev pub handed : List ℕ × Vec ℕ Global → File
handed pair = record { name = pair.0; bytes = pair.1.items; failed_reads = 0; failed_writes = 0 }

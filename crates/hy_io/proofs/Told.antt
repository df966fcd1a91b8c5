-- What reads and writes do to what is held and to the counts of faults.
use Rattle.std.proofs.Common.{◌≡◌, ◌≢◌, ℕ, ◌+◌, ◌/◌, ◌<◌, ◌≤◌, ◌-◌, ◌^◌, min, ◌⊎◌, inl, inr, unwrap_or, Bool, true, false, List, length, take, Option, None, Some, is_some, refl, ap, sym, ◌∙◌, arith, if◌then◌else◌}
use Rattle.std.proofs.lemmas.Bool.{cases_Bool}
use Rattle.std.proofs.lemmas.Bool.Decides.{nat_tests}
use Rattle.std.proofs.lemmas.Slice.Eq.{bytes_eq-Decides}
use Rattle.std.proofs.Math.Path.{fun_ext}
use Rattle.std.specs.Str.{bytes_eq}
use Rattle.std.specs.Option.{option_map, option_map_or}
use Rattle.hy_io.specs.declared.file.File.{File}
use Rattle.hy_io.specs.Outside.{next, Rose, NoneFell, Same, ChangesOnly, IsWritten, IsPartlyWritten}
use Rattle.hy_io.specs.Disk.{Disk, file_named, held, read_faults, write_faults, fails_now, with_failed_read, after_failed_read, rewritten, put, begun, after_write}
use Rattle.hy_io.proofs.Changes.{file_named-changed, file_named-changed_other, file_named-put, file_named-put_other}

-- a count and its next
pub next-no_less : (count : ℕ) → count ≤ next count
next-no_less count = grind (arith, nat_tests)

pub next-saturating : (count : ℕ) → count < 2 ^ 64 → min (count + 1) (2 ^ 64 - 1) ≡ next count
next-saturating count fits = grind (arith, nat_tests)

pub next-rises : (count : ℕ) → Rose count (next count)
next-rises count below = grind (arith, nat_tests)

-- two texts are one or differ
pub same_or_not : (xs ys : List ℕ) → (xs ≡ ys) ⊎ (xs ≢ ys)
same_or_not xs ys =
    elim (cases_Bool (bytes_eq xs ys)) [
      | inl same ↦ inl ((bytes_eq-Decides xs ys).0 same)
      | inr other ↦ inr (λ e. let h : true ≡ false = sym ((bytes_eq-Decides xs ys).1 e) ∙ other in absurd (cc))
    ]

-- a failed read changes what nobody holds
held-kept : (o : Option File) → option_map (λ f. f.bytes) (option_map with_failed_read o) ≡ option_map (λ f. f.bytes) o
held-kept None = refl
held-kept (Some f) = refl

pub held-after_failed_read : (disk : Disk) (name : List ℕ) → held (after_failed_read disk name) ≡ held disk
held-after_failed_read disk name =
    fun_ext λ q.
    elim (same_or_not q name) [
      | inl is ↦ rw is (ap (option_map (λ f. f.bytes)) (file_named-changed with_failed_read (λ f. refl) name disk.files) ∙ held-kept (file_named name disk.files))
      | inr differ ↦ ap (option_map (λ f. f.bytes)) (file_named-changed_other with_failed_read (λ f. refl) name q differ disk.files)
    ]

-- the count of the name that was read
counted : (disk : Disk) (name : List ℕ) → read_faults (after_failed_read disk name) name ≡ next (read_faults disk name)
counted disk name =
    ap (λ o. option_map_or (λ (f : File). f.failed_reads) o (after_failed_read disk name).absent_reads) (file_named-changed with_failed_read (λ f. refl) name disk.files) ∙ by_case (file_named name disk.files)
  where
    by_case : (o : Option File) → option_map_or (λ (f : File). f.failed_reads) (option_map with_failed_read o) (if is_some o then disk.absent_reads else next disk.absent_reads) ≡ next (option_map_or (λ (f : File). f.failed_reads) o disk.absent_reads)
    by_case None = refl
    by_case (Some f) = refl

pub rose-after_failed_read : (disk : Disk) (name : List ℕ) → Rose (read_faults disk name) (read_faults (after_failed_read disk name) name)
rose-after_failed_read disk name = rw (counted disk name) (next-rises (read_faults disk name))

-- the count of another name: the same, or that of the names that aren't there
pub none_fell-after_failed_read : (disk : Disk) (name : List ℕ) → NoneFell (read_faults disk) (read_faults (after_failed_read disk name))
none_fell-after_failed_read disk name q =
    elim (same_or_not q name) [
      | inl is ↦ rw is (rw (counted disk name) (next-no_less (read_faults disk name)))
      | inr differ ↦ let e = file_named-changed_other with_failed_read (λ f. refl) name q differ disk.files in rw e (others (file_named q disk.files) (is_some (file_named name disk.files)) disk.absent_reads)
    ]
  where
    others : (o : Option File) (there : Bool) (absent : ℕ) → option_map_or (λ (f : File). f.failed_reads) o absent ≤ option_map_or (λ (f : File). f.failed_reads) o (if there then absent else next absent)
    others None true absent = omega arith
    others None false absent = next-no_less absent
    others (Some f) there absent = omega arith

pub same_writes-after_failed_read : (disk : Disk) (name : List ℕ) → Same (write_faults disk) (write_faults (after_failed_read disk name))
same_writes-after_failed_read disk name q =
    elim (same_or_not q name) [
      | inl is ↦ rw is (ap (λ o. option_map_or (λ (f : File). f.failed_writes) o disk.absent_writes) (file_named-changed with_failed_read (λ f. refl) name disk.files) ∙ by_case (file_named name disk.files))
      | inr differ ↦ ap (λ o. option_map_or (λ (f : File). f.failed_writes) o disk.absent_writes) (file_named-changed_other with_failed_read (λ f. refl) name q differ disk.files)
    ]
  where
    by_case : (o : Option File) → option_map_or (λ (f : File). f.failed_writes) (option_map with_failed_read o) disk.absent_writes ≡ option_map_or (λ (f : File). f.failed_writes) o disk.absent_writes
    by_case None = refl
    by_case (Some f) = refl

-- after a put: the changed file, or the fresh one changed
pub put-same : (change : File → File) → ((f : File) → (change f).name ≡ f.name) → (fresh : File) (files : List File) → file_named fresh.name (put change fresh files) ≡ Some (change (unwrap_or (file_named fresh.name files) fresh))
put-same change keeps fresh files = by_case (file_named fresh.name files) refl
  where
    by_case : (o : Option File) → file_named fresh.name files ≡ o → file_named fresh.name (put change fresh files) ≡ Some (change (unwrap_or o fresh))
    by_case None e = rw e (file_named-put fresh.name files (change fresh) e (keeps fresh))
    by_case (Some f) e = rw e (file_named-changed change keeps fresh.name files ∙ ap (option_map change) e)

pub put-other : (change : File → File) → ((f : File) → (change f).name ≡ f.name) → (fresh : File) (files : List File) (other : List ℕ) → other ≢ fresh.name → file_named other (put change fresh files) ≡ file_named other files
put-other change keeps fresh files other differ = by_case (file_named fresh.name files) refl
  where
    by_case : (o : Option File) → file_named fresh.name files ≡ o → file_named other (put change fresh files) ≡ file_named other files
    by_case None e = rw e (file_named-put_other other files (change fresh) (λ is. differ (sym is ∙ keeps fresh)))
    by_case (Some f) e = rw e (file_named-changed_other change keeps fresh.name other differ files)

-- what a write leaves of the bytes
abbrev pub left : List ℕ → Bool → List ℕ
left bytes fails = if fails then take (length bytes / 2) bytes else bytes

pub held-after_write : (disk : Disk) (name bytes : List ℕ) → held (after_write disk name bytes) name ≡ Some (left bytes (fails_now disk))
held-after_write disk name bytes = ap (option_map (λ f. f.bytes)) (put-same (rewritten bytes (fails_now disk)) (λ f. refl) (begun disk name) disk.files)

pub held-after_write_other : (disk : Disk) (name bytes other : List ℕ) → other ≢ name → held (after_write disk name bytes) other ≡ held disk other
held-after_write_other disk name bytes other differ = ap (option_map (λ f. f.bytes)) (put-other (rewritten bytes (fails_now disk)) (λ f. refl) (begun disk name) disk.files other differ)

pub same_reads-after_write : (disk : Disk) (name bytes : List ℕ) → Same (read_faults disk) (read_faults (after_write disk name bytes))
same_reads-after_write disk name bytes q =
    elim (same_or_not q name) [
      | inl is ↦ rw is (ap (λ o. option_map_or (λ (f : File). f.failed_reads) o disk.absent_reads) (put-same (rewritten bytes (fails_now disk)) (λ f. refl) (begun disk name) disk.files) ∙ by_case (file_named name disk.files))
      | inr differ ↦ ap (λ o. option_map_or (λ (f : File). f.failed_reads) o disk.absent_reads) (put-other (rewritten bytes (fails_now disk)) (λ f. refl) (begun disk name) disk.files q differ)
    ]
  where
    by_case : (o : Option File) → (unwrap_or o (begun disk name)).failed_reads ≡ option_map_or (λ (f : File). f.failed_reads) o disk.absent_reads
    by_case None = refl
    by_case (Some f) = refl

-- the count of the name that was written
pub write_faults-after_write : (disk : Disk) (name bytes : List ℕ) → write_faults (after_write disk name bytes) name ≡ (if fails_now disk then next (write_faults disk name) else write_faults disk name)
write_faults-after_write disk name bytes =
    ap (λ o. option_map_or (λ (f : File). f.failed_writes) o disk.absent_writes) (put-same (rewritten bytes (fails_now disk)) (λ f. refl) (begun disk name) disk.files) ∙ by_case (file_named name disk.files)
  where
    by_case : (o : Option File) → (if fails_now disk then next (unwrap_or o (begun disk name)).failed_writes else (unwrap_or o (begun disk name)).failed_writes) ≡ (if fails_now disk then next (option_map_or (λ (f : File). f.failed_writes) o disk.absent_writes) else option_map_or (λ (f : File). f.failed_writes) o disk.absent_writes)
    by_case None = refl
    by_case (Some f) = refl

pub write_faults-after_write_other : (disk : Disk) (name bytes other : List ℕ) → other ≢ name → write_faults (after_write disk name bytes) other ≡ write_faults disk other
write_faults-after_write_other disk name bytes other differ = ap (λ o. option_map_or (λ (f : File). f.failed_writes) o disk.absent_writes) (put-other (rewritten bytes (fails_now disk)) (λ f. refl) (begun disk name) disk.files other differ)

pub none_fell-after_write : (disk : Disk) (name bytes : List ℕ) → NoneFell (write_faults disk) (write_faults (after_write disk name bytes))
none_fell-after_write disk name bytes q =
    elim (same_or_not q name) [
      | inl is ↦ rw is (rw (write_faults-after_write disk name bytes) (by_test (fails_now disk) (write_faults disk name)))
      | inr differ ↦ omega (arith, write_faults-after_write_other disk name bytes q differ)
    ]
  where
    by_test : (fails : Bool) (count : ℕ) → count ≤ (if fails then next count else count)
    by_test true count = next-no_less count
    by_test false count = omega arith

pub rose-after_write : (disk : Disk) (name bytes : List ℕ) → fails_now disk ≡ true → Rose (write_faults disk name) (write_faults (after_write disk name bytes) name)
rose-after_write disk name bytes fails = rw (write_faults-after_write disk name bytes) (rw fails (next-rises (write_faults disk name)))

pub calm-after_write : (disk : Disk) (name bytes : List ℕ) → fails_now disk ≡ false → Same (write_faults disk) (write_faults (after_write disk name bytes))
calm-after_write disk name bytes calm q =
    elim (same_or_not q name) [
      | inl is ↦ rw is (rw (write_faults-after_write disk name bytes) (rw calm refl))
      | inr differ ↦ write_faults-after_write_other disk name bytes q differ
    ]

-- what the files hold after a write
pub changes-ok : (disk : Disk) (name bytes : List ℕ) → fails_now disk ≡ false → ChangesOnly (Some (held disk)) (Some (held (after_write disk name bytes))) name (IsWritten bytes)
changes-ok disk name bytes calm = (held-after_write disk name bytes ∙ rw calm refl, held-after_write_other disk name bytes)

pub changes-failed : (disk : Disk) (name bytes : List ℕ) → fails_now disk ≡ true → ChangesOnly (Some (held disk)) (Some (held (after_write disk name bytes))) name (IsPartlyWritten bytes)
changes-failed disk name bytes fails = (inr (length bytes / 2, held-after_write disk name bytes ∙ rw fails refl), held-after_write_other disk name bytes)

-- What a change of one file does to what is held under each name, and to the counts.
use Rattle.std.proofs.Common.{◌≡◌, ◌≢◌, ℕ, zero, suc, ◌<◌, true, false, List, [], ◌∷◌, ◌++◌, length, get_or, set, None, Some, refl, ap, sym, ◌∙◌, arith, inl, inr}
use Rattle.std.proofs.lemmas.Bool.{cases_Bool}
use Rattle.std.proofs.lemmas.Slice.Eq.{bytes_eq-Decides}
use Rattle.std.specs.Str.{bytes_eq}
use Rattle.std.specs.Option.{option_map}
use Rattle.hy_io.specs.declared.file.File.{File}
use Rattle.hy_io.specs.Disk.{FirstAt, file_named, changed}
use Rattle.hy_io.proofs.Places.{other_name, same_name}

-- the write of one element, as a change of the file of its name
pub set-FirstAt : (change : File → File) (name : List ℕ) (files : List File) (place : ℕ) (d : File) → FirstAt name files place → set files place (change (get_or files place d)) ≡ changed change name files
set-FirstAt change name [] place d first = absurd first
set-FirstAt change name (f ∷ fs) zero d first = rw first refl
set-FirstAt change name (f ∷ fs) (suc place) d first = rw first.0 (ap (λ gs. f ∷ gs) (set-FirstAt change name fs place d first.1))

-- the same, of a file that is what the change makes
pub set-FirstAt_of : (change : File → File) (name : List ℕ) (files : List File) (place : ℕ) (d g : File) → FirstAt name files place → g ≡ change (get_or files place d) → set files place g ≡ changed change name files
set-FirstAt_of change name files place d g first is = ap (set files place) is ∙ set-FirstAt change name files place d first

-- a file is its four parts
pub file_of_parts : (f : File) (name bytes : List ℕ) (reads writes : ℕ) → f.name ≡ name → f.bytes ≡ bytes → f.failed_reads ≡ reads → f.failed_writes ≡ writes → f ≡ record { name = name; bytes = bytes; failed_reads = reads; failed_writes = writes }
file_of_parts f name bytes reads writes n b r w = rw (← n, ← b, ← r, ← w) refl

pub file_named-FirstAt : (name : List ℕ) (files : List File) (place : ℕ) (d : File) → FirstAt name files place → file_named name files ≡ Some (get_or files place d)
file_named-FirstAt name [] place d first = absurd first
file_named-FirstAt name (f ∷ fs) zero d first = rw first refl
file_named-FirstAt name (f ∷ fs) (suc place) d first = rw first.0 (file_named-FirstAt name fs place d first.1)

pub FirstAt-within : (name : List ℕ) (files : List File) (place : ℕ) → FirstAt name files place → place < length files
FirstAt-within name [] place first = absurd first
FirstAt-within name (f ∷ fs) zero first = omega arith
FirstAt-within name (f ∷ fs) (suc place) first = omega (arith, FirstAt-within name fs place first.1)

-- the test of a head's name, in both answers
pub changed-head : (change : File → File) (name : List ℕ) (f : File) (fs : List File) → bytes_eq f.name name ≡ false → changed change name (f ∷ fs) ≡ f ∷ changed change name fs
changed-head change name f fs other = rw other refl

pub file_named-head : (name : List ℕ) (f : File) (fs : List File) → bytes_eq f.name name ≡ false → file_named name (f ∷ fs) ≡ file_named name fs
file_named-head name f fs other = rw other refl

pub file_named-same_head : (name : List ℕ) (f : File) (fs : List File) → bytes_eq f.name name ≡ true → file_named name (f ∷ fs) ≡ Some f
file_named-same_head name f fs same = rw same refl

pub changed-same_head : (change : File → File) (name : List ℕ) (f : File) (fs : List File) → bytes_eq f.name name ≡ true → changed change name (f ∷ fs) ≡ change f ∷ fs
changed-same_head change name f fs same = rw same refl

-- a change where there is no such file
pub changed-absent : (change : File → File) (name : List ℕ) (files : List File) → file_named name files ≡ None → changed change name files ≡ files
changed-absent change name [] none = refl
changed-absent change name (f ∷ fs) none =
    let rest = changed-absent change name fs in
    elim (cases_Bool (bytes_eq f.name name)) [
      | inl same ↦ let h : Some f ≡ None = sym (file_named-same_head name f fs same) ∙ none in absurd (cc)
      | inr other ↦ changed-head change name f fs other ∙ ap (λ gs. f ∷ gs) (rest (sym (file_named-head name f fs other) ∙ none))
    ]

-- the file of the name, after a change that keeps names
pub file_named-changed : (change : File → File) → ((f : File) → (change f).name ≡ f.name) → (name : List ℕ) (files : List File) → file_named name (changed change name files) ≡ option_map change (file_named name files)
file_named-changed change keeps name [] = refl
file_named-changed change keeps name (f ∷ fs) =
    let rest = file_named-changed change keeps name fs in
    elim (cases_Bool (bytes_eq f.name name)) [
      | inl same ↦ let kept : bytes_eq (change f).name name ≡ true = ap (λ n. bytes_eq n name) (keeps f) ∙ same in
          ap (file_named name) (changed-same_head change name f fs same) ∙ file_named-same_head name (change f) fs kept ∙ sym (ap (option_map change) (file_named-same_head name f fs same))
      | inr other ↦ ap (file_named name) (changed-head change name f fs other) ∙ file_named-head name f (changed change name fs) other ∙ rest ∙ sym (ap (option_map change) (file_named-head name f fs other))
    ]

-- a file of another name
pub file_named-changed_other : (change : File → File) → ((f : File) → (change f).name ≡ f.name) → (name other : List ℕ) → other ≢ name → (files : List File) → file_named other (changed change name files) ≡ file_named other files
file_named-changed_other change keeps name other differ [] = refl
file_named-changed_other change keeps name other differ (f ∷ fs) =
    let rest = file_named-changed_other change keeps name other differ fs in
    elim (cases_Bool (bytes_eq f.name name)) [
      | inl same ↦
          let is : f.name ≡ name = (bytes_eq-Decides f.name name).0 same in
          let before : bytes_eq f.name other ≡ false = other_name f.name other (λ e. differ (sym e ∙ is)) in
          let after : bytes_eq (change f).name other ≡ false = ap (λ n. bytes_eq n other) (keeps f) ∙ before in
          ap (file_named other) (changed-same_head change name f fs same) ∙ file_named-head other (change f) fs after ∙ sym (file_named-head other f fs before)
      | inr not_it ↦ elim (cases_Bool (bytes_eq f.name other)) [
        | inl here ↦ ap (file_named other) (changed-head change name f fs not_it) ∙ file_named-same_head other f (changed change name fs) here ∙ sym (file_named-same_head other f fs here)
        | inr past ↦ ap (file_named other) (changed-head change name f fs not_it) ∙ file_named-head other f (changed change name fs) past ∙ rest ∙ sym (file_named-head other f fs past)
      ]
    ]

-- the file of the name, where one is put behind the others
pub file_named-put : (name : List ℕ) (files : List File) (g : File) → file_named name files ≡ None → g.name ≡ name → file_named name (files ++ g ∷ []) ≡ Some g
file_named-put name [] g none is = file_named-same_head name g [] (same_name g.name name is)
file_named-put name (f ∷ fs) g none is =
    let rest = file_named-put name fs g in
    elim (cases_Bool (bytes_eq f.name name)) [
      | inl same ↦ let h : Some f ≡ None = sym (file_named-same_head name f fs same) ∙ none in absurd (cc)
      | inr other ↦ file_named-head name f (fs ++ g ∷ []) other ∙ rest (sym (file_named-head name f fs other) ∙ none) is
    ]

pub file_named-put_other : (other : List ℕ) (files : List File) (g : File) → (g.name ≡ other → ⊥) → file_named other (files ++ g ∷ []) ≡ file_named other files
file_named-put_other other [] g differ = file_named-head other g [] (other_name g.name other differ)
file_named-put_other other (f ∷ fs) g differ =
    let rest = file_named-put_other other fs g differ in
    elim (cases_Bool (bytes_eq f.name other)) [
      | inl here ↦ file_named-same_head other f (fs ++ g ∷ []) here ∙ sym (file_named-same_head other f fs here)
      | inr past ↦ file_named-head other f (fs ++ g ∷ []) past ∙ rest ∙ sym (file_named-head other f fs past)
    ]

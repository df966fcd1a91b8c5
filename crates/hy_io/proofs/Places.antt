-- How the place of a file is found, name by name.
use Rattle.std.proofs.Common.{◌≡◌, ℕ, suc, ◌+◌, ◌<◌, true, false, List, ◌∷◌, length, drop, get_or, None, refl, ap, sym, ◌∙◌, arith, add-one, subst}
use Rattle.std.proofs.Math.Seq.{drop-cons}
use Rattle.std.proofs.lemmas.Slice.Eq.{bytes_eq-Decides}
use Rattle.std.proofs.lemmas.List.{drop_all}
use Rattle.std.specs.Str.{bytes_eq}
use Rattle.hy_io.specs.declared.file.File.{File}
use Rattle.hy_io.specs.Disk.{FirstAt, file_named}

-- the files before this place have other names
pub record Passed (name : List ℕ) (files : List File) (place : ℕ) : Type 0 where
  pub rest : file_named name files ≡ file_named name (drop place files)
  pub later : (k : ℕ) → FirstAt name (drop place files) k → FirstAt name files (place + k)

pub passed_none : (name : List ℕ) (files : List File) → Passed name files 0
passed_none name files = record { rest = refl; later = λ k first. let e : 0 + k ≡ k = omega arith in rw e first }

-- a test of two texts that differ is false
pub other_name : (xs ys : List ℕ) → (xs ≡ ys → ⊥) → bytes_eq xs ys ≡ false
other_name xs ys other = grind (arith, bytes_eq-Decides xs ys)

pub same_name : (xs ys : List ℕ) → xs ≡ ys → bytes_eq xs ys ≡ true
same_name xs ys same = (bytes_eq-Decides xs ys).1 same

-- one file more with another name
pub passed_more : (name : List ℕ) (files : List File) (place : ℕ) (f : File) → place < length files → f ≡ get_or files place f → bytes_eq f.name name ≡ false → Passed name files place → Passed name files (place + 1)
passed_more name files place f within is other passed =
    let cut : drop place files ≡ f ∷ drop (suc place) files = drop-cons files place f within ∙ ap (λ g. g ∷ drop (suc place) files) (sym is) in
    record {
      rest = rw add-one (passed.rest ∙ ap (file_named name) cut ∙ skip name f (drop (suc place) files) other);
      later = λ k first.
          let there : FirstAt name (drop place files) (suc k) = subst (λ fs. FirstAt name fs (suc k)) (sym cut) (other, rw add-one at first) in
          let e : place + 1 + k ≡ place + suc k = omega arith in
          rw e (passed.later (suc k) there);
    }
  where
    skip : (name : List ℕ) (f : File) (fs : List File) → bytes_eq f.name name ≡ false → file_named name (f ∷ fs) ≡ file_named name fs
    skip name f fs other = rw other refl

-- a file of this name
pub passed_found : (name : List ℕ) (files : List File) (place : ℕ) (f : File) → place < length files → f ≡ get_or files place f → bytes_eq f.name name ≡ true → Passed name files place → FirstAt name files place
passed_found name files place f within is same passed =
    let cut : drop place files ≡ f ∷ drop (suc place) files = drop-cons files place f within ∙ ap (λ g. g ∷ drop (suc place) files) (sym is) in
    let there : FirstAt name (drop place files) 0 = subst (λ fs. FirstAt name fs 0) (sym cut) same in
    let e : place + 0 ≡ place = omega arith in
    subst (FirstAt name files) e (passed.later 0 there)

pub passed_all : (name : List ℕ) (files : List File) → Passed name files (length files) → file_named name files ≡ None
passed_all name files passed = passed.rest ∙ ap (file_named name) (drop_all (length files) files (omega arith))

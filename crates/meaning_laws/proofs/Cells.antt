-- Cells that are read where they were written.
use Rattle.std.proofs.Common.{◌≡◌, ◌≢◌, ℕ, zero, suc, ◌+◌, ◌<◌, ◌≤◌, List, [], ◌∷◌, get_or, set, length, refl, sym, ap, ◌∙◌, arith}
use Rattle.std.proofs.lemmas.List.{get_or-set_same, get_or-set_other, length-set}
use Rattle.c_meaning.specs.declared.values.Cell.{Cell}
use Rattle.c_meaning.specs.declared.values.Cell.TheVariants as cell
use Rattle.c_meaning.specs.State.{Stored, no_object, object_at, cells_from, overwritten, written}
use Rattle.meaning_laws.specs.Copies.{CopyIsTold, CopyHasTheCells}

-- cells before the first that is written stay
earlier : (values cells : List Cell) (from k : ℕ) (d : Cell) → k < from → get_or (overwritten cells from values) k d ≡ get_or cells k d
earlier [] cells from k d h = refl
earlier (v ∷ vs) cells from k d h =
    let other : k ≢ from = omega arith in
    earlier vs (set cells from v) (from + 1) k d (omega arith) ∙ get_or-set_other cells from k v d other

-- what was written is read
read_written : (values cells : List Cell) (at : ℕ) → at + length values ≤ length cells → cells_from (length values) at (overwritten cells at values) ≡ values
read_written [] cells at h = refl
read_written (v ∷ vs) cells at h =
    let here : get_or (overwritten (set cells at v) (at + 1) vs) at cell.Unset ≡ v =
    earlier vs (set cells at v) (at + 1) at cell.Unset (omega arith) ∙ get_or-set_same cells at v cell.Unset (omega arith) in
    let rest : cells_from (length vs) (at + 1) (overwritten (set cells at v) (at + 1) vs) ≡ vs =
    read_written vs (set cells at v) (at + 1) (omega (arith, length-set cells at v)) in
    ap (λ (c : Cell). c ∷ cells_from (length vs) (at + 1) (overwritten (set cells at v) (at + 1) vs)) here ∙ ap (λ (cs : List Cell). v ∷ cs) rest

length-cells_from : (n at : ℕ) (cells : List Cell) → length (cells_from n at cells) ≡ n
length-cells_from zero at cells = refl
length-cells_from (suc n) at cells = ap suc (length-cells_from n (at + 1) cells)

pub copy_is_told : CopyIsTold
copy_is_told world number place from to s = refl

pub copy_has_the_cells : CopyHasTheCells
copy_has_the_cells world number place from to s stands within =
    let size = get_or world.structs number 0 in
    let values = cells_from size from.at (object_at s from.object).cells in
    let long : length values ≡ size = length-cells_from size from.at (object_at s from.object).cells in
    let cells = (object_at s to.object).cells in
    let after : Stored = record { life = (object_at s to.object).life; cells = overwritten cells to.at values } in
    let at : object_at (written to.object to.at values s) to.object ≡ after = get_or-set_same s.objects to.object after no_object stands in
    ap (λ (o : Stored). cells_from size to.at o.cells) at
    ∙ ap (λ (n : ℕ). cells_from n to.at (overwritten cells to.at values)) (sym long)
    ∙ read_written values cells to.at (omega (arith, long, within))

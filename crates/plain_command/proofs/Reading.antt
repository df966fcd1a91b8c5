-- The command's files, read one after another.
use Rattle.std.proofs.Common.{◌≡◌, ℕ, ◌<◌, ◌≤◌, ◌⊎◌, inl, inr, List, length, Option, None, Some, arith}
use Rattle.hy_io.specs.Outside.{Store, Rose}
use Rattle.command_io.specs.Reading.{IsHeld, IsTooLong, IsFileFault}
use Rattle.command_io.specs.Ends.{Calm}
use Rattle.command_io.proofs.Ending.{not_risen}
use Rattle.plain_command.specs.Endings.{most_source, most_input, IsAnswer, IsPlainEnding}

same_bytes : (bytes others : List ℕ) → Some bytes ≡ Some others → bytes ≡ others
same_bytes bytes others is = cc

-- a file that is held whole has no fault, where its count is calm
pub no_fault : (store : Store) (before after : List ℕ → ℕ) (name : List ℕ) (most refusal code : ℕ) (line bytes : List ℕ) → IsHeld (Some store) name most bytes → Calm (before name) (after name)
    → IsFileFault (Some store) before after name most refusal code line → ⊥
no_fault store before after name most refusal code line bytes held calm (inl (two, rose, told)) = not_risen (before name) (after name) calm rose
no_fault store before after name most refusal code line bytes held calm (inr (long, (others, there, more), told)) =
    let same : bytes ≡ others = cc (held.0, there) in
    let few : length bytes ≤ most = held.1 in
    let many : most < length bytes = rw same more in
    absurd (omega (arith, few, many))

-- what is held is held once
pub held_once : (store : Store) (name : List ℕ) (most : ℕ) (bytes others : List ℕ) → IsHeld (Some store) name most bytes → IsHeld (Some store) name most others → bytes ≡ others
held_once store name most bytes others held there = cc (held.0, there.0)

-- the ending of three files that are read whole is that of their bytes
pub read_all : (store : Option Store) (before after : List ℕ → ℕ) (source a b : List ℕ) (bound : Option ℕ) (s x y : List ℕ)
    → IsHeld store source most_source s → IsHeld store a most_input x → IsHeld store b most_input y
    → (code : ℕ) (line : List ℕ) → IsAnswer s bound x y code line → IsPlainEnding store before after source a b bound code line
read_all store before after source a b bound s x y held_s held_x held_y code line so = inr (s, held_s, inr (x, held_x, inr (y, held_y, so)))

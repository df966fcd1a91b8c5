-- How far the cells that a pointer names can lie.
use Rattle.std.specs.Prelude.{ℕ, ◌*◌, ◌-◌, ◌^◌}

-- the greatest number of an element's first cell, where numbers and sizes of cells are below 2^32
abbrev pub last_cell : ℕ
last_cell = (2 ^ 32 - 1) * (2 ^ 32 - 1)

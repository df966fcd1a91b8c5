-- Sums of shares.
use Rattle.std.proofs.Common.{ℕ, ◌+◌, ◌%◌, ◌^◌}
use Rattle.share_arith.proofs.Laws.{sum_opens}
use Rattle.hycc_top.specs.Shares.{Stand}

-- shares added share by share stand for the sum
pub added_stand : (x0 x1 u y0 y1 v : ℕ) → Stand x0 x1 u → Stand y0 y1 v → Stand ((x0 + y0) % 2 ^ 32) ((x1 + y1) % 2 ^ 32) (u + v)
added_stand x0 x1 u y0 y1 v ex ey = sum_opens (2 ^ 32) x0 x1 u y0 y1 v ex ey

-- The gates of levels, of any kind: how long a gate's message is. A plan's levels have gates of their own kind alone, of which this is the
-- number of bytes that share_core's `sent` tells.
use Rattle.std.specs.Prelude.{ℕ, ◌*◌}
use Rattle.hy_bits.specs.declared.width.Width.{Width}
use Rattle.hy_bits.specs.declared.turns.Role.{Role}
use Rattle.hy_bits.specs.declared.turns.Role.TheVariants.{P0, P1}
use Rattle.share_core.specs.declared.instr.InstrKind.{InstrKind}
use Rattle.share_core.specs.declared.instr.InstrKind.TheVariants.{MulA, AndB, AndY}
use Rattle.share_core.specs.Bytes.{byte_count}

abbrev pub gate_sent : InstrKind → Width → Role → ℕ
gate_sent MulA w role = 2 * byte_count w
gate_sent AndB w role = 1
gate_sent AndY w P0 = 32
gate_sent AndY w P1 = 0
gate_sent _ w role = 0

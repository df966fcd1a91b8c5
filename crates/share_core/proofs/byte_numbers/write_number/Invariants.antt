use Rattle.std.proofs.Common.{◌≡◌, ◌-◌, ◌++◌, take, length}
use Rattle.share_core.specs.Bytes.{bytes}
use Rattle.share_core.proofs.byte_numbers.write_number.Given as goal

abbrev pub invariant-loop-byte : goal.invariant-loop-byte
invariant-loop-byte l = take l.byte-index l.out ++ bytes (length l.fn.out - l.byte-index) l.rest ≡ bytes (length l.fn.out) l.fn.value

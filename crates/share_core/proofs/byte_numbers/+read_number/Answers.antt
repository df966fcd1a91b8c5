use Rattle.std.proofs.Common.{◌<◌, ◌+◌, ◌*◌, ◌^◌, arith}
use Rattle.std.proofs.lemmas.Grind.{common_steps}
use Rattle.share_core.proofs.ByteLaws.{room-above}
use Rattle.share_core.proofs.byte_numbers.+read_number.Goals as goal

pub overflow_mul-result : goal.overflow_mul-result
overflow_mul-result t c =
    let room : 0 + 256 * c.read_number.result < 2 ^ 64 = room-above 0 c.read_number.result _ c.read_number.ensures.small (grind (arith, common_steps)) (omega arith) in
    omega arith

pub overflow_add-result : goal.overflow_add-result
overflow_add-result t c =
    let byte : c.from.result < 256 = grind (arith, common_steps) in
    let room : c.from.result + 256 * c.read_number.result < 2 ^ 64 = room-above c.from.result c.read_number.result _ c.read_number.ensures.small (grind (arith, common_steps)) byte in
    omega arith

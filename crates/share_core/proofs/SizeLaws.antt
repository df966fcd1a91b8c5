-- The lengths of the messages at A and at B.
use Rattle.std.proofs.Common.{◌%◌, slice_index, refl}
use Rattle.hy_bits.specs.declared.turns.Role.TheVariants.{P0, P1}
use Rattle.hy_bits.specs.Words.{modulus}
use Rattle.share_core.specs.declared.instr.InstrKind.TheVariants.{InAP0, InAP1, InBP0, InBP1, MulA, AndB, OpenA, OpenB}
use Rattle.share_core.specs.Arithmetic.{difference_of}
use Rattle.share_core.specs.Boolean.{xor_of}
use Rattle.share_core.specs.Bytes.{byte_count}
use Rattle.share_core.specs.Sizes.{MessagesHaveLengths}
use Rattle.share_core.proofs.ArithmeticLaws.{length-product_message}
use Rattle.share_core.proofs.ByteLaws.{length-bytes}

pub message_lengths : MessagesHaveLengths
message_lengths InAP0 w P0 x y half = (length-bytes (byte_count w) (difference_of (modulus w) x (slice_index half 0)), refl)
message_lengths InAP1 w P1 x y half = (length-bytes (byte_count w) (difference_of (modulus w) x (slice_index half 0)), refl)
message_lengths MulA w role x y half = (length-product_message w x y (slice_index half 0) (slice_index half 1), refl)
message_lengths OpenA w role x y half = (length-bytes (byte_count w) (x % modulus w), refl)
message_lengths InBP0 w P0 x y half = (refl, length-bytes (byte_count w) (xor_of (modulus w) x (slice_index half 0)))
message_lengths InBP1 w P1 x y half = (refl, length-bytes (byte_count w) (xor_of (modulus w) x (slice_index half 0)))
message_lengths AndB w role x y half = (refl, refl)
message_lengths OpenB w role x y half = (refl, length-bytes (byte_count w) (x % modulus w))
message_lengths _ w role x y half = (refl, refl)

-- The texts that are the same for every number.
use Rattle.std.proofs.Common.{◌≡◌, refl}
use Rattle.std.specs.Prelude.{codes}
use Rattle.std.specs.Fmt.{digits}
use Rattle.work_gen.specs.Costs.{table_text}
use Rattle.work_gen.specs.Texts.{b_of}

pub query_is : codes "{\"INPUT_B_q\":[500,513,526,539]}\n" ≡ b_of
unfolding digits
query_is = refl

pub table_is : codes "{\"a_mul\":{\"8\":10,\"16\":12,\"32\":16,\"64\":24},\"a2b\":{\"1\":7,\"8\":56,\"16\":112,\"32\":224,\"64\":448},\"a2y\":{\"1\":6,\"8\":48,\"16\":96,\"32\":192,\"64\":384},\"b2a\":{\"1\":5,\"8\":40,\"16\":80,\"32\":160,\"64\":320},\"b2y\":{\"1\":3,\"8\":24,\"16\":48,\"32\":96,\"64\":192},\"y2a\":{\"1\":5,\"8\":40,\"16\":80,\"32\":160,\"64\":320},\"y2b\":{\"1\":0,\"8\":0,\"16\":0,\"32\":0,\"64\":0},\"b_and\":2,\"b_level\":40,\"y_and\":3}\n" ≡ table_text
unfolding digits
table_is = refl

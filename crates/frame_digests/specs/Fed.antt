-- What three digests were fed.
use Rattle.std.specs.Prelude.{ℕ, List, [], ◌∷◌, ◌++◌}
use Rattle.hy_bits.specs.declared.turns.Role.{Role}
use Rattle.hy_bits.specs.declared.turns.Role.TheVariants.{P0, P1}
use Rattle.sha2.specs.Hashers.{Holds256}
use Rattle.sha2.specs.Sha256.{sha256}
use Rattle.frame_digests.specs.declared.digests.Digests.{Digests}

-- the bytes of P0's frames, of P1's, and of all frames in the order in which they were sent
pub record Bytes : Type 0 where
  pub first : List ℕ
  pub second : List ℕ
  pub both : List ℕ

abbrev pub nothing : Bytes
nothing = record { first = []; second = []; both = [] }

-- what a party sends more
abbrev pub with_bytes : Role → List ℕ → Bytes → Bytes
with_bytes P0 more b = record { first = b.first ++ more; second = b.second; both = b.both ++ more }
with_bytes P1 more b = record { first = b.first; second = b.second ++ more; both = b.both ++ more }

-- the digests were fed these bytes
pub record Fed (d : Digests) (b : Bytes) : Type 0 where
  pub first : Holds256 d.first b.first
  pub second : Holds256 d.second b.second
  pub both : Holds256 d.both b.both

-- the digests of these bytes
abbrev pub digests_of : Bytes → List (List ℕ)
digests_of b = sha256 b.first ∷ sha256 b.second ∷ sha256 b.both ∷ []

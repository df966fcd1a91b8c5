use Rattle.std.proofs.Common.{◌≡◌, ◌++◌, length, drop}
use Rattle.std.specs.Prelude.{option_map}
use Rattle.hy_words.specs.Readings.{roles_of}
use Rattle.hy_words.proofs.readings.turns_of.Given as goal

-- the roles so far, with those of the letters left, are those of all letters
abbrev pub invariant-loop-letter : goal.invariant-loop-letter
invariant-loop-letter l = record {
  all : option_map (λ left. l.roles.items ++ left) (roles_of (drop l.letter-index l.letters)) ≡ roles_of l.letters;
  count : length l.roles.items ≡ l.letter-index;
}

use Rattle.std.proofs.Common.{◌≡◌, map, drop}
use Rattle.c_reader.specs.Tokens.{found_in}
use Rattle.c_reader.proofs.tables.found_in.Given as goal

abbrev pub invariant-loop-spelling : goal.invariant-loop-spelling
invariant-loop-spelling g l = found_in (map (λ e. (e.0.now, e.1)) l.fn.entries) l.text ≡ found_in (map (λ e. (e.0.now, e.1)) (drop l.spelling-index l.fn.entries)) l.text

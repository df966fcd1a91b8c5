use Rattle.std.proofs.Common.{◌≡◌, ℕ, List, ◌||◌, drop}
use Rattle.json_values.specs.Names.{holds}
use Rattle.json_values.specs.Walk.{is_among}
use Rattle.json_values.specs.File.{names_of_role}
use Rattle.json_values.proofs.file.port_names.Given as goal

abbrev pub invariant-loop-port : goal.invariant-loop-port
invariant-loop-port l = (name : List ℕ) → (holds name l.names || is_among name (names_of_role l.role (drop l.port-index l.ports))) ≡ is_among name (names_of_role l.role l.ports)

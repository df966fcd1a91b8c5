use Rattle.std.proofs.Common.{◌≡◌, ℕ, List, ◌||◌, map, drop}
use Rattle.json_values.specs.Names.{holds}
use Rattle.json_values.specs.Walk.{is_among, names_of, named}
use Rattle.json_values.proofs.walk.field_names.Given as goal

abbrev pub invariant-loop-field : goal.invariant-loop-field
invariant-loop-field l = (name : List ℕ) → (holds name l.names || is_among name (names_of (map named (drop l.field-index l.fields)))) ≡ is_among name (names_of (map named l.fields))

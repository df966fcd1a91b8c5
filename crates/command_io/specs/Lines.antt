-- Lines of faults of words and files: compact JSON, whose members stand in the order of their names, and a newline.
use Rattle.std.specs.Prelude.{ℕ, List, ◌++◌, codes}
use Rattle.json.specs.Print.{quoted}

abbrev pub words_line : List ℕ
words_line = codes "{\"fault\":\"Words\"}\n"

abbrev pub file_fault_line : List ℕ → List ℕ
file_fault_line name = codes "{\"fault\":\"FileFault\",\"name\":" ++ quoted name ++ codes "}\n"

abbrev pub too_long_line : List ℕ → List ℕ
too_long_line name = codes "{\"fault\":\"TooLong\",\"name\":" ++ quoted name ++ codes "}\n"

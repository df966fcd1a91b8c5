-- The printed lines of runs: compact JSON and a newline.
use Rattle.std.specs.Prelude.{ℕ, List, ◌++◌, codes, decimal}
use Rattle.json.specs.Print.{quoted}

-- the line of a run that opened this number
abbrev pub run_line : ℕ → List ℕ
run_line out = codes "{\"bound\":0,\"out\":" ++ decimal out ++ codes "}\n"

abbrev pub form_line : List ℕ → List ℕ
form_line name = codes "{\"fault\":\"Form\",\"name\":" ++ quoted name ++ codes "}\n"

-- The program of generated work: the least squared distance of N points of one party from a point of the other.
use Rattle.std.specs.Prelude.{ℕ, ◌*◌, ◌++◌, List, [], ◌∷◌, codes, decimal}

abbrev pub Text : Type 0
Text = List ℕ

-- a line with its newline
abbrev pub line : Text → Text
line text = text ++ 10 ∷ []

-- the greatest number of which there is work
abbrev pub work_limit : ℕ
work_limit = 256

-- how many points the work of a number has
abbrev pub points_of : ℕ → ℕ
points_of number = 8 * number

-- what stands before the number of points
abbrev pub source_head : Text
source_head = line (codes "#include <stdint.h>") ++ codes "#define N "

-- what stands after the number of points
abbrev pub source_tail : Text
source_tail =
    line (codes "")
    ++ line (codes "#define D 4")
    ++ line (codes "uint32_t mpc_main(uint32_t INPUT_A_p[N][D], uint32_t INPUT_B_q[D])")
    ++ line (codes "{")
    ++ line (codes "    uint32_t best = 0xffffffff;")
    ++ line (codes "    for (int i = 0; i < N; i++) {")
    ++ line (codes "        uint32_t sum = 0;")
    ++ line (codes "        for (int j = 0; j < D; j++) {")
    ++ line (codes "            uint32_t d = INPUT_A_p[i][j] - INPUT_B_q[j];")
    ++ line (codes "            sum += d * d;")
    ++ line (codes "        }")
    ++ line (codes "        if (sum < best) best = sum;")
    ++ line (codes "    }")
    ++ line (codes "    return best;")
    ++ line (codes "}")

abbrev pub source_of : ℕ → Text
source_of number = source_head ++ decimal (points_of number) ++ source_tail

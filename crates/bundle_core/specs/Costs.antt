-- The problem of a bundle: what each module costs by its choice, and each fan by the sharings of its two ends.
-- Source: HyCC (CCS 2018), section 5; the conversions are those of ABY (NDSS 2015).
use Rattle.std.specs.Prelude.{ℕ, ◌==◌, ◌+◌, ◌*◌, ◌^◌, ◌<◌, Bool, false, List, [], ◌∷◌, Option, None, Some, filter, get_or, length, map, option_map, slice_get}
use Rattle.std.specs.List.{All, enumerate_from, flat_map, fold, list_any, sum_by}
use Rattle.std.specs.Str.{bytes_eq}
use Rattle.std.specs.Ordering.{nat_cmp}
use Rattle.std.specs.Cmp.Lexicographic.{slice_cmp}
use Rattle.std.specs.declared.cmp.Ordering.{Ordering}
use Rattle.std.specs.declared.cmp.Ordering.TheVariants.{Less, Equal, Greater}
use Rattle.hy_bits.specs.declared.width.Width.{Width}
use Rattle.hy_bits.specs.declared.width.Width.TheVariants.{W1, W8, W16, W32, W64}
use Rattle.word_graph.specs.declared.entry.Entry.{Entry}
use Rattle.word_graph.specs.Term.{width_at}
use Rattle.module_split.specs.declared.module.Module.{Module}
use Rattle.module_split.specs.Cut.{below}
use Rattle.ring_net.specs.Ring.{Ring, product_count}
use Rattle.gate_net.specs.Circuit.{Circuit}
use Rattle.gate_net.specs.Meaning.{and_count, depth_of}
use Rattle.choice_core.specs.declared.problems.Costs.{Costs}
use Rattle.choice_core.specs.declared.problems.Fan.{Fan}
use Rattle.choice_core.specs.declared.problems.Table.{Table}
use Rattle.choice_core.specs.declared.sharings.Sharing.{Sharing}
use Rattle.choice_core.specs.declared.sharings.Sharing.TheVariants.{Arithmetic, Boolean, Yao}
use Rattle.choice_core.specs.Problems.{Row}
use Rattle.bundle_core.specs.declared.parts.Parts.{Parts}
use Rattle.bundle_core.specs.declared.parts.Variant.{Variant}

-- the numbers of a table are below 2^32
pub record IsSmall (t : Table) : Type 0 where
  pub products : All (λ n. n < 2 ^ 32) t.a_mul
  pub a2b : All (λ n. n < 2 ^ 32) t.a2b
  pub a2y : All (λ n. n < 2 ^ 32) t.a2y
  pub b2a : All (λ n. n < 2 ^ 32) t.b2a
  pub b2y : All (λ n. n < 2 ^ 32) t.b2y
  pub y2a : All (λ n. n < 2 ^ 32) t.y2a
  pub y2b : All (λ n. n < 2 ^ 32) t.y2b
  pub b_and : t.b_and < 2 ^ 32
  pub b_level : t.b_level < 2 ^ 32
  pub y_and : t.y_and < 2 ^ 32

-- ---- own costs

-- at A: the products of two variables, by their width
abbrev pub ring_cost : Table → Ring → ℕ
ring_cost t r =
    product_count W8 r.gates * get_or t.a_mul 0 0 + product_count W16 r.gates * get_or t.a_mul 1 0
    + product_count W32 r.gates * get_or t.a_mul 2 0 + product_count W64 r.gates * get_or t.a_mul 3 0

-- at Y: the And gates
abbrev pub yao_cost : Table → Circuit → ℕ
yao_cost t n = and_count n.gates * t.y_and

-- at B: the And gates, and the And gates on the longest path
abbrev pub boolean_cost : Table → Circuit → ℕ
boolean_cost t n = and_count n.gates * t.b_and + depth_of n * t.b_level

-- the costs of a module, by the choices A, Y, C and S
abbrev pub own_costs : Table → Variant → Row
own_costs t v = option_map (ring_cost t) v.ring ∷ Some (yao_cost t v.compact) ∷ Some (boolean_cost t v.compact) ∷ Some (boolean_cost t v.shallow) ∷ []

-- ---- conversions

-- the place of a width in the table's rows of conversions
abbrev pub width_place : Width → ℕ
width_place W1 = 0
width_place W8 = 1
width_place W16 = 2
width_place W32 = 3
width_place W64 = 4

-- the table's row of conversions from one sharing to another; between equal ones nothing is to pay
abbrev pub conversions : Table → Sharing → Sharing → List ℕ
conversions t Arithmetic Arithmetic = []
conversions t Arithmetic Boolean = t.a2b
conversions t Arithmetic Yao = t.a2y
conversions t Boolean Arithmetic = t.b2a
conversions t Boolean Boolean = []
conversions t Boolean Yao = t.b2y
conversions t Yao Arithmetic = t.y2a
conversions t Yao Boolean = t.y2b
conversions t Yao Yao = []

-- the price of one word of a width, and of the words of the nodes at these places
abbrev pub word_price : Table → Sharing → Sharing → Width → ℕ
word_price t s u w = get_or (conversions t s u) (width_place w) 0

abbrev pub words_price : Table → List Entry → List ℕ → Sharing → Sharing → ℕ
words_price t es places s u = sum_by (λ k. word_price t s u (width_at es k)) places

-- the prices from a sharing, by the rank of the other one
abbrev pub prices_from : Table → List Entry → List ℕ → Sharing → List ℕ
prices_from t es places s = words_price t es places s Arithmetic ∷ words_price t es places s Boolean ∷ words_price t es places s Yao ∷ []

abbrev pub prices : Table → List Entry → List ℕ → List (List ℕ)
prices t es places = prices_from t es places Arithmetic ∷ prices_from t es places Boolean ∷ prices_from t es places Yao ∷ []

-- ---- fans

-- a module uses the node at place k
abbrev pub uses : Option Module → ℕ → Bool
uses None k = false
uses (Some part) k = list_any (λ used. used == k) part.ins

-- the modules that use it, ascending
abbrev pub consumers : List Module → ℕ → List ℕ
consumers list k = filter (λ m. uses (slice_get list m) k) (below (length list))

-- a list of modules among others, which are in lexicographic order, each once
abbrev pub with_list_by : Ordering → List ℕ → List ℕ → List (List ℕ) → List (List ℕ) → List (List ℕ)
with_list_by Less xs ys lists more = xs ∷ ys ∷ lists
with_list_by Equal xs ys lists more = ys ∷ lists
with_list_by Greater xs ys lists more = ys ∷ more

abbrev pub with_list : List ℕ → List (List ℕ) → List (List ℕ)
with_list xs [] = xs ∷ []
with_list xs (ys ∷ lists) = with_list_by (slice_cmp nat_cmp xs ys) xs ys lists (with_list xs lists)

-- a list of consumers among others; a word that no module uses has none
abbrev pub with_consumers : List (List ℕ) → List ℕ → List (List ℕ)
with_consumers lists [] = lists
with_consumers lists (m ∷ ms) = with_list (m ∷ ms) lists

-- the lists of consumers of these words, in lexicographic order
abbrev pub lists_of : List Module → List ℕ → List (List ℕ)
lists_of list places = fold with_consumers [] (map (consumers list) places)

-- those of the words that these modules, and no others, use
abbrev pub words_to : List Module → List ℕ → List ℕ → List ℕ
words_to list places to = filter (λ k. bytes_eq (consumers list k) to) places

-- the fan of a producer's words to these modules
abbrev pub fan_to : Table → List Entry → List Module → (from : ℕ) → List ℕ → List ℕ → Fan
fan_to t es list from places to = record { from = from; to = to; price = prices t es (words_to list places to) }

-- the fans of a producer
abbrev pub fans_from : Table → List Entry → List Module → ℕ × Module → List Fan
fans_from t es list producer = map (fan_to t es list producer.0 producer.1.outs) (lists_of list producer.1.outs)

-- the fans of all producers, in order
abbrev pub fans_of : Table → List Entry → List Module → List Fan
fans_of t es list = flat_map (fans_from t es list) (enumerate_from 0 list)

-- ---- the problem

abbrev pub problem_of : Parts → Costs
problem_of b = record { own = map (own_costs b.table) b.variants; fans = fans_of b.table b.graph b.modules.list }

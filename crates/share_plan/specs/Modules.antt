-- Modules: for each in order the conversions of the words that it takes from other modules, by producer and then by word, without those that an
-- earlier module had in the same sharing; then its gates by depth.
use Rattle.std.specs.Prelude.{ℕ, ◌==◌, ◌+◌, List, [], ◌∷◌, Option, None, Some, drop, filter, length, map, slice_index, slice_set}
use Rattle.std.specs.List.{flat_map, fold}
use Rattle.hy_bits.specs.Words.{bits}
use Rattle.word_graph.specs.declared.entry.Entry.{Entry}
use Rattle.word_graph.specs.Term.{width_at}
use Rattle.module_split.specs.declared.module.EdgeWords.{EdgeWords}
use Rattle.module_split.specs.declared.module.Module.{Module}
use Rattle.ring_net.specs.Ring.{Ring, depths_of}
use Rattle.gate_net.specs.declared.literal.Lit.{Lit}
use Rattle.gate_net.specs.Circuit.{Circuit}
use Rattle.gate_net.specs.Meaning.{as_levels, wires}
use Rattle.choice_core.specs.declared.sharings.Choice.{Choice}
use Rattle.choice_core.specs.declared.sharings.Choice.TheVariants.{A, Y, C, S}
use Rattle.choice_core.specs.declared.sharings.Sharing.{Sharing}
use Rattle.choice_core.specs.declared.sharings.Sharing.TheVariants.{Arithmetic, Boolean, Yao}
use Rattle.choice_core.specs.Choices.{sharing_of}
use Rattle.bundle_core.specs.declared.parts.Variant.{Variant}
use Rattle.share_core.specs.Machine.{listed}
use Rattle.share_plan.specs.declared.held.Held.{Held}
use Rattle.plan_script.specs.Script.{Script, with_code, with_shares}
use Rattle.plan_script.specs.Conversions.{conversion}
use Rattle.share_plan.specs.Held.{Work, held_at, held_in, holding, make_in, place_in}
use Rattle.plan_script.specs.Gates.{lit_code, net_instrs, ring_instrs, variable_code}
use Rattle.plan_script.specs.Levels.{by_depth}

-- ---- conversions

-- the words that a module takes from other modules, by producer and then by word
abbrev pub words_into : List EdgeWords → (m : ℕ) → List ℕ
words_into edges m = flat_map (λ (e : EdgeWords). e.words) (filter (λ (e : EdgeWords). e.to == m) edges)

-- a word that the module takes in the sharing `to`, converted from the sharing of the module that makes it
abbrev pub converted : Option Sharing → List Entry → (to : Sharing) → (node : ℕ) → Work → Work
converted None es to node work = work
converted (Some from) es to node work = holding to node work.held (conversion from to (width_at es node) (place_in from (held_at work.held node)) work.script)

-- unless it is held in that sharing
abbrev pub converted_if : Option ℕ → List Entry → (to : Sharing) → (node : ℕ) → Work → Work
converted_if (Some at) es to node work = work
converted_if None es to node work = converted (held_at work.held node).maker es to node work

unfoldable pub with_word : List Entry → (to : Sharing) → Work → (node : ℕ) → Work
with_word es to work node = converted_if (held_in to (held_at work.held node)) es to node work

-- ---- the words of nodes as inputs of a circuit

-- n codes from a place on
abbrev pub codes_from : List ℕ → (place n : ℕ) → List ℕ
codes_from codes place n = listed n (λ k. slice_index codes (place + k))

abbrev pub bit_codes : List Entry → Sharing → Work → List ℕ → List ℕ
bit_codes es sharing work nodes = flat_map (λ k. codes_from work.script.codes (place_in sharing (held_at work.held k)) (bits (width_at es k))) nodes

abbrev pub word_codes : List Held → List ℕ → List ℕ
word_codes held nodes = map (λ k. place_in Arithmetic (held_at held k)) nodes

-- ---- where a circuit's outputs stand

-- a word whose codes stand from a place on, and the place after them
unfoldable pub hold_bits : List Entry → Sharing → ℕ × List Held → (node : ℕ) → ℕ × List Held
hold_bits es sharing (place, held) node = (place + bits (width_at es node), slice_set held node (make_in sharing place (held_at held node)))

-- a word at A, which has the code of this number among these, and the number after it
unfoldable pub hold_word : (codes : List ℕ) → ℕ × List Held → (node : ℕ) → ℕ × List Held
hold_word codes (number, held) node = (number + 1, slice_set held node (make_in Arithmetic (slice_index codes number) (held_at held node)))

-- the code of an output, after the others
unfoldable pub with_out : (ins : List ℕ) → (base : ℕ) → Script → Lit → Script
with_out ins base s l = with_code (lit_code ins base l) s

-- ---- a module's gates, where its words are at hand

-- the depths of the gates alone
abbrev pub net_depths : Circuit → List ℕ
net_depths net = drop (1 + net.ins) (wires as_levels [] net)

abbrev pub ring_depths : Ring → List ℕ
ring_depths ring = drop (length ring.ins) (depths_of ring)

-- at B or Y; the codes of its outputs follow in the list of codes
abbrev pub net_script : Sharing → Circuit → (ins : List ℕ) → Script → Script
net_script sharing net ins s = by_depth sharing (net_instrs sharing ins s.shares net.gates) (net_depths net) (with_shares (length net.gates) s)

unfoldable pub with_net : List Entry → Sharing → Module → Circuit → Work → Work
with_net es sharing part net work =
    let ins = bit_codes es sharing work part.ins in
    let done = net_script sharing net ins work.script in
    record { script = fold (with_out ins work.script.shares) done net.outs; held = (fold (hold_bits es sharing) (length done.codes, work.held) part.outs).1 }

-- at A
abbrev pub ring_script : Ring → (ins : List ℕ) → Script → Script
ring_script ring ins s = by_depth Arithmetic (ring_instrs ins s.shares ring.gates) (ring_depths ring) (with_shares (length ring.gates) s)

unfoldable pub with_ring : Module → Ring → Work → Work
with_ring part ring work =
    let ins = word_codes work.held part.ins in
    record { script = ring_script ring ins work.script; held = (fold (hold_word (map (variable_code ins work.script.shares) ring.outs)) (0, work.held) part.outs).1 }

abbrev pub with_ring_if : Module → Option Ring → Work → Work
with_ring_if part None work = work
with_ring_if part (Some ring) work = with_ring part ring work

-- the chosen circuit: Y and C take the compact one, S the shallow one
abbrev pub with_gates : List Entry → Module → Variant → Choice → Work → Work
with_gates es part variant A work = with_ring_if part variant.ring work
with_gates es part variant Y work = with_net es Yao part variant.compact work
with_gates es part variant C work = with_net es Boolean part variant.compact work
with_gates es part variant S work = with_net es Boolean part variant.shallow work

-- ---- modules

-- a module that takes these words from others
unfoldable pub with_module : List Entry → (words : List ℕ) → Module → Variant → Choice → Work → Work
with_module es words part variant c work = with_gates es part variant c (fold (with_word es (sharing_of c)) work words)

-- those from number m on, in order
unfoldable pub with_modules : List Entry → List EdgeWords → (m : ℕ) → List Module → List Variant → List Choice → Work → Work
with_modules es edges m [] variants choices work = work
with_modules es edges m (part ∷ parts) [] choices work = work
with_modules es edges m (part ∷ parts) (variant ∷ variants) [] work = work
with_modules es edges m (part ∷ parts) (variant ∷ variants) (c ∷ choices) work = with_modules es edges (m + 1) parts variants choices (with_module es (words_into edges m) part variant c work)

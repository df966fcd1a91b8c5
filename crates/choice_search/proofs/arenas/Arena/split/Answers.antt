use Rattle.std.proofs.Common.{◌≡◌, ℕ, ◌+◌, ◌-◌, ◌^◌, ◌<◌, List, length, take, set, get_or, ◌∙◌, ap, refl, rules, arith, length-append}
use Rattle.std.proofs.lemmas.List.{length-map, get_or_read, get_or_append_left}
use Rattle.choice_core.specs.declared.sharings.Choice.{Choice}
use Rattle.choice_core.specs.declared.sharings.Choice.TheVariants.{A}
use Rattle.choice_search.specs.declared.arenas.Node.{Node}
use Rattle.choice_search.specs.Arenas.{node_at, choices_at, with_children, split_at}
use Rattle.choice_search.proofs.Prefixes.{choices_few}
use Rattle.choice_search.proofs.arenas.Arena.split.Goals as goal

children_size : (nodes : List Node) (i : ℕ) (cs : List Choice) → length (with_children nodes i cs) ≡ length nodes + length cs
children_size nodes i cs = length-append nodes _ ∙ ap (λ (n : ℕ). length nodes + n) (length-map cs _)

is_split : (nodes new : List Node) (i : ℕ) (cs : List Choice) (node : Node) (first count : ℕ) → new ≡ with_children nodes i cs → i < length nodes → node ≡ get_or new i node → first ≡ length nodes → count ≡ length cs → set new i (record node { first = first; count = count }) ≡ split_at nodes i cs
is_split nodes new i cs node first count is within read first_is count_is =
    let size = ap length is ∙ children_size nodes i cs in
    let there : node ≡ node_at nodes i = get_or_read new i node (omega (arith, size, within)) read (record { parent = 0; choice = A; first = 0; count = 0 }) ∙ ap (λ (ns : List Node). node_at ns i) is ∙ get_or_append_left nodes _ _ i within in
    rw (is, first_is, count_is, there) refl

pub overflow_cast-count : goal.overflow_cast-count
overflow_cast-count c =
    let few = choices_few c.args.problem.now (take c.args.found.depth c.args.path.now) in
    let size = ap length c.in_ok-extend.ensures.nodes ∙ children_size c.args.self.now.nodes.items c.args.found.number (choices_at c.args.problem.now (take c.args.found.depth c.args.path.now)) in
    let after = c.len.ensures in
    let before = c.len-first.ensures in
    let fits : c.len.result - c.len-first.result < 2 ^ 32 = omega (arith, few, size, after, before, c.extend.new.self.nodes.ok, c.args.self.now.nodes.ok) in
    search rules

pub returns-clause-nodes : goal.returns-clause-nodes
returns-clause-nodes c =
    let size = ap length c.in_ok-extend.ensures.nodes ∙ children_size c.args.self.now.nodes.items c.args.found.number (choices_at c.args.problem.now (take c.args.found.depth c.args.path.now)) in
    let after = c.len.ensures in
    let before = c.len-first.ensures in
    is_split c.args.self.now.nodes.items c.extend.new.self.nodes.items c.args.found.number (choices_at c.args.problem.now (take c.args.found.depth c.args.path.now)) c.index-node.result.now c.len-first.result (c.len.result - c.len-first.result) c.in_ok-extend.ensures.nodes c.requires.number c.index-node.ensures
    (omega (arith, before, c.args.self.now.nodes.ok)) (omega (arith, size, after, before, c.extend.new.self.nodes.ok, c.args.self.now.nodes.ok))

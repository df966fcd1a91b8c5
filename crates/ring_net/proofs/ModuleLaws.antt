-- Laws of modules: one of the arithmetic class is a part that a ring circuit computes.
use Rattle.std.proofs.Common.{◌≡◌, ℕ, ◌<◌, ◌≤◌, Bool, true, false, List, Option, Some, None, get_or, take, length, slice_get, refl, sym, ap, ◌∙◌, subst, arith}
use Rattle.std.specs.Prelude.{nat_le}
use Rattle.std.specs.List.{list_all}
use Rattle.std.proofs.lemmas.Bool.{leb-true}
use Rattle.std.proofs.lemmas.List.{length-map}
use Rattle.std.proofs.lemmas.List.Elements.{Contains-append_right}
use Rattle.std.proofs.lemmas.List.Sums.{AllPass-from_list_all}
use Rattle.std.proofs.lemmas.List.FromFn.{length-range_with_len, get_or-map-range_with_len}
use Rattle.hy_bits.specs.declared.op.Op.{Op}
use Rattle.hy_bits.specs.declared.op.Op.TheVariants.{In, Const, Add, Sub, Mul, Neg, Trunc}
use Rattle.hy_bits.specs.Words.{bits}
use Rattle.word_graph.specs.declared.entry.Entry.{Entry}
use Rattle.word_graph.specs.declared.entry.Node.{Node}
use Rattle.word_graph.specs.Shape.{IsGraph}
use Rattle.module_split.specs.declared.homes.Group.{Group}
use Rattle.module_split.specs.declared.homes.Home.{Home}
use Rattle.module_split.specs.declared.homes.Home.TheVariants.{Input, Constant, Inside}
use Rattle.module_split.specs.declared.module.Class.TheVariants.{Arithmetic}
use Rattle.module_split.specs.declared.module.Module.{Module}
use Rattle.module_split.specs.Homes.{group_of, groups_of, home_at, home_of_operation, homes_of, is_arithmetic, is_ring, is_ring_operation, layer_of}
use Rattle.module_split.specs.Cut.{below, class_of, ins_of, is_just, module_of, nodes_of, number_in, numbers_of, order_of, outs_of}
use Rattle.module_split.specs.Modules.{IsPiece}
use Rattle.module_split.proofs.PieceLaws.{IsPiece-of-nodes, and_parts, home-entry, node-of, number-home}
use Rattle.ring_net.specs.Part.{IsPart, IsRingModule, IsRingOperation}

-- ---- homes and numbers

no_number : (m : ℕ) → is_just None m ≡ true → ⊥
no_number m t = cc

-- a node of the arithmetic class that lies in a module has a group of the arithmetic class
ring_group : (layers : ℕ) (order : List Group) (h : Home) (m : ℕ) → is_just (number_in order (group_of layers h)) m ≡ true → is_arithmetic h ≡ true → (g : Group) × (h ≡ Inside g) × (g.ring ≡ true)
ring_group layers order Input m t a = absurd (no_number m t)
ring_group layers order Constant m t a = absurd (no_number m t)
ring_group layers order (Inside g) m t a = (g, refl, a)

-- the group of an operation's node
made_group : (op : Op) (made g : Group) → home_of_operation op made ≡ Inside g → made ≡ g
made_group In made g e = absurd (cc)
made_group Const made g e = absurd (cc)
made_group _ made g e = cc

ring_operation : (op : Op) (first : Home) → is_ring_operation op first ≡ true → IsRingOperation op
ring_operation Add first e = tt
ring_operation Sub first e = tt
ring_operation Mul first e = tt
ring_operation Neg first e = tt
ring_operation Trunc first e = tt
ring_operation _ first e = absurd (cc)

class-arithmetic : (b : Bool) → class_of b ≡ Arithmetic → b ≡ true
class-arithmetic true e = refl
class-arithmetic false e = absurd (cc)

-- ---- a module of the arithmetic class

module _ (es : List Entry) (results : List Node) (layers m : ℕ) (graph : IsGraph es) where
  abbrev order : List Group
  order = order_of layers (groups_of layers es)

  abbrev numbers : List (Option ℕ)
  numbers = numbers_of order (groups_of layers es)

  abbrev nodes : List ℕ
  nodes = nodes_of numbers m

  abbrev ins : List ℕ
  ins = ins_of es numbers m

  abbrev outs : List ℕ
  outs = outs_of es numbers results m

  module _ (ring : list_all (λ k. is_arithmetic (home_at (homes_of layers es) k)) nodes ≡ true) where
    node-ring : (i : ℕ) (e : Entry) → i < length nodes → slice_get es (get_or nodes i 0) ≡ Some e → IsRingOperation e.op × (8 ≤ bits e.width)
    node-ring i e h s =
        let k : ℕ = get_or nodes i 0 in
        let home : Home = home_at (homes_of layers es) k in
        let so_far : List Home = homes_of layers (take k es) in
        let made : Group = record { ring = is_ring so_far e; layer = layer_of layers so_far e; region = e.region } in
        let numbered : is_just (number_in order (group_of layers home)) m ≡ true = ap (λ (o : Option ℕ). is_just o m) (sym (number-home es results layers m graph k)) ∙ node-of es results layers m graph i h in
        let rg = ring_group layers order home m numbered (AllPass-from_list_all (λ j. is_arithmetic (home_at (homes_of layers es) j)) nodes ring i 0 h) in
        let is : is_ring so_far e ≡ true = ap (λ (g : Group). g.ring) (made_group e.op made rg.0 (sym (home-entry es results layers m graph k e s) ∙ rg.1)) ∙ rg.2 in
        let parts = and_parts (nat_le 8 (bits e.width)) (is_ring_operation e.op (home_at so_far (get_or e.args 0 0))) is in
        (ring_operation e.op (home_at so_far (get_or e.args 0 0)) parts.1, leb-true 8 (bits e.width) parts.0)

    pub IsPart-of-nodes : IsPart es nodes ins outs
    IsPart-of-nodes =
        let piece : IsPiece es nodes ins outs = IsPiece-of-nodes es results layers m graph in
        record {
          over = λ i e h s. let r = node-ring i e h s in record { operation = r.0; wide = r.1; known = λ k within none. piece.known i k e h s within none };
          distinct = piece.distinct;
          stand = piece.stand;
          among = λ k d h. Contains-append_right ins nodes (get_or outs k d) (piece.among k d h);
          few = omega (arith, piece.few);
        }

-- a module of the arithmetic class is a part
pub IsPart-of-module : (es : List Entry) (nodes ins outs : List ℕ) → IsGraph es → IsRingModule es nodes ins outs → IsPart es nodes ins outs
IsPart-of-module es nodes ins outs graph r =
    let order : List Group = order_of r.layers (groups_of r.layers es) in
    let numbers : List (Option ℕ) = numbers_of order (groups_of r.layers es) in
    let cut_at : ℕ → Module = module_of es (homes_of r.layers es) order numbers r.results in
    let m : ℕ = r.cut.0 in
    let within : m < length order = omega (arith, r.cut.1, length-map (below (length order)) cut_at, length-range_with_len 0 (length order)) in
    let is : cut_at m ≡ r.part = sym (get_or-map-range_with_len cut_at 0 (length order) m m r.part within (omega arith)) ∙ r.cut.2 in
    let ring : list_all (λ k. is_arithmetic (home_at (homes_of r.layers es) k)) (nodes_of numbers m) ≡ true = class-arithmetic _ (ap (λ (p : Module). p.class) is ∙ r.ring) in
    let part : IsPart es (cut_at m).nodes (cut_at m).ins (cut_at m).outs = IsPart-of-nodes es r.results r.layers m graph ring in
    let same_nodes : (cut_at m).nodes ≡ nodes = ap (λ (p : Module). p.nodes) is ∙ r.same_nodes in
    let same_ins : (cut_at m).ins ≡ ins = ap (λ (p : Module). p.ins) is ∙ r.same_ins in
    let same_outs : (cut_at m).outs ≡ outs = ap (λ (p : Module). p.outs) is ∙ r.same_outs in
    subst (λ (xs : List ℕ). IsPart es nodes ins xs) same_outs
    (subst (λ (xs : List ℕ). IsPart es nodes xs (cut_at m).outs) same_ins
    (subst (λ (xs : List ℕ). IsPart es xs (cut_at m).ins (cut_at m).outs) same_nodes part))

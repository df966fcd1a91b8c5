use Rattle.std.proofs.Common.{ℕ, ◌<◌, length, get_or, refl, ◌∙◌, arith}
use Rattle.std.proofs.lemmas.List.{get_or_default}
use Rattle.hy_bits.specs.declared.turns.Role.TheVariants.{P0}
use Rattle.choice_core.specs.declared.sharings.Sharing.{Sharing}
use Rattle.share_plan.specs.Inputs.{with_leaf}
use Rattle.share_plan.specs.Takers.{has_taker, takers_at}
use Rattle.share_plan.proofs.InputLaws.{leaf-more, owned-more}
use Rattle.plan_script.proofs.ListLaws.{fold-below}
use Rattle.share_plan.proofs.inputs.add_inputs.Goals as goal

pub loop-leaf-preserved : goal.loop-leaf-preserved
loop-leaf-preserved c =
    let within : c.loop-leaf.leaf < length c.args.owners.now = c.loop-leaf-test.true in
    record {
      work = fold-below (with_leaf (λ (sharing : Sharing) (node : ℕ). has_taker sharing (takers_at c.args.takers.now node)) c.args.entries.now c.args.owners.now) _ c.loop-leaf.leaf _ _ c.loop-leaf.invariant.work
          (leaf-more (λ (sharing : Sharing) (node : ℕ). has_taker sharing (takers_at c.args.takers.now node)) c.args.entries.now c.args.owners.now c.loop-leaf.leaf (get_or c.args.owners.now c.loop-leaf.leaf P0) c.by-number.result c.node_at-node.result _ _
          refl (c.by-number.ensures ∙ c.loop-leaf.invariant.owned (get_or c.args.owners.now c.loop-leaf.leaf P0)) (c.node_at-node.ensures ∙ c.requires.nodes c.loop-leaf.leaf (omega (arith, within, c.requires.size))) c.in_ok-add_leaf.ensures);
      owned = owned-more c.args.owners.now c.loop-leaf.leaf (get_or c.args.owners.now c.loop-leaf.leaf P0) c.loop-leaf.owned c.in_ok-owned.owned within (get_or_default c.args.owners.now c.loop-leaf.leaf P0 (get_or c.args.owners.now c.loop-leaf.leaf P0) within) c.in_ok-owned.ensures c.loop-leaf.invariant.owned;
    }

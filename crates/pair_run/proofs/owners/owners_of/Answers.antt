use Rattle.std.proofs.Common.{◌++◌, length, replicate, sym, ap, ◌∙◌}
use Rattle.hy_bits.specs.Shape.{leaves}
use Rattle.pair_run.proofs.OwnerLaws.{owners-more}
use Rattle.pair_run.proofs.owners.owners_of.Goals as goal

pub loop-port-preserved : goal.loop-port-preserved
loop-port-preserved c =
    c.in_ok-add_owners.ensures ∙ ap (λ xs. xs ++ replicate (length (leaves c.port-item.result.shape)) c.port-item.result.role) c.loop-port.invariant
    ∙ sym (owners-more c.args.ports.now c.loop-port.port-index c.port-item.result c.loop-port-test.true c.port-item.is)

use Rattle.command_io.proofs.Ending.{ends_of, ends_well}
use Rattle.plain_command.proofs.command.plain_with.Goals as goal

pub returns : goal.returns
returns g c = record {
  ends = ends_of _ c.run-outcome.result _ _ _ _ _ c.run-outcome.ensures.ending c.conclude.ensures;
  complete = λ job reads sink. ends_well c.run-outcome.result _ _ _ _ _ (c.run-outcome.ensures.complete job reads) c.conclude.ensures sink;
  store = c.run-outcome.ensures.store;
}

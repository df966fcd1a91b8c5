use Rattle.command_io.proofs.Ending.{ends_of, ends_zero}
use Rattle.hycc_top.proofs.Runs.{run_of_job}
use Rattle.hycc_top.proofs.exec.exec_with.Goals as goal

pub returns : goal.returns
returns g c =
    let ends = ends_of _ c.run-outcome.result _ _ _ _ _ c.run-outcome.ensures.ending c.conclude.ensures in
    record {
      ends = ends;
      complete = λ job reads sink. ends_zero _ _ _ _ _ _ (λ own line so. run_of_job _ _ _ _ _ _ own line job reads so) ends sink;
      store = c.run-outcome.ensures.store;
    }

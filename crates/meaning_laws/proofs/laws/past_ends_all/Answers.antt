use Rattle.meaning_laws.proofs.Pasts.{nothing_runs, past_zeros}
use Rattle.meaning_laws.proofs.laws.past_ends_all.Goals as goal

pub returns : goal.returns
returns c = record { statements = nothing_runs; run = past_zeros }

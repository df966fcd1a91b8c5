use Rattle.choice_search.proofs.Few.{many_modules}
use Rattle.choice_search.proofs.laws.many_open_means_many_modules.Goals as goal

pub returns : goal.returns
returns c = many_modules c.args.problem.now c.args.choices.now c.requires

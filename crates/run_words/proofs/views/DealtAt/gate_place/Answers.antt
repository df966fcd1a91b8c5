use Rattle.std.proofs.Common.{length, ap, refl, arith}
use Rattle.run_words.specs.Views.{gate_words}
use Rattle.run_words.proofs.Gates.{level_room}
use Rattle.run_words.proofs.views.DealtAt.gate_place.Goals as goal

pub overflow_add-result : goal.overflow_add-result
overflow_add-result c = omega (arith, level_room c.args.self.now.instr c.args.self.now.gates.now c.args.self.now.at _ c.args.k 5 c.requires.level c.requires.within c.args.self.now.whole (ap gate_words c.in-LevelA.is), c.len-count.ensures)

pub overflow_add-result-in-LevelB : goal.overflow_add-result-in-LevelB
overflow_add-result-in-LevelB c = omega (arith, level_room c.args.self.now.instr c.args.self.now.gates.now c.args.self.now.at _ c.args.k 1 c.requires.level c.requires.within c.args.self.now.whole (ap gate_words c.in-LevelB.is), c.len-count.ensures)

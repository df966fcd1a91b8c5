use Rattle.dealer.proofs.StreamLaws.{drawn_in_turn}
use Rattle.dealer.proofs.drawing.drawing_law.Goals as goal

pub returns : goal.returns
returns c = drawn_in_turn

-- expressions, one after another and under conditions
pub mod FollowLaws
-- operands of "&&" and "||", arguments, steps of a chain
pub mod OperandLaws
-- guards of which one or the other holds
pub mod GuardLaws
-- statements in order and under conditions
pub mod LeaveLaws
-- turns of loops
pub mod LoopLaws
-- what is seen of states that change, and of reads
pub mod SeenLaws
-- reads and writes through pointers
pub mod AccessLaws
-- calls
pub mod CallLaws

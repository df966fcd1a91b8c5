-- The marks that assign and step (C11 6.5.16, 6.5.2.4, 6.5.3.1), as tokens.
use Rattle.std.specs.Prelude.{List, ◌∷◌, [], Option, is_some, Bool, codes, unwrap_or, ℕ}
use Rattle.c_tree.specs.declared.token.Place.{Place}
use Rattle.c_tree.specs.declared.token.Token.{Token}
use Rattle.c_tree.specs.declared.token.TokenKind.TheVariants.{Mark}
use Rattle.c_tree.specs.declared.statements.AssignmentOperator.{AssignmentOperator}
use Rattle.c_tree.specs.declared.statements.AssignmentOperator.TheVariants as assign
use Rattle.c_tree.specs.declared.statements.Step.{Step}
use Rattle.c_tree.specs.declared.statements.Step.TheVariants as step
use Rattle.c_reader.specs.Tokens.{found_of}

abbrev pub assigns : List (List ℕ × AssignmentOperator)
assigns =
    (codes "=", assign.Plain) ∷ (codes "*=", assign.Multiply) ∷ (codes "/=", assign.Divide) ∷ (codes "%=", assign.Remainder) ∷ (codes "+=", assign.Add)
    ∷ (codes "-=", assign.Subtract) ∷ (codes "<<=", assign.ShiftLeft) ∷ (codes ">>=", assign.ShiftRight) ∷ (codes "&=", assign.And) ∷ (codes "^=", assign.Xor)
    ∷ (codes "|=", assign.Or) ∷ []

unfoldable pub assign_of : Token → Option AssignmentOperator
assign_of token = found_of Mark assigns token

abbrev pub is_assign : Token → Bool
is_assign token = is_some (assign_of token)

abbrev pub assign_at : Token → Place × AssignmentOperator
assign_at token = (token.place, unwrap_or (assign_of token) assign.Plain)

abbrev pub steps : List (List ℕ × Step)
steps = (codes "++", step.Increment) ∷ (codes "--", step.Decrement) ∷ []

unfoldable pub step_of : Token → Option Step
step_of token = found_of Mark steps token

abbrev pub is_step : Token → Bool
is_step token = is_some (step_of token)

abbrev pub step_at : Token → Place × Step
step_at token = (token.place, unwrap_or (step_of token) step.Increment)

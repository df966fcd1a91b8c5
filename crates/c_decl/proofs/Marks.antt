-- The readers of the marks that assign and step, and which tests by kind and text tell them.
use Rattle.std.proofs.Common.{◌≡◌, ℕ, ◌+◌, Bool, true, List, Option, Some, None, is_some, unwrap_or, refl, ap, ◌∙◌, codes}
use Rattle.c_tree.specs.Pieces.{Piece, spelled, IsWanted, StandsAt, Takes}
use Rattle.c_tree.specs.Operators.{text_of_assign, text_of_step}
use Rattle.c_tree.specs.declared.token.Place.{Place}
use Rattle.c_tree.specs.declared.token.Token.{Token}
use Rattle.c_tree.specs.declared.token.TokenKind.{TokenKind}
use Rattle.c_tree.specs.declared.token.TokenKind.TheVariants.{Mark}
use Rattle.c_tree.specs.declared.statements.AssignmentOperator.{AssignmentOperator}
use Rattle.c_tree.specs.declared.statements.AssignmentOperator.TheVariants as assign
use Rattle.c_tree.specs.declared.statements.Step.{Step}
use Rattle.c_tree.specs.declared.statements.Step.TheVariants as step
use Rattle.c_reader.specs.Reading.{take_as}
use Rattle.c_reader.specs.Tokens.{found_in}
use Rattle.c_reader.proofs.Reader.{Reads}
use Rattle.c_reader.proofs.Taking.{Single, take_reads}
use Rattle.c_reader.proofs.Beginning.{Begins, begins_single}
use Rattle.c_reader.proofs.Spelt.{by_text, AreUnder, found_yes, found_is, table_reads}
use Rattle.c_decl.specs.Marks.{assigns, assign_of, is_assign, assign_at, steps, step_of, is_step, step_at}

abbrev pub assign_piece : ℕ → Place × AssignmentOperator → Piece
assign_piece n found = record { nesting = n; place = Some found.0; want = spelled Mark (text_of_assign found.1) }

abbrev pub step_piece : ℕ → Place × Step → Piece
step_piece n found = record { nesting = n; place = Some found.0; want = spelled Mark (text_of_step found.1) }

pub assign_all : (test : TokenKind → List ℕ → Bool) (b : Bool) → test Mark (codes "=") ≡ b → test Mark (codes "*=") ≡ b → test Mark (codes "/=") ≡ b → test Mark (codes "%=") ≡ b → test Mark (codes "+=") ≡ b → test Mark (codes "-=") ≡ b
    → test Mark (codes "<<=") ≡ b → test Mark (codes ">>=") ≡ b → test Mark (codes "&=") ≡ b → test Mark (codes "^=") ≡ b → test Mark (codes "|=") ≡ b → (m : AssignmentOperator) → test Mark (text_of_assign m) ≡ b
assign_all test b h0 h1 h2 h3 h4 h5 h6 h7 h8 h9 h10 assign.Plain = h0
assign_all test b h0 h1 h2 h3 h4 h5 h6 h7 h8 h9 h10 assign.Multiply = h1
assign_all test b h0 h1 h2 h3 h4 h5 h6 h7 h8 h9 h10 assign.Divide = h2
assign_all test b h0 h1 h2 h3 h4 h5 h6 h7 h8 h9 h10 assign.Remainder = h3
assign_all test b h0 h1 h2 h3 h4 h5 h6 h7 h8 h9 h10 assign.Add = h4
assign_all test b h0 h1 h2 h3 h4 h5 h6 h7 h8 h9 h10 assign.Subtract = h5
assign_all test b h0 h1 h2 h3 h4 h5 h6 h7 h8 h9 h10 assign.ShiftLeft = h6
assign_all test b h0 h1 h2 h3 h4 h5 h6 h7 h8 h9 h10 assign.ShiftRight = h7
assign_all test b h0 h1 h2 h3 h4 h5 h6 h7 h8 h9 h10 assign.And = h8
assign_all test b h0 h1 h2 h3 h4 h5 h6 h7 h8 h9 h10 assign.Xor = h9
assign_all test b h0 h1 h2 h3 h4 h5 h6 h7 h8 h9 h10 assign.Or = h10

pub step_all : (test : TokenKind → List ℕ → Bool) (b : Bool) → test Mark (codes "++") ≡ b → test Mark (codes "--") ≡ b → (s : Step) → test Mark (text_of_step s) ≡ b
step_all test b h0 h1 step.Increment = h0
step_all test b h0 h1 step.Decrement = h1

under_assigns : AreUnder text_of_assign assigns
unfolding AreUnder
under_assigns = (refl, (refl, (refl, (refl, (refl, (refl, (refl, (refl, (refl, (refl, (refl, tt)))))))))))

found_assign : (m : AssignmentOperator) → found_in assigns (text_of_assign m) ≡ Some m
unfolding found_in
found_assign assign.Plain = refl
found_assign assign.Multiply = refl
found_assign assign.Divide = refl
found_assign assign.Remainder = refl
found_assign assign.Add = refl
found_assign assign.Subtract = refl
found_assign assign.ShiftLeft = refl
found_assign assign.ShiftRight = refl
found_assign assign.And = refl
found_assign assign.Xor = refl
found_assign assign.Or = refl

under_steps : AreUnder text_of_step steps
unfolding AreUnder
under_steps = (refl, (refl, tt))

found_step : (s : Step) → found_in steps (text_of_step s) ≡ Some s
unfolding found_in
found_step step.Increment = refl
found_step step.Decrement = refl

pub assign_reads : (most size : ℕ) (Stops : List Token → Type 0) (n left : ℕ) → n + left ≡ most + 1 → Reads (Single (assign_piece n)) most size Stops (take_as is_assign assign_at left)
unfolding assign_of
assign_reads most size Stops n left level = table_reads most size Stops Mark text_of_assign assigns assign.Plain under_assigns found_assign n left level

-- what the test of a step says of tokens that a step's piece wants, and the other way round
pub step_is : (n : ℕ) (found : Place × Step) (w : Token) → Takes (step_piece n found) w → (is_step w ≡ true) × (step_at w ≡ found)
unfolding IsWanted StandsAt step_of
step_is n found w takes =
    let is : step_of w ≡ Some found.1 = found_yes Mark steps w (text_of_step found.1) found.1 takes.0.0 takes.0.1 (found_step found.1) in
    (ap is_some is, ap (λ p. (p, unwrap_or (step_of w) step.Increment)) takes.1 ∙ ap (λ u. (found.0, unwrap_or u step.Increment)) is)

step_some : (w : Token) (found : Option Step) → step_of w ≡ found → is_some found ≡ true → (w.kind ≡ Mark) × (w.text ≡ text_of_step (unwrap_or found step.Increment))
unfolding step_of
step_some w None is some = absurd (cc)
step_some w (Some s) is some = found_is Mark text_of_step steps w s under_steps is

pub step_takes : (n : ℕ) (w : Token) → is_step w ≡ true → Takes (step_piece n (step_at w)) w
unfolding IsWanted StandsAt
step_takes n w is = (step_some w (step_of w) refl is, refl)

abbrev pub some_assign : Place × AssignmentOperator
some_assign = (record { line = 0; column = 0 }, assign.Plain)

abbrev pub some_step : Place × Step
some_step = (record { line = 0; column = 0 }, step.Increment)

pub step_reads : (most size : ℕ) (Stops : List Token → Type 0) (n left : ℕ) → n + left ≡ most + 1 → Reads (Single (step_piece n)) most size Stops (take_as is_step step_at left)
step_reads most size Stops n left level = take_reads is_step step_at most size (step_piece n) some_step (step_is n) (step_takes n) left (λ found. level) Stops

-- a test by kind and text has this answer at each of the marks
pub assign_begins : (n : ℕ) (by : TokenKind → List ℕ → Bool) (b : Bool) → ((m : AssignmentOperator) → by Mark (text_of_assign m) ≡ b) → Begins (Single (assign_piece n)) (λ w. by w.kind w.text) b
unfolding IsWanted
assign_begins n by b is = begins_single (assign_piece n) (λ w. by w.kind w.text) b (λ found w takes. by_text by Mark (text_of_assign found.1) b w takes.0.0 takes.0.1 (is found.1))

pub step_begins : (n : ℕ) (by : TokenKind → List ℕ → Bool) (b : Bool) → ((s : Step) → by Mark (text_of_step s) ≡ b) → Begins (Single (step_piece n)) (λ w. by w.kind w.text) b
unfolding IsWanted
step_begins n by b is = begins_single (step_piece n) (λ w. by w.kind w.text) b (λ found w takes. by_text by Mark (text_of_step found.1) b w takes.0.0 takes.0.1 (is found.1))

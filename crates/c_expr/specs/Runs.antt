-- Which expressions begin with some tokens, the longest run of tokens with which one begins, and which token of a list a fault names
-- (C11 6.5).
use Rattle.std.specs.Prelude.{◌≡◌, ℕ, Bool, true, false, List, [], ◌∷◌, ◌++◌, length}
use Rattle.c_reader.specs.Depths.{AreShallow}
use Rattle.c_reader.specs.Firsts.{BeginsOf, IsFirstDeep, IsUnread}
use Rattle.c_tree.specs.Folds.{wants_of_expr}
use Rattle.c_tree.specs.declared.token.Token.{Token}
use Rattle.c_tree.specs.declared.expressions.Expr.{Expr}
use Rattle.c_reader.specs.Faults.{named_word}
use Rattle.c_grammar.specs.Spelled.{SpellsExpr, ExprAt}
use Rattle.c_reader.specs.declared.faults.SyntaxFault.{SyntaxFault}
use Rattle.c_reader.specs.declared.faults.SyntaxFault.TheVariants as fault

-- the run is the longest with which some expression begins, and the token stands after it
pub record IsRun (nesting : ℕ) (tokens run : List Token) (token : Token) : Type 0 where
  pub following : List Token
  pub whole : tokens ≡ run ++ token ∷ following
  pub none : BeginsOf (ExprAt nesting) (run ++ token ∷ []) → ⊥

-- the run is an expression, of so many tokens
pub record IsTaken (nesting : ℕ) (tokens : List Token) (expr : Expr) (count : ℕ) : Type 0 where
  pub run : List Token
  pub token : Token
  pub longest : IsRun nesting tokens run token
  pub spelled_ : SpellsExpr nesting run expr
  pub shallow : AreShallow (wants_of_expr expr nesting)
  pub count_is : length run ≡ count

-- the run is no expression; and whether the token after it names a construct that is left out
pub record IsUnreadRun (nesting : ℕ) (tokens run : List Token) (token : Token) (construct : Bool) : Type 0 where
  pub unread : IsUnread (ExprAt nesting) tokens run token construct
  pub broken : (expr : Expr) → SpellsExpr nesting run expr → ⊥

unfoldable pub IsFaultOf : ℕ → List Token → SyntaxFault → Type 0
IsFaultOf nesting tokens (fault.Expected place) = (run : List Token) × ((token : Token) × (IsUnreadRun nesting tokens run token false × (token.place ≡ place)))
IsFaultOf nesting tokens (fault.Construct word place) = (run : List Token) × ((token : Token) × (IsUnreadRun nesting tokens run token true × (named_word token ≡ word) × (token.place ≡ place)))
IsFaultOf nesting tokens (fault.Deep place) = (before : List Token) × ((token : Token) × (IsFirstDeep (ExprAt nesting) tokens before token × (token.place ≡ place)))
IsFaultOf nesting tokens fault.Memory = Unit {0}

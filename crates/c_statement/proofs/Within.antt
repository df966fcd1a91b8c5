-- Statements that are parts of statements.
use Rattle.std.proofs.Common.{◌≡◌, ◌<◌, ℕ, ◌+◌, false, List, refl, ap, ◌∙◌, codes}
use Rattle.c_tree.specs.StatementFolds.{wants_of_statement, form_of_statement}
use Rattle.c_tree.specs.declared.token.Token.{Token}
use Rattle.c_tree.specs.declared.statements.Statement.{Statement}
use Rattle.c_tree.specs.declared.statements.Statement.TheVariants as statement
use Rattle.c_reader.specs.Reading.{Reader, ◌>>=◌, give}
use Rattle.c_reader.specs.Tokens.{is_word}
use Rattle.c_reader.proofs.Reader.{Language}
use Rattle.c_reader.proofs.Binding.{Both}
use Rattle.c_reader.proofs.Giving.{Given}
use Rattle.c_reader.proofs.Choosing.{FirstIs}
use Rattle.c_reader.proofs.Repeating.{given_stops}
use Rattle.c_reader.proofs.Beginning.{Begins, SomeOf}
use Rattle.c_statement.proofs.ByTree.{ReadsBy}
use Rattle.c_statement.proofs.Singles.{StatementAt, StopsElse}
use Rattle.c_statement.proofs.Steps.{Step, then_, given}
use Rattle.c_tree.proofs.StatementFoldsLaws.{form_Empty}

pub some_statement : (n : ℕ) → SomeOf (StatementAt n)
some_statement n =
    let empty = statement.Empty (record { line = 0; column = 0 }) in
    (empty, (wants_of_statement empty n, record { grammar = ap (λ f. f.is) (form_Empty (record { line = 0; column = 0 })); wants = refl }))

module _ (most size n left : ℕ) (read : Reader Statement) (I : 0 < left → ReadsBy (StatementAt (n + 1)) most size StopsElse read) where
  pub inner_step : Step most size (0 < left) (StatementAt (n + 1)) StopsElse read
  inner_step = record { by = I; some = some_statement (n + 1) }

  -- a statement before something that is no else
  pub inner_then : {C : Type 0} (StopsC : C → List Token → Type 0) (K : Statement → Language C) (g : Statement → Reader C)
      → ((s : Statement) → Step most size (0 < left) (K s) StopsC (g s)) → ((s : Statement) → Begins (K s) (is_word (codes "else")) false) → Step most size (0 < left) (Both (StatementAt (n + 1)) K) StopsC (read >>= g)
  inner_then StopsC K g G begins = then_ most size (0 < left) (StatementAt (n + 1)) K StopsElse StopsC read g inner_step G (λ s ps c qs ys rest is k fits stop open_. begins s c qs ys rest k fits)

  -- the last part of a statement, which an else could follow where it could follow the part
  pub inner_last : (make : Statement → Statement) → ((s : Statement) → (form_of_statement (make s)).open_ ≡ (form_of_statement s).open_)
      → Step most size (0 < left) (Both (StatementAt (n + 1)) (λ s. Given (make s))) StopsElse (read >>= λ s. give (make s))
  inner_last make same =
      then_ most size (0 < left) (StatementAt (n + 1)) (λ s. Given (make s)) StopsElse StopsElse read (λ s. give (make s)) inner_step
      (λ s. given most size StopsElse (0 < left) (make s))
      (λ s ps c qs ys rest is k fits stop open_. given_stops (make s) c qs ys rest (FirstIs (is_word (codes "else")) false) k fits (stop (ap (λ u. (form_of_statement u).open_) k.tree_is ∙ same s ∙ open_)))

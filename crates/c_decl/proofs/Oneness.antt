-- A list of tokens spells one simple statement, one list of objects and one list of parameters at most: where each tree is read, two
-- trees with the same tokens are the same.
use Rattle.std.proofs.Common.{◌≡◌, ℕ, suc, ◌+◌, Bool, true, List, [], ◌∷◌, ◌++◌, length, refl, arith, codes}
use Rattle.hy_bits.specs.declared.scalar.Scalar.TheVariants as scalar
use Rattle.c_tree.specs.Pieces.{Piece, Fits}
use Rattle.c_tree.specs.Declarations.{wants_of_simple, wants_of_objects, is_simple, are_objects, wants_of_parameters, are_parameters}
use Rattle.c_tree.specs.declared.token.Token.{Token}
use Rattle.c_tree.specs.declared.token.TokenKind.TheVariants.{Mark}
use Rattle.c_tree.specs.declared.statements.ExpressionStatement.{ExpressionStatement}
use Rattle.c_tree.specs.declared.statements.Declaration.{Declaration}
use Rattle.c_tree.specs.declared.programs.Parameters.{Parameters}
use Rattle.c_reader.specs.Reading.{Reader}
use Rattle.c_reader.specs.Tokens.{is_spelled, is_kind}
use Rattle.c_reader.proofs.Reader.{Of, Reads}
use Rattle.c_reader.proofs.Nesting.{limit_of, within_more, within_limit, one_of}
use Rattle.c_reader.proofs.Choosing.{FirstIs}
use Rattle.c_decl.specs.ExpressionStatements.{read_simple}
use Rattle.c_decl.specs.Declarations.{read_objects}
use Rattle.c_decl.specs.Parameters.{read_parameters}
use Rattle.c_decl.proofs.ExpressionStatements.{StopsSimple, simple_reads}
use Rattle.c_decl.proofs.Declarations.{StopsObjects, objects_reads}
use Rattle.c_decl.proofs.Parameters.{StopsParameters, parameters_reads}

-- trees that a reader reads at every level where something that stops it stands after them
one_tree : {A : Type 0} (ok : A → Bool) (f : A → ℕ → List Piece) (n : ℕ) (Followed : List Token → Type 0) (read : ℕ → ℕ → Reader A)
    → ((most size left : ℕ) → n + left ≡ most + 1 → Reads (Of ok (λ a. f a n)) most size Followed (read size left)) → (rest : List Token) → Followed rest → (a b : A) (tokens : List Token) → ok a ≡ true → ok b ≡ true → Fits (f a n) tokens → Fits (f b n) tokens → a ≡ b
one_tree ok f n Followed read R rest stop a b tokens left right fits_left fits_right =
    let d = limit_of (f a n) in
    let e = limit_of (f b n) in
    let most = n + d + e in
    let size = length (tokens ++ rest) in
    let reads = R most size (suc (d + e)) (omega arith) in
    one_of reads rest stop a b (f a n) (f b n) tokens (record { grammar = left; wants = refl }) (record { grammar = right; wants = refl }) fits_left fits_right
    (within_more d most (omega arith) (f a n) (within_limit (f a n))) (within_more e most (omega arith) (f b n) (within_limit (f b n))) (omega arith)

-- a mark that stands after a tree
abbrev ending : List ℕ → Token
ending text = record { kind = Mark; text = text; number = 0; scalar = scalar.S32; place = record { line = 0; column = 0 } }

pub one_simple : (n : ℕ) (a b : ExpressionStatement) (tokens : List Token) → is_simple a ≡ true → is_simple b ≡ true → Fits (wants_of_simple a n) tokens → Fits (wants_of_simple b n) tokens → a ≡ b
unfolding FirstIs is_spelled is_kind
one_simple n = one_tree is_simple wants_of_simple n StopsSimple read_simple (λ most size left level. simple_reads most size n left level) (ending (codes ";") ∷ []) refl

pub one_objects : (n : ℕ) (a b : Declaration) (tokens : List Token) → are_objects a ≡ true → are_objects b ≡ true → Fits (wants_of_objects a n) tokens → Fits (wants_of_objects b n) tokens → a ≡ b
unfolding FirstIs is_spelled is_kind
one_objects n = one_tree are_objects wants_of_objects n StopsObjects read_objects (λ most size left level. objects_reads most size n left level) (ending (codes ";") ∷ []) refl

pub one_parameters : (n : ℕ) (a b : Parameters) (tokens : List Token) → are_parameters a ≡ true → are_parameters b ≡ true → Fits (wants_of_parameters a n) tokens → Fits (wants_of_parameters b n) tokens → a ≡ b
unfolding FirstIs is_spelled is_kind
one_parameters n = one_tree are_parameters wants_of_parameters n StopsParameters read_parameters (λ most size left level. parameters_reads most size n left level) (ending (codes ")") ∷ []) refl

use Rattle.std.proofs.Common.{◌≡◌, ◌+◌, ◌++◌, take, drop, get_or, refl, true, false, sym, ap, ◌∙◌, arith}
use Rattle.c_tree.specs.declared.token.Token.{Token}
use Rattle.c_tree.specs.declared.token.TokenKind.TheVariants.{TypeName}
use Rattle.c_lex.specs.Typedefs.{role_of, named_token, named}
use Rattle.c_lex.specs.Scopes.{Scope, is_type, following, scoped}
use Rattle.c_lex.specs.Views.{scope_of}
use Rattle.c_lex.proofs.Declarations.{named-scoped}
use Rattle.c_lex.proofs.TypeSteps.{named-set}
use Rattle.c_lex.proofs.typedefs.name_types.Goals as goal
use Rattle.c_lex.proofs.typedefs.name_types.Goals.{then-is_type, else-is_type}

pub loop-token-preserved : goal.loop-token-preserved
loop-token-preserved c =
    let scope = scope_of c.loop-token.scope in
    let token : Token = get_or c.loop-token.tokens c.loop-token.token-index c.token-item.result in
    let i = c.loop-token.token-index in
    let named_so : named c.args.tokens.now ≡ take (c.loop-token.token-index + 1) c.if-is_type.tokens ++ scoped (following scope (role_of token) token) (drop (c.loop-token.token-index + 1) c.if-is_type.tokens) =
    elim c.if-is_type.branch [
      | then-is_type w ↦
          let test : is_type scope token ≡ true = sym c.is_type-is_type.ensures ∙ w.if-is_type.true in
          let change : named_token scope.types token ≡ record token { kind = TypeName } = rw test refl in
          rw w.tokens-is (named-set _ scope c.loop-token.tokens i token (record token { kind = TypeName }) c.token-item.result (omega arith) refl change c.loop-token.invariant.0)
      | else-is_type w ↦
          let test : is_type scope token ≡ false = sym c.is_type-is_type.ensures ∙ w.if-is_type.false in
          let change : named_token scope.types token ≡ token = rw test refl in
          rw w.tokens-is (named-set _ scope c.loop-token.tokens i token token c.token-item.result (omega arith) refl change c.loop-token.invariant.0)
    ] in
    (rw c.in_ok-scope.ensures.scope named_so, omega (arith, c.in_ok-scope.ensures.braces), omega (arith, c.in_ok-scope.ensures.brackets))

pub loop-token-init : goal.loop-token-init
loop-token-init c =
    let braces : c.new-scope.result.braces ≡ 0 = ap (λ (s : Scope). s.braces) c.new-scope.ensures in
    let brackets : c.new-scope.result.brackets ≡ 0 = ap (λ (s : Scope). s.brackets) c.new-scope.ensures in
    (rw c.new-scope.ensures (named-scoped c.args.tokens.now), omega arith, omega arith)

-- The productions of expressions on walks of their parts: where each part keeps what is declared and passes with what is typed, the whole does.
use Rattle.std.proofs.Common.{Option, List, [], ◌∷◌, map, subst, arith}
use Rattle.hy_bits.specs.Scalar.{scalar_width}
use Rattle.hy_bits.specs.Words.{IsWord}
use Rattle.hy_bits.specs.declared.scalar.Scalar.TheVariants.{S32}
use Rattle.c_tree.specs.declared.token.Place.{Place}
use Rattle.c_tree.specs.declared.expressions.Identifier.{Identifier}
use Rattle.c_tree.specs.declared.expressions.Literal.{Literal}
use Rattle.c_tree.specs.declared.expressions.Literal.TheVariants as literal
use Rattle.c_tree.specs.declared.expressions.UnaryOperator.{UnaryOperator}
use Rattle.c_tree.specs.declared.expressions.UnaryOperator.TheVariants as unary
use Rattle.c_tree.specs.declared.expressions.BinaryOperator.{BinaryOperator}
use Rattle.c_meaning.specs.declared.operators.ArithmeticSign.{ArithmeticSign}
use Rattle.c_meaning.specs.declared.operators.ArithmeticSign.TheVariants as sign
use Rattle.c_conversions.specs.declared.fault.TypeKind.TheVariants.{Unknown, Mismatch, Recursion}
use Rattle.c_typing.specs.declared.chains.Form.TheVariants as form
use Rattle.c_typing.specs.declared.environment.Entity.{Entity}
use Rattle.c_typing.specs.declared.environment.Environment.{Environment}
use Rattle.c_typing.specs.declared.postfix.Pointee.{Pointee}
use Rattle.c_typing.specs.declared.values.Typing.TheVariants.{Gives}
use Rattle.c_typing.specs.Walks.{Breaks, Passes, Walk, after, unless_none, each, along}
use Rattle.c_typing.specs.Values.{value_of, pointee_of}
use Rattle.c_typing.specs.Expressions.{ExprWalk, valued, entity_of, name_typing, literal_typing, is_recursive, called, calls, call_typing, subscript, index_typing, member_typing, arrow, arrow_typing, address_typing, indirection_typing, not_typing, sign_typing, unary_typing, cast_from, OperandWalk, combine, operand_typing, chain_typing, choose, conditional_typing}
use Rattle.c_expressions.specs.Typing.{SuffixWalk, SpecsWalk, postfix_walk, cast_walk}
use Rattle.typing_laws.specs.Passing.{Passing, scope_of}
use Rattle.typing_laws.specs.Environments.{IsWellFormed, Extends}
use Rattle.typing_laws.proofs.Environments.{extends-refl, name-passing}
use Rattle.typing_laws.proofs.Places.{constant-typed}
use Rattle.typing_laws.proofs.Valued.{value-typed}
use Rattle.typing_laws.proofs.Structs.{members-plain}
use Rattle.typing_laws.proofs.Unary.{int-value, address-passing, indirection-passing, not-passing, sign-passing}
use Rattle.typing_laws.proofs.Postfix.{subscript-passing, cast-passing, member-passing, arrow-passing}
use Rattle.expression_laws.specs.Keeping.{Each, Stays, Grown, Keeps, KeepsOver, KeepsExpr, TypingIn, ValueIn, ValuesIn, LeftIn, NamedIn}
use Rattle.expression_laws.proofs.Steps.{passing-some, passing-if, grown-in, grown-after}
use Rattle.expression_laws.proofs.Weakened.{value-kept, typing-kept}
use Rattle.expression_laws.proofs.Joined.{combine-passing, choose-passing}
use Rattle.expression_laws.proofs.Calls.{calls-passing}

-- ---- walks one after another

-- what has the rule has it where more is declared
abbrev pub Lasts : {A : Type 0} → (Environment → A → Type 0) → Type 0
Lasts {A} Rule = (old new : Environment) → Extends old new → IsWellFormed old → (a : A) → Rule old a → Rule new a

pub value-lasts : Lasts ValueIn
value-lasts old new g well value h = value-kept old new g well value h

pub along-keeps : {A : Type 0} (Rule : Environment → A → Type 0) (walks : List (A → Walk A)) → Each (KeepsOver Rule) walks → KeepsOver Rule (along walks)
along-keeps Rule [] h = λ a env well r. (extends-refl env, well, r)
along-keeps Rule (walk ∷ walks) h = λ a env well r.
    grown-after Rule Rule env (walk a env) (λ b env. along walks b env) (h.0 a env well r) (λ b new g w s. along-keeps Rule walks h.1 b new w s)

pub each-keeps : {A : Type 0} (Rule : Environment → A → Type 0) (walks : List (Walk A)) → Lasts Rule → Each (Keeps Rule) walks → Keeps (λ env xs. Each (Rule env) xs) (each walks)
each-keeps Rule [] lasts h = λ env well. (extends-refl env, well, tt)
each-keeps {A} Rule (walk ∷ walks) lasts h = λ env well.
    grown-after Rule (λ env xs. Each (Rule env) xs) env (walk env) (λ a env. after (each walks env) (λ rest env. Passes (a ∷ rest) env)) (h.0 env well)
    (λ a new g w r. grown-after (λ env xs. Each (Rule env) xs) (λ env xs. Each (Rule env) xs) new (each walks new) (λ rest env. Passes (a ∷ rest) env) (each-keeps Rule walks lasts h.1 new w)
    (λ rest last k v rs. (extends-refl last, v, (lasts new last k w a r, rs))))

pub valued-keeps : (e : ExprWalk) → KeepsExpr e → Keeps ValueIn (valued e)
valued-keeps e h = λ env well.
    grown-after TypingIn ValueIn env (e.walk env) (λ t env. Passes (value_of env.structs t) env) (h env well)
    (λ t new g w typed. (extends-refl new, w, value-typed (scope_of new) t typed))

-- ---- primary expressions

pub name-keeps : (name : Identifier) → Keeps TypingIn (name_typing name)
name-keeps name = λ env well. grown-in TypingIn env (name_typing name env) well (name-passing env well name)

-- the word of a literal is one of its type
abbrev pub LiteralFits : Literal → Type 0
LiteralFits (literal.Integer t w) = IsWord (scalar_width t) w
LiteralFits (literal.Character t w) = IsWord (scalar_width t) w
LiteralFits literal.True = Unit {0}
LiteralFits literal.False = Unit {0}

literal-typed : (env : Environment) (place : Place) (l : Literal) → LiteralFits l → TypingIn env (literal_typing place l)
literal-typed env place (literal.Integer t w) h = (constant-typed (scope_of env) place t w h, int-value env.structs t)
literal-typed env place (literal.Character t w) h = (constant-typed (scope_of env) place t w h, int-value env.structs t)
literal-typed env place literal.True h = (constant-typed (scope_of env) place S32 1 omega arith, int-value env.structs S32)
literal-typed env place literal.False h = (constant-typed (scope_of env) place S32 0 omega arith, int-value env.structs S32)

pub literal-keeps : (place : Place) (l : Literal) → LiteralFits l → Keeps TypingIn (λ env. Passes (literal_typing place l) env)
literal-keeps place l h = λ env well. (extends-refl env, well, literal-typed env place l h)

-- ---- calls

values-keep : (arguments : List ExprWalk) → Each KeepsExpr arguments → Each (Keeps ValueIn) (map valued arguments)
values-keep [] h = tt
values-keep (e ∷ es) h = (valued-keeps e h.0, values-keep es h.1)

called-keeps : (place bracket : Place) (arguments : List ExprWalk) (e : Entity) → Each KeepsExpr arguments → Keeps TypingIn (called place bracket (map valued arguments) e)
called-keeps place bracket arguments e h = λ env well.
    passing-if (Grown TypingIn env) (is_recursive env e) (Breaks Recursion place) (after (each (map valued arguments) env) (λ values env. calls place bracket e values env))
    (λ b. tt)
    (λ b. grown-after ValuesIn TypingIn env (each (map valued arguments) env) (λ values env. calls place bracket e values env)
    (each-keeps ValueIn (map valued arguments) value-lasts (values-keep arguments h) env well)
    (λ values new g w r. grown-in TypingIn new (calls place bracket e values new) w (calls-passing new place bracket e values w r)))

pub call-keeps : (name : Identifier) (bracket : Place) (arguments : List ExprWalk) → Each KeepsExpr arguments → Keeps TypingIn (call_typing name bracket arguments)
call-keeps name bracket arguments h = λ env well.
    passing-some (Grown TypingIn env) Unknown name.place (entity_of env name.text) (λ e env. called name.place bracket (map valued arguments) e env) env
    (λ e found. called-keeps name.place bracket arguments e h env well)

-- ---- subscripts and members

abbrev pub KeepsSuffix : SuffixWalk → Type 0
KeepsSuffix suffix = KeepsOver TypingIn suffix

pub index-keeps : (place : Place) (index : ExprWalk) → KeepsExpr index → KeepsSuffix (index_typing place index)
index-keeps place index h = λ base env well typed.
    grown-after ValueIn TypingIn env (valued index env) (λ i env. subscript place (value_of env.structs base) i env) (valued-keeps index h env well)
    (λ i new g w r. grown-in TypingIn new (subscript place (value_of new.structs base) i new) w
    (subscript-passing new place (value_of new.structs base) i (value-typed (scope_of new) base (typing-kept env new g well base typed)) r))

pub member-keeps : (place : Place) (name : Identifier) → KeepsSuffix (member_typing place name)
member-keeps place name = λ base env well typed.
    grown-in TypingIn env (member_typing place name base env) well (member-passing env (members-plain env.structs well.structs) place name base typed)

pub arrow-keeps : (place : Place) (name : Identifier) → KeepsSuffix (arrow_typing place name)
arrow-keeps place name = λ base env well typed.
    let pointer = value_of env.structs base in
    grown-in TypingIn env (arrow_typing place name base env) well
    (passing-some (Stays TypingIn env) Mismatch place (pointee_of pointer.ctype) (λ to env. arrow place name (value_of env.structs base) to env) env
    (λ to e. subst (λ (o : Option Pointee). Passing (Stays TypingIn env) (unless_none Mismatch place o (λ to new. arrow place name pointer to new) env)) e
    (arrow-passing env (members-plain env.structs well.structs) place name pointer (value-typed (scope_of env) base typed))))

pub postfix-keeps : (first : ExprWalk) (suffixes : List SuffixWalk) → KeepsExpr first → Each KeepsSuffix suffixes → Keeps TypingIn (postfix_walk first suffixes)
postfix-keeps first suffixes h hs = λ env well.
    grown-after TypingIn TypingIn env (first.walk env) (λ t env. along suffixes t env) (h env well) (λ t new g w r. along-keeps TypingIn suffixes hs t new w r)

-- ---- unary operators

module _ (place : Place) (operand : ExprWalk) (h : KeepsExpr operand) where
  sign-keeps : (op : ArithmeticSign) → Keeps TypingIn (λ env. after (valued operand env) (λ v env. sign_typing place op v env))
  sign-keeps op = λ env well.
      grown-after ValueIn TypingIn env (valued operand env) (λ v env. sign_typing place op v env) (valued-keeps operand h env well)
      (λ v new g w r. grown-in TypingIn new (sign_typing place op v new) w (sign-passing new place op v r))

  pub unary-keeps : (op : UnaryOperator) → Keeps TypingIn (unary_typing place op operand)
  unary-keeps unary.Address = λ env well.
      grown-after TypingIn TypingIn env (operand.walk env) (λ t env. address_typing place t env) (h env well)
      (λ t new g w r. grown-in TypingIn new (address_typing place t new) w (address-passing new place t r))
  unary-keeps unary.Indirection = λ env well.
      grown-after ValueIn TypingIn env (valued operand env) (λ v env. indirection_typing place v env) (valued-keeps operand h env well)
      (λ v new g w r. grown-in TypingIn new (indirection_typing place v new) w (indirection-passing new place v r))
  unary-keeps unary.Not = λ env well.
      grown-after ValueIn TypingIn env (valued operand env) (λ v env. not_typing place v env) (valued-keeps operand h env well)
      (λ v new g w r. grown-in TypingIn new (not_typing place v new) w (not-passing new place v r))
  unary-keeps unary.Plus = sign-keeps sign.Plus
  unary-keeps unary.Minus = sign-keeps sign.Minus
  unary-keeps unary.Complement = sign-keeps sign.Complement

-- ---- casts

abbrev pub KeepsSpecs : SpecsWalk → Type 0
KeepsSpecs specs = Keeps NamedIn specs.walk

pub cast-keeps : (place : Place) (specs : SpecsWalk) (operand : ExprWalk) → KeepsSpecs specs → KeepsExpr operand → Keeps TypingIn (cast_walk place specs operand)
cast-keeps place specs operand s h = λ env well.
    grown-after NamedIn TypingIn env (specs.walk env) (λ q env. after (valued operand env) (λ v env. cast_from place q.ctype v env)) (s env well)
    (λ q new g w r. grown-after ValueIn TypingIn new (valued operand new) (λ v env. cast_from place q.ctype v env) (valued-keeps operand h new w)
    (λ v last k u typed. grown-in TypingIn last (cast_from place q.ctype v last) u (cast-passing last place q.ctype v typed)))

-- ---- binary operators

abbrev pub KeepsOperand : OperandWalk → Type 0
KeepsOperand operand = KeepsOver LeftIn operand

pub operand-keeps : (place : Place) (op : BinaryOperator) (value : ExprWalk) → KeepsExpr value → KeepsOperand (operand_typing place op value)
operand-keeps place op value h = λ left env well typed.
    grown-after ValueIn LeftIn env (valued value env) (λ right env. combine place op left right env) (valued-keeps value h env well)
    (λ right new g w r. grown-in LeftIn new (combine place op left right new) w (combine-passing new place op left right (value-kept env new g well left.value typed) r))

pub chain-keeps : (first : ExprWalk) (operands : List OperandWalk) → KeepsExpr first → Each KeepsOperand operands → Keeps TypingIn (chain_typing first operands)
chain-keeps first operands h hs = λ env well.
    grown-after ValueIn TypingIn env (valued first env)
    (λ value env. after (along operands (record { value = value; form = form.Operand }) env) (λ left env. Passes (Gives left.value) env)) (valued-keeps first h env well)
    (λ value new g w r. grown-after LeftIn TypingIn new (along operands (record { value = value; form = form.Operand }) new) (λ left env. Passes (Gives left.value) env)
    (along-keeps LeftIn operands hs (record { value = value; form = form.Operand }) new w r)
    (λ left last k u typed. (extends-refl last, u, typed)))

-- ---- "?:"

pub conditional-keeps : (condition : ExprWalk) (place : Place) (second third : ExprWalk) → KeepsExpr condition → KeepsExpr second → KeepsExpr third
    → Keeps TypingIn (conditional_typing condition place second third)
conditional-keeps condition place second third h s t = λ env well.
    grown-after ValueIn TypingIn env (valued condition env) (λ c env. after (valued second env) (λ a env. after (valued third env) (λ b env. choose place c a b env))) (valued-keeps condition h env well)
    (λ c one g w typed. grown-after ValueIn TypingIn one (valued second one) (λ a env. after (valued third env) (λ b env. choose place c a b env)) (valued-keeps second s one w)
    (λ a two k u typed-a. grown-after ValueIn TypingIn two (valued third two) (λ b env. choose place c a b env) (valued-keeps third t two u)
    (λ b last j v typed-b. grown-in TypingIn last (choose place c a b last) v
    (choose-passing last place c a b (value-kept two last j u c (value-kept one two k w c typed)) (value-kept two last j u a typed-a) typed-b))))

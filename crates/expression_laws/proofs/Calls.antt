-- Calls: where their typing passes, it passes with what is typed (C11 6.5.2.2).
use Rattle.std.proofs.Common.{◌≡◌, ℕ, ◌==◌, true, Some, List, [], ◌∷◌, length, slice_get, refl}
use Rattle.c_tree.specs.declared.token.Place.{Place}
use Rattle.c_meaning.specs.declared.types.CType.{CType, out-CType}
use Rattle.c_meaning.specs.declared.types.CType.TheOpen.{CType-F}
use Rattle.c_meaning.specs.declared.types.Object.{Object}
use Rattle.c_meaning.specs.declared.types.StructType.{StructType}
use Rattle.c_meaning.specs.declared.expressions.TypedExpr.{TypedExpr}
use Rattle.c_meaning.specs.declared.programs.TypedFunction.{TypedFunction}
use Rattle.c_meaning.specs.TypeRules.{Scope}
use Rattle.c_meaning.specs.Rules.{IsTypedExpr, IsAssignable, ArgumentsFit}
use Rattle.c_meaning.specs.StatementRules.{is_result, layer_is_result}
use Rattle.c_conversions.specs.declared.fault.TypeKind.TheVariants.{Mismatch}
use Rattle.c_typing.specs.declared.environment.Entity.{Entity}
use Rattle.c_typing.specs.declared.environment.Entity.TheVariants as entity
use Rattle.c_typing.specs.declared.environment.Environment.{Environment}
use Rattle.c_typing.specs.declared.values.TypedValue.{TypedValue}
use Rattle.c_typing.specs.Walks.{Checked, Breaks, Passes, after}
use Rattle.c_typing.specs.Expressions.{assigned_to, argument_typing, arguments_typing, call_of, with_arguments, calls}
use Rattle.typing_laws.specs.Values.{IsValue, IsValueType, layer_is_value}
use Rattle.typing_laws.specs.Passing.{Passing, scope_of}
use Rattle.typing_laws.specs.Environments.{IsWellFormed}
use Rattle.typing_laws.proofs.Parts as P
use Rattle.typing_laws.proofs.Forms.{call-typed}
use Rattle.expression_laws.specs.Keeping.{Stays, TypingIn, ValuesIn, AssignableIn}
use Rattle.expression_laws.proofs.Steps.{passing-some, passing-if, stays-after}
use Rattle.expression_laws.proofs.Joined.{assigned-passing}

module _ (structs : List StructType) where
  result-layer : (y : CType-F CType) → layer_is_result (length structs) y ≡ true → layer_is_value structs y
  result-layer CType-F.Void h = tt
  result-layer (CType-F.Int t) h = tt
  result-layer (CType-F.Array count element) h = absurd (cc)
  result-layer (CType-F.Struct number) h = h
  result-layer (CType-F.Pointer qualifier to) h = absurd (cc)

  -- C11 6.9.1p3
  pub result-value : (c : CType) → is_result (length structs) c ≡ true → IsValueType structs c
  result-value c h = result-layer (out-CType c) h

abbrev pub ArgumentIn : ℕ → Environment → TypedExpr → Type 0
ArgumentIn k env e =
    IsTypedExpr (scope_of env) e
    × ((object : Object) × (slice_get (scope_of env).objects k ≡ Some object) × IsAssignable (scope_of env) e object.ctype)

abbrev pub ArgumentsIn : List ℕ → Environment → List TypedExpr → Type 0
ArgumentsIn ks env es = ArgumentsFit (scope_of env) ks es × P.Each (IsTypedExpr (scope_of env)) es

module _ (env : Environment) where
  abbrev scope : Scope
  scope = scope_of env

  argument-in : (k : ℕ) (object : Object) (c : Checked TypedExpr) → slice_get env.objects k ≡ Some object → Passing (Stays (AssignableIn object.ctype) env) c → Passing (Stays (ArgumentIn k) env) c
  argument-in k object (Breaks kind place) found h = tt
  argument-in k object (Passes e new) found h = (h.0, (h.1.0, (object, found, h.1.1)))

  argument-passing : (place : Place) (k : ℕ) (value : TypedValue) → IsValue scope value → Passing (Stays (ArgumentIn k) env) (argument_typing place k value env)
  argument-passing place k value h =
      passing-some (Stays (ArgumentIn k) env) Mismatch place (slice_get env.objects k) (λ object env. assigned_to place object.ctype value env) env
      (λ object found. argument-in k object (assigned_to place object.ctype value env) found (assigned-passing env place object.ctype value h))

  arguments-passing : (place : Place) (ks : List ℕ) (values : List TypedValue) → ValuesIn env values → Passing (Stays (ArgumentsIn ks) env) (arguments_typing place ks values env)
  arguments-passing place [] [] h = (refl, (tt, tt))
  arguments-passing place [] (value ∷ values) h = tt
  arguments-passing place (k ∷ ks) [] h = tt
  arguments-passing place (k ∷ ks) (value ∷ values) h =
      stays-after (ArgumentIn k) (Stays (ArgumentsIn (k ∷ ks)) env) env (argument_typing place k value env)
      (λ e env. after (arguments_typing place ks values env) (λ es env. Passes (e ∷ es) env))
      (argument-passing place k value h.0)
      (λ e d. stays-after (ArgumentsIn ks) (Stays (ArgumentsIn (k ∷ ks)) env) env (arguments_typing place ks values env) (λ es env. Passes (e ∷ es) env)
      (arguments-passing place ks values h.1) (λ es ds. (refl, ((d.1, ds.0), (d.0, ds.1)))))

  with-arguments-passing : (place bracket : Place) (k : ℕ) (f : TypedFunction) (values : List TypedValue) → IsWellFormed env → slice_get env.functions k ≡ Some f → ValuesIn env values
      → Passing (Stays TypingIn env) (with_arguments place bracket k f values env)
  with-arguments-passing place bracket k f values well found h =
      passing-if (Stays TypingIn env) (length f.params == length values)
      (after (arguments_typing bracket f.params values env) (λ arguments env. Passes (call_of place k f arguments) env)) (Breaks Mismatch bracket)
      (λ e. stays-after (ArgumentsIn f.params) (Stays TypingIn env) env (arguments_typing bracket f.params values env) (λ arguments env. Passes (call_of place k f arguments) env)
      (arguments-passing bracket f.params values h)
      (λ es d. (refl, (call-typed scope place k f es found d.0 d.1, result-value env.structs f.result (well.functions k f found)))))
      (λ e. tt)

  pub calls-passing : (place bracket : Place) (e : Entity) (values : List TypedValue) → IsWellFormed env → ValuesIn env values → Passing (Stays TypingIn env) (calls place bracket e values env)
  calls-passing place bracket (entity.Function k) values well h =
      passing-some (Stays TypingIn env) Mismatch bracket (slice_get env.functions k) (λ f env. with_arguments place bracket k f values env) env
      (λ f found. with-arguments-passing place bracket k f values well found h)
  calls-passing place bracket (entity.Object k) values well h = tt
  calls-passing place bracket (entity.Enumerator w) values well h = tt
  calls-passing place bracket (entity.TypeName number) values well h = tt

-- The scopes of blocks (C11 6.2.1p4): what a block declares ends with it, and the environment stays well formed.
use Rattle.std.proofs.Common.{◌≡◌, ℕ, ◌++◌, List, [], ◌∷◌, take, length, ap, subst, sym, ◌∙◌, refl}
use Rattle.c_scopes.specs.Scopes.{Bound, before, all_but_last}
use Rattle.c_heads.specs.Scopes.{within, outside, scoped}
use Rattle.c_typing.specs.declared.environment.Environment.{Environment}
use Rattle.c_typing.specs.Walks.{Passes, Walk}
use Rattle.typing_laws.specs.Scopes.{Grows}
use Rattle.typing_laws.specs.Environments.{IsWellFormed, Extends}
use Rattle.typing_laws.proofs.Environments.{grows-refl}
use Rattle.typing_laws.proofs.Postfix.{passing-after}
use Rattle.expression_laws.specs.Keeping.{Grown, Keeps}

last-before : (opened : List ℕ) (n : ℕ) → before (opened ++ n ∷ []) ≡ n
last-before [] n = refl
last-before (a ∷ []) n = refl
last-before (a ∷ b ∷ opened) n = last-before (b ∷ opened) n

without-last : (opened : List ℕ) (n : ℕ) → all_but_last (opened ++ n ∷ []) ≡ opened
without-last [] n = refl
without-last (a ∷ []) n = refl
without-last (a ∷ b ∷ opened) n = ap (λ rest. a ∷ rest) (without-last (b ∷ opened) n)

take-first : {A : Type 0} (xs ys : List A) → take (length xs) (xs ++ ys) ≡ xs
take-first [] ys = refl
take-first (x ∷ xs) ys = ap (λ zs. x ∷ zs) (take-first xs ys)

pub within-well : (env : Environment) → IsWellFormed env → IsWellFormed (within env)
within-well env well = record {
  structs = well.structs;
  objects = well.objects;
  typedefs = well.typedefs;
  functions = well.functions;
  tags = well.tags;
  starts = well.starts;
  cells = well.cells;
  few = well.few;
  enumerators = well.enumerators;
}

pub outside-well : (env : Environment) → IsWellFormed env → IsWellFormed (outside env)
outside-well env well = record {
  structs = well.structs;
  objects = well.objects;
  typedefs = well.typedefs;
  functions = well.functions;
  tags = well.tags;
  starts = well.starts;
  cells = well.cells;
  few = well.few;
  enumerators = well.enumerators;
}

module _ (env new : Environment) (g : Extends (within env) new) where
  bound-same : (outside new).names.bound ≡ env.names.bound
  bound-same =
      ap (λ (opened : List ℕ). take (before opened) new.names.bound) g.opened
      ∙ ap (λ (n : ℕ). take n new.names.bound) (last-before env.names.opened (length env.names.bound))
      ∙ ap (λ (bound : List Bound). take (length env.names.bound) bound) g.names.1
      ∙ take-first env.names.bound g.names.0

  opened-same : (outside new).names.opened ≡ env.names.opened
  opened-same = ap (λ (opened : List ℕ). all_but_last opened) g.opened ∙ without-last env.names.opened (length env.names.bound)

  pub outside-extends : Extends env (outside new)
  outside-extends = record {
    structs = g.structs;
    objects = g.objects;
    functions = g.functions;
    typedefs = g.typedefs;
    entities = g.entities;
    names = subst (λ (bound : List Bound). Grows env.names.bound bound) (sym bound-same) (grows-refl env.names.bound);
    opened = opened-same;
  }

-- a walk in a scope of its own
pub scoped-keeps : {A : Type 0} (Rule : Environment → A → Type 0) (walk : Walk A) → ((env : Environment) (a : A) → Rule env a → Rule (outside env) a) → Keeps Rule walk → Keeps Rule (scoped walk)
scoped-keeps Rule walk ends h = λ env well.
    passing-after (Grown Rule (within env)) (Grown Rule env) (walk (within env)) (λ a env. Passes a (outside env)) (h (within env) (within-well env well))
    (λ a new r. (outside-extends env new r.0, outside-well new r.1, ends new a r.2))

-- The labels of a `switch` (C11 6.8.4.2): each a constant of the type of what is switched on, and none twice.
use Rattle.std.specs.Prelude.{ℕ, Bool, true, false, nat_eq, if◌then◌else◌, Option, None, Some, List, [], ◌∷◌, ◌++◌}
use Rattle.std.specs.List.{list_any}
use Rattle.hy_bits.specs.declared.scalar.Scalar.{Scalar}
use Rattle.c_tree.specs.declared.token.Place.{Place}
use Rattle.c_tree.specs.declared.expressions.Expr.{Expr}
use Rattle.c_tree.specs.declared.statements.Label.{Label}
use Rattle.c_tree.specs.declared.statements.Label.TheVariants as source
use Rattle.c_meaning.specs.declared.statements.TypedLabel.{TypedLabel}
use Rattle.c_meaning.specs.declared.statements.TypedLabel.TheVariants as label
use Rattle.c_meaning.specs.Operations.{converted_to}
use Rattle.c_meaning.specs.Constants.{constant_of}
use Rattle.c_meaning.specs.Counting.{word_where}
use Rattle.c_conversions.specs.declared.fault.TypeKind.TheVariants.{Twice, NotConstant}
use Rattle.c_typing.specs.declared.values.TypedValue.{TypedValue}
use Rattle.c_typing.specs.Walks.{Breaks, Passes, Walk, after, unless_none}
use Rattle.c_typing.specs.Values.{scalar_of}
use Rattle.c_typing.specs.Expressions.{valued}
use Rattle.c_expressions.specs.Typing.{types_expr}
use Rattle.c_heads.specs.Tokens.{plus, label_tokens}

-- the words and the `default` of a `switch` so far, the tokens of its labels, and the labels of the section
pub record Labelled : Type 0 where
  pub words : List ℕ
  pub has_default : Bool
  pub tokens : ℕ
  pub labels : List TypedLabel

abbrev pub no_labels : Labelled
no_labels = record { words = []; has_default = false; tokens = 0; labels = [] }

abbrev pub with_case : ℕ → ℕ → Labelled → Labelled
with_case w tokens l = record { words = l.words ++ w ∷ []; has_default = l.has_default; tokens = plus l.tokens tokens; labels = l.labels ++ label.Case w ∷ [] }

abbrev pub with_default : ℕ → Labelled → Labelled
with_default tokens l = record { words = l.words; has_default = true; tokens = plus l.tokens tokens; labels = l.labels ++ label.Default ∷ [] }

abbrev pub next_section : Labelled → Labelled
next_section l = record { words = l.words; has_default = l.has_default; tokens = l.tokens; labels = [] }

abbrev pub word_in : Scalar → Option Scalar → Option ℕ → Option ℕ
word_in t None w = None
word_in t (Some from) None = None
word_in t (Some from) (Some w) = Some (converted_to from t w)

-- the word of a constant expression in the type
abbrev pub case_word : Scalar → TypedValue → Option ℕ
case_word t value = word_in t (scalar_of value.ctype) (word_where true (constant_of value.expr))

abbrev pub new_case : Place → ℕ → ℕ → Labelled → Walk Labelled
new_case place w tokens l env = if list_any (nat_eq w) l.words then Breaks Twice place else Passes (with_case w tokens l) env

abbrev pub new_default : Place → ℕ → Labelled → Walk Labelled
new_default place tokens l env = if l.has_default then Breaks Twice place else Passes (with_default tokens l) env

abbrev pub label_of : Scalar → Label → Labelled → Walk Labelled
label_of t (source.Case place value) l env =
    after (valued (types_expr value) env)
    (λ v env. unless_none NotConstant (types_expr value).place (case_word t v)
    (λ w env. new_case (types_expr value).place w (label_tokens (source.Case place value)) l env) env)
label_of t (source.Default place) l env = new_default place (label_tokens (source.Default place)) l env

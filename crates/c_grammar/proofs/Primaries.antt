-- The readers of names, calls and literals.
use Rattle.std.proofs.Common.{◌≡◌, ℕ, ◌+◌, Bool, true, false, ◌==◌, List, [], ◌∷◌, ◌++◌, map, refl, sym, ap, ◌∙◌, subst, arith, codes}
use Rattle.std.specs.List.{list_all}
use Rattle.c_tree.specs.Pieces.{Piece, want_of, IsWanted, mark, separated}
use Rattle.c_tree.specs.Folds.{wants_of_expr, binds}
use Rattle.c_tree.specs.Expressions.{has_some}
use Rattle.c_tree.proofs.FoldsLaws.{wants_Expr_Name, wants_Expr_Literal, wants_Expr_Call, is_Expr_Name, is_Expr_Literal, is_Expr_Call}
use Rattle.c_tree.specs.declared.token.Place.{Place}
use Rattle.c_tree.specs.declared.token.Token.{Token}
use Rattle.c_tree.specs.declared.token.TokenKind.{TokenKind}
use Rattle.c_tree.specs.declared.token.TokenKind.TheVariants.{Mark, Name}
use Rattle.c_tree.specs.declared.expressions.UnaryOperator.{UnaryOperator}
use Rattle.c_tree.specs.declared.expressions.UnaryOperator.TheVariants as prefix
use Rattle.c_tree.specs.Operators.{text_of_prefix}
use Rattle.c_tree.specs.declared.expressions.Identifier.{Identifier}
use Rattle.c_tree.specs.declared.expressions.Literal.{Literal}
use Rattle.c_tree.specs.declared.expressions.Literal.TheVariants as literal
use Rattle.c_tree.specs.declared.expressions.Expr.{Expr}
use Rattle.c_tree.specs.declared.expressions.Expr.TheVariants as expr
use Rattle.c_reader.specs.Reading.{give, choose}
use Rattle.c_reader.specs.Tokens.{kind_number, is_mark, is_spelled, is_kind, spelled_by, found_by, found_in}
use Rattle.c_grammar.specs.Tokens.{goes_on, goes_by, suffix_by}
use Rattle.c_grammar.specs.Expressions.{Inner, read_arguments, read_call, read_named, read_literal}
use Rattle.c_reader.specs.Lists.{separated_by}
use Rattle.c_reader.proofs.Reader.{Language, Of, Reads}
use Rattle.c_reader.proofs.Binding.{Both, bind_reads}
use Rattle.c_reader.proofs.Giving.{Given, give_reads, reads_as}
use Rattle.c_reader.proofs.Taking.{Single}
use Rattle.c_reader.proofs.Choosing.{FirstIs, Either, this, that, choose_reads}
use Rattle.c_reader.proofs.Repeating.{given_stops}
use Rattle.c_reader.proofs.Beginning.{Begins, begins_both, begins_single, SomeOf, some_both, some_single, some_given}
use Rattle.c_reader.proofs.Joining.{in_both, in_single, in_given, onto, join4}
use Rattle.c_reader.proofs.Listing.{SeparatedOf, separated_reads, list_all_map}
use Rattle.c_reader.proofs.Spelt.{by_text, kind_yes, spelled_is, spelled_yes, spelt, spelt_at, named, spelt_reads, spelt_at_reads, named_reads}
use Rattle.c_grammar.proofs.Literals.{literal_piece, literal_reads}
use Rattle.c_grammar.proofs.Starting.{Suits, expr_leads, leads_append, begins_cons, begins_at}
use Rattle.c_grammar.proofs.Suffixes.{At, Stops, Any, InnerReads, no_name, some_at}
use Rattle.c_reader.proofs.Truths.{and_left, and_right}

-- no bracket stands after a name
abbrev pub StopsName : List Token → Type 0
StopsName = FirstIs (is_mark (codes "(")) false

-- a closing bracket stops everything that could be nested in it
pub closing_stops : (level : ℕ) (text : List ℕ) (n : ℕ) → goes_by level Mark text ≡ false → Begins (Single (spelt Mark text n)) (goes_on level) false
unfolding IsWanted
closing_stops level text n is = begins_single (spelt Mark text n) (goes_on level) false (λ u w takes. by_text (goes_by level) Mark text false w takes.0.0 takes.0.1 is)

-- what a test says of a token of one spelling
pub first_from : (kind : TokenKind) (text : List ℕ) (by : TokenKind → List ℕ → Bool) (b : Bool) → by kind text ≡ b → (ts : List Token) → FirstIs (is_spelled kind text) true ts → FirstIs (λ w. by w.kind w.text) b ts
unfolding FirstIs
first_from kind text by b is [] first = absurd (cc)
first_from kind text by b is (w ∷ rest) first = let w_is = spelled_is kind text w first in by_text by kind text b w w_is.0 w_is.1 is

pub prefix_all : (test : TokenKind → List ℕ → Bool) (b : Bool) → test Mark (codes "+") ≡ b → test Mark (codes "-") ≡ b → test Mark (codes "~") ≡ b → test Mark (codes "!") ≡ b → test Mark (codes "*") ≡ b → test Mark (codes "&") ≡ b → (o : UnaryOperator) → test Mark (text_of_prefix o) ≡ b
prefix_all test b h1 h2 h3 h4 h5 h6 prefix.Plus = h1
prefix_all test b h1 h2 h3 h4 h5 h6 prefix.Minus = h2
prefix_all test b h1 h2 h3 h4 h5 h6 prefix.Complement = h3
prefix_all test b h1 h2 h3 h4 h5 h6 prefix.Not = h4
prefix_all test b h1 h2 h3 h4 h5 h6 prefix.Indirection = h5
prefix_all test b h1 h2 h3 h4 h5 h6 prefix.Address = h6

-- no expression begins with a closing bracket
not_closing : Suits (spelled_by Mark (codes ")")) false
unfolding spelled_by
not_closing = record { name = λ t. refl; integer = λ t. refl; character = λ t. refl; yes_ = refl; no_ = refl; bracket = refl; prefix = prefix_all (spelled_by Mark (codes ")")) false refl refl refl refl refl refl }

module _ (most size n left : ℕ) (level : n + left ≡ most + 1) (inner : Inner) (I : InnerReads most size n inner) where
  -- ---- arguments

  abbrev ArgumentsL : Language (List Expr)
  ArgumentsL = Either (Given []) (SeparatedOf (λ e. binds e 0) wants_of_expr (n + 1) (codes ","))

  abbrev pub Arguments : Language (List Expr)
  Arguments = Of (list_all (λ e. binds e 0)) (λ trees. separated (codes ",") (map wants_of_expr trees) (n + 1))

  arguments_to : (trees : List Expr) (ps : List Piece) → ArgumentsL trees ps → Arguments trees ps
  unfolding separated
  arguments_to trees ps (this is) = record { grammar = ap (list_all (λ e. binds e 0)) is.tree_is; wants = is.none ∙ ap (λ u. separated (codes ",") (map wants_of_expr u) (n + 1)) (sym is.tree_is) }
  arguments_to trees ps (that is) = record { grammar = and_right (has_some trees) (list_all (λ e. binds e 0) trees) is.grammar; wants = is.wants }

  arguments_from : (trees : List Expr) (ps : List Piece) → Arguments trees ps → ArgumentsL trees ps
  unfolding separated
  arguments_from [] ps is = this (record { tree_is = refl; none = is.wants })
  arguments_from (first ∷ rest) ps is = that (record { grammar = is.grammar; wants = is.wants })

  -- arguments that are there don't begin with a closing bracket
  list_begins : Begins (SeparatedOf (λ e. binds e 0) wants_of_expr (n + 1) (codes ",")) (is_mark (codes ")")) false
  unfolding separated is_spelled is_kind spelled_by
  list_begins [] ps front rest is fits = absurd (cc)
  list_begins (first ∷ []) ps front rest is fits = begins_at (spelled_by Mark (codes ")")) false not_closing (n + 1) 0 first ps front rest (record { grammar = and_left (binds first 0) true is.grammar; wants = is.wants }) fits
  list_begins (first ∷ second ∷ others) ps front rest is fits =
      let lead = expr_leads (spelled_by Mark (codes ")")) false not_closing (n + 1) 13 0 (omega arith) first (and_left (binds first 0) (list_all (λ e. binds e 0) (second ∷ others)) is.grammar) in
      let leads = leads_append (spelled_by Mark (codes ")")) false (n + 1) _ (separated (codes ",") (map wants_of_expr (second ∷ others)) (n + 1)) (leads_append (spelled_by Mark (codes ")")) false (n + 1) _ (mark (codes ",") (n + 1)) lead) in
      begins_cons leads.piece (is_mark (codes ")")) false leads.tells ps leads.following front rest (is.wants ∙ leads.is) fits

  arguments_read : Reads Arguments most size (FirstIs (is_mark (codes ")")) true) (read_arguments size inner)
  unfolding read_arguments goes_by suffix_by spelled_by found_by found_in is_spelled is_kind
  arguments_read =
      reads_as arguments_to arguments_from
      (choose_reads (Given []) (SeparatedOf (λ e. binds e 0) wants_of_expr (n + 1) (codes ",")) most size (FirstIs (is_mark (codes ")")) true) (is_mark (codes ")")) (give []) (separated_by size (codes ",") inner.left inner.expr)
      (give_reads [] most size (FirstIs (is_mark (codes ")")) true))
      (separated_reads (λ e. binds e 0) wants_of_expr most size (n + 1) inner.left I.level (codes ",") (Stops 0) (FirstIs (is_mark (codes ")")) true) inner.expr I.expr (some_at 0 (n + 1) (omega arith))
      (first_from Mark (codes ",") (goes_by 0) false refl) (first_from Mark (codes ")") (goes_by 0) false refl) (first_from Mark (codes ")") (spelled_by Mark (codes ",")) false refl))
      (λ trees ps front rest is fits stop. given_stops [] trees ps front rest (FirstIs (is_mark (codes ")")) true) is fits stop)
      (λ trees ps front rest is fits stop. list_begins trees ps front rest is fits))

  -- ---- calls, names and literals

  abbrev pub CallL : Identifier → Language Expr
  CallL name = Both (Single (spelt_at Mark (codes "(") n)) (λ place. Both Arguments (λ arguments. Both (Single (spelt Mark (codes ")") n)) (λ closing. Given (expr.Call name place arguments))))

  closes : Begins (Single (spelt Mark (codes ")") n)) (is_mark (codes ")")) true
  unfolding IsWanted
  closes = begins_single (spelt Mark (codes ")") n) (is_mark (codes ")")) true (λ u w takes. spelled_yes Mark (codes ")") w takes.0.0 takes.0.1)

  some_arguments : SomeOf Arguments
  unfolding separated
  some_arguments = ([], ([], record { grammar = refl; wants = refl }))

  call_reads : (Followed : List Token → Type 0) (name : Identifier) → Reads (CallL name) most size Followed (read_call size left inner name)
  unfolding read_call
  call_reads Followed name =
      bind_reads _ _ most size Any Followed _ _ (spelt_at_reads most size Any Mark (codes "(") n left level)
      (λ place. bind_reads _ _ most size (FirstIs (is_mark (codes ")")) true) Followed _ _ arguments_read
      (λ arguments. bind_reads _ _ most size Any Followed _ _ (spelt_reads most size Any Mark (codes ")") n left level) (λ closing. give_reads (expr.Call name place arguments) most size Followed)
      (λ closing ps is. some_given (expr.Call name place arguments))
      (λ closing c qs ys rest is fits stop. tt))
      (λ arguments ps is. some_both _ _ (some_single (spelt Mark (codes ")") n) tt) (λ closing. some_given (expr.Call name place arguments)))
      (λ arguments c qs ys rest is fits stop. begins_both _ _ (is_mark (codes ")")) true closes c qs ys rest is fits))
      (λ place ps is. some_both _ _ some_arguments (λ arguments. some_both _ _ (some_single (spelt Mark (codes ")") n) tt) (λ closing. some_given (expr.Call name place arguments))))
      (λ place c qs ys rest is fits stop. tt)

  abbrev pub NamedL : Language Expr
  NamedL = Both (Single (named Name n)) (λ name. Either (CallL name) (Given (expr.Name name)))

  opens : (name : Identifier) → Begins (CallL name) (is_mark (codes "(")) true
  unfolding IsWanted
  opens name = begins_both _ _ (is_mark (codes "(")) true (begins_single (spelt_at Mark (codes "(") n) (is_mark (codes "(")) true (λ place w takes. spelled_yes Mark (codes "(") w takes.0.0 takes.0.1))

  named_read : Reads NamedL most size StopsName (read_named size left inner)
  unfolding read_named
  named_read =
      bind_reads _ _ most size Any StopsName _ _ (named_reads most size Any Name n left level)
      (λ name. choose_reads (CallL name) (Given (expr.Name name)) most size StopsName (is_mark (codes "(")) (read_call size left inner name) (give (expr.Name name)) (call_reads StopsName name) (give_reads (expr.Name name) most size StopsName)
      (λ e ps front rest is fits stop. opens name e ps front rest is fits)
      (λ e ps front rest is fits stop. given_stops (expr.Name name) e ps front rest StopsName is fits stop))
      (λ name ps is. (expr.Name name, ([], that (in_given (expr.Name name)))))
      (λ name c qs ys rest is fits stop. tt)

  abbrev pub LiteralL : Language Expr
  LiteralL = Both (Single (literal_piece n)) (λ found. Given (expr.Literal found.0 found.1))

  literal_read : (Followed : List Token → Type 0) → Reads LiteralL most size Followed (read_literal left)
  unfolding read_literal
  literal_read Followed =
      bind_reads _ _ most size Any Followed _ _ (literal_reads most size Any n left level)
      (λ found. give_reads (expr.Literal found.0 found.1) most size Followed)
      (λ found ps is. some_given (expr.Literal found.0 found.1))
      (λ found c qs ys rest is fits stop. tt)

  -- names, calls and literals
  abbrev pub PlainL : Language Expr
  PlainL = Either NamedL LiteralL

  named_begins : Begins NamedL (is_kind Name) true
  unfolding IsWanted
  named_begins = begins_both _ _ (is_kind Name) true (begins_single (named Name n) (is_kind Name) true (λ name w takes. kind_yes Name w takes.0.0))

  literal_not : (value : Literal) (w : Token) → IsWanted (want_of value) w → is_kind Name w ≡ false
  unfolding IsWanted is_kind
  literal_not (literal.Integer scalar number) w wanted = ap (λ k. kind_number k == kind_number Name) wanted.0
  literal_not (literal.Character scalar number) w wanted = ap (λ k. kind_number k == kind_number Name) wanted.0
  literal_not literal.True w wanted = ap (λ k. kind_number k == kind_number Name) wanted.0
  literal_not literal.False w wanted = ap (λ k. kind_number k == kind_number Name) wanted.0

  literal_begins : Begins LiteralL (is_kind Name) false
  literal_begins = begins_both _ _ (is_kind Name) false (begins_single (literal_piece n) (is_kind Name) false (λ found w takes. literal_not found.1 w takes.0))

  pub plain_reads : Reads PlainL most size StopsName (choose (is_kind Name) (read_named size left inner) (read_literal left))
  plain_reads =
      choose_reads NamedL LiteralL most size StopsName (is_kind Name) (read_named size left inner) (read_literal left) named_read (literal_read StopsName)
      (λ e ps front rest is fits stop. named_begins e ps front rest is fits)
      (λ e ps front rest is fits stop. literal_begins e ps front rest is fits)

  pub some_plain : SomeOf PlainL
  some_plain = (expr.Name no_name, ((named Name n no_name ∷ []) ++ [], this (in_both _ _ _ _ _ no_name (in_single (named Name n) no_name) (that (in_given (expr.Name no_name))))))

  -- ---- the same by trees

  call_flat : (name : Identifier) (place : Place) (arguments : List Expr)
      → (named Name n name ∷ []) ++ ((spelt_at Mark (codes "(") n place ∷ []) ++ (separated (codes ",") (map wants_of_expr arguments) (n + 1) ++ ((spelt Mark (codes ")") n tt ∷ []) ++ []))) ≡ wants_of_expr (expr.Call name place arguments) n
  call_flat name place arguments =
      join4 (named Name n name ∷ []) (spelt_at Mark (codes "(") n place ∷ []) (separated (codes ",") (map wants_of_expr arguments) (n + 1)) (spelt Mark (codes ")") n tt ∷ []) ∙ sym (ap (λ f. f n) (wants_Expr_Call name place arguments))

  named_to : (e : Expr) (ps : List Piece) (b : NamedL e ps) (right : Either (CallL b.first) (Given (expr.Name b.first)) e b.pieces2) → At 13 n e ps
  named_to e ps b (this c) =
      let is : e ≡ expr.Call b.first c.first c.right.first = c.right.right.right.tree_is in
      record {
        grammar = ap (λ u. binds u 13) is ∙ ap (λ f. f 13) (is_Expr_Call b.first c.first c.right.first) ∙ list_all_map binds (λ f. f 0) c.right.first ∙ c.right.left.grammar;
        wants = onto b.whole b.left.one (onto c.whole c.left.one (onto c.right.whole c.right.left.wants (onto c.right.right.whole c.right.right.left.one c.right.right.right.none)))
            ∙ call_flat b.first c.first c.right.first ∙ ap (λ u. wants_of_expr u n) (sym is);
      }
  named_to e ps b (that g) =
      record {
        grammar = ap (λ u. binds u 13) g.tree_is ∙ ap (λ f. f 13) (is_Expr_Name b.first);
        wants = onto b.whole b.left.one g.none ∙ sym (ap (λ f. f n) (wants_Expr_Name b.first)) ∙ ap (λ u. wants_of_expr u n) (sym g.tree_is);
      }

  pub plain_to : (e : Expr) (ps : List Piece) → PlainL e ps → At 13 n e ps
  plain_to e ps (this b) = named_to e ps b b.right
  plain_to e ps (that b) =
      record {
        grammar = ap (λ u. binds u 13) b.right.tree_is ∙ ap (λ f. f 13) (is_Expr_Literal b.first.0 b.first.1);
        wants = onto b.whole b.left.one b.right.none ∙ sym (ap (λ f. f n) (wants_Expr_Literal b.first.0 b.first.1)) ∙ ap (λ u. wants_of_expr u n) (sym b.right.tree_is);
      }

  pub from_name : (name : Identifier) (ps : List Piece) → At 13 n (expr.Name name) ps → PlainL (expr.Name name) ps
  from_name name ps is = this (subst (λ u. NamedL (expr.Name name) u) (sym (ap (λ f. f n) (wants_Expr_Name name)) ∙ sym is.wants) (in_both _ _ _ _ _ name (in_single (named Name n) name) (that (in_given (expr.Name name)))))

  pub from_literal : (place : Place) (value : Literal) (ps : List Piece) → At 13 n (expr.Literal place value) ps → PlainL (expr.Literal place value) ps
  from_literal place value ps is =
      that (subst (λ u. LiteralL (expr.Literal place value) u) (sym (ap (λ f. f n) (wants_Expr_Literal place value)) ∙ sym is.wants) (in_both _ _ _ _ _ (place, value) (in_single (literal_piece n) (place, value)) (in_given (expr.Literal place value))))

  pub from_call : (name : Identifier) (place : Place) (arguments : List Expr) (ps : List Piece) → At 13 n (expr.Call name place arguments) ps → PlainL (expr.Call name place arguments) ps
  from_call name place arguments ps is =
      let all : list_all (λ argument. argument 0) (map binds arguments) ≡ true = sym (ap (λ f. f 13) (is_Expr_Call name place arguments)) ∙ is.grammar in
      this (subst (λ u. NamedL (expr.Call name place arguments) u) (call_flat name place arguments ∙ sym is.wants)
      (in_both _ _ _ _ _ name (in_single (named Name n) name)
      (this (in_both _ _ _ _ _ place (in_single (spelt_at Mark (codes "(") n) place)
      (in_both _ _ _ _ _ arguments (record { grammar = sym (list_all_map binds (λ f. f 0) arguments) ∙ all; wants = refl })
      (in_both _ _ _ _ _ tt (in_single (spelt Mark (codes ")") n) tt) (in_given (expr.Call name place arguments))))))))

-- The readers of the words before functions, and of functions.
use Rattle.std.proofs.Common.{◌≡◌, ◌<◌, ℕ, ◌+◌, Bool, true, false, ◌&&◌, List, [], ◌∷◌, ◌++◌, length, Option, Some, None, refl, sym, ap, ◌∙◌, subst, arith, codes}
use Rattle.std.proofs.lemmas.List.{append_assoc, append-nil}
use Rattle.c_tree.specs.Pieces.{Piece, IsWanted, words_at, word_at, name, mark}
use Rattle.c_tree.specs.Folds.{wants_of_specs, are_specs}
use Rattle.c_tree.specs.StatementFolds.{wants_of_block, is_block}
use Rattle.c_tree.specs.Programs.{wants_of_static, wants_of_words, wants_of_function, wants_of_item, is_function, is_item}
use Rattle.c_tree.specs.Declarations.{wants_of_parameters, are_parameters}
use Rattle.c_tree.specs.declared.token.Place.{Place}
use Rattle.c_tree.specs.declared.token.Token.{Token}
use Rattle.c_tree.specs.declared.token.TokenKind.{TokenKind}
use Rattle.c_tree.specs.declared.token.TokenKind.TheVariants.{Word, Name, Mark}
use Rattle.c_tree.specs.declared.expressions.Identifier.{Identifier}
use Rattle.c_tree.specs.declared.expressions.Specifiers.{Specifiers}
use Rattle.c_tree.specs.declared.statements.Block.{Block}
use Rattle.c_tree.specs.declared.programs.Parameters.{Parameters}
use Rattle.c_tree.specs.declared.programs.FunctionSpecifiers.{FunctionSpecifiers}
use Rattle.c_tree.specs.declared.programs.StaticSpecifier.{StaticSpecifier}
use Rattle.c_tree.specs.declared.programs.ExternalDeclaration.{ExternalDeclaration}
use Rattle.c_tree.specs.declared.programs.ExternalDeclaration.TheVariants as item
use Rattle.c_reader.specs.Reading.{Reader, ◌>>=◌, give, choose}
use Rattle.c_reader.specs.Tokens.{is_word, spelled_by, found_by, found_in, read_name}
use Rattle.c_grammar.specs.Tokens.{type_goes_on, type_goes_by}
use Rattle.c_grammar.specs.Levels.{readers_at}
use Rattle.c_reader.proofs.Reader.{Language, Of, Reads}
use Rattle.c_reader.proofs.Binding.{Both}
use Rattle.c_reader.proofs.Giving.{Given, reads_as}
use Rattle.c_reader.proofs.Taking.{Single}
use Rattle.c_reader.proofs.Choosing.{FirstIs, Either, this, that}
use Rattle.c_reader.proofs.Repeating.{Several, many_reads, given_stops}
use Rattle.c_reader.proofs.Beginning.{Begins, begins_single}
use Rattle.c_reader.proofs.Joining.{in_both, in_single, in_given, onto}
use Rattle.c_reader.proofs.Spelt.{spelled_yes, spelt, spelt_at, spelt_at_reads, named, named_reads}
use Rattle.c_grammar.proofs.Suffixes.{SpecsAt, StopsType, Any, no_name}
use Rattle.c_grammar.proofs.Members.{some_specs}
use Rattle.c_grammar.proofs.Levels.{all_read}
use Rattle.c_reader.proofs.Truths.{and_left, and_right, and_both}
use Rattle.c_decl.specs.Parameters.{read_parameters}
use Rattle.c_decl.proofs.Declaring.{name_begins}
use Rattle.c_decl.proofs.Parameters.{ParametersAt, StopsParameters, parameters_reads, some_parameters}
use Rattle.c_statement.specs.Levels.{read_block}
use Rattle.c_syntax.specs.Items.{read_function_after, read_head, read_function_of, read_inline, read_inlines, read_fixed}
use Rattle.c_statement.proofs.Blocking.{BlockAt}
use Rattle.c_statement.proofs.ByTree.{by_reads, by_as, choose_by}
use Rattle.c_syntax.proofs.Optionals.{Opens, opens_none, opens_spelled}
use Rattle.c_statement.proofs.Singles.{Always}
use Rattle.c_statement.proofs.Stating.{block_reads}
use Rattle.c_statement.proofs.Steps.{Step, Anything, then_, given, spelt_then, placed_then, begins_is, begins_is_at}

-- ---- inline, so many times, and static

-- the word inline at these places
pub record InlinesAt (n : ℕ) (places : List Place) (pieces : List Piece) : Type 0 where
  pub wants : pieces ≡ words_at places (codes "inline") n

pub record FixedAt (n : ℕ) (fixed : Option StaticSpecifier) (pieces : List Piece) : Type 0 where
  pub wants : pieces ≡ wants_of_static fixed n

abbrev pub NoInline : List Token → Type 0
NoInline = FirstIs (is_word (codes "inline")) false

-- neither inline nor static
abbrev pub NoWords : List Token → Type 0
NoWords ts = NoInline ts × FirstIs (is_word (codes "static")) false ts

pub inlines_open : (by : TokenKind → List ℕ → Bool) (b : Bool) (n : ℕ) → by Word (codes "inline") ≡ b → (places : List Place) → Opens by b (words_at places (codes "inline") n)
unfolding words_at
inlines_open by b n is [] = opens_none by b
inlines_open by b n is (place ∷ places) = opens_spelled by b n (Some place) Word (codes "inline") (words_at places (codes "inline") n) is

pub fixed_open : (by : TokenKind → List ℕ → Bool) (b : Bool) (n : ℕ) → by Word (codes "static") ≡ b → (fixed : Option StaticSpecifier) → Opens by b (wants_of_static fixed n)
unfolding wants_of_static
fixed_open by b n is None = opens_none by b
fixed_open by b n is (Some s) = opens_spelled by b n (Some s.place) Word (codes "static") (words_at s.inline (codes "inline") n) is

module _ (most size n left : ℕ) (level : n + left ≡ most + 1) where
  inlines_to : (places : List Place) (ps : List Piece) → Several (Single (spelt_at Word (codes "inline") n)) places ps → InlinesAt n places ps
  unfolding Several words_at
  inlines_to [] ps is = record { wants = is }
  inlines_to (place ∷ places) ps is = record { wants = onto is.1.1.2 is.1.1.0.one (inlines_to places is.1.0 is.1.1.1).wants }

  inlines_back : (places : List Place) (ps : List Piece) → InlinesAt n places ps → Several (Single (spelt_at Word (codes "inline") n)) places ps
  unfolding Several words_at
  inlines_back [] ps is = is.wants
  inlines_back (place ∷ places) ps is = (spelt_at Word (codes "inline") n place ∷ [], (words_at places (codes "inline") n, (in_single _ place, inlines_back places (words_at places (codes "inline") n) (record { wants = refl }), is.wants)))

  inlines_reads : Reads (InlinesAt n) most size NoInline (read_inlines size left)
  unfolding read_inlines IsWanted
  inlines_reads =
      reads_as inlines_to inlines_back
      (many_reads (Single (spelt_at Word (codes "inline") n)) most size Any NoInline (is_word (codes "inline")) (read_inline left) (spelt_at_reads most size Any Word (codes "inline") n left level)
      (begins_single (spelt_at Word (codes "inline") n) (is_word (codes "inline")) true (λ place w takes. spelled_yes Word (codes "inline") w takes.0.0 takes.0.1))
      (λ ts h. tt) (λ ts h. tt) (λ ts h. h) (λ place ps is. omega (arith, ap length is.one)))

  abbrev BeforeNoInline : {A : Type 0} → A → List Token → Type 0
  BeforeNoInline a = NoInline

  pub inlines_step : (When : Type 0) → Step most size When (InlinesAt n) BeforeNoInline (read_inlines size left)
  unfolding words_at
  inlines_step When = record { by = λ when. by_reads inlines_reads; some = ([], ([], record { wants = refl })) }

  abbrev StaticL : Language (Option StaticSpecifier)
  StaticL = Both (Single (spelt_at Word (codes "static") n)) (λ place. Both (InlinesAt n) (λ inline. Given (Some (record { place = place; inline = inline }))))

  abbrev BeforeNoWords : Option StaticSpecifier → List Token → Type 0
  BeforeNoWords fixed = NoWords

  static_step : (When : Type 0) → Step most size When StaticL BeforeNoWords (read_fixed size left)
  unfolding read_fixed
  static_step When =
      placed_then most size BeforeNoWords Word (codes "static") n left level When _ _
      (λ place. then_ most size When (InlinesAt n) _ BeforeNoInline BeforeNoWords (read_inlines size left) _ (inlines_step When)
      (λ inline. given most size BeforeNoWords When (Some (record { place = place; inline = inline })))
      (λ inline ps c qs ys rest is k fits stop. given_stops {A = Option StaticSpecifier} (Some (record { place = place; inline = inline })) c qs ys rest NoInline k fits stop.0))

  fixed_to : (fixed : Option StaticSpecifier) (ps : List Piece) → Either StaticL (Given None) fixed ps → FixedAt n fixed ps
  unfolding wants_of_static
  fixed_to fixed ps (this b) = record { wants = onto b.whole b.left.one (onto b.right.whole b.right.left.wants b.right.right.none) ∙ ap (λ u. word_at b.first (codes "static") n ++ u) (append-nil (words_at b.right.first (codes "inline") n)) ∙ ap (λ u. wants_of_static u n) (sym b.right.right.tree_is) }
  fixed_to fixed ps (that b) = record { wants = b.none ∙ ap (λ u. wants_of_static u n) (sym b.tree_is) }

  fixed_back : (fixed : Option StaticSpecifier) (ps : List Piece) → FixedAt n fixed ps → Either StaticL (Given None) fixed ps
  unfolding wants_of_static
  fixed_back None ps is = that (record { tree_is = refl; none = is.wants })
  fixed_back (Some s) ps is =
      this (subst (λ u. StaticL (Some s) u) (ap (λ u. word_at s.place (codes "static") n ++ u) (append-nil (words_at s.inline (codes "inline") n)) ∙ sym is.wants)
      (in_both _ _ _ _ _ s.place (in_single (spelt_at Word (codes "static") n) s.place) (in_both _ _ _ _ _ s.inline (record { wants = refl }) (in_given (Some s)))))

  pub fixed_step : (When : Type 0) → Step most size When (FixedAt n) BeforeNoWords (choose (is_word (codes "static")) (read_fixed size left) (give None))
  unfolding wants_of_static
  fixed_step When = record {
    by = λ when. by_as fixed_to fixed_back
        (choose_by StaticL (Given None) most size BeforeNoWords (is_word (codes "static")) (read_fixed size left) (give None) ((static_step When).by when) ((given most size BeforeNoWords When None).by when)
        (λ f ps front rest is fits stop. begins_is_at Word (codes "static") n (λ place. Both (InlinesAt n) (λ inline. Given (Some (record { place = place; inline = inline })))) f ps front rest is fits)
        (λ f ps front rest is fits stop. given_stops None f ps front rest (FirstIs (is_word (codes "static")) false) is fits stop.1));
    some = (None, ([], record { wants = refl }));
  }

  -- ---- a function after its words

  pub name_then : {C : Type 0} (StopsC : C → List Token → Type 0) (When : Type 0) (K : Identifier → Language C) (g : Identifier → Reader C) → ((name : Identifier) → Step most size When (K name) StopsC (g name))
      → Step most size When (Both (Single (named Name n)) K) StopsC (read_name left >>= g)
  name_then StopsC When K g G =
      then_ most size When (Single (named Name n)) K Anything StopsC (read_name left) g (record { by = λ when. by_reads (named_reads most size Any Name n left level); some = (no_name, (named Name n no_name ∷ [], in_single (named Name n) no_name)) }) G
      (λ name ps c qs ys rest is k fits stop. tt)

  pub specs_then : {C : Type 0} (StopsC : C → List Token → Type 0) (When : Type 0) (K : Specifiers → Language C) (g : Specifiers → Reader C) → ((specs : Specifiers) → Step most size When (K specs) StopsC (g specs))
      → ((specs : Specifiers) → Begins (K specs) type_goes_on false) → Step most size When (Both (SpecsAt n) K) StopsC ((readers_at size left).specs >>= g)
  specs_then StopsC When K g G begins =
      then_ most size When (SpecsAt n) K (λ s. StopsType) StopsC (readers_at size left).specs g (record { by = λ when. by_reads (all_read most size left n level).specs; some = some_specs n }) G
      (λ specs ps c qs ys rest is k fits stop. begins specs c qs ys rest k fits)

  abbrev pub made : FunctionSpecifiers → Specifiers → Identifier → Parameters → Block → ExternalDeclaration
  made words specs name parameters body = item.Function (record { words = words; specs = specs; name = name; parameters = parameters; body = body })

  abbrev pub FunctionFollowedL : FunctionSpecifiers → Specifiers → Identifier → Language ExternalDeclaration
  FunctionFollowedL words specs name =
      Both (Single (spelt Mark (codes "(") n)) (λ opening. Both (ParametersAt n) (λ parameters. Both (Single (spelt Mark (codes ")") n)) (λ closing. Both (BlockAt n) (λ body. Given (made words specs name parameters body)))))

  abbrev pub FunctionOfL : FunctionSpecifiers → Language ExternalDeclaration
  FunctionOfL words = Both (SpecsAt n) (λ specs. Both (Single (named Name n)) (λ name. FunctionFollowedL words specs name))

  pub function_following_step : 0 < left → (words : FunctionSpecifiers) (specs : Specifiers) (name : Identifier) → Step most size Always (FunctionFollowedL words specs name) Anything (read_function_after size left words specs name)
  unfolding read_function_after read_head
  function_following_step positive words specs name =
      spelt_then most size Anything Mark (codes "(") n left level Always _ _
      (λ opening. then_ most size Always (ParametersAt n) _ (λ p. StopsParameters) Anything (read_parameters size left) _ (record { by = λ u. by_reads (parameters_reads most size n left level); some = some_parameters n })
      (λ parameters. spelt_then most size Anything Mark (codes ")") n left level Always _ _
      (λ closing. then_ most size Always (BlockAt n) (λ body. Given (made words specs name parameters body)) Anything Anything (read_block size left) _ (block_reads most size left n level positive)
      (λ body. given most size Anything Always (made words specs name parameters body))
      (λ body ps c qs ys rest is k fits stop. tt)))
      (λ parameters ps c qs ys rest is k fits stop. begins_is Mark (codes ")") n (λ closing. Both (BlockAt n) (λ body. Given (made words specs name parameters body))) c qs ys rest k fits))

  name_goes : (words : FunctionSpecifiers) (specs : Specifiers) → Begins (Both (Single (named Name n)) (λ name. FunctionFollowedL words specs name)) type_goes_on false
  unfolding type_goes_by spelled_by found_by found_in
  name_goes words specs = name_begins n (λ name. FunctionFollowedL words specs name) type_goes_by false (λ t. refl)

  pub function_of_step : 0 < left → (words : FunctionSpecifiers) → Step most size Always (FunctionOfL words) Anything (read_function_of size left words)
  unfolding read_function_of
  function_of_step positive words = specs_then Anything Always _ _ (λ specs. name_then Anything Always _ _ (λ name. function_following_step positive words specs name)) (name_goes words)

  -- ---- as trees

  function_flat : (words : FunctionSpecifiers) (specs : Specifiers) (name' : Identifier) (parameters : Parameters) (body : Block)
      → wants_of_words words n ++ (wants_of_specs specs n ++ (name name' n ++ ((spelt Mark (codes "(") n tt ∷ []) ++ (wants_of_parameters parameters n ++ ((spelt Mark (codes ")") n tt ∷ []) ++ (wants_of_block body n ++ [])))))) ≡ wants_of_item (made words specs name' parameters body) n
  unfolding wants_of_item wants_of_function
  function_flat words specs name' parameters body =
      let a = wants_of_words words n in
      let b = wants_of_specs specs n in
      let c = name name' n in
      let d = mark (codes "(") n in
      let e = wants_of_parameters parameters n in
      let f = mark (codes ")") n in
      let g = wants_of_block body n in
      ap (λ u. a ++ (b ++ (c ++ (d ++ (e ++ (f ++ u)))))) (append-nil g) ∙ (simp (append_assoc) refl)

  -- the words, the type and the name before what stands after them
  pub function_to : (words : FunctionSpecifiers) (specs : Specifiers) (name' : Identifier) (t : ExternalDeclaration) (ps rs ns qs : List Piece) → rs ≡ wants_of_words words n → SpecsAt n specs ns → FunctionFollowedL words specs name' t qs → ps ≡ rs ++ (ns ++ (name name' n ++ qs)) → Of is_item (λ i. wants_of_item i n) t ps
  unfolding is_item is_function
  function_to words specs name' t ps rs ns qs of_words is b whole =
      let parameters = b.right.first in
      let body = b.right.right.right.first in
      let tree : t ≡ made words specs name' parameters body = b.right.right.right.right.tree_is in
      record {
        grammar = ap is_item tree ∙ and_both (are_specs specs && are_parameters parameters) (is_block body) (and_both (are_specs specs) (are_parameters parameters) is.grammar b.right.left.grammar) b.right.right.right.left.grammar;
        wants = whole ∙ ap (λ u. u ++ (ns ++ (name name' n ++ qs))) of_words ∙ ap (λ u. wants_of_words words n ++ (u ++ (name name' n ++ qs))) is.wants
            ∙ ap (λ u. wants_of_words words n ++ (wants_of_specs specs n ++ (name name' n ++ u))) (onto b.whole b.left.one (onto b.right.whole b.right.left.wants (onto b.right.right.whole b.right.right.left.one (onto b.right.right.right.whole b.right.right.right.left.wants b.right.right.right.right.none))))
            ∙ function_flat words specs name' parameters body ∙ ap (λ u. wants_of_item u n) (sym tree);
      }

  pub record Headed (words : FunctionSpecifiers) (specs : Specifiers) (name' : Identifier) (t : ExternalDeclaration) (ps : List Piece) : Type 0 where
    pub following : List Piece
    pub specs_ : SpecsAt n specs (wants_of_specs specs n)
    pub rest : FunctionFollowedL words specs name' t following
    pub whole : ps ≡ wants_of_words words n ++ (wants_of_specs specs n ++ (name name' n ++ following))

  pub function_from : (words : FunctionSpecifiers) (specs : Specifiers) (name' : Identifier) (parameters : Parameters) (body : Block) (ps : List Piece) → Of is_item (λ i. wants_of_item i n) (made words specs name' parameters body) ps → Headed words specs name' (made words specs name' parameters body) ps
  unfolding is_item is_function
  function_from words specs name' parameters body ps is =
      let two = and_left (are_specs specs && are_parameters parameters) (is_block body) is.grammar in
      record {
        following = _;
        specs_ = record { grammar = and_left (are_specs specs) (are_parameters parameters) two; wants = refl };
        rest = in_both _ _ _ _ _ tt (in_single (spelt Mark (codes "(") n) tt)
            (in_both _ _ _ _ _ parameters (record { grammar = and_right (are_specs specs) (are_parameters parameters) two; wants = refl })
            (in_both _ _ _ _ _ tt (in_single (spelt Mark (codes ")") n) tt)
            (in_both _ _ _ _ _ body (record { grammar = and_right (are_specs specs && are_parameters parameters) (is_block body) is.grammar; wants = refl }) (in_given (made words specs name' parameters body)))));
        whole = is.wants ∙ sym (function_flat words specs name' parameters body);
      }

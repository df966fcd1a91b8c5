-- The readers of what stands after a primary expression.
use Rattle.std.proofs.Common.{◌≡◌, ◌≤◌, ℕ, ◌+◌, Bool, true, false, List, [], ◌∷◌, ◌++◌, refl, sym, ap, ◌∙◌, subst, arith, codes}
use Rattle.std.proofs.lemmas.Bool.{le-leb}
use Rattle.c_tree.specs.Pieces.{Piece, IsWanted}
use Rattle.c_tree.specs.Folds.{wants_of_expr, wants_of_specs, wants_of_suffix, binds, are_specs, is_suffix_tree}
use Rattle.c_tree.proofs.FoldsLaws.{wants_Suffix_Index, wants_Suffix_Member, wants_Suffix_Arrow, is_Suffix_Index, is_Suffix_Member, is_Suffix_Arrow, is_Expr_Name}
use Rattle.c_tree.proofs.Cases.{cases_Suffix}
use Rattle.c_tree.specs.declared.token.Place.{Place}
use Rattle.c_tree.specs.declared.token.Token.{Token}
use Rattle.c_tree.specs.declared.token.TokenKind.TheVariants.{Mark, Name}
use Rattle.c_tree.specs.declared.expressions.Identifier.{Identifier}
use Rattle.c_tree.specs.declared.expressions.Expr.{Expr}
use Rattle.c_tree.specs.declared.expressions.Expr.TheVariants as expr
use Rattle.c_tree.specs.declared.expressions.Specifiers.{Specifiers}
use Rattle.c_tree.specs.declared.expressions.Suffix.{Suffix}
use Rattle.c_tree.specs.declared.expressions.Suffix.TheVariants as suffix
use Rattle.c_reader.specs.Reading.{choose}
use Rattle.c_reader.specs.Tokens.{is_mark, is_spelled, is_kind, spelled_by, found_by, found_in}
use Rattle.c_grammar.specs.Tokens.{goes_on, goes_by, suffix_by, type_goes_on}
use Rattle.c_grammar.specs.Expressions.{Inner, read_index, read_member, read_arrow, read_suffix}
use Rattle.c_reader.proofs.Reader.{Language, Of, Reads}
use Rattle.c_reader.proofs.Binding.{Both, bind_reads}
use Rattle.c_reader.proofs.Giving.{Given, give_reads, reads_as}
use Rattle.c_reader.proofs.Taking.{Single}
use Rattle.c_reader.proofs.Choosing.{FirstIs, Either, this, that, choose_reads}
use Rattle.c_reader.proofs.Beginning.{Begins, begins_both, begins_single, begins_either, SomeOf, some_both, some_single, some_given}
use Rattle.c_reader.proofs.Joining.{in_both, in_single, in_given, onto, join2, join3}
use Rattle.c_reader.proofs.Spelt.{by_text, spelt, spelt_at, named, spelt_reads, spelt_at_reads, named_reads}

-- the expressions that bind so strongly, nested so deeply
abbrev pub At : ℕ → ℕ → Language Expr
At level n = Of (λ tree. binds tree level) (λ tree. wants_of_expr tree n)

abbrev pub SpecsAt : ℕ → Language Specifiers
SpecsAt n = Of are_specs (λ tree. wants_of_specs tree n)

abbrev pub SuffixAt : ℕ → Language Suffix
SuffixAt n = Of is_suffix_tree (λ tree. wants_of_suffix tree n)

abbrev pub Stops : ℕ → List Token → Type 0
Stops level = FirstIs (goes_on level) false

abbrev pub StopsType : List Token → Type 0
StopsType = FirstIs type_goes_on false

abbrev pub Any : List Token → Type 0
Any tokens = Unit {0}

-- what the readers of nested parts read, one level deeper than n
pub record InnerReads (most size n : ℕ) (inner : Inner) : Type 0 where
  pub level : (n + 1) + inner.left ≡ most + 1
  pub unary : Reads (At 11 (n + 1)) most size (Stops 11) inner.unary
  pub expr : Reads (At 0 (n + 1)) most size (Stops 0) inner.expr
  pub specs : Reads (SpecsAt (n + 1)) most size StopsType inner.specs

abbrev pub no_name : Identifier
no_name = record { place = record { line = 0; column = 0 }; text = [] }

pub some_at : (level n : ℕ) → level ≤ 13 → SomeOf (At level n)
some_at level n low =
    (expr.Name no_name, (wants_of_expr (expr.Name no_name) n, record { grammar = ap (λ f. f level) (is_Expr_Name no_name) ∙ le-leb level 13 low; wants = refl }))

module _ (most size n left : ℕ) (level : n + left ≡ most + 1) (inner : Inner) (I : InnerReads most size n inner) where
  abbrev pub IndexL : Language Suffix
  IndexL = Both (Single (spelt_at Mark (codes "[") n)) (λ place. Both (At 0 (n + 1)) (λ index. Both (Single (spelt Mark (codes "]") n)) (λ closing. Given (suffix.Index place index))))

  closes : Begins (Single (spelt Mark (codes "]") n)) (goes_on 0) false
  unfolding IsWanted goes_by suffix_by spelled_by found_by found_in
  closes = begins_single (spelt Mark (codes "]") n) (goes_on 0) false (λ u w takes. by_text (goes_by 0) Mark (codes "]") false w takes.0.0 takes.0.1 refl)

  index_reads : (Followed : List Token → Type 0) → Reads IndexL most size Followed (read_index left inner)
  unfolding read_index
  index_reads Followed =
      bind_reads _ _ most size Any Followed _ _ (spelt_at_reads most size Any Mark (codes "[") n left level)
      (λ place. bind_reads _ _ most size (Stops 0) Followed _ _ I.expr
      (λ index. bind_reads _ _ most size Any Followed _ _ (spelt_reads most size Any Mark (codes "]") n left level) (λ closing. give_reads (suffix.Index place index) most size Followed)
      (λ closing ps is. some_given (suffix.Index place index))
      (λ closing c qs ys rest is fits stop. tt))
      (λ index ps is. some_both _ _ (some_single (spelt Mark (codes "]") n) tt) (λ closing. some_given (suffix.Index place index)))
      (λ index c qs ys rest is fits stop. begins_both _ _ (goes_on 0) false closes c qs ys rest is fits))
      (λ place ps is. some_both _ _ (some_at 0 (n + 1) (omega arith)) (λ index. some_both _ _ (some_single (spelt Mark (codes "]") n) tt) (λ closing. some_given (suffix.Index place index))))
      (λ place c qs ys rest is fits stop. tt)

  index_flat : (place : Place) (index : Expr) → (spelt_at Mark (codes "[") n place ∷ []) ++ (wants_of_expr index (n + 1) ++ ((spelt Mark (codes "]") n tt ∷ []) ++ [])) ≡ wants_of_suffix (suffix.Index place index) n
  index_flat place index = join3 (spelt_at Mark (codes "[") n place ∷ []) (wants_of_expr index (n + 1)) (spelt Mark (codes "]") n tt ∷ []) ∙ sym (ap (λ f. f n) (wants_Suffix_Index place index))

  index_to : (s : Suffix) (ps : List Piece) → IndexL s ps → SuffixAt n s ps
  index_to s ps b =
      let place = b.first in
      let index = b.right.first in
      let is : s ≡ suffix.Index place index = b.right.right.right.tree_is in
      record {
        grammar = ap is_suffix_tree is ∙ is_Suffix_Index place index ∙ b.right.left.grammar;
        wants = onto b.whole b.left.one (onto b.right.whole b.right.left.wants (onto b.right.right.whole b.right.right.left.one b.right.right.right.none))
            ∙ index_flat place index ∙ ap (λ t. wants_of_suffix t n) (sym is);
      }

  index_from : (place : Place) (index : Expr) (ps : List Piece) → SuffixAt n (suffix.Index place index) ps → IndexL (suffix.Index place index) ps
  index_from place index ps is =
      subst (λ u. IndexL (suffix.Index place index) u) (index_flat place index ∙ sym is.wants)
      (in_both _ _ _ _ _ place (in_single (spelt_at Mark (codes "[") n) place)
      (in_both _ _ _ _ _ index (record { grammar = sym (is_Suffix_Index place index) ∙ is.grammar; wants = refl })
      (in_both _ _ _ _ _ tt (in_single (spelt Mark (codes "]") n) tt) (in_given (suffix.Index place index)))))

  abbrev pub MemberL : Language Suffix
  MemberL = Both (Single (spelt_at Mark (codes ".") n)) (λ place. Both (Single (named Name n)) (λ name. Given (suffix.Member place name)))

  member_reads : (Followed : List Token → Type 0) → Reads MemberL most size Followed (read_member left)
  unfolding read_member
  member_reads Followed =
      bind_reads _ _ most size Any Followed _ _ (spelt_at_reads most size Any Mark (codes ".") n left level)
      (λ place. bind_reads _ _ most size Any Followed _ _ (named_reads most size Any Name n left level) (λ name. give_reads (suffix.Member place name) most size Followed)
      (λ name ps is. some_given (suffix.Member place name))
      (λ name c qs ys rest is fits stop. tt))
      (λ place ps is. some_both _ _ (some_single (named Name n) no_name) (λ name. some_given (suffix.Member place name)))
      (λ place c qs ys rest is fits stop. tt)

  member_flat : (place : Place) (name : Identifier) → (spelt_at Mark (codes ".") n place ∷ []) ++ ((named Name n name ∷ []) ++ []) ≡ wants_of_suffix (suffix.Member place name) n
  member_flat place name = join2 (spelt_at Mark (codes ".") n place ∷ []) (named Name n name ∷ []) ∙ sym (ap (λ f. f n) (wants_Suffix_Member place name))

  member_to : (s : Suffix) (ps : List Piece) → MemberL s ps → SuffixAt n s ps
  member_to s ps b =
      let place = b.first in
      let name = b.right.first in
      let is : s ≡ suffix.Member place name = b.right.right.tree_is in
      record {
        grammar = ap is_suffix_tree is ∙ is_Suffix_Member place name;
        wants = onto b.whole b.left.one (onto b.right.whole b.right.left.one b.right.right.none)
            ∙ member_flat place name ∙ ap (λ t. wants_of_suffix t n) (sym is);
      }

  member_from : (place : Place) (name : Identifier) (ps : List Piece) → SuffixAt n (suffix.Member place name) ps → MemberL (suffix.Member place name) ps
  member_from place name ps is =
      subst (λ u. MemberL (suffix.Member place name) u) (member_flat place name ∙ sym is.wants)
      (in_both _ _ _ _ _ place (in_single (spelt_at Mark (codes ".") n) place) (in_both _ _ _ _ _ name (in_single (named Name n) name) (in_given (suffix.Member place name))))

  abbrev pub ArrowL : Language Suffix
  ArrowL = Both (Single (spelt_at Mark (codes "->") n)) (λ place. Both (Single (named Name n)) (λ name. Given (suffix.Arrow place name)))

  arrow_reads : (Followed : List Token → Type 0) → Reads ArrowL most size Followed (read_arrow left)
  unfolding read_arrow
  arrow_reads Followed =
      bind_reads _ _ most size Any Followed _ _ (spelt_at_reads most size Any Mark (codes "->") n left level)
      (λ place. bind_reads _ _ most size Any Followed _ _ (named_reads most size Any Name n left level) (λ name. give_reads (suffix.Arrow place name) most size Followed)
      (λ name ps is. some_given (suffix.Arrow place name))
      (λ name c qs ys rest is fits stop. tt))
      (λ place ps is. some_both _ _ (some_single (named Name n) no_name) (λ name. some_given (suffix.Arrow place name)))
      (λ place c qs ys rest is fits stop. tt)

  arrow_flat : (place : Place) (name : Identifier) → (spelt_at Mark (codes "->") n place ∷ []) ++ ((named Name n name ∷ []) ++ []) ≡ wants_of_suffix (suffix.Arrow place name) n
  arrow_flat place name = join2 (spelt_at Mark (codes "->") n place ∷ []) (named Name n name ∷ []) ∙ sym (ap (λ f. f n) (wants_Suffix_Arrow place name))

  arrow_to : (s : Suffix) (ps : List Piece) → ArrowL s ps → SuffixAt n s ps
  arrow_to s ps b =
      let place = b.first in
      let name = b.right.first in
      let is : s ≡ suffix.Arrow place name = b.right.right.tree_is in
      record {
        grammar = ap is_suffix_tree is ∙ is_Suffix_Arrow place name;
        wants = onto b.whole b.left.one (onto b.right.whole b.right.left.one b.right.right.none)
            ∙ arrow_flat place name ∙ ap (λ t. wants_of_suffix t n) (sym is);
      }

  arrow_from : (place : Place) (name : Identifier) (ps : List Piece) → SuffixAt n (suffix.Arrow place name) ps → ArrowL (suffix.Arrow place name) ps
  arrow_from place name ps is =
      subst (λ u. ArrowL (suffix.Arrow place name) u) (arrow_flat place name ∙ sym is.wants)
      (in_both _ _ _ _ _ place (in_single (spelt_at Mark (codes "->") n) place) (in_both _ _ _ _ _ name (in_single (named Name n) name) (in_given (suffix.Arrow place name))))

  any_to : (s : Suffix) (ps : List Piece) → Either IndexL (Either MemberL ArrowL) s ps → SuffixAt n s ps
  any_to s ps (this b) = index_to s ps b
  any_to s ps (that (this b)) = member_to s ps b
  any_to s ps (that (that b)) = arrow_to s ps b

  pub any_from : (s : Suffix) (ps : List Piece) → SuffixAt n s ps → Either IndexL (Either MemberL ArrowL) s ps
  any_from s ps = cases_Suffix (λ t. SuffixAt n t ps → Either IndexL (Either MemberL ArrowL) t ps)
      (λ place index is. this (index_from place index ps is))
      (λ place name is. that (this (member_from place name ps is)))
      (λ place name is. that (that (arrow_from place name ps is)))
      s

  begins_mark : (text : List ℕ) (test : List ℕ) (b : Bool) → spelled_by Mark test Mark text ≡ b → Begins (Single (spelt_at Mark text n)) (is_mark test) b
  unfolding IsWanted spelled_by is_spelled is_kind
  begins_mark text test b is = begins_single (spelt_at Mark text n) (is_mark test) b (λ place w takes. by_text (spelled_by Mark test) Mark text b w takes.0.0 takes.0.1 is)

  pub suffix_reads : (Followed : List Token → Type 0) → Reads (SuffixAt n) most size Followed (read_suffix left inner)
  unfolding read_suffix spelled_by
  suffix_reads Followed =
      reads_as any_to any_from
      (choose_reads IndexL (Either MemberL ArrowL) most size Followed (is_mark (codes "[")) (read_index left inner) (choose (is_mark (codes ".")) (read_member left) (read_arrow left)) (index_reads Followed)
      (choose_reads MemberL ArrowL most size Followed (is_mark (codes ".")) (read_member left) (read_arrow left) (member_reads Followed) (arrow_reads Followed)
      (λ s ps front rest is fits stop. begins_both _ _ (is_mark (codes ".")) true (begins_mark (codes ".") (codes ".") true refl) s ps front rest is fits)
      (λ s ps front rest is fits stop. begins_both _ _ (is_mark (codes ".")) false (begins_mark (codes "->") (codes ".") false refl) s ps front rest is fits))
      (λ s ps front rest is fits stop. begins_both _ _ (is_mark (codes "[")) true (begins_mark (codes "[") (codes "[") true refl) s ps front rest is fits)
      (λ s ps front rest is fits stop. begins_either MemberL ArrowL (is_mark (codes "[")) false (begins_both _ _ (is_mark (codes "[")) false (begins_mark (codes ".") (codes "[") false refl)) (begins_both _ _ (is_mark (codes "[")) false (begins_mark (codes "->") (codes "[") false refl)) s ps front rest is fits))

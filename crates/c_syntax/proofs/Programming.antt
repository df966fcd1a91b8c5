-- The reader of programs up to the end of the text.
use Rattle.std.proofs.Common.{◌≡◌, ◌<◌, ℕ, ◌+◌, true, false, List, [], ◌∷◌, ◌++◌, refl, sym, ap, ◌∙◌, subst, arith}
use Rattle.c_tree.specs.Pieces.{Piece, Takes, IsWanted, StandsAt}
use Rattle.c_tree.specs.Programs.{wants_of_item, wants_of_program, is_item, is_program, ProgramTree}
use Rattle.c_tree.specs.declared.token.Token.{Token}
use Rattle.c_tree.specs.declared.expressions.Identifier.{Identifier}
use Rattle.c_tree.specs.declared.token.TokenKind.TheVariants.{End}
use Rattle.c_reader.specs.Reading.{many}
use Rattle.c_reader.specs.Tokens.{named_of, is_kind, spelled_by, found_by, found_in}
use Rattle.c_grammar.specs.Tokens.{type_by}
use Rattle.c_reader.proofs.Reader.{Language, Reads}
use Rattle.c_reader.proofs.Binding.{Both}
use Rattle.c_reader.proofs.Giving.{Given}
use Rattle.c_reader.proofs.Taking.{Single}
use Rattle.c_reader.proofs.Choosing.{FirstIs}
use Rattle.c_reader.proofs.Repeating.{Several, many_reads}
use Rattle.c_reader.proofs.Joining.{in_both, in_single, in_given, onto}
use Rattle.c_reader.proofs.Listing.{all_to, all_from}
use Rattle.c_reader.proofs.Spelt.{kind_is, kind_yes}
use Rattle.c_reader.proofs.Beginning.{Begins, begins_both, begins_single}
use Rattle.c_grammar.proofs.Suffixes.{Any}
use Rattle.c_syntax.specs.Items.{read_item, read_end, read_program}
use Rattle.c_syntax.specs.Programs.{end_piece, ProgramAt}
use Rattle.c_statement.specs.Starts.{starts_item, item_by}
use Rattle.c_statement.proofs.ByTree.{by_reads, reads_by, by_as}
use Rattle.c_syntax.proofs.Itemising.{ItemAt, item_step, begins_item, item_some}
use Rattle.c_statement.proofs.Singles.{Always}
use Rattle.c_statement.proofs.Steps.{Step, Anything, then_, given, token_then}
use Rattle.c_statement.proofs.Switches.{some_several}

module _ (most size left : ℕ) (level : 0 + left ≡ most + 1) where
  has_level : 0 < left
  has_level = omega (arith, level)

  abbrev AtEnd : List Token → Type 0
  AtEnd = FirstIs (is_kind End) true

  kind_starts_none : (w : Token) → is_kind End w ≡ true → item_by w.kind w.text ≡ false
  unfolding item_by type_by spelled_by found_by found_in
  kind_starts_none w is = subst (λ k. item_by k w.text ≡ false) (sym (kind_is End w is)) refl

  end_starts_none : (ts : List Token) → AtEnd ts → FirstIs starts_item false ts
  unfolding FirstIs
  end_starts_none [] h = refl
  end_starts_none (w ∷ rest) h = kind_starts_none w h

  end_is : (end : Identifier) (w : Token) → Takes (end_piece end) w → (is_kind End w ≡ true) × (named_of w ≡ end)
  unfolding IsWanted StandsAt
  end_is end w t = (kind_yes End w t.0.0, ap (λ u. record { place = w.place; text = u }) t.0.1 ∙ ap (λ u. record { place = u; text = end.text }) t.1)

  end_takes : (w : Token) → is_kind End w ≡ true → Takes (end_piece (named_of w)) w
  unfolding IsWanted StandsAt
  end_takes w is = ((kind_is End w is, refl), refl)

  ends : {C : Type 0} (K : Identifier → Language C) → Begins (Both (Single end_piece) K) (is_kind End) true
  ends K = begins_both _ _ (is_kind End) true (begins_single end_piece (is_kind End) true (λ end w t. (end_is end w t).0))

  items_step : Step most size Always (Several (ItemAt 0)) (λ items. AtEnd) (many size starts_item (read_item size left))
  items_step = record {
    by = λ u. by_reads (many_reads (ItemAt 0) most size Any AtEnd starts_item (read_item size left) (reads_by Any (λ t rest stop. tt) ((item_step most size 0 left level has_level).by tt)) (begins_item most size 0 left level has_level) (λ ts h. tt) (λ ts h. tt) end_starts_none (item_some most size 0 left level has_level));
    some = some_several (ItemAt 0);
  }

  abbrev ProgramL : Language ProgramTree
  ProgramL = Both (Several (ItemAt 0)) (λ items. Both (Single end_piece) (λ end. Given (record { items = items; end = end.place })))

  program_read : Step most size Always ProgramL Anything (read_program size left)
  unfolding read_program read_end
  program_read =
      then_ most size Always (Several (ItemAt 0)) _ (λ items. AtEnd) Anything (many size starts_item (read_item size left)) _ items_step
      (λ items. token_then most size Anything (is_kind End) named_of end_piece (record { place = record { line = 0; column = 0 }; text = [] }) end_is end_takes Always left (λ end. level) _ _ (λ end. given most size Anything Always (record { items = items; end = end.place })))
      (λ items ps c qs ys rest is k fits stop. ends (λ end. Given (record { items = items; end = end.place })) c qs ys rest k fits)

  program_to : (t : ProgramTree) (ps : List Piece) → ProgramL t ps → ProgramAt t ps
  unfolding is_program wants_of_program
  program_to t ps b =
      let all = all_to is_item wants_of_item 0 b.first b.pieces1 b.left in
      record {
        grammar = ap is_program b.right.right.tree_is ∙ all.grammar;
        ending = b.right.first.text;
        wants = onto b.whole all.wants (onto b.right.whole b.right.left.one b.right.right.none) ∙ ap (λ u. wants_of_program u ++ end_piece (record { place = u.end; text = b.right.first.text }) ∷ []) (sym b.right.right.tree_is);
      }

  program_from : (t : ProgramTree) (ps : List Piece) → ProgramAt t ps → ProgramL t ps
  unfolding is_program wants_of_program
  program_from t ps is =
      subst (λ u. ProgramL t u) (sym is.wants)
      (in_both _ _ _ _ _ t.items (all_from is_item wants_of_item 0 t.items _ (record { grammar = is.grammar; wants = refl })) (in_both _ _ _ _ _ (record { place = t.end; text = is.ending }) (in_single end_piece (record { place = t.end; text = is.ending })) (in_given t)))

  pub program_reads : Reads ProgramAt most size Any (read_program size left)
  program_reads = reads_by Any (λ t rest stop. tt) (by_as program_to program_from (program_read.by tt))

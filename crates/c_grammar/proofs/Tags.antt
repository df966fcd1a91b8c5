-- The readers of structs, of enums and of whole spellings of types.
use Rattle.std.proofs.Common.{◌≡◌, ℕ, ◌+◌, Bool, true, false, ◌&&◌, ◌||◌, ◌==◌, List, [], ◌∷◌, ◌++◌, map, Option, Some, None, is_some, refl, sym, ap, ◌∙◌, subst, codes}
use Rattle.std.proofs.lemmas.List.{append-nil}
use Rattle.std.specs.List.{list_all}
use Rattle.c_tree.specs.Pieces.{Piece, IsWanted, name}
use Rattle.c_tree.specs.Folds.{wants_of_tag, wants_of_member, wants_of_enumerator, is_tag_tree, is_member_tree, is_enumerator_tree}
use Rattle.c_tree.specs.Types.{struct_body, enum_body, is_body, is_comma}
use Rattle.c_tree.specs.Expressions.{has_some}
use Rattle.c_tree.proofs.Cases.{cases_TagSpecifier}
use Rattle.c_tree.proofs.FoldsLaws.{wants_TagSpecifier_Struct, wants_TagSpecifier_Enum, is_TagSpecifier_Struct, is_TagSpecifier_Enum}
use Rattle.c_tree.specs.declared.token.Place.{Place}
use Rattle.c_tree.specs.declared.token.TokenKind.TheVariants.{Word, Name, Mark}
use Rattle.c_tree.specs.declared.expressions.Identifier.{Identifier}
use Rattle.c_tree.specs.declared.expressions.TrailingComma.{TrailingComma}
use Rattle.c_tree.specs.declared.expressions.TrailingComma.TheVariants.{Absent, Present}
use Rattle.c_tree.specs.declared.expressions.Expr.{Expr}
use Rattle.c_tree.specs.declared.expressions.TagSpecifier.{TagSpecifier}
use Rattle.c_tree.specs.declared.expressions.TagSpecifier.TheVariants as tag
use Rattle.c_tree.specs.declared.expressions.StructDeclaration.{StructDeclaration}
use Rattle.c_tree.specs.declared.expressions.Enumerator.{Enumerator}
use Rattle.c_reader.specs.Reading.{Reader, ◌>>=◌, give}
use Rattle.c_reader.specs.Tokens.{kind_number, is_mark, is_word, is_kind, is_spelled, spelled_by, read_name}
use Rattle.c_grammar.specs.Expressions.{Inner}
use Rattle.c_grammar.specs.Types.{read_struct_body, read_struct_after, read_struct, read_enum_body, read_enum_after, read_enum, read_tag}
use Rattle.c_reader.proofs.Reader.{Language, Reads}
use Rattle.c_reader.proofs.Binding.{Both, bind_reads}
use Rattle.c_reader.proofs.Giving.{Given, give_reads, reads_as}
use Rattle.c_reader.proofs.Taking.{Single}
use Rattle.c_reader.proofs.Choosing.{Either, this, that, choose_reads}
use Rattle.c_reader.proofs.Repeating.{given_stops}
use Rattle.c_reader.proofs.Beginning.{Begins, begins_both, begins_single, SomeOf, some_both, some_given}
use Rattle.c_reader.proofs.Joining.{in_both, in_single, in_given, onto, join3}
use Rattle.c_reader.proofs.Listing.{list_all_map}
use Rattle.c_reader.proofs.Spelt.{by_text, kind_yes, spelt_at, named, spelt_at_reads, named_reads}
use Rattle.c_grammar.proofs.Suffixes.{At, Stops, Any, InnerReads}
use Rattle.c_grammar.proofs.Members.{TagAt, StopsBrace, BodyAt, body_reads, some_body, body_begins}
use Rattle.c_grammar.proofs.Enums.{EnumBodyAt, enum_body_reads, some_enum_body, enum_body_begins}
use Rattle.c_reader.proofs.Truths.{not_true, and_left, and_right, and_both, or_true, has_map}

module _ (most size n left : ℕ) (level : n + left ≡ most + 1) (inner : Inner) (I : InnerReads most size n inner) (read : Reader Expr) (E : Reads (At 0 n) most size (Stops 0) read) where
  abbrev Body : Language (List StructDeclaration)
  Body = BodyAt most size n inner I

  abbrev EnumBody : Language (List Enumerator × TrailingComma)
  EnumBody = EnumBodyAt most size n left level read E

  -- ---- structs

  abbrev NamedStructL : Place → Identifier → Language TagSpecifier
  NamedStructL place name = Either (Both Body (λ members. Given (tag.Struct place (Some name) (Some members)))) (Given (tag.Struct place (Some name) None))

  abbrev StructL : Language TagSpecifier
  StructL = Both (Single (spelt_at Word (codes "struct") n)) (λ place. Either (Both (Single (named Name n)) (λ name. NamedStructL place name)) (Both Body (λ members. Given (tag.Struct place None (Some members)))))

  brace_begins : Begins Body (is_mark (codes "{")) true
  unfolding spelled_by is_spelled is_kind
  brace_begins = body_begins most size n inner I (spelled_by Mark (codes "{")) true refl

  brace_no_name : Begins Body (is_kind Name) false
  unfolding is_kind
  brace_no_name = body_begins most size n inner I (λ k t. kind_number k == kind_number Name) false refl

  name_here : Begins (Single (named Name n)) (is_kind Name) true
  unfolding IsWanted
  name_here = begins_single (named Name n) (is_kind Name) true (λ name w takes. kind_yes Name w takes.0.0)

  struct_following_read : (place : Place) (name : Identifier) → Reads (NamedStructL place name) most size StopsBrace (read_struct_after size inner place name)
  unfolding read_struct_after
  struct_following_read place name =
      choose_reads (Both Body (λ members. Given (tag.Struct place (Some name) (Some members)))) (Given (tag.Struct place (Some name) None)) most size StopsBrace (is_mark (codes "{"))
      (read_struct_body size inner >>= λ members. give (tag.Struct place (Some name) (Some members))) (give (tag.Struct place (Some name) None))
      (bind_reads _ _ most size Any StopsBrace _ _ (body_reads most size n inner I Any) (λ members. give_reads (tag.Struct place (Some name) (Some members)) most size StopsBrace) (λ members ps is. some_given _) (λ members c qs ys rest is fits stop. tt))
      (give_reads (tag.Struct place (Some name) None) most size StopsBrace)
      (λ t ps front rest is fits stop. begins_both _ _ (is_mark (codes "{")) true brace_begins t ps front rest is fits)
      (λ t ps front rest is fits stop. given_stops (tag.Struct place (Some name) None) t ps front rest StopsBrace is fits stop)

  some_struct : (place : Place) → SomeOf (Either (Both (Single (named Name n)) (λ name. NamedStructL place name)) (Both Body (λ members. Given (tag.Struct place None (Some members)))))
  some_struct place =
      let x = some_both Body (λ members. Given (tag.Struct place None (Some members))) (some_body most size n inner I) (λ members. some_given (tag.Struct place None (Some members))) in
      (x.0, (x.1.0, that x.1.1))

  struct_read : Reads StructL most size StopsBrace (read_struct size left inner)
  unfolding read_struct
  struct_read =
      bind_reads _ _ most size Any StopsBrace _ _ (spelt_at_reads most size Any Word (codes "struct") n left level)
      (λ place. choose_reads (Both (Single (named Name n)) (λ name. NamedStructL place name)) (Both Body (λ members. Given (tag.Struct place None (Some members)))) most size StopsBrace (is_kind Name)
      (read_name left >>= read_struct_after size inner place) (read_struct_body size inner >>= λ members. give (tag.Struct place None (Some members)))
      (bind_reads _ _ most size Any StopsBrace _ _ (named_reads most size Any Name n left level) (struct_following_read place) (λ name ps is. (tag.Struct place (Some name) None, ([], that (in_given (tag.Struct place (Some name) None))))) (λ name c qs ys rest is fits stop. tt))
      (bind_reads _ _ most size Any StopsBrace _ _ (body_reads most size n inner I Any) (λ members. give_reads (tag.Struct place None (Some members)) most size StopsBrace) (λ members ps is. some_given _) (λ members c qs ys rest is fits stop. tt))
      (λ t ps front rest is fits stop. begins_both _ _ (is_kind Name) true name_here t ps front rest is fits)
      (λ t ps front rest is fits stop. begins_both _ _ (is_kind Name) false brace_no_name t ps front rest is fits))
      (λ place ps is. some_struct place)
      (λ place c qs ys rest is fits stop. tt)

  members_ok : (members : List StructDeclaration) → is_body (Some (map is_member_tree members)) ≡ (has_some members && list_all is_member_tree members)
  members_ok members = ap (λ u. u && list_all (λ v. v) (map is_member_tree members)) (has_map is_member_tree members) ∙ ap (λ u. has_some members && u) (list_all_map is_member_tree (λ v. v) members)

  struct_named_to : (place : Place) (name : Identifier) (t : TagSpecifier) (qs : List Piece) → NamedStructL place name t qs → TagAt n t ((spelt_at Word (codes "struct") n place ∷ []) ++ ((named Name n name ∷ []) ++ qs))
  struct_named_to place name t qs (this b) =
      let is : t ≡ tag.Struct place (Some name) (Some b.first) = b.right.tree_is in
      record {
        grammar = ap is_tag_tree is ∙ is_TagSpecifier_Struct place (Some name) (Some b.first) ∙ members_ok b.first ∙ b.left.grammar;
        wants = ap (λ u. (spelt_at Word (codes "struct") n place ∷ []) ++ ((named Name n name ∷ []) ++ u)) (onto b.whole b.left.wants b.right.none)
            ∙ join3 (spelt_at Word (codes "struct") n place ∷ []) (named Name n name ∷ []) (struct_body (Some (map wants_of_member b.first)) n) ∙ sym (ap (λ f. f n) (wants_TagSpecifier_Struct place (Some name) (Some b.first))) ∙ ap (λ u. wants_of_tag u n) (sym is);
      }
  struct_named_to place name t qs (that g) =
      record {
        grammar = ap is_tag_tree g.tree_is ∙ is_TagSpecifier_Struct place (Some name) None;
        wants = ap (λ u. (spelt_at Word (codes "struct") n place ∷ []) ++ ((named Name n name ∷ []) ++ u)) g.none ∙ sym (ap (λ f. f n) (wants_TagSpecifier_Struct place (Some name) None)) ∙ ap (λ u. wants_of_tag u n) (sym g.tree_is);
      }

  struct_to_at : (place : Place) (t : TagSpecifier) (qs : List Piece) → Either (Both (Single (named Name n)) (λ name. NamedStructL place name)) (Both Body (λ members. Given (tag.Struct place None (Some members)))) t qs → TagAt n t ((spelt_at Word (codes "struct") n place ∷ []) ++ qs)
  struct_to_at place t qs (this b) =
      subst (λ u. TagAt n t ((spelt_at Word (codes "struct") n place ∷ []) ++ u)) (sym (b.whole ∙ ap (λ u. u ++ b.pieces2) b.left.one)) (struct_named_to place b.first t b.pieces2 b.right)
  struct_to_at place t qs (that b) =
      let is : t ≡ tag.Struct place None (Some b.first) = b.right.tree_is in
      record {
        grammar = ap is_tag_tree is ∙ is_TagSpecifier_Struct place None (Some b.first) ∙ members_ok b.first ∙ b.left.grammar;
        wants = ap (λ u. (spelt_at Word (codes "struct") n place ∷ []) ++ u) (onto b.whole b.left.wants b.right.none ∙ append-nil (struct_body (Some (map wants_of_member b.first)) n)) ∙ sym (ap (λ f. f n) (wants_TagSpecifier_Struct place None (Some b.first))) ∙ ap (λ u. wants_of_tag u n) (sym is);
      }

  struct_to : (t : TagSpecifier) (ps : List Piece) → StructL t ps → TagAt n t ps
  struct_to t ps b = subst (λ u. TagAt n t u) (sym (b.whole ∙ ap (λ u. u ++ b.pieces2) b.left.one)) (struct_to_at b.first t b.pieces2 b.right)

  struct_from : (place : Place) (name : Option Identifier) (members : Option (List StructDeclaration)) (ps : List Piece) → TagAt n (tag.Struct place name members) ps → StructL (tag.Struct place name members) ps
  struct_from place (Some name) (Some members) ps is =
      let g = sym (members_ok members) ∙ sym (is_TagSpecifier_Struct place (Some name) (Some members)) ∙ is.grammar in
      subst (λ u. StructL (tag.Struct place (Some name) (Some members)) u)
      (join3 (spelt_at Word (codes "struct") n place ∷ []) (named Name n name ∷ []) (struct_body (Some (map wants_of_member members)) n) ∙ sym (ap (λ f. f n) (wants_TagSpecifier_Struct place (Some name) (Some members))) ∙ sym is.wants)
      (in_both _ _ _ _ _ place (in_single (spelt_at Word (codes "struct") n) place)
      (this (in_both _ _ _ _ _ name (in_single (named Name n) name)
      (this (in_both _ _ _ _ _ members (record { grammar = g; wants = refl }) (in_given (tag.Struct place (Some name) (Some members))))))))
  struct_from place (Some name) None ps is =
      subst (λ u. StructL (tag.Struct place (Some name) None) u) (sym (ap (λ f. f n) (wants_TagSpecifier_Struct place (Some name) None)) ∙ sym is.wants)
      (in_both _ _ _ _ _ place (in_single (spelt_at Word (codes "struct") n) place)
      (this (in_both _ _ _ _ _ name (in_single (named Name n) name) (that (in_given (tag.Struct place (Some name) None))))))
  struct_from place None (Some members) ps is =
      let g = sym (members_ok members) ∙ sym (is_TagSpecifier_Struct place None (Some members)) ∙ is.grammar in
      subst (λ u. StructL (tag.Struct place None (Some members)) u)
      (ap (λ u. (spelt_at Word (codes "struct") n place ∷ []) ++ u) (append-nil (struct_body (Some (map wants_of_member members)) n)) ∙ sym (ap (λ f. f n) (wants_TagSpecifier_Struct place None (Some members))) ∙ sym is.wants)
      (in_both _ _ _ _ _ place (in_single (spelt_at Word (codes "struct") n) place)
      (that (in_both _ _ _ _ _ members (record { grammar = g; wants = refl }) (in_given (tag.Struct place None (Some members))))))
  struct_from place None None ps is = absurd (not_true (sym (is_TagSpecifier_Struct place None None) ∙ is.grammar))

  -- ---- enums

  abbrev NamedEnumL : Place → Identifier → Language TagSpecifier
  NamedEnumL place name = Either (Both EnumBody (λ body. Given (tag.Enum place (Some name) (Some body.0) body.1))) (Given (tag.Enum place (Some name) None Absent))

  abbrev EnumL : Language TagSpecifier
  EnumL = Both (Single (spelt_at Word (codes "enum") n)) (λ place. Either (Both (Single (named Name n)) (λ name. NamedEnumL place name)) (Both EnumBody (λ body. Given (tag.Enum place None (Some body.0) body.1))))

  enum_brace : Begins EnumBody (is_mark (codes "{")) true
  unfolding spelled_by is_spelled is_kind
  enum_brace = enum_body_begins most size n left level read E (spelled_by Mark (codes "{")) true refl

  enum_no_name : Begins EnumBody (is_kind Name) false
  unfolding is_kind
  enum_no_name = enum_body_begins most size n left level read E (λ k t. kind_number k == kind_number Name) false refl

  enum_following_read : (place : Place) (name : Identifier) → Reads (NamedEnumL place name) most size StopsBrace (read_enum_after size left read place name)
  unfolding read_enum_after
  enum_following_read place name =
      choose_reads (Both EnumBody (λ body. Given (tag.Enum place (Some name) (Some body.0) body.1))) (Given (tag.Enum place (Some name) None Absent)) most size StopsBrace (is_mark (codes "{"))
      (read_enum_body size left read >>= λ body. give (tag.Enum place (Some name) (Some body.0) body.1)) (give (tag.Enum place (Some name) None Absent))
      (bind_reads _ _ most size Any StopsBrace _ _ (enum_body_reads most size n left level read E Any) (λ body. give_reads (tag.Enum place (Some name) (Some body.0) body.1) most size StopsBrace) (λ body ps is. some_given _) (λ body c qs ys rest is fits stop. tt))
      (give_reads (tag.Enum place (Some name) None Absent) most size StopsBrace)
      (λ t ps front rest is fits stop. begins_both _ _ (is_mark (codes "{")) true enum_brace t ps front rest is fits)
      (λ t ps front rest is fits stop. given_stops (tag.Enum place (Some name) None Absent) t ps front rest StopsBrace is fits stop)

  some_enum : (place : Place) → SomeOf (Either (Both (Single (named Name n)) (λ name. NamedEnumL place name)) (Both EnumBody (λ body. Given (tag.Enum place None (Some body.0) body.1))))
  some_enum place =
      let x = some_both EnumBody (λ body. Given (tag.Enum place None (Some body.0) body.1)) (some_enum_body most size n left level read E) (λ body. some_given (tag.Enum place None (Some body.0) body.1)) in
      (x.0, (x.1.0, that x.1.1))

  enum_read : Reads EnumL most size StopsBrace (read_enum size left read)
  unfolding read_enum
  enum_read =
      bind_reads _ _ most size Any StopsBrace _ _ (spelt_at_reads most size Any Word (codes "enum") n left level)
      (λ place. choose_reads (Both (Single (named Name n)) (λ name. NamedEnumL place name)) (Both EnumBody (λ body. Given (tag.Enum place None (Some body.0) body.1))) most size StopsBrace (is_kind Name)
      (read_name left >>= read_enum_after size left read place) (read_enum_body size left read >>= λ body. give (tag.Enum place None (Some body.0) body.1))
      (bind_reads _ _ most size Any StopsBrace _ _ (named_reads most size Any Name n left level) (enum_following_read place) (λ name ps is. (tag.Enum place (Some name) None Absent, ([], that (in_given (tag.Enum place (Some name) None Absent))))) (λ name c qs ys rest is fits stop. tt))
      (bind_reads _ _ most size Any StopsBrace _ _ (enum_body_reads most size n left level read E Any) (λ body. give_reads (tag.Enum place None (Some body.0) body.1) most size StopsBrace) (λ body ps is. some_given _) (λ body c qs ys rest is fits stop. tt))
      (λ t ps front rest is fits stop. begins_both _ _ (is_kind Name) true name_here t ps front rest is fits)
      (λ t ps front rest is fits stop. begins_both _ _ (is_kind Name) false enum_no_name t ps front rest is fits))
      (λ place ps is. some_enum place)
      (λ place c qs ys rest is fits stop. tt)

  constants_ok : (constants : List Enumerator) → is_body (Some (map is_enumerator_tree constants)) ≡ (has_some constants && list_all is_enumerator_tree constants)
  constants_ok constants = ap (λ u. u && list_all (λ v. v) (map is_enumerator_tree constants)) (has_map is_enumerator_tree constants) ∙ ap (λ u. has_some constants && u) (list_all_map is_enumerator_tree (λ v. v) constants)

  comma_ok : (entries : List Bool) (last : TrailingComma) → is_comma (Some entries) last ≡ true
  comma_ok entries Absent = refl
  comma_ok entries Present = refl

  enum_ok : (place : Place) (name : Option Identifier) (constants : List Enumerator) (last : TrailingComma) → is_tag_tree (tag.Enum place name (Some constants) last) ≡ true → (has_some constants && list_all is_enumerator_tree constants) ≡ true
  enum_ok place name constants last h =
      let g = sym (is_TagSpecifier_Enum place name (Some constants) last) ∙ h in
      sym (constants_ok constants) ∙ and_right (is_some name || true) (is_body (Some (map is_enumerator_tree constants))) (and_left ((is_some name || true) && is_body (Some (map is_enumerator_tree constants))) (is_comma (Some (map is_enumerator_tree constants)) last) g)

  enum_yes : (place : Place) (name : Option Identifier) (constants : List Enumerator) (last : TrailingComma) → (has_some constants && list_all is_enumerator_tree constants) ≡ true → is_tag_tree (tag.Enum place name (Some constants) last) ≡ true
  enum_yes place name constants last h =
      is_TagSpecifier_Enum place name (Some constants) last
      ∙ and_both ((is_some name || true) && is_body (Some (map is_enumerator_tree constants))) (is_comma (Some (map is_enumerator_tree constants)) last)
      (and_both (is_some name || true) (is_body (Some (map is_enumerator_tree constants))) (or_true (is_some name)) (constants_ok constants ∙ h)) (comma_ok (map is_enumerator_tree constants) last)

  enum_named_to : (place : Place) (name : Identifier) (t : TagSpecifier) (qs : List Piece) → NamedEnumL place name t qs → TagAt n t ((spelt_at Word (codes "enum") n place ∷ []) ++ ((named Name n name ∷ []) ++ qs))
  enum_named_to place name t qs (this b) =
      let is : t ≡ tag.Enum place (Some name) (Some b.first.0) b.first.1 = b.right.tree_is in
      record {
        grammar = ap is_tag_tree is ∙ enum_yes place (Some name) b.first.0 b.first.1 b.left.grammar;
        wants = ap (λ u. (spelt_at Word (codes "enum") n place ∷ []) ++ ((named Name n name ∷ []) ++ u)) (onto b.whole b.left.wants b.right.none)
            ∙ join3 (spelt_at Word (codes "enum") n place ∷ []) (named Name n name ∷ []) (enum_body (Some (map wants_of_enumerator b.first.0)) b.first.1 n) ∙ sym (ap (λ f. f n) (wants_TagSpecifier_Enum place (Some name) (Some b.first.0) b.first.1)) ∙ ap (λ u. wants_of_tag u n) (sym is);
      }
  enum_named_to place name t qs (that g) =
      record {
        grammar = ap is_tag_tree g.tree_is ∙ is_TagSpecifier_Enum place (Some name) None Absent;
        wants = ap (λ u. (spelt_at Word (codes "enum") n place ∷ []) ++ ((named Name n name ∷ []) ++ u)) g.none ∙ sym (ap (λ f. f n) (wants_TagSpecifier_Enum place (Some name) None Absent)) ∙ ap (λ u. wants_of_tag u n) (sym g.tree_is);
      }

  enum_to_at : (place : Place) (t : TagSpecifier) (qs : List Piece) → Either (Both (Single (named Name n)) (λ name. NamedEnumL place name)) (Both EnumBody (λ body. Given (tag.Enum place None (Some body.0) body.1))) t qs → TagAt n t ((spelt_at Word (codes "enum") n place ∷ []) ++ qs)
  enum_to_at place t qs (this b) =
      subst (λ u. TagAt n t ((spelt_at Word (codes "enum") n place ∷ []) ++ u)) (sym (b.whole ∙ ap (λ u. u ++ b.pieces2) b.left.one)) (enum_named_to place b.first t b.pieces2 b.right)
  enum_to_at place t qs (that b) =
      let is : t ≡ tag.Enum place None (Some b.first.0) b.first.1 = b.right.tree_is in
      record {
        grammar = ap is_tag_tree is ∙ enum_yes place None b.first.0 b.first.1 b.left.grammar;
        wants = ap (λ u. (spelt_at Word (codes "enum") n place ∷ []) ++ u) (onto b.whole b.left.wants b.right.none ∙ append-nil (enum_body (Some (map wants_of_enumerator b.first.0)) b.first.1 n)) ∙ sym (ap (λ f. f n) (wants_TagSpecifier_Enum place None (Some b.first.0) b.first.1)) ∙ ap (λ u. wants_of_tag u n) (sym is);
      }

  enum_to : (t : TagSpecifier) (ps : List Piece) → EnumL t ps → TagAt n t ps
  enum_to t ps b = subst (λ u. TagAt n t u) (sym (b.whole ∙ ap (λ u. u ++ b.pieces2) b.left.one)) (enum_to_at b.first t b.pieces2 b.right)

  enum_from : (place : Place) (name : Option Identifier) (constants : Option (List Enumerator)) (last : TrailingComma) (ps : List Piece) → TagAt n (tag.Enum place name constants last) ps → EnumL (tag.Enum place name constants last) ps
  enum_from place (Some name) (Some constants) last ps is =
      subst (λ u. EnumL (tag.Enum place (Some name) (Some constants) last) u)
      (join3 (spelt_at Word (codes "enum") n place ∷ []) (named Name n name ∷ []) (enum_body (Some (map wants_of_enumerator constants)) last n) ∙ sym (ap (λ f. f n) (wants_TagSpecifier_Enum place (Some name) (Some constants) last)) ∙ sym is.wants)
      (in_both _ _ _ _ _ place (in_single (spelt_at Word (codes "enum") n) place)
      (this (in_both _ _ _ _ _ name (in_single (named Name n) name)
      (this (in_both _ _ _ _ _ (constants, last) (record { grammar = enum_ok place (Some name) constants last is.grammar; wants = refl }) (in_given (tag.Enum place (Some name) (Some constants) last)))))))
  enum_from place (Some name) None Absent ps is =
      subst (λ u. EnumL (tag.Enum place (Some name) None Absent) u) (sym (ap (λ f. f n) (wants_TagSpecifier_Enum place (Some name) None Absent)) ∙ sym is.wants)
      (in_both _ _ _ _ _ place (in_single (spelt_at Word (codes "enum") n) place)
      (this (in_both _ _ _ _ _ name (in_single (named Name n) name) (that (in_given (tag.Enum place (Some name) None Absent))))))
  enum_from place (Some name) None Present ps is = absurd (not_true (sym (is_TagSpecifier_Enum place (Some name) None Present) ∙ is.grammar))
  enum_from place None (Some constants) last ps is =
      subst (λ u. EnumL (tag.Enum place None (Some constants) last) u)
      (ap (λ u. (spelt_at Word (codes "enum") n place ∷ []) ++ u) (append-nil (enum_body (Some (map wants_of_enumerator constants)) last n)) ∙ sym (ap (λ f. f n) (wants_TagSpecifier_Enum place None (Some constants) last)) ∙ sym is.wants)
      (in_both _ _ _ _ _ place (in_single (spelt_at Word (codes "enum") n) place)
      (that (in_both _ _ _ _ _ (constants, last) (record { grammar = enum_ok place None constants last is.grammar; wants = refl }) (in_given (tag.Enum place None (Some constants) last)))))
  enum_from place None None last ps is = absurd (not_true (sym (is_TagSpecifier_Enum place None None last) ∙ is.grammar))

  -- ---- both

  tag_to : (t : TagSpecifier) (ps : List Piece) → Either StructL EnumL t ps → TagAt n t ps
  tag_to t ps (this b) = struct_to t ps b
  tag_to t ps (that b) = enum_to t ps b

  tag_from : (t : TagSpecifier) (ps : List Piece) → TagAt n t ps → Either StructL EnumL t ps
  tag_from = cases_TagSpecifier (λ t. (ps : List Piece) → TagAt n t ps → Either StructL EnumL t ps)
      (λ place name members ps is. this (struct_from place name members ps is))
      (λ place name constants last ps is. that (enum_from place name constants last ps is))

  word_begins : (text : List ℕ) (other : List ℕ) (b : Bool) → spelled_by Word other Word text ≡ b → Begins (Single (spelt_at Word text n)) (is_word other) b
  unfolding IsWanted spelled_by is_spelled is_kind
  word_begins text other b is = begins_single (spelt_at Word text n) (is_word other) b (λ place w takes. by_text (spelled_by Word other) Word text b w takes.0.0 takes.0.1 is)

  pub tag_reads : Reads (TagAt n) most size StopsBrace (read_tag size left inner read)
  unfolding read_tag spelled_by
  tag_reads =
      reads_as tag_to tag_from
      (choose_reads StructL EnumL most size StopsBrace (is_word (codes "struct")) (read_struct size left inner) (read_enum size left read) struct_read enum_read
      (λ t ps front rest is fits stop. begins_both _ _ (is_word (codes "struct")) true (word_begins (codes "struct") (codes "struct") true refl) t ps front rest is fits)
      (λ t ps front rest is fits stop. begins_both _ _ (is_word (codes "struct")) false (word_begins (codes "enum") (codes "struct") false refl) t ps front rest is fits))

-- The readers of members and of structs' bodies.
use Rattle.std.proofs.Common.{◌≡◌, ◌<◌, ℕ, ◌+◌, Bool, true, false, ◌&&◌, List, [], ◌∷◌, ◌++◌, length, map, Some, refl, sym, ap, ◌∙◌, subst, arith, codes}
use Rattle.std.proofs.lemmas.List.{append_assoc}
use Rattle.std.specs.List.{list_all}
use Rattle.c_tree.specs.Pieces.{Piece, IsWanted, Fits, all_of, separated, mark}
use Rattle.c_tree.specs.Folds.{wants_of_specs, wants_of_tag, wants_of_member, wants_of_dimensioned, wants_of_dimension, are_specs, is_tag_tree, is_member_tree, is_dimensioned_tree}
use Rattle.c_tree.specs.Types.{struct_body}
use Rattle.c_tree.specs.Expressions.{has_some}
use Rattle.c_tree.proofs.Cases.{cases_StructDeclaration, cases_StructDeclarator}
use Rattle.c_tree.proofs.FoldsLaws.{wants_StructDeclaration, wants_StructDeclarator, is_Specifiers, is_TypeSpecifier_TypeName, is_StructDeclaration}
use Rattle.c_tree.specs.declared.token.Token.{Token}
use Rattle.c_tree.specs.declared.token.TokenKind.{TokenKind}
use Rattle.c_tree.specs.declared.token.TokenKind.TheVariants.{Name, Mark}
use Rattle.c_tree.specs.declared.expressions.Expr.TheViews.{roll-Specifiers, roll-StructDeclaration}
use Rattle.c_tree.specs.declared.expressions.Specifiers.{Specifiers}
use Rattle.c_tree.specs.declared.expressions.TypeSpecifier.TheVariants as spelling
use Rattle.c_tree.specs.declared.expressions.TagSpecifier.{TagSpecifier}
use Rattle.c_tree.specs.declared.expressions.StructDeclaration.{StructDeclaration}
use Rattle.c_tree.specs.declared.expressions.StructDeclarator.{StructDeclarator}
use Rattle.c_reader.specs.Tokens.{is_mark, is_kind, is_spelled, spelled_by, found_by, found_in}
use Rattle.c_grammar.specs.Tokens.{starts_type, type_by, type_goes_on, type_goes_by}
use Rattle.c_grammar.specs.Expressions.{Inner}
use Rattle.c_reader.specs.Lists.{separated_by}
use Rattle.c_grammar.specs.Types.{read_dimensioned, read_members_of, read_struct_body}
use Rattle.c_reader.proofs.Reader.{Language, Of, Reads}
use Rattle.c_reader.proofs.Binding.{Both, bind_reads}
use Rattle.c_reader.proofs.Giving.{Given, give_reads, reads_as}
use Rattle.c_reader.proofs.Taking.{Single}
use Rattle.c_reader.proofs.Choosing.{FirstIs}
use Rattle.c_reader.proofs.Repeating.{Several, many_reads}
use Rattle.c_reader.proofs.Beginning.{Begins, begins_both, begins_single, SomeOf, some_both, some_single, some_given}
use Rattle.c_reader.proofs.Joining.{in_both, in_single, in_given, onto, join3}
use Rattle.c_reader.proofs.Listing.{SeparatedOf, all_to, all_from, separated_reads, list_all_map, separated_begins}
use Rattle.c_reader.proofs.Spelt.{by_text, spelled_yes, spelt, named, spelt_reads}
use Rattle.c_grammar.proofs.Starting.{Leads, begins_cons, leads_append}
use Rattle.c_grammar.proofs.Typing.{SuitsType, begins_type, specs_lead, word_all}
use Rattle.c_grammar.proofs.Suffixes.{SpecsAt, StopsType, Any, InnerReads, no_name}
use Rattle.c_grammar.proofs.Primaries.{first_from}
use Rattle.c_grammar.proofs.Dimensioning.{DimensionedAt, StopsDimensions, dimensioned_reads, some_dimensioned}
use Rattle.c_reader.proofs.Truths.{and_left, and_right, and_both, has_map}

abbrev pub MemberAt : ℕ → Language StructDeclaration
MemberAt n = Of is_member_tree (λ t. wants_of_member t n)

abbrev pub TagAt : ℕ → Language TagSpecifier
TagAt n = Of is_tag_tree (λ t. wants_of_tag t n)

abbrev pub StopsBrace : List Token → Type 0
StopsBrace = FirstIs (is_mark (codes "{")) false

suits_type_type : SuitsType type_by true
unfolding type_by spelled_by found_by found_in
suits_type_type = record { constant = refl; word = word_all type_by true refl refl refl refl refl refl refl refl refl refl refl refl refl refl refl refl refl; struct_ = refl; enum_ = refl; type_name = λ t. refl }

pub some_specs : (n : ℕ) → SomeOf (SpecsAt n)
some_specs n =
    let t = roll-Specifiers (record { before = []; kind = spelling.TypeName no_name; after = [] }) in
    (t, (wants_of_specs t n, record { grammar = is_Specifiers [] (spelling.TypeName no_name) [] ∙ is_TypeSpecifier_TypeName no_name; wants = refl }))

module _ (most size n : ℕ) (inner : Inner) (I : InnerReads most size n inner) where
  abbrev Names : Language (List StructDeclarator)
  Names = SeparatedOf is_dimensioned_tree wants_of_dimensioned (n + 1) (codes ",")

  abbrev Ended : List Token → Type 0
  Ended = FirstIs (is_mark (codes ";")) true

  names_reads : Reads Names most size Ended (separated_by size (codes ",") inner.left (read_dimensioned size inner.left inner.expr))
  unfolding spelled_by is_spelled is_kind
  names_reads =
      separated_reads is_dimensioned_tree wants_of_dimensioned most size (n + 1) inner.left I.level (codes ",") StopsDimensions Ended (read_dimensioned size inner.left inner.expr)
      (dimensioned_reads most size (n + 1) inner.left I.level inner.expr I.expr) (some_dimensioned most size (n + 1) inner.left I.level inner.expr I.expr)
      (first_from Mark (codes ",") (spelled_by Mark (codes "[")) false refl) (first_from Mark (codes ";") (spelled_by Mark (codes "[")) false refl) (first_from Mark (codes ";") (spelled_by Mark (codes ",")) false refl)

  abbrev MemberL : Language StructDeclaration
  MemberL = Both (SpecsAt (n + 1)) (λ specs. Both Names (λ names. Both (Single (spelt Mark (codes ";") (n + 1))) (λ closing. Given (roll-StructDeclaration (record { specs = specs; names = names })))))

  name_begins : (by : TokenKind → List ℕ → Bool) (b : Bool) → ((text : List ℕ) → by Name text ≡ b) → Begins (DimensionedAt (n + 1)) (λ w. by w.kind w.text) b
  unfolding IsWanted
  name_begins by b is = cases_StructDeclarator (λ d. (ps : List Piece) (front rest : List Token) → DimensionedAt (n + 1) d ps → Fits ps front → FirstIs (λ w. by w.kind w.text) b (front ++ rest))
      (λ name dimensions ps front rest at fits.
      begins_cons (named Name (n + 1) name) (λ w. by w.kind w.text) b (λ w takes. ap (λ k. by k w.text) takes.0.0 ∙ is w.text) ps (all_of (map wants_of_dimension dimensions) (n + 1)) front rest (at.wants ∙ ap (λ f. f (n + 1)) (wants_StructDeclarator name dimensions)) fits)

  ends : Begins (Single (spelt Mark (codes ";") (n + 1))) (is_mark (codes ";")) true
  unfolding IsWanted
  ends = begins_single (spelt Mark (codes ";") (n + 1)) (is_mark (codes ";")) true (λ u w takes. spelled_yes Mark (codes ";") w takes.0.0 takes.0.1)

  some_names : SomeOf Names
  unfolding separated
  some_names =
      let d = some_dimensioned most size (n + 1) inner.left I.level inner.expr I.expr in
      (d.0 ∷ [], (d.1.0, record { grammar = and_both (is_dimensioned_tree d.0) true d.1.1.grammar refl; wants = d.1.1.wants }))

  member_read : Reads MemberL most size Any (read_members_of size inner)
  unfolding read_members_of type_goes_by spelled_by found_by found_in
  member_read =
      bind_reads _ _ most size StopsType Any _ _ I.specs
      (λ specs. bind_reads _ _ most size Ended Any _ _ names_reads
      (λ names. bind_reads _ _ most size Any Any _ _ (spelt_reads most size Any Mark (codes ";") (n + 1) inner.left I.level) (λ closing. give_reads (roll-StructDeclaration (record { specs = specs; names = names })) most size Any)
      (λ closing ps is. some_given _)
      (λ closing c qs ys rest is fits stop. tt))
      (λ names ps is. some_both _ _ (some_single (spelt Mark (codes ";") (n + 1)) tt) (λ closing. some_given _))
      (λ names c qs ys rest is fits stop. begins_both _ _ (is_mark (codes ";")) true ends c qs ys rest is fits))
      (λ specs ps is. some_both _ _ some_names (λ names. some_both _ _ (some_single (spelt Mark (codes ";") (n + 1)) tt) (λ closing. some_given (roll-StructDeclaration (record { specs = specs; names = names })))))
      (λ specs c qs ys rest is fits stop. begins_both _ _ type_goes_on false (separated_begins is_dimensioned_tree wants_of_dimensioned (n + 1) (codes ",") type_goes_on false (name_begins type_goes_by false (λ t. refl))) c qs ys rest is fits)

  member_flat : (specs : Specifiers) (names : List StructDeclarator) → wants_of_specs specs (n + 1) ++ (separated (codes ",") (map wants_of_dimensioned names) (n + 1) ++ ((spelt Mark (codes ";") (n + 1) tt ∷ []) ++ [])) ≡ wants_of_member (roll-StructDeclaration (record { specs = specs; names = names })) (n + 1)
  member_flat specs names = join3 (wants_of_specs specs (n + 1)) (separated (codes ",") (map wants_of_dimensioned names) (n + 1)) (spelt Mark (codes ";") (n + 1) tt ∷ []) ∙ sym (ap (λ f. f (n + 1)) (wants_StructDeclaration specs names))

  member_ok : (specs : Specifiers) (names : List StructDeclarator) → is_member_tree (roll-StructDeclaration (record { specs = specs; names = names })) ≡ (are_specs specs && has_some names && list_all is_dimensioned_tree names)
  member_ok specs names = is_StructDeclaration specs names ∙ ap (λ u. are_specs specs && u && list_all (λ v. v) (map is_dimensioned_tree names)) (has_map is_dimensioned_tree names) ∙ ap (λ u. are_specs specs && has_some names && u) (list_all_map is_dimensioned_tree (λ v. v) names)

  member_to : (t : StructDeclaration) (ps : List Piece) → MemberL t ps → MemberAt (n + 1) t ps
  member_to t ps b =
      let is : t ≡ roll-StructDeclaration (record { specs = b.first; names = b.right.first }) = b.right.right.right.tree_is in
      let g = b.right.left.grammar in
      record {
        grammar = ap is_member_tree is ∙ member_ok b.first b.right.first
            ∙ and_both (are_specs b.first && has_some b.right.first) (list_all is_dimensioned_tree b.right.first) (and_both (are_specs b.first) (has_some b.right.first) b.left.grammar (and_left (has_some b.right.first) (list_all is_dimensioned_tree b.right.first) g)) (and_right (has_some b.right.first) (list_all is_dimensioned_tree b.right.first) g);
        wants = onto b.whole b.left.wants (onto b.right.whole b.right.left.wants (onto b.right.right.whole b.right.right.left.one b.right.right.right.none)) ∙ member_flat b.first b.right.first ∙ ap (λ u. wants_of_member u (n + 1)) (sym is);
      }

  member_from : (t : StructDeclaration) (ps : List Piece) → MemberAt (n + 1) t ps → MemberL t ps
  member_from = cases_StructDeclaration (λ t. (ps : List Piece) → MemberAt (n + 1) t ps → MemberL t ps)
      (λ specs names ps is.
      let g = sym (member_ok specs names) ∙ is.grammar in
      let two = and_left (are_specs specs && has_some names) (list_all is_dimensioned_tree names) g in
      subst (λ u. MemberL (roll-StructDeclaration (record { specs = specs; names = names })) u) (member_flat specs names ∙ sym is.wants)
      (in_both _ _ _ _ _ specs (record { grammar = and_left (are_specs specs) (has_some names) two; wants = refl })
      (in_both _ _ _ _ _ names (record { grammar = and_both (has_some names) (list_all is_dimensioned_tree names) (and_right (are_specs specs) (has_some names) two) (and_right (are_specs specs && has_some names) (list_all is_dimensioned_tree names) g); wants = refl })
      (in_both _ _ _ _ _ tt (in_single (spelt Mark (codes ";") (n + 1)) tt) (in_given (roll-StructDeclaration (record { specs = specs; names = names })))))))

  member_begins : Begins (MemberAt (n + 1)) starts_type true
  member_begins t ps front rest is fits = begins_both _ _ starts_type true (begins_type type_by true suits_type_type (n + 1)) t ps front rest (member_from t ps is) fits

  some_member : SomeOf (MemberAt (n + 1))
  some_member =
      let specs = some_specs (n + 1) in
      let x = some_both (SpecsAt (n + 1)) (λ s. Both Names (λ names. Both (Single (spelt Mark (codes ";") (n + 1))) (λ closing. Given (roll-StructDeclaration (record { specs = s; names = names }))))) specs (λ s. some_both _ _ some_names (λ names. some_both _ _ (some_single (spelt Mark (codes ";") (n + 1)) tt) (λ closing. some_given (roll-StructDeclaration (record { specs = s; names = names }))))) in
      (x.0, (x.1.0, member_to x.0 x.1.0 x.1.1))

  begins_lead : (t : StructDeclaration) → is_member_tree t ≡ true → Leads type_by true (n + 1) (wants_of_member t (n + 1))
  begins_lead = cases_StructDeclaration (λ t. is_member_tree t ≡ true → Leads type_by true (n + 1) (wants_of_member t (n + 1)))
      (λ specs names h.
      let g = sym (member_ok specs names) ∙ h in
      subst (λ f. Leads type_by true (n + 1) (f (n + 1))) (sym (wants_StructDeclaration specs names))
      (leads_append type_by true (n + 1) _ (mark (codes ";") (n + 1)) (leads_append type_by true (n + 1) _ (separated (codes ",") (map wants_of_dimensioned names) (n + 1)) (specs_lead type_by true suits_type_type (n + 1) specs (and_left (are_specs specs) (has_some names) (and_left (are_specs specs && has_some names) (list_all is_dimensioned_tree names) g))))))

  some_none : SomeOf (Several (MemberAt (n + 1)))
  unfolding Several
  some_none = ([], ([], refl))

  member_some : (t : StructDeclaration) (ps : List Piece) → MemberAt (n + 1) t ps → 0 < length ps
  member_some t ps is = let lead = begins_lead t is.grammar in omega (arith, ap length is.wants, ap length lead.is)

  -- ---- bodies

  abbrev Closed : List Token → Type 0
  Closed = FirstIs (is_mark (codes "}")) true

  abbrev BodyL : Language (List StructDeclaration)
  BodyL = Both (Single (spelt Mark (codes "{") (n + 1))) (λ opening. Both (MemberAt (n + 1)) (λ first. Both (Several (MemberAt (n + 1))) (λ rest. Both (Single (spelt Mark (codes "}") (n + 1))) (λ closing. Given (first ∷ rest)))))

  abbrev pub BodyAt : Language (List StructDeclaration)
  BodyAt = Of (λ members. has_some members && list_all is_member_tree members) (λ members. struct_body (Some (map wants_of_member members)) n)

  closes : Begins (Single (spelt Mark (codes "}") (n + 1))) (is_mark (codes "}")) true
  unfolding IsWanted
  closes = begins_single (spelt Mark (codes "}") (n + 1)) (is_mark (codes "}")) true (λ u w takes. spelled_yes Mark (codes "}") w takes.0.0 takes.0.1)

  some_end : {A : Type 0} (value : A) → SomeOf (Both (Single (spelt Mark (codes "}") (n + 1))) (λ closing. Given value))
  some_end value = some_both _ _ (some_single (spelt Mark (codes "}") (n + 1)) tt) (λ closing. some_given value)

  body_read : (Followed : List Token → Type 0) → Reads BodyL most size Followed (read_struct_body size inner)
  unfolding read_struct_body type_by spelled_by found_by found_in is_spelled is_kind
  body_read Followed =
      bind_reads _ _ most size Any Followed _ _ (spelt_reads most size Any Mark (codes "{") (n + 1) inner.left I.level)
      (λ opening. bind_reads _ _ most size Any Followed _ _ (reads_as member_to member_from member_read)
      (λ first. bind_reads _ _ most size Closed Followed _ _
      (many_reads (MemberAt (n + 1)) most size Any Closed starts_type (read_members_of size inner) (reads_as member_to member_from member_read) member_begins (λ ts h. tt) (λ ts h. tt) (first_from Mark (codes "}") type_by false refl) member_some)
      (λ rest. bind_reads _ _ most size Any Followed _ _ (spelt_reads most size Any Mark (codes "}") (n + 1) inner.left I.level) (λ closing. give_reads (first ∷ rest) most size Followed)
      (λ closing ps is. some_given (first ∷ rest))
      (λ closing c qs ys more is fits stop. tt))
      (λ rest ps is. some_end (first ∷ rest))
      (λ rest c qs ys more is fits stop. begins_both _ _ (is_mark (codes "}")) true closes c qs ys more is fits))
      (λ first ps is. some_both _ _ some_none (λ rest. some_end (first ∷ rest)))
      (λ first c qs ys more is fits stop. tt))
      (λ opening ps is. some_both _ _ some_member (λ first. some_both _ _ some_none (λ rest. some_end (first ∷ rest))))
      (λ opening c qs ys more is fits stop. tt)

  body_flat : (first : StructDeclaration) (rest : List StructDeclaration) → (spelt Mark (codes "{") (n + 1) tt ∷ []) ++ (wants_of_member first (n + 1) ++ (all_of (map wants_of_member rest) (n + 1) ++ ((spelt Mark (codes "}") (n + 1) tt ∷ []) ++ []))) ≡ struct_body (Some (map wants_of_member (first ∷ rest))) n
  unfolding all_of
  body_flat first rest =
      ap (λ u. (spelt Mark (codes "{") (n + 1) tt ∷ []) ++ u) (sym (append_assoc (wants_of_member first (n + 1)) (all_of (map wants_of_member rest) (n + 1)) ((spelt Mark (codes "}") (n + 1) tt ∷ []) ++ [])))
      ∙ join3 (spelt Mark (codes "{") (n + 1) tt ∷ []) (wants_of_member first (n + 1) ++ all_of (map wants_of_member rest) (n + 1)) (spelt Mark (codes "}") (n + 1) tt ∷ [])

  body_to : (members : List StructDeclaration) (ps : List Piece) → BodyL members ps → BodyAt members ps
  body_to members ps b =
      let c = b.right in
      let is : members ≡ c.first ∷ c.right.first = c.right.right.right.tree_is in
      let all = all_to is_member_tree wants_of_member (n + 1) c.right.first c.right.pieces1 c.right.left in
      subst (λ u. BodyAt u ps) (sym is)
      (record {
        grammar = and_both (is_member_tree c.first) (list_all is_member_tree c.right.first) c.left.grammar all.grammar;
        wants = onto b.whole b.left.one (onto c.whole c.left.wants (onto c.right.whole all.wants (onto c.right.right.whole c.right.right.left.one c.right.right.right.none))) ∙ body_flat c.first c.right.first;
      })

  body_from : (members : List StructDeclaration) (ps : List Piece) → BodyAt members ps → BodyL members ps
  body_from [] ps is = absurd (cc)
  body_from (first ∷ rest) ps is =
      subst (λ u. BodyL (first ∷ rest) u) (body_flat first rest ∙ sym is.wants)
      (in_both _ _ _ _ _ tt (in_single (spelt Mark (codes "{") (n + 1)) tt)
      (in_both _ _ _ _ _ first (record { grammar = and_left (is_member_tree first) (list_all is_member_tree rest) is.grammar; wants = refl })
      (in_both _ _ _ _ _ rest (all_from is_member_tree wants_of_member (n + 1) rest (all_of (map wants_of_member rest) (n + 1)) (record { grammar = and_right (is_member_tree first) (list_all is_member_tree rest) is.grammar; wants = refl }))
      (in_both _ _ _ _ _ tt (in_single (spelt Mark (codes "}") (n + 1)) tt) (in_given (first ∷ rest))))))

  pub body_reads : (Followed : List Token → Type 0) → Reads BodyAt most size Followed (read_struct_body size inner)
  body_reads Followed = reads_as body_to body_from (body_read Followed)

  pub some_body : SomeOf BodyAt
  unfolding all_of
  some_body =
      let m = some_member in
      (m.0 ∷ [], (struct_body (Some (map wants_of_member (m.0 ∷ []))) n, record { grammar = and_both (is_member_tree m.0) true m.1.1.grammar refl; wants = refl }))

  pub body_begins : (by : TokenKind → List ℕ → Bool) (b : Bool) → by Mark (codes "{") ≡ b → Begins BodyAt (λ w. by w.kind w.text) b
  unfolding IsWanted
  body_begins by b is members ps front rest at fits =
      begins_both _ _ (λ w. by w.kind w.text) b (begins_single (spelt Mark (codes "{") (n + 1)) (λ w. by w.kind w.text) b (λ u w takes. by_text by Mark (codes "{") b w takes.0.0 takes.0.1 is)) members ps front rest (body_from members ps at) fits

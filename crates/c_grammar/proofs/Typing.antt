-- What the spellings of types begin with.
use Rattle.std.proofs.Common.{◌≡◌, ℕ, Bool, true, List, [], ◌∷◌, ◌++◌, map, Some, option_map, sym, ◌∙◌, subst, codes}
use Rattle.c_tree.specs.Pieces.{Piece, words_at, optional, name}
use Rattle.c_tree.specs.TypeWords.{text_of_word, is_spelling, counts_from}
use Rattle.c_tree.specs.Folds.{wants_of_specs, wants_of_spelling, wants_of_tag, wants_of_member, wants_of_enumerator, are_specs, is_spelling_tree}
use Rattle.c_tree.specs.Types.{type_words, struct_body, enum_body}
use Rattle.c_tree.proofs.Cases.{cases_Specifiers, cases_TypeSpecifier, cases_TagSpecifier}
use Rattle.c_tree.proofs.FoldsLaws.{wants_Specifiers, wants_TypeSpecifier_Words, wants_TypeSpecifier_TagSpecifier, wants_TypeSpecifier_TypeName, wants_TagSpecifier_Struct, wants_TagSpecifier_Enum, is_Specifiers, is_TypeSpecifier_Words}
use Rattle.c_tree.specs.declared.token.Place.{Place}
use Rattle.c_tree.specs.declared.token.TokenKind.{TokenKind}
use Rattle.c_tree.specs.declared.token.TokenKind.TheVariants.{Word, TypeName}
use Rattle.c_tree.specs.declared.expressions.TypeWord.{TypeWord}
use Rattle.c_tree.specs.declared.expressions.TypeWord.TheVariants as words
use Rattle.c_tree.specs.declared.expressions.Specifiers.{Specifiers}
use Rattle.c_tree.specs.declared.expressions.TypeSpecifier.{TypeSpecifier}
use Rattle.c_tree.specs.declared.expressions.TagSpecifier.{TagSpecifier}
use Rattle.c_reader.proofs.Beginning.{Begins}
use Rattle.c_grammar.proofs.Starting.{Leads, leads_append, leads_spelled, begins_cons}
use Rattle.c_grammar.proofs.Suffixes.{SpecsAt}
use Rattle.c_reader.proofs.Truths.{not_true}

-- a test by kind and text has this answer at each token with which a type's spelling can begin
pub record SuitsType (test : TokenKind → List ℕ → Bool) (b : Bool) : Type 0 where
  pub constant : test Word (codes "const") ≡ b
  pub word : (w : TypeWord) → test Word (text_of_word w) ≡ b
  pub struct_ : test Word (codes "struct") ≡ b
  pub enum_ : test Word (codes "enum") ≡ b
  pub type_name : (text : List ℕ) → test TypeName text ≡ b

pub word_all : (test : TokenKind → List ℕ → Bool) (b : Bool) → test Word (codes "void") ≡ b → test Word (codes "_Bool") ≡ b → test Word (codes "bool") ≡ b → test Word (codes "char") ≡ b → test Word (codes "signed") ≡ b → test Word (codes "unsigned") ≡ b → test Word (codes "short") ≡ b → test Word (codes "int") ≡ b → test Word (codes "long") ≡ b → test Word (codes "int8_t") ≡ b → test Word (codes "int16_t") ≡ b → test Word (codes "int32_t") ≡ b → test Word (codes "int64_t") ≡ b → test Word (codes "uint8_t") ≡ b → test Word (codes "uint16_t") ≡ b → test Word (codes "uint32_t") ≡ b → test Word (codes "uint64_t") ≡ b → (w : TypeWord) → test Word (text_of_word w) ≡ b
word_all test b h0 h1 h2 h3 h4 h5 h6 h7 h8 h9 h10 h11 h12 h13 h14 h15 h16 words.Void = h0
word_all test b h0 h1 h2 h3 h4 h5 h6 h7 h8 h9 h10 h11 h12 h13 h14 h15 h16 words.Underscored = h1
word_all test b h0 h1 h2 h3 h4 h5 h6 h7 h8 h9 h10 h11 h12 h13 h14 h15 h16 words.Bool = h2
word_all test b h0 h1 h2 h3 h4 h5 h6 h7 h8 h9 h10 h11 h12 h13 h14 h15 h16 words.Char = h3
word_all test b h0 h1 h2 h3 h4 h5 h6 h7 h8 h9 h10 h11 h12 h13 h14 h15 h16 words.Signed = h4
word_all test b h0 h1 h2 h3 h4 h5 h6 h7 h8 h9 h10 h11 h12 h13 h14 h15 h16 words.Unsigned = h5
word_all test b h0 h1 h2 h3 h4 h5 h6 h7 h8 h9 h10 h11 h12 h13 h14 h15 h16 words.Short = h6
word_all test b h0 h1 h2 h3 h4 h5 h6 h7 h8 h9 h10 h11 h12 h13 h14 h15 h16 words.Int = h7
word_all test b h0 h1 h2 h3 h4 h5 h6 h7 h8 h9 h10 h11 h12 h13 h14 h15 h16 words.Long = h8
word_all test b h0 h1 h2 h3 h4 h5 h6 h7 h8 h9 h10 h11 h12 h13 h14 h15 h16 words.Int8 = h9
word_all test b h0 h1 h2 h3 h4 h5 h6 h7 h8 h9 h10 h11 h12 h13 h14 h15 h16 words.Int16 = h10
word_all test b h0 h1 h2 h3 h4 h5 h6 h7 h8 h9 h10 h11 h12 h13 h14 h15 h16 words.Int32 = h11
word_all test b h0 h1 h2 h3 h4 h5 h6 h7 h8 h9 h10 h11 h12 h13 h14 h15 h16 words.Int64 = h12
word_all test b h0 h1 h2 h3 h4 h5 h6 h7 h8 h9 h10 h11 h12 h13 h14 h15 h16 words.Uint8 = h13
word_all test b h0 h1 h2 h3 h4 h5 h6 h7 h8 h9 h10 h11 h12 h13 h14 h15 h16 words.Uint16 = h14
word_all test b h0 h1 h2 h3 h4 h5 h6 h7 h8 h9 h10 h11 h12 h13 h14 h15 h16 words.Uint32 = h15
word_all test b h0 h1 h2 h3 h4 h5 h6 h7 h8 h9 h10 h11 h12 h13 h14 h15 h16 words.Uint64 = h16

pub tag_lead_by : (test : TokenKind → List ℕ → Bool) (b : Bool) (n : ℕ) → test Word (codes "struct") ≡ b → test Word (codes "enum") ≡ b → (t : TagSpecifier) → Leads test b n (wants_of_tag t n)
tag_lead_by test b n of_struct of_enum = cases_TagSpecifier (λ t. Leads test b n (wants_of_tag t n))
    (λ place named members. subst (λ f. Leads test b n (f n)) (sym (wants_TagSpecifier_Struct place named members)) (leads_append test b n _ (struct_body (option_map (map wants_of_member) members) n) (leads_append test b n _ (optional (option_map name named) n) (leads_spelled test b n (Some place) Word (codes "struct") [] of_struct))))
    (λ place named constants comma. subst (λ f. Leads test b n (f n)) (sym (wants_TagSpecifier_Enum place named constants comma)) (leads_append test b n _ (enum_body (option_map (map wants_of_enumerator) constants) comma n) (leads_append test b n _ (optional (option_map name named) n) (leads_spelled test b n (Some place) Word (codes "enum") [] of_enum))))

module _ (test : TokenKind → List ℕ → Bool) (b : Bool) (s : SuitsType test b) (n : ℕ) where
  words_lead : (place : Place) (words : List TypeWord) → is_spelling words ≡ true → Leads test b n (type_words place words n)
  unfolding counts_from
  words_lead place [] h = absurd (not_true h)
  words_lead place (first ∷ rest) h = leads_append test b n _ _ (leads_spelled test b n (Some place) Word (text_of_word first) [] (s.word first))

  pub tag_lead : (t : TagSpecifier) → Leads test b n (wants_of_tag t n)
  tag_lead = tag_lead_by test b n s.struct_ s.enum_

  kind_lead : (k : TypeSpecifier) → is_spelling_tree k ≡ true → Leads test b n (wants_of_spelling k n)
  kind_lead = cases_TypeSpecifier (λ k. is_spelling_tree k ≡ true → Leads test b n (wants_of_spelling k n))
      (λ place words h. subst (λ f. Leads test b n (f n)) (sym (wants_TypeSpecifier_Words place words)) (words_lead place words (sym (is_TypeSpecifier_Words place words) ∙ h)))
      (λ t h. subst (λ f. Leads test b n (f n)) (sym (wants_TypeSpecifier_TagSpecifier t)) (tag_lead t))
      (λ named h. subst (λ f. Leads test b n (f n)) (sym (wants_TypeSpecifier_TypeName named)) (leads_spelled test b n (Some named.place) TypeName named.text [] (s.type_name named.text)))

  before_lead : (before : List Place) (kind : List Piece) → Leads test b n kind → Leads test b n (words_at before (codes "const") n ++ kind)
  unfolding words_at
  before_lead [] kind lead = lead
  before_lead (place ∷ before) kind lead = leads_append test b n _ kind (leads_append test b n _ (words_at before (codes "const") n) (leads_spelled test b n (Some place) Word (codes "const") [] s.constant))

  pub specs_lead : (t : Specifiers) → are_specs t ≡ true → Leads test b n (wants_of_specs t n)
  specs_lead = cases_Specifiers (λ t. are_specs t ≡ true → Leads test b n (wants_of_specs t n))
      (λ before kind following h. subst (λ f. Leads test b n (f n)) (sym (wants_Specifiers before kind following)) (leads_append test b n _ _ (before_lead before (wants_of_spelling kind n) (kind_lead kind (sym (is_Specifiers before kind following) ∙ h)))))

  pub begins_type : Begins (SpecsAt n) (λ w. test w.kind w.text) b
  begins_type t ps front rest is fits =
      let lead = specs_lead t is.grammar in
      begins_cons lead.piece (λ w. test w.kind w.text) b lead.tells ps lead.following front rest (is.wants ∙ lead.is) fits

-- What tests say of the first token by other tests.
use Rattle.std.proofs.Common.{◌≡◌, ◌⊎◌, inl, inr, ℕ, Bool, true, false, ◌||◌, List, [], ◌∷◌, refl, sym, ◌∙◌, codes}
use Rattle.c_tree.specs.declared.token.Token.{Token}
use Rattle.c_tree.specs.declared.token.TokenKind.{TokenKind}
use Rattle.c_tree.specs.declared.token.TokenKind.TheVariants.{Word, Mark}
use Rattle.c_reader.specs.Tokens.{is_spelled, is_kind, spelled_by}
use Rattle.c_reader.proofs.Choosing.{FirstIs}
use Rattle.c_reader.proofs.Spelt.{by_text, spelled_is}
use Rattle.c_reader.proofs.Truths.{not_true, or_cases}
use Rattle.c_statement.specs.Starts.{label_by}

-- a token that passes a test that some spelling doesn't pass is not spelled so
not_spelled : (kind : TokenKind) (text : List ℕ) (by : TokenKind → List ℕ → Bool) → by kind text ≡ false → (w : Token) (b : Bool) → is_spelled kind text w ≡ b → by w.kind w.text ≡ true → b ≡ false
not_spelled kind text by differs w true is h = let x = spelled_is kind text w is in absurd (not_true (sym (by_text by kind text false w x.0 x.1 differs) ∙ h))
not_spelled kind text by differs w false is h = refl

pub first_not : (kind : TokenKind) (text : List ℕ) (by : TokenKind → List ℕ → Bool) → by kind text ≡ false → (ts : List Token) → FirstIs (λ w. by w.kind w.text) true ts → FirstIs (is_spelled kind text) false ts
unfolding FirstIs
first_not kind text by differs [] h = refl
first_not kind text by differs (w ∷ rest) h = not_spelled kind text by differs w (is_spelled kind text w) refl h

or_first : (a b : Bool) → a ≡ true → (a || b) ≡ true
or_first true b h = refl
or_first false b h = absurd (cc)

pub first_or : (f g : TokenKind → List ℕ → Bool) (ts : List Token) → FirstIs (λ w. f w.kind w.text) true ts → FirstIs (λ w. f w.kind w.text || g w.kind w.text) true ts
unfolding FirstIs
first_or f g [] h = absurd (cc)
first_or f g (w ∷ rest) h = or_first (f w.kind w.text) (g w.kind w.text) h

-- ---- a section of a switch ends before a label or a brace

abbrev pub section_end : TokenKind → List ℕ → Bool
section_end k t = label_by k t || spelled_by Mark (codes "}") k t

abbrev pub StopsSection : List Token → Type 0
StopsSection = FirstIs (λ w. section_end w.kind w.text) true

spelled_text : (kind : TokenKind) (text : List ℕ) (by : TokenKind → List ℕ → Bool) (b : Bool) → by kind text ≡ b → (w : Token) → spelled_by kind text w.kind w.text ≡ true → by w.kind w.text ≡ b
unfolding spelled_by is_spelled is_kind
spelled_text kind text by b is w h = let x = spelled_is kind text w h in by_text by kind text b w x.0 x.1 is

end_label : (by : TokenKind → List ℕ → Bool) (b : Bool) → by Word (codes "case") ≡ b → by Word (codes "default") ≡ b → (w : Token) → (spelled_by Word (codes "case") w.kind w.text ≡ true) ⊎ (spelled_by Word (codes "default") w.kind w.text ≡ true) → by w.kind w.text ≡ b
end_label by b of_case of_default w (inl h) = spelled_text Word (codes "case") by b of_case w h
end_label by b of_case of_default w (inr h) = spelled_text Word (codes "default") by b of_default w h

end_any : (by : TokenKind → List ℕ → Bool) (b : Bool) → by Word (codes "case") ≡ b → by Word (codes "default") ≡ b → by Mark (codes "}") ≡ b → (w : Token) → (label_by w.kind w.text ≡ true) ⊎ (spelled_by Mark (codes "}") w.kind w.text ≡ true) → by w.kind w.text ≡ b
unfolding label_by
end_any by b of_case of_default of_brace w (inl h) = end_label by b of_case of_default w (or_cases (spelled_by Word (codes "case") w.kind w.text) (spelled_by Word (codes "default") w.kind w.text) h)
end_any by b of_case of_default of_brace w (inr h) = spelled_text Mark (codes "}") by b of_brace w h

pub section_from : (by : TokenKind → List ℕ → Bool) (b : Bool) → by Word (codes "case") ≡ b → by Word (codes "default") ≡ b → by Mark (codes "}") ≡ b → (ts : List Token) → StopsSection ts → FirstIs (λ w. by w.kind w.text) b ts
unfolding FirstIs
section_from by b of_case of_default of_brace [] h = absurd (cc)
section_from by b of_case of_default of_brace (w ∷ rest) h = end_any by b of_case of_default of_brace w (or_cases (label_by w.kind w.text) (spelled_by Mark (codes "}") w.kind w.text) h)

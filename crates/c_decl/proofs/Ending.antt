-- What tests by kind and text say of a token that is one of two marks.
use Rattle.std.proofs.Common.{◌≡◌, ◌⊎◌, inl, inr, ℕ, Bool, true, ◌||◌, List, [], ◌∷◌}
use Rattle.c_tree.specs.declared.token.Token.{Token}
use Rattle.c_tree.specs.declared.token.TokenKind.{TokenKind}
use Rattle.c_tree.specs.declared.token.TokenKind.TheVariants.{Mark}
use Rattle.c_reader.specs.Tokens.{is_mark}
use Rattle.c_reader.proofs.Choosing.{FirstIs}
use Rattle.c_reader.proofs.Spelt.{by_text, spelled_is}
use Rattle.c_reader.proofs.Truths.{or_cases}

-- the next token is one of two marks
abbrev pub Ends : List ℕ → List ℕ → List Token → Type 0
Ends one other = FirstIs (λ w. is_mark one w || is_mark other w) true

end_is : (one other : List ℕ) (by : TokenKind → List ℕ → Bool) (b : Bool) → by Mark one ≡ b → by Mark other ≡ b → (w : Token) → (is_mark one w ≡ true) ⊎ (is_mark other w ≡ true) → by w.kind w.text ≡ b
end_is one other by b left right w (inl h) = let x = spelled_is Mark one w h in by_text by Mark one b w x.0 x.1 left
end_is one other by b left right w (inr h) = let x = spelled_is Mark other w h in by_text by Mark other b w x.0 x.1 right

pub end_from : (one other : List ℕ) (by : TokenKind → List ℕ → Bool) (b : Bool) → by Mark one ≡ b → by Mark other ≡ b → (ts : List Token) → Ends one other ts → FirstIs (λ w. by w.kind w.text) b ts
unfolding FirstIs
end_from one other by b left right [] stop = absurd (cc)
end_from one other by b left right (w ∷ rest) stop = end_is one other by b left right w (or_cases (is_mark one w) (is_mark other w) stop)

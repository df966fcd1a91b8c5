-- What is so of pieces that fit tokens.
use Rattle.std.proofs.Common.{◌≡◌, Bool, true, false, ◌&&◌, nat_lt, nat_le, ℕ, suc, List, [], ◌∷◌, length, refl, sym, ap, ◌∙◌, subst}
use Rattle.std.specs.List.{list_all}
use Rattle.hy_bits.specs.Words.{modulus}
use Rattle.hy_bits.specs.Scalar.{scalar_width}
use Rattle.hy_bits.specs.declared.scalar.Scalar.{Scalar}
use Rattle.c_tree.specs.Names.{is_name}
use Rattle.c_tree.specs.Pieces.{Piece, Want, spelled, valued, bounded, IsWanted, StandsAt, Takes, Fits, is_sound, are_sound}
use Rattle.c_tree.specs.TokenLists.{is_inner_of, is_inner, greatest_bound}
use Rattle.c_tree.specs.declared.token.Token.{Token}
use Rattle.c_tree.specs.declared.token.TokenKind.{TokenKind}
use Rattle.c_tree.specs.declared.token.TokenKind.TheVariants.{Word, Name, TypeName, Integer, Character, Str, Mark, Bound, End}

-- pieces that fit tokens are as many
pub fits_length : (ps : List Piece) (ts : List Token) → Fits ps ts → length ps ≡ length ts
unfolding Fits
fits_length [] [] f = refl
fits_length [] (t ∷ ts) f = absurd f
fits_length (p ∷ ps) [] f = absurd f
fits_length (p ∷ ps) (t ∷ ts) f = ap (λ n. suc n) (fits_length ps ts f.1)

-- ---- pieces that inner tokens fit are sound

spelled_sound : (kind : TokenKind) (text : List ℕ) (t : Token) → t.text ≡ text → is_inner_of kind t ≡ true → is_sound (spelled kind text) ≡ true
spelled_sound Word text t is inner = refl
spelled_sound Name text t is inner = subst (λ u. is_name u ≡ true) is inner
spelled_sound TypeName text t is inner = subst (λ u. is_name u ≡ true) is inner
spelled_sound Integer text t is inner = refl
spelled_sound Character text t is inner = refl
spelled_sound Str text t is inner = refl
spelled_sound Mark text t is inner = refl
spelled_sound Bound text t is inner = refl
spelled_sound End text t is inner = refl

within : (scalar other : Scalar) (number n : ℕ) → scalar ≡ other → number ≡ n → nat_lt number (modulus (scalar_width scalar)) ≡ true → nat_lt n (modulus (scalar_width other)) ≡ true
within scalar other number n same is low = ap (λ s. nat_lt n (modulus (scalar_width s))) (sym same) ∙ ap (λ m. nat_lt m (modulus (scalar_width scalar))) (sym is) ∙ low

valued_sound : (kind : TokenKind) (scalar : Scalar) (number : ℕ) (t : Token) → t.scalar ≡ scalar → t.number ≡ number → is_inner_of kind t ≡ true → is_sound (valued kind scalar number) ≡ true
valued_sound Word scalar number t same is inner = refl
valued_sound Name scalar number t same is inner = refl
valued_sound TypeName scalar number t same is inner = refl
valued_sound Integer scalar number t same is inner = within t.scalar scalar t.number number same is inner
valued_sound Character scalar number t same is inner = within t.scalar scalar t.number number same is inner
valued_sound Str scalar number t same is inner = refl
valued_sound Mark scalar number t same is inner = refl
valued_sound Bound scalar number t same is inner = refl
valued_sound End scalar number t same is inner = refl

bounded_sound : (number : ℕ) (t : Token) → t.number ≡ number → is_inner_of Bound t ≡ true → is_sound (bounded number) ≡ true
bounded_sound number t is inner = subst (λ n. nat_le n greatest_bound ≡ true) is inner

wanted_sound : (want : Want) (t : Token) → IsWanted want t → is_inner t ≡ true → is_sound want ≡ true
unfolding IsWanted
wanted_sound (spelled kind text) t w inner = spelled_sound kind text t w.1 (subst (λ k. is_inner_of k t ≡ true) w.0 inner)
wanted_sound (valued kind scalar number) t w inner = valued_sound kind scalar number t w.1 w.2 (subst (λ k. is_inner_of k t ≡ true) w.0 inner)
wanted_sound (bounded number) t w inner = bounded_sound number t w.1 (subst (λ k. is_inner_of k t ≡ true) w.0 inner)

left_true : (a b : Bool) → (a && b) ≡ true → a ≡ true
left_true true b h = refl
left_true false b h = h

right_true : (a b : Bool) → (a && b) ≡ true → b ≡ true
right_true true b h = h
right_true false b h = absurd (cc)

both_true : (a b : Bool) → a ≡ true → b ≡ true → (a && b) ≡ true
both_true true b h g = g
both_true false b h g = absurd (cc)

pub fits_sound : (ps : List Piece) (ts : List Token) → Fits ps ts → list_all is_inner ts ≡ true → are_sound ps ≡ true
unfolding Fits
fits_sound [] [] f inner = refl
fits_sound [] (t ∷ ts) f inner = absurd f
fits_sound (p ∷ ps) [] f inner = absurd f
fits_sound (p ∷ ps) (t ∷ ts) f inner =
    both_true (is_sound p.want) (are_sound ps) (wanted_sound p.want t f.0.0 (left_true (is_inner t) (list_all is_inner ts) inner)) (fits_sound ps ts f.1 (right_true (is_inner t) (list_all is_inner ts) inner))

-- Parts one after another: what they fill together.
use Rattle.std.proofs.Common.{◌≡◌, ◌+◌, ℕ, None, List, [], ◌∷◌, ◌++◌, map, ap, sym, subst, ◌∙◌, refl, arith}
use Rattle.std.proofs.lemmas.List.{length-append}
use Rattle.hy_bits.specs.declared.scalar.Scalar.{Scalar}
use Rattle.hy_bits.specs.Scalar.{scalar_width}
use Rattle.hy_bits.specs.Words.{IsWord}
use Rattle.c_meaning.specs.declared.types.ValueKind.TheVariants as kind
use Rattle.c_meaning.specs.declared.statements.Part.{Part}
use Rattle.c_meaning.specs.TypeRules.{Scope}
use Rattle.c_meaning.specs.StatementRules.{PartsFill, size_of_kind, WordsFit}
use Rattle.c_typing.specs.declared.environment.Environment.{Environment}
use Rattle.c_objects.specs.declared.initializers.Storage.{Storage}
use Rattle.c_objects.specs.declared.initializers.Storage.TheVariants.{Static, Automatic}
use Rattle.c_objects.specs.Initializers.{Filled, with_part, with_zeros}
use Rattle.c_objects.specs.Objects.{static_word}
use Rattle.typing_laws.specs.Passing.{scope_of}
use Rattle.constant_laws.proofs.Bounds.{two-most}
use Rattle.object_laws.specs.Filling.{StartsIn, WordsWhere, Fills}

append-assoc : {A : Type 0} (xs ys zs : List A) → (xs ++ ys) ++ zs ≡ xs ++ (ys ++ zs)
append-assoc [] ys zs = refl
append-assoc (x ∷ xs) ys zs = ap (λ us. x ∷ us) (append-assoc xs ys zs)

append-none : {A : Type 0} (xs : List A) → xs ≡ xs ++ []
append-none [] = refl
append-none (x ∷ xs) = ap (λ us. x ∷ us) (append-none xs)

map-append : {A B : Type 0} (f : A → B) (xs ys : List A) → map f (xs ++ ys) ≡ map f xs ++ map f ys
map-append f [] ys = refl
map-append f (x ∷ xs) ys = ap (λ us. f x ∷ us) (map-append f xs ys)

parts-append : (scope : Scope) (a b c : ℕ) (xs ys : List Part) → PartsFill scope a b xs → PartsFill scope b c ys → PartsFill scope a c (xs ++ ys)
parts-append scope a b c [] ys h k = subst (λ (n : ℕ). PartsFill scope n c ys) (sym h) k
parts-append scope a b c (x ∷ xs) ys h k = (h.0, h.1, parts-append scope (a + size_of_kind scope x.kind) b c xs ys h.2 k)

words-append : (ts us : List Scalar) (ws vs : List ℕ) → WordsFit ts ws → WordsFit us vs → WordsFit (ts ++ us) (ws ++ vs)
words-append [] us [] vs h k = k
words-append [] us (w ∷ ws) vs h k = absurd h
words-append (t ∷ ts) us [] vs h k = absurd h
words-append (t ∷ ts) us (w ∷ ws) vs h k = (h.0, words-append ts us ws vs h.1 k)

where-append : (storage : Storage) (ts us : List Scalar) (ws vs : List ℕ) → WordsWhere storage ts ws → WordsWhere storage us vs → WordsWhere storage (ts ++ us) (ws ++ vs)
where-append Automatic ts us ws vs h k = tt
where-append Static ts us ws vs h k = words-append ts us ws vs h k

words-none : (storage : Storage) → WordsWhere storage [] []
words-none Automatic = tt
words-none Static = tt

pub words-one : (storage : Storage) (t : Scalar) (w : ℕ) → IsWord (scalar_width t) w → WordsWhere storage (t ∷ []) (w ∷ [])
words-one Automatic t w h = tt
words-one Static t w h = (h, tt)

module _ (storage : Storage) (env : Environment) where
  pub fills-none : (f : Filled) → StartsIn storage env f.values → Fills storage env [] f f
  fills-none f values = record { more = []; parts = append-none f.parts; fill = refl; cells = omega arith; words = words-none storage; values = values }

  pub fills-both : (ts us : List Scalar) (f g h : Filled) → Fills storage env ts f g → Fills storage env us g h → Fills storage env (ts ++ us) f h
  fills-both ts us f g h p q = record {
    more = p.more ++ q.more;
    parts = q.parts ∙ ap (λ (parts : List Part). parts ++ q.more) p.parts ∙ append-assoc f.parts p.more q.more;
    fill = parts-append (scope_of env) f.cell g.cell h.cell p.more q.more p.fill q.fill;
    cells = let long = length-append ts us in let one = p.cells in let two = q.cells in omega (arith, long, one, two);
    words = subst (WordsWhere storage (ts ++ us)) (sym (map-append static_word p.more q.more)) (where-append storage ts us (map static_word p.more) (map static_word q.more) p.words q.words);
    values = q.values;
  }

  fills-zero : (t : Scalar) (f : Filled) → StartsIn storage env f.values → Fills storage env (t ∷ []) f (with_part (kind.Integer t) 1 None f)
  fills-zero t f values = record {
    more = record { cell = f.cell; kind = kind.Integer t; value = None } ∷ [];
    parts = refl;
    fill = (refl, (t, refl), refl);
    cells = refl;
    words = words-one storage t 0 (let two = two-most t in omega (arith, two));
    values = values;
  }

  -- C11 6.7.9p21
  pub fills-zeros : (ts : List Scalar) (f : Filled) → StartsIn storage env f.values → Fills storage env ts f (with_zeros ts f)
  fills-zeros [] f values = fills-none f values
  fills-zeros (t ∷ ts) f values =
      let one = with_part (kind.Integer t) 1 None f in
      fills-both (t ∷ []) ts f one (with_zeros ts one) (fills-zero t f values) (fills-zeros ts one values)

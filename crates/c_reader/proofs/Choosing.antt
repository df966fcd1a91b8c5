-- Readers by the first token.
use Rattle.std.proofs.Common.{◌≡◌, ◌≤◌, inl, inr, ℕ, Bool, true, false, List, [], ◌∷◌, ◌++◌, length, refl, sym, ap, ◌∙◌, if◌then◌else◌}
use Rattle.c_tree.specs.Pieces.{Piece, Fits}
use Rattle.c_tree.specs.declared.token.Token.{Token}
use Rattle.c_reader.specs.Reading.{Answer, Reader, choose}
use Rattle.c_reader.specs.Reading as reading
use Rattle.c_reader.proofs.Reader.{Language, Good, Bad, Deep, Found, Reads}

-- the first token is one of these, or not; an empty list has none
unfoldable pub FirstIs : (Token → Bool) → Bool → List Token → Type 0
FirstIs test b [] = b ≡ false
FirstIs test b (token ∷ rest) = test token ≡ b

-- a tree of one of two languages
pub data Either {A : Type 0} (L M : Language A) (tree : A) (pieces : List Piece) : Type 0 where
  this : L tree pieces → Either L M tree pieces
  that : M tree pieces → Either L M tree pieces

unfoldable pub first_test : (Token → Bool) → List Token → Bool
first_test test [] = false
first_test test (token ∷ rest) = test token

first_is : (test : Token → Bool) (b : Bool) (tokens : List Token) → FirstIs test b tokens → first_test test tokens ≡ b
unfolding FirstIs first_test
first_is test b [] h = sym h
first_is test b (token ∷ rest) h = h

module _ {A : Type 0} (test : Token → Bool) (f g : Reader A) where
  choose_if : (b : Bool) (ts : List Token) → first_test test ts ≡ b → choose test f g ts ≡ (if b then f ts else g ts)
  unfolding first_test choose
  choose_if true [] is = absurd (cc)
  choose_if false [] is = refl
  choose_if b (w ∷ r) is = ap (λ c. if c then f (w ∷ r) else g (w ∷ r)) is

  first_through : (front : List Token) (w : Token) (r other : List Token) → first_test test (front ++ w ∷ r) ≡ first_test test (front ++ w ∷ other)
  unfolding first_test
  first_through [] w r other = refl
  first_through (x ∷ front) w r other = refl

module _ {A : Type 0} (L M : Language A) (most size : ℕ) (Stops : List Token → Type 0) (test : Token → Bool) (f g : Reader A) (F : Reads L most size Stops f) (G : Reads M most size Stops g) where
  choose_good : (b : Bool) (ts : List Token) → first_test test ts ≡ b → (tree : A) (rest : List Token) → choose test f g ts ≡ reading.good tree rest → Good (Either L M) most ts tree rest
  choose_good true ts is tree rest h =
      let x = F.good ts tree rest (sym (choose_if test f g true ts is) ∙ h) in
      record { pieces = x.pieces; front = x.front; spelled = this x.spelled; fits = x.fits; shallow = x.shallow; whole = x.whole }
  choose_good false ts is tree rest h =
      let x = G.good ts tree rest (sym (choose_if test f g false ts is) ∙ h) in
      record { pieces = x.pieces; front = x.front; spelled = that x.spelled; fits = x.fits; shallow = x.shallow; whole = x.whole }

  choose_bad : (b : Bool) (ts : List Token) → first_test test ts ≡ b → (rest : List Token) → choose test f g ts ≡ reading.bad rest → Bad (Either L M) most ts rest
  choose_bad true ts is rest h =
      let x = F.bad ts rest (sym (choose_if test f g true ts is) ∙ h) in
      record { tree = x.tree; pieces = x.pieces; missing = x.missing; front = x.front; spelled = this x.spelled; fits = x.fits; shallow = x.shallow; whole = x.whole }
  choose_bad false ts is rest h =
      let x = G.bad ts rest (sym (choose_if test f g false ts is) ∙ h) in
      record { tree = x.tree; pieces = x.pieces; missing = x.missing; front = x.front; spelled = that x.spelled; fits = x.fits; shallow = x.shallow; whole = x.whole }

  choose_deep : (b : Bool) (ts : List Token) → first_test test ts ≡ b → (rest : List Token) → choose test f g ts ≡ reading.deep rest → Deep (Either L M) most ts rest
  choose_deep true ts is rest h =
      let x = F.deep ts rest (sym (choose_if test f g true ts is) ∙ h) in
      record { tree = x.tree; pieces = x.pieces; piece = x.piece; missing = x.missing; front = x.front; token = x.token; following = x.following; spelled = this x.spelled; fits = x.fits; takes = x.takes; shallow = x.shallow; deep = x.deep; first = x.first; whole = x.whole }
  choose_deep false ts is rest h =
      let x = G.deep ts rest (sym (choose_if test f g false ts is) ∙ h) in
      record { tree = x.tree; pieces = x.pieces; piece = x.piece; missing = x.missing; front = x.front; token = x.token; following = x.following; spelled = that x.spelled; fits = x.fits; takes = x.takes; shallow = x.shallow; deep = x.deep; first = x.first; whole = x.whole }

  found_true : (tree : A) (ps : List Piece) (front rest : List Token) → choose test f g (front ++ rest) ≡ f (front ++ rest) → Found f most tree ps front rest → Found (choose test f g) most tree ps front rest
  found_true tree ps front rest e (inl h) = inl (e ∙ h.0, h.1)
  found_true tree ps front rest e (inr h) = inr (record { left = h.left; is = e ∙ h.is; place = h.place })

  found_false : (tree : A) (ps : List Piece) (front rest : List Token) → choose test f g (front ++ rest) ≡ g (front ++ rest) → Found g most tree ps front rest → Found (choose test f g) most tree ps front rest
  found_false tree ps front rest e (inl h) = inl (e ∙ h.0, h.1)
  found_false tree ps front rest e (inr h) = inr (record { left = h.left; is = e ∙ h.is; place = h.place })

  choose_all : ((a : A) (ps : List Piece) (front rest : List Token) → L a ps → Fits ps front → Stops rest → FirstIs test true (front ++ rest))
      → ((a : A) (ps : List Piece) (front rest : List Token) → M a ps → Fits ps front → Stops rest → FirstIs test false (front ++ rest))
      → (tree : A) (ps : List Piece) (front rest : List Token) → Either L M tree ps → Fits ps front → Stops rest → length (front ++ rest) ≤ size → Found (choose test f g) most tree ps front rest
  choose_all here there tree ps front rest (this x) fits stop small =
      found_true tree ps front rest (choose_if test f g true (front ++ rest) (first_is test true (front ++ rest) (here tree ps front rest x fits stop))) (F.all tree ps front rest x fits stop small)
  choose_all here there tree ps front rest (that x) fits stop small =
      found_false tree ps front rest (choose_if test f g false (front ++ rest) (first_is test false (front ++ rest) (there tree ps front rest x fits stop))) (G.all tree ps front rest x fits stop small)

  choose_local_good : (b : Bool) (front : List Token) (w : Token) (r others : List Token) → first_test test (front ++ w ∷ r) ≡ b → (tree : A) → choose test f g (front ++ w ∷ r) ≡ reading.good tree (w ∷ r) → choose test f g (front ++ w ∷ others) ≡ reading.good tree (w ∷ others)
  choose_local_good true front w r others is tree h =
      choose_if test f g true (front ++ w ∷ others) (sym (first_through test f g front w r others) ∙ is) ∙ F.local_good front w r others tree (sym (choose_if test f g true (front ++ w ∷ r) is) ∙ h)
  choose_local_good false front w r others is tree h =
      choose_if test f g false (front ++ w ∷ others) (sym (first_through test f g front w r others) ∙ is) ∙ G.local_good front w r others tree (sym (choose_if test f g false (front ++ w ∷ r) is) ∙ h)

  choose_local_bad : (b : Bool) (front : List Token) (w : Token) (r others : List Token) → first_test test (front ++ w ∷ r) ≡ b → choose test f g (front ++ w ∷ r) ≡ reading.bad (w ∷ r) → choose test f g (front ++ w ∷ others) ≡ reading.bad (w ∷ others)
  choose_local_bad true front w r others is h =
      choose_if test f g true (front ++ w ∷ others) (sym (first_through test f g front w r others) ∙ is) ∙ F.local_bad front w r others (sym (choose_if test f g true (front ++ w ∷ r) is) ∙ h)
  choose_local_bad false front w r others is h =
      choose_if test f g false (front ++ w ∷ others) (sym (first_through test f g front w r others) ∙ is) ∙ G.local_bad front w r others (sym (choose_if test f g false (front ++ w ∷ r) is) ∙ h)

  choose_local_deep : (b : Bool) (front : List Token) (w : Token) (r others : List Token) → first_test test (front ++ w ∷ r) ≡ b → choose test f g (front ++ w ∷ r) ≡ reading.deep (w ∷ r) → choose test f g (front ++ w ∷ others) ≡ reading.deep (w ∷ others)
  choose_local_deep true front w r others is h =
      choose_if test f g true (front ++ w ∷ others) (sym (first_through test f g front w r others) ∙ is) ∙ F.local_deep front w r others (sym (choose_if test f g true (front ++ w ∷ r) is) ∙ h)
  choose_local_deep false front w r others is h =
      choose_if test f g false (front ++ w ∷ others) (sym (first_through test f g front w r others) ∙ is) ∙ G.local_deep front w r others (sym (choose_if test f g false (front ++ w ∷ r) is) ∙ h)

  -- a reader of two languages whose trees can be told by their first token, which may be the one after the tree
  pub choose_reads : ((a : A) (ps : List Piece) (front rest : List Token) → L a ps → Fits ps front → Stops rest → FirstIs test true (front ++ rest))
      → ((a : A) (ps : List Piece) (front rest : List Token) → M a ps → Fits ps front → Stops rest → FirstIs test false (front ++ rest))
      → Reads (Either L M) most size Stops (choose test f g)
  choose_reads here there = record {
    good = λ ts tree rest h. choose_good (first_test test ts) ts refl tree rest h;
    bad = λ ts rest h. choose_bad (first_test test ts) ts refl rest h;
    deep = λ ts rest h. choose_deep (first_test test ts) ts refl rest h;
    all = choose_all here there;
    local_good = λ front w r others tree h. choose_local_good (first_test test (front ++ w ∷ r)) front w r others refl tree h;
    local_bad = λ front w r others h. choose_local_bad (first_test test (front ++ w ∷ r)) front w r others refl h;
    local_deep = λ front w r others h. choose_local_deep (first_test test (front ++ w ∷ r)) front w r others refl h;
  }

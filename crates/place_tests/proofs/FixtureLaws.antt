-- Nodes that stand while a graph grows, and what the tests' pointers lie in.
use Rattle.std.proofs.Common.{◌≡◌, ◌<◌, ◌+◌, ◌*◌, ℕ, zero, suc, List, [], ◌∷◌, Some, take, drop, get_or, refl, ◌∙◌, arith}
use Rattle.std.specs.List.{All}
use Rattle.hy_bits.specs.declared.width.Width.{Width}
use Rattle.hy_bits.specs.declared.width.Width.TheVariants.{W1, W32}
use Rattle.word_graph.specs.declared.entry.Entry.{Entry}
use Rattle.word_graph.specs.declared.entry.Node.{Node}
use Rattle.word_graph.specs.Growth.{Grows}
use Rattle.word_graph.specs.Meaning.{InputsFit}
use Rattle.word_graph.proofs.GrowthLaws.{Grows-length, Grows-width}
use Rattle.word_nodes.specs.Nodes.{Extends, Stands, worth}
use Rattle.word_nodes.proofs.NodeLaws.{Extends-inputs_before, Stands-later, worth-later}
use Rattle.c_place.specs.declared.targets.Target.{Target}
use Rattle.c_place.specs.Accesses.{ReadsAs}
use Rattle.c_place.specs.Boards.{Layout, LiesIn, IsZero}
use Rattle.place_tests.specs.Boards.{five_words}
use Rattle.place_tests.specs.Fixtures.{AreTruths}

pub Stands-grown : (old new : List Entry) (nodes gates : ℕ) → Grows old new nodes gates → (w : Width) (n : Node) → Stands old w n → Stands new w n
Stands-grown old new nodes gates f w n s = record {
  within = omega (arith, s.within, Grows-length old new nodes gates f);
  width = Grows-width old new nodes gates f n.index s.within ∙ s.width;
}

-- a constant 0 just made
pub IsZero-made : {region : ℕ} {old new : List Entry} (f : Extends region old new) (w : Width) (n : Node) → Stands new w n → ((ins : List ℕ) → InputsFit old ins → worth new ins n ≡ 0) → IsZero new w n
IsZero-made f w n s v = record { stands = s; zero = λ ins fit. v ins (Extends-inputs_before f ins fit) }

pub AreTruths-later : {region : ℕ} {old new : List Entry} (f : Extends region old new) (low high : Node) → AreTruths old low high → AreTruths new low high
AreTruths-later f low high s = record {
  no = Stands-later f W1 _ s.no;
  yes = Stands-later f W1 _ s.yes;
  off = λ ins fit. worth-later f ins low s.no.within ∙ s.off ins (Extends-inputs_before f ins fit);
  on = λ ins fit. worth-later f ins high s.yes.within ∙ s.on ins (Extends-inputs_before f ins fit);
}

-- ---- an array of five

pub five-at : (k : ℕ) → get_or five_words k W32 ≡ W32
five-at zero = refl
five-at (suc zero) = refl
five-at (suc (suc zero)) = refl
five-at (suc (suc (suc zero))) = refl
five-at (suc (suc (suc (suc zero)))) = refl
five-at (suc (suc (suc (suc (suc k))))) = refl

pub All-one : {A : Type 0} (P : A → Type 0) (x : A) → P x → All P (x ∷ [])
All-one P x p zero d h = p
All-one P x p (suc k) d h = absurd (omega arith)

module _ (l : Layout) (known : l ≡ Some five_words ∷ []) (ts : List Target) (guard index : Node) where
  pub elements-lie : ts ≡ record { guard = guard; object = 0; first = 0; size = 1; length = 5; index = index } ∷ [] → All (LiesIn l) ts
  elements-lie e = rw (known, e) (All-one (LiesIn (Some five_words ∷ [])) _ (five_words, refl, omega arith))

  pub elements-read : ts ≡ record { guard = guard; object = 0; first = 0; size = 1; length = 5; index = index } ∷ [] → All (ReadsAs l 0 (W32 ∷ [])) ts
  elements-read e = rw (known, e) (All-one (ReadsAs (Some five_words ∷ []) 0 (W32 ∷ [])) _ (omega arith, λ k h. one k h))
    where
      one : (k : ℕ) → k < 5 → take 1 (drop (0 + k * 1 + 0) five_words) ≡ W32 ∷ []
      one zero h = refl
      one (suc zero) h = refl
      one (suc (suc zero)) h = refl
      one (suc (suc (suc zero))) h = refl
      one (suc (suc (suc (suc zero)))) h = refl
      one (suc (suc (suc (suc (suc k))))) h = absurd (omega arith)

  pub whole-lies : ts ≡ record { guard = guard; object = 0; first = 0; size = 5; length = 1; index = index } ∷ [] → All (LiesIn l) ts
  whole-lies e = rw (known, e) (All-one (LiesIn (Some five_words ∷ [])) _ (five_words, refl, omega arith))

  pub whole-reads : ts ≡ record { guard = guard; object = 0; first = 0; size = 5; length = 1; index = index } ∷ [] → All (ReadsAs l 0 five_words) ts
  whole-reads e = rw (known, e) (All-one (ReadsAs (Some five_words ∷ []) 0 five_words) _ (omega arith, λ k h. all k h))
    where
      all : (k : ℕ) → k < 1 → take 5 (drop (0 + k * 5 + 0) five_words) ≡ five_words
      all zero h = refl
      all (suc k) h = absurd (omega arith)

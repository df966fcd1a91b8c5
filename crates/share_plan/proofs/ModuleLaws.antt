-- Modules one by one.
use Rattle.std.proofs.Common.{◌≡◌, ℕ, ◌+◌, ◌<◌, ◌≤◌, List, [], ◌∷◌, drop, get_or, length, refl, sym, ap, ◌∙◌, arith}
use Rattle.std.proofs.lemmas.List.{drop_more, length-drop}
use Rattle.word_graph.specs.declared.entry.Entry.{Entry}
use Rattle.module_split.specs.declared.module.EdgeWords.{EdgeWords}
use Rattle.module_split.specs.declared.module.Module.{Module}
use Rattle.choice_core.specs.declared.sharings.Choice.{Choice}
use Rattle.bundle_core.specs.declared.parts.Variant.{Variant}
use Rattle.share_plan.specs.Held.{Work}
use Rattle.share_plan.specs.Modules.{with_module, with_modules, words_into}

module _ (es : List Entry) (edges : List EdgeWords) where
  front : (list left : List Module) (variants others : List Variant) (choices rest : List Choice) (i : ℕ) (part : Module) (v : Variant) (c : Choice) (work : Work) → left ≡ part ∷ list → others ≡ v ∷ variants → rest ≡ c ∷ choices →
      with_modules es edges i left others rest work ≡ with_modules es edges (i + 1) list variants choices (with_module es (words_into edges i) part v c work)
  unfolding with_modules
  front list left variants others choices rest i part v c work p q r = rw (p, q, r) refl

  one-more : (list : List Module) (variants : List Variant) (choices : List Choice) (i : ℕ) (part : Module) (v : Variant) (c : Choice) (work : Work) → i < length list → i < length variants → i < length choices →
      with_modules es edges i (drop i list) (drop i variants) (drop i choices) work
      ≡ with_modules es edges (i + 1) (drop (i + 1) list) (drop (i + 1) variants) (drop (i + 1) choices) (with_module es (words_into edges i) (get_or list i part) (get_or variants i v) (get_or choices i c) work)
  one-more list variants choices i part v c work h k l =
      front (drop (i + 1) list) (drop i list) (drop (i + 1) variants) (drop i variants) (drop (i + 1) choices) (drop i choices) i (get_or list i part) (get_or variants i v) (get_or choices i c) work (drop_more list i part h) (drop_more variants i v k) (drop_more choices i c l)

  pub modules-more : (list : List Module) (variants : List Variant) (choices : List Choice) (i : ℕ) (part : Module) (v : Variant) (c : Choice) (words : List ℕ) (work next whole : Work) → i < length list → i < length variants → i < length choices →
      part ≡ get_or list i part → v ≡ get_or variants i v → words ≡ words_into edges i → next ≡ with_module es words part v (get_or choices i c) work →
      with_modules es edges i (drop i list) (drop i variants) (drop i choices) work ≡ whole →
      with_modules es edges (i + 1) (drop (i + 1) list) (drop (i + 1) variants) (drop (i + 1) choices) next ≡ whole
  modules-more list variants choices i part v c words work next whole h k l p q w is before =
      let same : with_module es words part v (get_or choices i c) work ≡ with_module es (words_into edges i) (get_or list i part) (get_or variants i v) (get_or choices i c) work =
      ap (λ (x : List ℕ). with_module es x part v (get_or choices i c) work) w ∙ ap (λ (x : Module). with_module es (words_into edges i) x v (get_or choices i c) work) p
      ∙ ap (λ (x : Variant). with_module es (words_into edges i) (get_or list i part) x (get_or choices i c) work) q in
      ap (with_modules es edges (i + 1) (drop (i + 1) list) (drop (i + 1) variants) (drop (i + 1) choices)) (is ∙ same) ∙ sym (one-more list variants choices i part v c work h k l) ∙ before

  none-left : (left : List Module) (variants : List Variant) (choices : List Choice) (i : ℕ) (work : Work) → length left ≤ 0 → with_modules es edges i left variants choices work ≡ work
  unfolding with_modules
  none-left [] variants choices i work none = refl
  none-left (part ∷ left) variants choices i work none = absurd (omega arith)

  pub modules-end : (list : List Module) (variants : List Variant) (choices : List Choice) (i : ℕ) (work : Work) → length list ≤ i → with_modules es edges i (drop i list) variants choices work ≡ work
  modules-end list variants choices i work h = none-left (drop i list) variants choices i work (omega (arith, length-drop i list))

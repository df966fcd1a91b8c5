-- Laws of lists of numbers, by their own numbers.
use Rattle.std.proofs.Common.{◌≡◌, ℕ, ◌+◌, ◌<◌, List, [], ◌∷◌, ◌++◌, map, set, length, refl, sym, ap, ◌∙◌, arith}
use Rattle.std.specs.Prelude.{Vec}
use Rattle.std.specs.declared.alloc.Global.{Global}
use Rattle.std.proofs.lemmas.List.{map-set, get_or-set_same, get_or-set_other, length-set, length-map}
use Rattle.std.proofs.lemmas.List.FromFn.{map-range_with_len_more}
use Rattle.module_split.specs.Lists.{items_of, Puts}
use Rattle.module_split.specs.Cut.{below}

pub Puts-set : (lists : List (Vec ℕ Global)) (k : ℕ) (v : Vec ℕ Global) (xs : List ℕ) → k < length lists → v.items ≡ xs → Puts (items_of lists) (items_of (set lists k v)) k xs
Puts-set lists k v xs within e = record {
  count = length-map (set lists k v) (λ (w : Vec ℕ Global). w.items) ∙ length-set lists k v ∙ sym (length-map lists (λ (w : Vec ℕ Global). w.items));
  here = rw map-set (get_or-set_same (items_of lists) k v.items [] (omega (arith, length-map lists (λ (w : Vec ℕ Global). w.items))) ∙ e);
  others = λ j apart. rw map-set (get_or-set_other (items_of lists) k j v.items [] apart);
}

-- the numbers below one more
pub below-more : (n : ℕ) → below (n + 1) ≡ below n ++ n ∷ []
below-more n = sym (map_same (below (n + 1))) ∙ map-range_with_len_more (λ (k : ℕ). k) 0 n n (omega arith) ∙ ap (λ (ks : List ℕ). ks ++ n ∷ []) (map_same (below n))
  where
    map_same : (ks : List ℕ) → map (λ (k : ℕ). k) ks ≡ ks
    map_same [] = refl
    map_same (k ∷ ks) = ap (λ (rest : List ℕ). k ∷ rest) (map_same ks)

-- Words with their top bits complemented.
use Rattle.std.proofs.Common.{◌≡◌, ℕ, suc, ◌≤◌, ◌^◌, Bool, not, nat_lt, List, [], ◌∷◌, ◌++◌, length, refl, sym, ap, ◌∙◌, subst, arith}
use Rattle.std.proofs.lemmas.List.{map_push, length_push, length-map, get_or_append_left, get_or_push}
use Rattle.std.proofs.lemmas.List.Elements.{All-push}
use Rattle.hy_bits.specs.Bits.{number}
use Rattle.hy_bits.specs.Words.{is_less_s}
use Rattle.hy_bits.proofs.BitLaws.{is_less_s-push}
use Rattle.gate_net.specs.declared.literal.Lit.{Lit}
use Rattle.gate_net.specs.Literal.{complement_of}
use Rattle.gate_net.specs.Circuit.{Circuit, Stands}
use Rattle.gate_net.specs.Meaning.{value, level}
use Rattle.gate_net.proofs.MeaningLaws.{value-complement, level-complement, Stands-complement}
use Rattle.gate_net.specs.Spelled.{values, spelled, AllStand, AllWithin}
use Rattle.adder_blocks.specs.Steps.{TopComplemented}

AllStand-parts : (n : Circuit) (low : List Lit) (top : Lit) → AllStand n (low ++ top ∷ []) → AllStand n low × Stands n top
AllStand-parts n low top h = (
  λ k d l. subst (Stands n) (get_or_append_left low (top ∷ []) d k l) (h k d (omega (arith, length_push low top))),
  subst (Stands n) (get_or_push low top top (length low) refl) (h (length low) top (omega (arith, length_push low top))),
)

pub AllStand-top : (n : Circuit) (old new : List Lit) → TopComplemented old new → AllStand n old → AllStand n new
AllStand-top n old new t h =
    let p = AllStand-parts n t.low t.top (subst (AllStand n) t.before h) in
    subst (AllStand n) (sym t.after) (All-push (Stands n) t.low (complement_of t.top) p.0 (Stands-complement n t.top p.1))

pub length-top : (old new : List Lit) → TopComplemented old new → length new ≡ length old
length-top old new t = ap length t.after ∙ length_push t.low (complement_of t.top) ∙ sym (ap length t.before ∙ length_push t.low t.top)

spelled-before : (n : Circuit) (bits : List Bool) (old new : List Lit) (t : TopComplemented old new) → spelled n bits old ≡ number (values n bits t.low ++ value n bits t.top ∷ [])
spelled-before n bits old new t = ap (spelled n bits) t.before ∙ ap number (map_push (value n bits) t.low t.top)

spelled-after : (n : Circuit) (bits : List Bool) (old new : List Lit) (t : TopComplemented old new) → spelled n bits new ≡ number (values n bits t.low ++ not (value n bits t.top) ∷ [])
spelled-after n bits old new t =
    ap (spelled n bits) t.after ∙ ap number (map_push (value n bits) t.low (complement_of t.top))
    ∙ ap (λ (b : Bool). number (values n bits t.low ++ b ∷ [])) (value-complement n bits t.top)

-- the order of the signed readings is that of the numbers with their top bits complemented
pub less-top : (n : Circuit) (bits : List Bool) (a b x y : List Lit) → TopComplemented a x → TopComplemented b y → length a ≡ length b → nat_lt (spelled n bits x) (spelled n bits y) ≡ is_less_s (2 ^ length a) (spelled n bits a) (spelled n bits b)
less-top n bits a b x y s t same =
    let low : length s.low ≡ length t.low = omega (arith, ap length s.before, ap length t.before, length_push s.low s.top, length_push t.low t.top, same) in
    let lows : length (values n bits s.low) ≡ length (values n bits t.low) = length-map s.low (value n bits) ∙ low ∙ sym (length-map t.low (value n bits)) in
    let long : suc (length (values n bits s.low)) ≡ length a = omega (arith, length-map s.low (value n bits), ap length s.before, length_push s.low s.top) in
    ap (λ (k : ℕ). nat_lt k (spelled n bits y)) (spelled-after n bits a x s)
    ∙ ap (λ (k : ℕ). nat_lt (number (values n bits s.low ++ not (value n bits s.top) ∷ [])) k) (spelled-after n bits b y t)
    ∙ sym (is_less_s-push (values n bits s.low) (values n bits t.low) (value n bits s.top) (value n bits t.top) lows)
    ∙ ap (λ (k : ℕ). is_less_s (2 ^ k) (number (values n bits s.low ++ value n bits s.top ∷ [])) (number (values n bits t.low ++ value n bits t.top ∷ []))) long
    ∙ ap (λ (k : ℕ). is_less_s (2 ^ length a) k (number (values n bits t.low ++ value n bits t.top ∷ []))) (sym (spelled-before n bits a x s))
    ∙ ap (λ (k : ℕ). is_less_s (2 ^ length a) (spelled n bits a) k) (sym (spelled-before n bits b y t))

pub AllWithin-top : (n : Circuit) (d : ℕ) (old new : List Lit) → TopComplemented old new → AllWithin n d old → AllWithin n d new
AllWithin-top n d old new t h =
    let p = parts (subst (AllWithin n d) t.before h) in
    subst (AllWithin n d) (sym t.after) (All-push (λ l. level n l ≤ d) t.low (complement_of t.top) p.0 (omega (arith, p.1, level-complement n t.top)))
  where
    parts : AllWithin n d (t.low ++ t.top ∷ []) → AllWithin n d t.low × (level n t.top ≤ d)
    parts w = (
      λ k e l. subst (λ (x : Lit). level n x ≤ d) (get_or_append_left t.low (t.top ∷ []) e k l) (w k e (omega (arith, length_push t.low t.top))),
      subst (λ (x : Lit). level n x ≤ d) (get_or_push t.low t.top t.top (length t.low) refl) (w (length t.low) t.top (omega (arith, length_push t.low t.top))),
    )

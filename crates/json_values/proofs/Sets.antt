-- A set of names, name by name.
use Rattle.std.proofs.Common.{◌≡◌, ℕ, ◌+◌, ◌<◌, ◌||◌, Bool, true, false, cond, List, ◌∷◌, length, get_or, drop, Bor, nat_cmp, bytes_eq, refl, sym, ap, ◌∙◌}
use Rattle.std.proofs.lemmas.List.{at_drop_more}
use Rattle.std.proofs.lemmas.Map.Text.{is_eq-slice_cmp}
use Rattle.std.specs.Cmp.Lexicographic.{slice_cmp}
use Rattle.std.specs.BTreeSet.{BTreeSet, Updates}
use Rattle.hy_bits.specs.declared.shape.Port.{Port}
use Rattle.json_values.specs.Names.{holds}
use Rattle.json_values.specs.Walk.{is_among}

over : (is old rest : Bool) → (cond is true old || rest) ≡ (old || (is || rest))
over true true rest = refl
over true false rest = refl
over false old rest = refl

-- one more name is in the set, and one less is left
pub inserted : (old new : BTreeSet (Bor (List ℕ))) (key : Bor (List ℕ)) (rest : List (List ℕ)) (whole : Bool) (name : List ℕ) → Updates (λ a b. slice_cmp nat_cmp a.now b.now) old new key true
    → (holds name old || is_among name (key.now ∷ rest)) ≡ whole → (holds name new || is_among name rest) ≡ whole
inserted old new key rest whole name updates is =
    ap (λ (held : Bool). held || is_among name rest) (updates.0 (record { ref_ptr = (0, 0); now = name }))
    ∙ ap (λ (same : Bool). cond same true (holds name old) || is_among name rest) (is_eq-slice_cmp key.now name)
    ∙ over (bytes_eq key.now name) (holds name old) (is_among name rest) ∙ is

pub none_left : (held : Bool) (whole : Bool) → (held || false) ≡ whole → held ≡ whole
none_left true whole is = is
none_left false whole is = is

-- a port and those after it
pub port_there : (ports : List Port) (i : ℕ) (port : Port) → i < length ports → port ≡ get_or ports i port → drop i ports ≡ port ∷ drop (i + 1) ports
port_there ports i port less is = at_drop_more (λ ps. ps) ports i port less ∙ ap (λ p. p ∷ drop (i + 1) ports) (sym is)

-- What is seen of states that change, and of what is read of them.
use Rattle.std.proofs.Common.{◌≡◌, ℕ, zero, suc, ◌+◌, ◌*◌, ℤ, pos, negsuc, nat_lt, Bool, true, false, if◌then◌else◌, List, [], ◌∷◌, get_or, set, map, length, replicate, refl, sym, ap, ◌∙◌}
use Rattle.std.specs.Prelude.{None, Some, option_map}
use Rattle.c_meaning.specs.declared.values.Cell.{Cell}
use Rattle.c_meaning.specs.declared.values.Cell.TheVariants as cell
use Rattle.c_meaning.specs.declared.values.Pointer.{Pointer}
use Rattle.c_meaning.specs.State.{moved, points_alike, State, Address, Spot, no_object, object_at, begun, ended, all_ended, written, overwritten, element_of, element_from, cell_of}
use Rattle.c_meaning.specs.Expressions.{Value, holds, word_in, address_in}
use Rattle.exec_state.specs.Seen.{seen_pointer, seen, seen_address, seen_object, seen_objects}

-- ---- lists

pub map_set : {A B : Type 0} (f : A → B) (xs : List A) (k : ℕ) (x : A) → map f (set xs k x) ≡ set (map f xs) k (f x)
map_set f [] k x = refl
map_set f (y ∷ ys) zero x = refl
map_set f (y ∷ ys) (suc k) x = ap (λ zs. f y ∷ zs) (map_set f ys k x)

pub get_or_map : {A B : Type 0} (f : A → B) (xs : List A) (k : ℕ) (d : A) → get_or (map f xs) k (f d) ≡ f (get_or xs k d)
get_or_map f [] k d = refl
get_or_map f (x ∷ xs) zero d = refl
get_or_map f (x ∷ xs) (suc k) d = get_or_map f xs k d

set_same : {A : Type 0} (xs : List A) (k : ℕ) (d : A) → set xs k (get_or xs k d) ≡ xs
set_same [] k d = refl
set_same (x ∷ xs) zero d = refl
set_same (x ∷ xs) (suc k) d = ap (λ ys. x ∷ ys) (set_same xs k d)

-- ---- objects

pub object_seen : (s : State) (k : ℕ) → get_or (seen_objects s) k [] ≡ seen_object (object_at s k)
object_seen s k = get_or_map seen_object s.objects k no_object

pub overwritten_seen : (cells : List Cell) (at : ℕ) (values : List Cell) → map seen (overwritten cells at values) ≡ overwritten (map seen cells) at (map seen values)
overwritten_seen cells at [] = refl
overwritten_seen cells at (v ∷ vs) = overwritten_seen (set cells at v) (at + 1) vs ∙ ap (λ (cs : List Cell). overwritten cs (at + 1) (map seen vs)) (map_set seen cells at v)

pub written_seen : (k at : ℕ) (values : List Cell) (s : State) → seen_objects (written k at values s) ≡ set (seen_objects s) k (overwritten (get_or (seen_objects s) k []) at (map seen values))
written_seen k at values s =
    map_set seen_object s.objects k (record { life = (object_at s k).life; cells = overwritten (object_at s k).cells at values })
    ∙ ap (λ (cs : List Cell). set (seen_objects s) k cs)
    (overwritten_seen (object_at s k).cells at values ∙ ap (λ (cs : List Cell). overwritten cs at (map seen values)) (sym (object_seen s k)))

length_map : {A B : Type 0} (f : A → B) (xs : List A) → length (map f xs) ≡ length xs
length_map f [] = refl
length_map f (x ∷ xs) = ap suc (length_map f xs)

map_replicate : (n : ℕ) (c : Cell) → map seen (replicate n c) ≡ replicate n (seen c)
map_replicate zero c = refl
map_replicate (suc n) c = ap (λ cs. seen c ∷ cs) (map_replicate n c)

pub begun_seen : (k : ℕ) (s : State) → seen_objects (begun k s) ≡ set (seen_objects s) k (replicate (length (get_or (seen_objects s) k [])) (cell.Int 0))
begun_seen k s =
    map_set seen_object s.objects k _
    ∙ ap (λ (cs : List Cell). set (seen_objects s) k cs)
    (map_replicate (length (object_at s k).cells) cell.Unset
    ∙ ap (λ n. replicate n (cell.Int 0)) (sym (ap length (object_seen s k) ∙ length_map seen (object_at s k).cells)))

pub ended_seen : (k : ℕ) (s : State) → seen_objects (ended k s) ≡ seen_objects s
ended_seen k s =
    map_set seen_object s.objects k _
    ∙ ap (λ (cs : List Cell). set (seen_objects s) k cs) (sym (object_seen s k))
    ∙ set_same (seen_objects s) k []

pub all_ended_seen : (ks : List ℕ) (s : State) → seen_objects (all_ended ks s) ≡ seen_objects s
all_ended_seen [] s = refl
all_ended_seen (k ∷ ks) s = all_ended_seen ks (ended k s) ∙ ended_seen k s

pub all_ended_returned : (ks : List ℕ) (s : State) → (all_ended ks s).returned ≡ s.returned
all_ended_returned [] s = refl
all_ended_returned (k ∷ ks) s = all_ended_returned ks (ended k s)

-- ---- values

pub holds_seen : (u : Value) → holds (map seen u) ≡ holds u
holds_seen [] = refl
holds_seen (cell.Unset ∷ rest) = refl
holds_seen (cell.Int w ∷ rest) = refl
holds_seen (cell.Null ∷ rest) = refl
holds_seen (cell.Pointer p ∷ rest) = refl

pub word_seen : (u : Value) → word_in (map seen u) ≡ word_in u
word_seen [] = refl
word_seen (cell.Unset ∷ rest) = refl
word_seen (cell.Int w ∷ rest) = refl
word_seen (cell.Null ∷ rest) = refl
word_seen (cell.Pointer p ∷ rest) = refl

pub address_seen : (u : Value) → address_in (map seen u) ≡ seen_address (address_in u)
address_seen [] = refl
address_seen (cell.Unset ∷ rest) = refl
address_seen (cell.Int w ∷ rest) = refl
address_seen (cell.Null ∷ rest) = refl
address_seen (cell.Pointer p ∷ rest) = refl

-- ---- pointers

-- the element of a pointer, by its object and cell
pub element_seen : (p : Address) → option_map (λ (spot : Spot). record spot { life = 0 }) (element_of p) ≡ element_of (seen_address p)
element_seen None = refl
element_seen (Some p) = by_index p.index
  where
    by_index : (i : ℤ) → option_map (λ (spot : Spot). record spot { life = 0 }) (element_from i p) ≡ element_from i (record p { life = 0 })
    by_index (negsuc n) = refl
    by_index (pos n) = within (nat_lt n p.length)
      where
        within : (b : Bool) → option_map (λ (spot : Spot). record spot { life = 0 }) (if b then Some (record { object = p.object; at = p.first + n * p.size; life = p.life }) else None) ≡ (if b then Some (record { object = p.object; at = p.first + n * p.size; life = 0 }) else None)
        within true = refl
        within false = refl

pub moved_seen : (by : ℤ) (p : Pointer) → seen_address (Some (moved by p)) ≡ Some (moved by (seen_pointer p))
moved_seen by p = refl

pub alike_seen : (p q : Address) → points_alike (seen_address p) (seen_address q) ≡ points_alike p q
alike_seen None None = refl
alike_seen None (Some q) = refl
alike_seen (Some p) None = refl
alike_seen (Some p) (Some q) = refl

pub cell_seen : (p : Address) → seen (cell_of p) ≡ seen (cell_of (seen_address p))
cell_seen None = refl
cell_seen (Some p) = refl

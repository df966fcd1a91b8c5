-- The rings of neighbours behind an arena. Private to the crate: contracts of `Links` name none of it.
use Rattle.std.specs.Prelude.{◌≡◌, ◌≢◌, ℕ, ◌+◌, ◌*◌, ◌<◌, cond, nat_lt, List, [], ◌∷◌, ◌++◌, length, Option, Some, None, slice_get, option_map}
use Rattle.hy_links.specs.declared.Link.{Link}
use Rattle.hy_links.specs.declared.ring.Place.{Place}
use Rattle.hy_links.specs.declared.ring.Place.TheVariants.{Head, Link as At}
use Rattle.hy_links.specs.declared.ring.Neighbours.{Neighbours}
use Rattle.hy_links.specs.declared.ring.Rings.{Rings}

-- what is written for the place, if it has been made
unfoldable pub neighbours_at : Rings → Place → Option Neighbours
neighbours_at r (Head list) = slice_get r.heads.items list
neighbours_at r (At link) = cond (nat_lt link.side 3) (slice_get r.links.items (3 * link.node + link.side)) None

-- the place has been made
pub record HasPlace (r : Rings) (p : Place) : Type 0 where
  pub entry : Neighbours
  pub is : neighbours_at r p ≡ Some entry

unfoldable pub after_of : Rings → Place → Option Place
after_of r p = option_map (λ n. n.after) (neighbours_at r p)

unfoldable pub before_of : Rings → Place → Option Place
before_of r p = option_map (λ n. n.before) (neighbours_at r p)

-- q is the next place after p, and p the one before q
pub record Edge (r : Rings) (p q : Place) : Type 0 where
  pub after : after_of r p ≡ Some q
  pub before : before_of r q ≡ Some p

-- from p through the links to q, each next to the one before
unfoldable pub Path : Rings → Place → List Link → Place → Type 0
Path r p [] q = Edge r p q
Path r p (x ∷ xs) q = Edge r p (At x) × Path r (At x) xs q

-- the place's entry is written, and nothing else
pub record Replaces (old new : Rings) (place : Place) (entry : Neighbours) : Type 0 where
  pub written : neighbours_at new place ≡ Some entry
  pub others : (p : Place) → p ≢ place → neighbours_at new p ≡ neighbours_at old p
  pub heads : length new.heads.items ≡ length old.heads.items
  pub links : length new.links.items ≡ length old.links.items

-- `join` ties two places, and changes nothing else
pub record Joins (old new : Rings) (left right : Place) : Type 0 where
  pub edge : Edge new left right
  pub afters : (p : Place) → p ≢ left → after_of new p ≡ after_of old p
  pub befores : (p : Place) → p ≢ right → before_of new p ≡ before_of old p
  pub heads : length new.heads.items ≡ length old.heads.items
  pub links : length new.links.items ≡ length old.links.items

-- a head alone in its ring
abbrev pub alone : ℕ → Neighbours
alone list = record { before = Head list; after = Head list }

-- one more list, alone, and three more links
pub record Grows (old new : Rings) : Type 0 where
  pub heads : new.heads.items ≡ old.heads.items ++ alone (length old.heads.items) ∷ []
  pub links : length new.links.items ≡ length old.links.items + 3
  pub kept : (i : ℕ) → i < length old.links.items → slice_get new.links.items i ≡ slice_get old.links.items i

-- so many lists, each alone, and no links
pub record IsNew (r : Rings) (lists : ℕ) : Type 0 where
  pub heads : length r.heads.items ≡ lists
  pub each : (i : ℕ) → i < lists → slice_get r.heads.items i ≡ Some (alone i)
  pub links : r.links.items ≡ []

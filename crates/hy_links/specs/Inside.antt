-- What the fields of `Links` stand for.
use Rattle.std.specs.Prelude.{◌≡◌, ℕ, suc, zero, ◌+◌, ◌*◌, ◌<◌, ◌≤◌, List, [], ◌∷◌, length, map, Option, Some, None, slice_index_or}
use Rattle.std.specs.List.{range_with_len}
use Rattle.hy_links.specs.declared.Link.{Link}
use Rattle.hy_links.specs.declared.ring.Place.{Place}
use Rattle.hy_links.specs.declared.ring.Place.TheVariants.{Head, Link as At}
use Rattle.hy_links.specs.declared.ring.Rings.{Rings}
use Rattle.hy_links.specs.declared.Links.TheInside.{Inside}
use Rattle.hy_links.specs.Arena.{Arena, max_lists, max_nodes}
use Rattle.hy_links.specs.Ring.{after_of, Path}

-- the links met on the way from a place to the next head, n at most
unfoldable pub followed : Rings → ℕ → Option Place → List Link
followed r n None = []
followed r n (Some (Head list)) = []
followed r zero (Some (At x)) = []
followed r (suc n) (Some (At x)) = x ∷ followed r n (after_of r (At x))

-- the links of a ring: there are no more of them than entries
unfoldable pub chain_of : Rings → ℕ → List Link
chain_of r list = followed r (length r.links.items) (after_of r (Head list))

unfoldable pub chains_of : Rings → List (List Link)
chains_of r = map (chain_of r) (range_with_len 0 (length r.heads.items))

-- each list is chained from its head through its links back to the head
pub record Holds (r : Rings) (chains : List (List Link)) : Type 0 where
  pub one_for_each : length chains ≡ length r.heads.items
  pub chained : (i : ℕ) → i < length chains → Path r (Head i) (slice_index_or chains i []) (Head i)

unfoldable pub arena_of : Inside → Arena
arena_of a = record { lists = a.lists; nodes = a.nodes; chains = chains_of a.rings }

pub record IsSound (a : Inside) : Type 0 where
  pub heads : length a.rings.heads.items ≡ a.lists + a.nodes
  pub links : length a.rings.links.items ≡ 3 * a.nodes
  pub few_lists : a.lists ≤ max_lists
  pub few_nodes : a.nodes ≤ max_nodes
  pub holds : Holds a.rings (chains_of a.rings)

-- What contracts see of the links of an arena.
use Rattle.std.specs.Prelude.{◌≡◌, ℕ, ◌+◌, ◌^◌, ◌<◌, Bool, cond, ◌&&◌, ◌==◌, not, List, [], ◌∷◌, length, Option, None, slice_get, slice_index_or, filter, Contains}
use Rattle.std.specs.List.{IsDistinct}
use Rattle.hy_links.specs.declared.Link.{Link}

-- the most lists that an arena is made with
abbrev pub max_lists : ℕ
max_lists = 2 ^ 30

-- the most nodes of an arena
abbrev pub max_nodes : ℕ
max_nodes = 2 ^ 24

-- how many lists it was made with, how many nodes were made since, and the list of each number:
-- those that it was made with come first, then one for each node
pub record Arena : Type 0 where
  pub lists : ℕ
  pub nodes : ℕ
  pub chains : List (List Link)

-- the links of a list, in order; none where there is no such list
abbrev pub chain : Arena → ℕ → List Link
chain a list = slice_index_or a.chains list []

-- the list has been made
abbrev pub HasList : Arena → ℕ → Type 0
HasList a list = list < a.lists + a.nodes

-- the link is one of a node that has been made
abbrev pub HasLink : Arena → Link → Type 0
HasLink a link = (link.node < a.nodes) × (link.side < 3)

-- the link stands in some list
abbrev pub Stands : Arena → Link → Type 0
Stands a link = (list : ℕ) × Contains (chain a list) link

-- whether two links are the same
abbrev pub same_link : Link → Link → Bool
same_link a b = (a.node == b.node) && (a.side == b.side)

-- the list with the link taken out
abbrev pub without : Link → List Link → List Link
without link links = filter (λ other. not (same_link other link)) links

-- the link that follows the given one in a list
abbrev pub link_after : Link → List Link → Option Link
link_after link [] = None
link_after link (x ∷ xs) = cond (same_link x link) (slice_get xs 0) (link_after link xs)

-- there is a list for each number below lists and nodes together, only links of nodes that have
-- been made stand in lists, and each link stands in one list at most, and there once
pub record IsLinkedOnce (a : Arena) : Type 0 where
  pub one_for_each : length a.chains ≡ a.lists + a.nodes
  pub made : (list : ℕ) (link : Link) → Contains (chain a list) link → HasLink a link
  pub in_one_list : (i j : ℕ) (link : Link) → Contains (chain a i) link → Contains (chain a j) link → i ≡ j
  pub there_once : (list : ℕ) → IsDistinct same_link (chain a list)

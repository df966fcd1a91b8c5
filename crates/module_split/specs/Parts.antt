-- What the pieces of a cut are made of.
use Rattle.std.specs.Prelude.{◌≡◌, ℕ, ◌<◌, ◌^◌, List, Option, length, filter}
use Rattle.std.specs.List.{All}
use Rattle.word_graph.specs.declared.entry.Entry.{Entry}
use Rattle.module_split.specs.declared.cutting.Belonging.{Belonging}
use Rattle.module_split.specs.declared.cutting.Using.{Using}
use Rattle.module_split.specs.Lists.{at}
use Rattle.module_split.specs.Homes.{groups_of, homes_of}
use Rattle.module_split.specs.Cut.{crosses_into, ins_of, nodes_of, numbers_of, order_of}
use Rattle.module_split.specs.Steps.{AreUsers, IsBelow, places_of_modules}

-- where the nodes of the graph belong
pub record IsBelonging (es : List Entry) (layers : ℕ) (b : Belonging) : Type 0 where
  pub homes : b.homes.items ≡ homes_of layers es
  pub order : b.order.keys ≡ order_of layers (groups_of layers es)
  pub numbers : b.numbers.items ≡ numbers_of (order_of layers (groups_of layers es)) (groups_of layers es)
  pub count : length b.numbers.items ≡ length es
  pub low : All (IsBelow (length b.order.keys)) b.numbers.items
  pub few : length b.order.keys < 2 ^ 32

-- who uses whom, where the nodes have these numbers and there are so many modules
pub record IsUsing (es : List Entry) (numbers : List (Option ℕ)) (count : ℕ) (u : Using) : Type 0 where
  pub users : AreUsers es u.users
  pub node_count : length u.nodes ≡ count
  pub in_count : length u.ins ≡ count
  pub crossing_count : length u.crossing ≡ count
  pub nodes : (m : ℕ) → m < count → at u.nodes m ≡ nodes_of numbers m
  pub ins : (m : ℕ) → m < count → at u.ins m ≡ ins_of es numbers m
  pub crossing : (m : ℕ) → m < count → at u.crossing m ≡ filter (crosses_into es numbers m) (places_of_modules numbers count)

use Rattle.std.proofs.Common.{◌≡◌, ℕ, ◌-◌, List, length}
use Rattle.choice_search.proofs.Walks.{IsWalked, Reads}
use Rattle.choice_search.proofs.trees.tree_of.Given as goal

-- the list so far, with whatever tree of the prefixes on the stack comes behind it, is the tree; no number is read twice
abbrev pub invariant-loop-number : goal.invariant-loop-number
invariant-loop-number l = Reads l.nodes l.leasts l.list.items l.stack.items × ((done : List ℕ) × (length done ≡ length l.list.items) × IsWalked l.nodes done l.stack.items)

abbrev pub decreases-loop-number : goal.decreases-loop-number
decreases-loop-number l = length l.nodes - length l.list.items

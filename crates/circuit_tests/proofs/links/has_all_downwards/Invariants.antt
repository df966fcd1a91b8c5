use Rattle.std.proofs.Common.{◌≡◌, Some}
use Rattle.std.specs.List.{Contains}
use Rattle.hy_links.specs.declared.Link.{Link}
use Rattle.hy_links.specs.Arena.{chain}
use Rattle.circuit_tests.proofs.links.has_all_downwards.Given as goal

-- the link that the walk has come to stands in the list
abbrev pub invariant-loop-node : goal.invariant-loop-node
invariant-loop-node l = (x : Link) → l.current ≡ Some x → Contains (chain l.links l.list) x

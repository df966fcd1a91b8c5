use Rattle.std.proofs.Common.{◌≡◌, ◌-◌, ◌++◌, Bool, true, length, take, replicate, sym, ap, ◌∙◌, rules}
use Rattle.adder_blocks.specs.Shifts.{moved_by}
use Rattle.adder_blocks.proofs.ShiftLaws.{raised-parts}
use Rattle.adder_blocks.proofs.shifts.moved.Goals as goal

pub returns-then-up : goal.returns-then-up
returns-then-up c =
    let known : c.extend_from_slice.new.self.items ≡ replicate c.args.places c.args.fill ++ take (length c.args.ls.now - c.args.places) c.args.ls.now = search rules in
    let up : c.args.up ≡ true = search rules in
    known ∙ raised-parts c.args.fill c.args.places c.args.ls.now c.requires ∙ ap (λ (u : Bool). moved_by u c.args.fill c.args.places c.args.ls.now) (sym up)

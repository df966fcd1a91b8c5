use Rattle.std.proofs.Common.{◌≡◌, ◌<◌, ◌∙◌, ◌∷◌, [], ◌++◌, ℕ, List, get_or, length, ap, sym, arith}
use Rattle.std.specs.Prelude.{Vec}
use Rattle.std.specs.declared.alloc.Global.{Global}
use Rattle.std.proofs.lemmas.List.{length-map, get_or-map}
use Rattle.module_split.specs.Lists.{items_of}
use Rattle.module_split.proofs.ListLaws.{Puts-set}
use Rattle.module_split.proofs.lists.Lists.add.Goals as goal

pub returns : goal.returns
returns c =
    let within : c.args.list < length c.self.inside.lists.items = omega (arith, ap length c.self.view_is, length-map c.self.inside.lists.items (λ (v : Vec ℕ Global). v.items), c.requires) in
    let item : c.index_mut.result.now.items ≡ get_or (items_of c.self.inside.lists.items) c.args.list [] =
    ap (λ (v : Vec ℕ Global). v.items) c.index_mut.ensures.value ∙ sym (get_or-map (λ (v : Vec ℕ Global). v.items) c.self.inside.lists.items c.args.list c.index_mut.result.now [] within) in
    rw (← c.self.view_is) (Puts-set c.self.inside.lists.items c.args.list c.push.new.self _ within (c.in_ok-push.ensures.items ∙ ap (λ (xs : List ℕ). xs ++ c.args.number ∷ []) item))

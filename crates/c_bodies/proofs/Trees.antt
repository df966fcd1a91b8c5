-- Blocks and sections of a `switch`, by what stands in them.
use Rattle.std.proofs.Common.{◌≡◌, ℕ, ◌+◌, ◌<◌, List, ◌∷◌, map, drop, get_or, length, ap, sym, ◌∙◌}
use Rattle.std.proofs.lemmas.List.{drop_more}
use Rattle.hy_bits.specs.declared.scalar.Scalar.{Scalar}
use Rattle.c_tree.specs.declared.statements.Block.{Block}
use Rattle.c_tree.specs.declared.statements.LabelledSection.{LabelledSection}
use Rattle.c_tree.specs.declared.statements.BlockItem.TheViews.{out-Block}
use Rattle.c_tree.specs.declared.statements.BlockItem.TheFolds.{fold_out-Block}
use Rattle.c_typing.specs.declared.environment.Environment.{Environment}
use Rattle.c_typing.specs.Walks.{Checked, Passes, after, along}
use Rattle.c_heads.specs.declared.context.Body.{Body}
use Rattle.c_bodies.specs.declared.context.Around.{Around}
use Rattle.c_bodies.specs.declared.context.Sections.{Sections}
use Rattle.c_bodies.specs.Statements.{StatementWalk, SelectionWalk, IterationWalk, BlockWalk, ItemWalk, SectionWalk, item_rule, iteration_rule, selection_rule, statement_rule, block_rule, section_rule, types_block, types_item, types_section, no_items, block_of}

pub block_is : (body : Body) (b : Block) (around : Around) (env : Environment)
    → types_block body b around env
    ≡ after (along (map (λ part. part around) (map (types_item body) (out-Block b).parts)) no_items env) (λ all env. Passes (block_of all) env)
block_is body b around env =
    ap (λ (w : BlockWalk). w around env)
    (fold_out-Block ItemWalk IterationWalk SelectionWalk StatementWalk BlockWalk SectionWalk
    (item_rule body) (iteration_rule body) (selection_rule body) (statement_rule body) (block_rule body) (section_rule body) b)

-- the walk along what is left of the sections, after one more of them
pub sections_next : (body : Body) (around : Around) (t : Scalar) (list : List LabelledSection) (i : ℕ) (s : LabelledSection) (a b : Sections) (env env' : Environment)
    → i < length list → s ≡ get_or list i s → types_section body s around t a env ≡ Passes b env'
    → along (map (λ section. section around t) (map (types_section body) (drop i list))) a env
    ≡ along (map (λ section. section around t) (map (types_section body) (drop (i + 1) list))) b env'
sections_next body around t list i s a b env env' within is fits =
    ap (λ (left : List LabelledSection). along (map (λ section. section around t) (map (types_section body) left)) a env)
    (drop_more list i s within ∙ ap (λ (x : LabelledSection). x ∷ drop (i + 1) list) (sym is))
    ∙ ap (λ (c : Checked Sections). after c (λ b env. along (map (λ section. section around t) (map (types_section body) (drop (i + 1) list))) b env)) fits

use Rattle.std.proofs.Common.{◌≡◌, ◌∙◌, ◌<◌, ◌≤◌, ◌++◌, ℕ, List, map, take, length, sym, ap, ap₂, arith, append-nil, append_assoc}
use Rattle.std.specs.Borrow.{Bor}
use Rattle.std.proofs.lemmas.List.{map_more}
use Rattle.std.proofs.lemmas.Simd.{map-map}
use Rattle.std.proofs.Math.Seq.{take-length}
use Rattle.clap.specs.Words.{Rule, with_rule}
use Rattle.hy_words.specs.Words.{Text}
use Rattle.hy_words.specs.Commands.{syntax_of}
use Rattle.hy_words.specs.Parser.{app_with, option_rule, positional_rule}
use Rattle.hy_words.proofs.matches.parser_of.Goals as goal

pub loop-positional-preserved : goal.loop-positional-preserved
loop-positional-preserved c =
    let lt : c.loop-positional.positional-index < length c.positionals-positional-items.result.now = omega arith in
    let more = map_more (λ (n : Bor Text). positional_rule n.now) c.positionals-positional-items.result.now c.loop-positional.positional-index _ lt in
    c.in_ok-parser.ensures.shape c.positional_argument.ensures.own
    ∙ ap₂ with_rule c.loop-positional.invariant c.positional_argument.ensures.rule
    ∙ ap (app_with c.args.name.now) (sym more)

-- the rules of all names, once the last is taken
whole : (rule : Text → Rule) (items : List (Bor Text)) (names : List Text) (i : ℕ) → length items ≤ i → i ≤ length items
    → map (λ (n : Bor Text). n.now) items ≡ names → map (λ (n : Bor Text). rule n.now) (take i items) ≡ map rule names
whole rule items names i low high are =
    let end : i ≡ length items = omega arith in
    ap (λ (k : ℕ). map (λ (n : Bor Text). rule n.now) (take k items)) end
    ∙ ap (map (λ (n : Bor Text). rule n.now)) (take-length items)
    ∙ sym (map-map rule (λ (n : Bor Text). n.now) items) ∙ ap (map rule) are

pub loop-option-init : goal.loop-option-init
loop-option-init c =
    c.loop-positional.invariant
    ∙ ap (app_with c.args.name.now)
    (whole positional_rule c.positionals-positional-items.result.now (syntax_of c.args.command).positionals c.loop-positional.positional-index
    (omega arith) (omega arith) c.positionals-positional-items.ensures
    ∙ sym (append-nil (map positional_rule (syntax_of c.args.command).positionals)))

pub loop-option-preserved : goal.loop-option-preserved
loop-option-preserved c =
    let lt : c.loop-option.option-index < length c.options-option-items.result.now = omega arith in
    let positionals = map positional_rule (syntax_of c.args.command).positionals in
    let more = map_more (λ (n : Bor Text). option_rule n.now) c.options-option-items.result.now c.loop-option.option-index _ lt in
    c.in_ok-parser-2.ensures.shape c.option_argument.ensures.own
    ∙ ap₂ with_rule c.loop-option.invariant c.option_argument.ensures.rule
    ∙ ap (app_with c.args.name.now)
    (append_assoc positionals (map (λ (n : Bor Text). option_rule n.now) (take c.loop-option.option-index c.options-option-items.result.now)) _
    ∙ ap (λ (rs : List Rule). positionals ++ rs) (sym more))

pub returns : goal.returns
returns c =
    c.loop-option.invariant
    ∙ ap (λ (rs : List Rule). app_with c.args.name.now (map positional_rule (syntax_of c.args.command).positionals ++ rs))
    (whole option_rule c.options-option-items.result.now (syntax_of c.args.command).options c.loop-option.option-index
    (omega arith) (omega arith) c.options-option-items.ensures)

use Rattle.std.proofs.Common.{◌≡◌, sym, ap, ◌∙◌, arith, ◌-◌, length, take, drop, [], ◌∷◌, ◌++◌}
use Rattle.hycc_top.specs.Source.{terms_of}
use Rattle.hycc_top.proofs.Terms.{joined, joined-more, pair_cut, more_terms}
use Rattle.hycc_top.proofs.source.terms.Goals as goal

pub loop-tokens-preserved : goal.loop-tokens-preserved
loop-tokens-preserved c =
    let tokens = c.loop-tokens.tokens.now in
    let rest = take (length c.loop-tokens.tokens.now - 2) (drop 2 c.loop-tokens.tokens.now) in
    let a = c.args.head.a.now in
    let b = c.args.head.b.now in
    let cut = pair_cut tokens c.token-item.result c.next-item.result (omega arith) c.token-item.is c.next-item.is in
    let next = more_terms a b c.token-item.result c.next-item.result rest c.in-Some.term (sym c.is.ensures ∙ c.if-is.true) (sym c.in-Some.ensures) in
    let items : c.push.new.self.items ≡ c.loop-tokens.terms.items ++ c.in-Some.term ∷ [] = c.in_ok-push.ensures.items in
    c.loop-tokens.invariant ∙ (ap (joined c.loop-tokens.terms.items) (ap (terms_of a b) cut ∙ next) ∙ (joined-more c.loop-tokens.terms.items c.in-Some.term (terms_of a b rest) ∙ ap (λ read. joined read (terms_of a b rest)) (sym items)))

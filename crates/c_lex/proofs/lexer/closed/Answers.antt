use Rattle.std.proofs.Common.{◌≡◌, [], ◌∷◌, ◌++◌, refl, arith}
use Rattle.std.proofs.lemmas.Grind.{common_steps}
use Rattle.c_lex.specs.Lexing.{end_token}
use Rattle.c_lex.specs.Typedefs.{named}
use Rattle.c_lex.proofs.Wellness.{named-closed}
use Rattle.c_lex.proofs.lexer.closed.Goals as goal

pub new-requires-3 : goal.new-requires-3
new-requires-3 c =
    let items : c.push.new.self.items ≡ named c.args.made.items ++ end_token c.args.end ∷ [] = grind (arith, common_steps) in
    rw items (named-closed c.args.made.items (end_token c.args.end) c.requires.inner c.requires.few refl)

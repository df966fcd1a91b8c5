-- The readers of all statements, at every level of nesting, and of blocks.
use Rattle.std.proofs.Common.{◌≡◌, ◌<◌, ℕ, zero, suc, ◌+◌, Bool, true, false, List, [], ◌++◌, Option, Some, None, refl, sym, ap, ◌∙◌, subst, arith, codes}
use Rattle.std.proofs.lemmas.List.{append_assoc, append-nil}
use Rattle.c_tree.specs.Pieces.{Piece, Fits, IsWanted}
use Rattle.c_tree.specs.StatementFolds.{wants_of_block}
use Rattle.c_tree.specs.Statements.{wants_of_bound}
use Rattle.c_tree.specs.declared.token.Token.{Token}
use Rattle.c_tree.specs.declared.token.TokenKind.{TokenKind}
use Rattle.c_tree.specs.declared.token.TokenKind.TheVariants.{Word, Mark, Bound}
use Rattle.c_tree.specs.declared.statements.Block.{Block}
use Rattle.c_tree.specs.declared.statements.LoopBound.{LoopBound}
use Rattle.c_tree.specs.declared.statements.Statement.{Statement}
use Rattle.c_tree.specs.declared.statements.Statement.TheVariants as statement
use Rattle.c_reader.specs.Reading.{Reader, ◌>>=◌, give, choose}
use Rattle.c_reader.specs.Tokens.{is_mark, is_word, is_spelled, is_kind, spelled_by}
use Rattle.c_reader.proofs.Reader.{Language}
use Rattle.c_reader.proofs.Binding.{Both, fits_part}
use Rattle.c_reader.proofs.Giving.{Given}
use Rattle.c_reader.proofs.Choosing.{FirstIs, Either, this, that}
use Rattle.c_reader.proofs.Repeating.{given_stops}
use Rattle.c_reader.proofs.Beginning.{Begins, begins_both, begins_either}
use Rattle.c_reader.proofs.Joining.{in_both, in_given, onto}
use Rattle.c_grammar.proofs.Primaries.{prefix_all}
use Rattle.c_grammar.proofs.Starting.{Suits, begins_cons}
use Rattle.c_decl.proofs.ExpressionStatements.{begins_simple}
use Rattle.c_statement.specs.Starts.{starts_loop, loop_by}
use Rattle.c_statement.specs.Statements.{read_simple_statement}
use Rattle.c_statement.specs.Loops.{read_loop}
use Rattle.c_statement.specs.Blocks.{read_braces, read_statement_by}
use Rattle.c_statement.specs.Levels.{read_statement, read_block}
use Rattle.c_statement.proofs.Blocking.{BlockAt, block_step, begins_block}
use Rattle.c_statement.proofs.ByTree.{ReadsBy, by_as, choose_by}
use Rattle.c_statement.proofs.Fors.{LoopL, LoopFollowedL, loop_step, begins_following, for_to, for_from}
use Rattle.c_statement.proofs.Ifs.{IfL, if_step, if_to, if_from}
use Rattle.c_statement.proofs.Singles.{Always, StatementAt, StopsElse, is_statement, suits_semicolon, EmptyL, empty_step, empty_to, empty_from, SimpleL, simple_step, simple_to, simple_from, BreakL, break_step, break_to, break_from, ContinueL, continue_step, continue_to, continue_from, ReturnL, return_step, return_to, return_from}
use Rattle.c_statement.proofs.Steps.{Step, Anything, then_, given, begins_placed}
use Rattle.c_statement.proofs.Switches.{SwitchL, switch_step, switch_to, switch_from}
use Rattle.c_tree.proofs.StatementCases.{cases_Statement}
use Rattle.c_tree.proofs.StatementFoldsLaws.{wants_Block, form_Block}
use Rattle.c_statement.proofs.Whiles.{BoundAt, bound_piece, while_to, while_from, do_to, do_from}

suits_word : (text : List ℕ) → spelled_by Word text Word (codes "true") ≡ false → spelled_by Word text Word (codes "false") ≡ false → Suits (spelled_by Word text) false
unfolding spelled_by
suits_word text of_true of_false = record { name = λ t. refl; integer = λ t. refl; character = λ t. refl; yes_ = of_true; no_ = of_false; bracket = refl; prefix = prefix_all (spelled_by Word text) false refl refl refl refl refl refl }

suits_brace : Suits (spelled_by Mark (codes "{")) false
unfolding spelled_by
suits_brace = record { name = λ t. refl; integer = λ t. refl; character = λ t. refl; yes_ = refl; no_ = refl; bracket = refl; prefix = prefix_all (spelled_by Mark (codes "{")) false refl refl refl refl refl refl }

suits_loop : Suits loop_by false
unfolding loop_by spelled_by
suits_loop = record { name = λ t. refl; integer = λ t. refl; character = λ t. refl; yes_ = refl; no_ = refl; bracket = refl; prefix = prefix_all loop_by false refl refl refl refl refl refl }

module _ (most size n left : ℕ) (level : (n + 1) + left ≡ most + 1) (read : Reader Statement) (I : 0 < left → ReadsBy (StatementAt (n + 1)) most size StopsElse read) where
  abbrev BlockS : Language Statement
  BlockS = Both (BlockAt n) (λ block. Given (statement.Block block))

  block_part : Step most size Always BlockS StopsElse (read_braces size left read >>= λ block. give (statement.Block block))
  block_part =
      then_ most size Always (BlockAt n) (λ block. Given (statement.Block block)) Anything StopsElse (read_braces size left read) (λ block. give (statement.Block block)) (block_step most size n left level read I)
      (λ block. given most size StopsElse Always (statement.Block block))
      (λ block ps c qs ys rest is k fits stop. tt)

  -- ---- the statements from each test on

  abbrev Empty_ : Language Statement
  Empty_ = EmptyL most size n left level

  abbrev Break_ : Language Statement
  Break_ = BreakL most size n left level

  abbrev Continue_ : Language Statement
  Continue_ = ContinueL most size n left level

  abbrev Return_ : Language Statement
  Return_ = ReturnL most size n left level

  abbrev If_ : Language Statement
  If_ = IfL most size n left level read I

  abbrev Switch_ : Language Statement
  Switch_ = SwitchL most size n left level read I

  abbrev Loop_ : Language Statement
  Loop_ = LoopL most size n left level read I

  abbrev ExpressionStatement_ : Language Statement
  ExpressionStatement_ = SimpleL most size n left level

  abbrev FromLoop : Language Statement
  FromLoop = Either Loop_ ExpressionStatement_

  abbrev FromSwitch : Language Statement
  FromSwitch = Either Switch_ FromLoop

  abbrev FromIf : Language Statement
  FromIf = Either If_ FromSwitch

  abbrev FromReturn : Language Statement
  FromReturn = Either Return_ FromIf

  abbrev FromContinue : Language Statement
  FromContinue = Either Continue_ FromReturn

  abbrev FromBreak : Language Statement
  FromBreak = Either Break_ FromContinue

  abbrev FromEmpty : Language Statement
  FromEmpty = Either Empty_ FromBreak

  abbrev StatementL : Language Statement
  StatementL = Either BlockS FromEmpty

  -- ---- what they begin with

  module _ (by : TokenKind → List ℕ → Bool) (b : Bool) where
    bound_first : ((text : List ℕ) → by Bound text ≡ b) → (o : Option LoopBound) (ps : List Piece) (ys rest : List Token) → BoundAt (n + 1) o ps → Fits ps ys → FirstIs (λ w. by w.kind w.text) b rest → FirstIs (λ w. by w.kind w.text) b (ys ++ rest)
    unfolding wants_of_bound IsWanted
    bound_first of_bound None ps ys rest is fits following = given_stops {A = Option LoopBound} None None ps ys rest (FirstIs (λ w. by w.kind w.text) b) (record { tree_is = refl; none = is.wants }) fits following
    bound_first of_bound (Some bound) ps ys rest is fits following =
        begins_cons (bound_piece (n + 1) bound) (λ w. by w.kind w.text) b (λ w t. ap (λ k. by k w.text) t.0.0 ∙ of_bound w.text) ps [] ys rest is.wants fits

    begins_loop : ((text : List ℕ) → by Bound text ≡ b) → by Word (codes "while") ≡ b → by Word (codes "do") ≡ b → by Word (codes "for") ≡ b → Begins Loop_ (λ w. by w.kind w.text) b
    begins_loop of_bound of_while of_do of_for t ps front rest both fits =
        let parted = fits_part both.pieces1 both.pieces2 front (subst (λ u. Fits u front) both.whole fits) in
        subst (λ u. FirstIs (λ w. by w.kind w.text) b u) (sym (ap (λ u. u ++ rest) parted.whole ∙ append_assoc parted.front parted.following rest))
        (bound_first of_bound both.first both.pieces1 parted.front (parted.following ++ rest) both.left parted.left
        (begins_following most size n left level read I both.first by b of_while of_do of_for t both.pieces2 parted.following rest both.right parted.right))

    from_simple : Suits by b → by Mark (codes "++") ≡ b → by Mark (codes "--") ≡ b → Begins ExpressionStatement_ (λ w. by w.kind w.text) b
    from_simple suits up down = begins_both _ _ (λ w. by w.kind w.text) b (begins_simple (n + 1) by b suits up down)

    from_loop : Suits by b → by Mark (codes "++") ≡ b → by Mark (codes "--") ≡ b → ((text : List ℕ) → by Bound text ≡ b) → by Word (codes "while") ≡ b → by Word (codes "do") ≡ b → by Word (codes "for") ≡ b → Begins FromLoop (λ w. by w.kind w.text) b
    from_loop suits up down of_bound of_while of_do of_for = begins_either Loop_ ExpressionStatement_ (λ w. by w.kind w.text) b (begins_loop of_bound of_while of_do of_for) (from_simple suits up down)

    from_switch : Begins FromLoop (λ w. by w.kind w.text) b → by Word (codes "switch") ≡ b → Begins FromSwitch (λ w. by w.kind w.text) b
    from_switch rest is = begins_either Switch_ FromLoop (λ w. by w.kind w.text) b (begins_placed Word (codes "switch") (n + 1) _ by b is) rest

    from_if : Begins FromSwitch (λ w. by w.kind w.text) b → by Word (codes "if") ≡ b → Begins FromIf (λ w. by w.kind w.text) b
    from_if rest is = begins_either If_ FromSwitch (λ w. by w.kind w.text) b (begins_placed Word (codes "if") (n + 1) _ by b is) rest

    from_return : Begins FromIf (λ w. by w.kind w.text) b → by Word (codes "return") ≡ b → Begins FromReturn (λ w. by w.kind w.text) b
    from_return rest is = begins_either Return_ FromIf (λ w. by w.kind w.text) b (begins_placed Word (codes "return") (n + 1) _ by b is) rest

    from_continue : Begins FromReturn (λ w. by w.kind w.text) b → by Word (codes "continue") ≡ b → Begins FromContinue (λ w. by w.kind w.text) b
    from_continue rest is = begins_either Continue_ FromReturn (λ w. by w.kind w.text) b (begins_placed Word (codes "continue") (n + 1) _ by b is) rest

    from_break : Begins FromContinue (λ w. by w.kind w.text) b → by Word (codes "break") ≡ b → Begins FromBreak (λ w. by w.kind w.text) b
    from_break rest is = begins_either Break_ FromContinue (λ w. by w.kind w.text) b (begins_placed Word (codes "break") (n + 1) _ by b is) rest

    from_empty : Begins FromBreak (λ w. by w.kind w.text) b → by Mark (codes ";") ≡ b → Begins FromEmpty (λ w. by w.kind w.text) b
    from_empty rest is = begins_either Empty_ FromBreak (λ w. by w.kind w.text) b (begins_placed Mark (codes ";") (n + 1) _ by b is) rest

  no_loop : Begins ExpressionStatement_ starts_loop false
  unfolding loop_by spelled_by
  no_loop = from_simple loop_by false suits_loop refl refl

  loops : Begins Loop_ starts_loop true
  unfolding loop_by spelled_by
  loops = begins_loop loop_by true (λ t. refl) refl refl refl

  no_switch : Begins FromLoop (is_word (codes "switch")) false
  unfolding spelled_by is_spelled is_kind
  no_switch = from_loop (spelled_by Word (codes "switch")) false (suits_word (codes "switch") refl refl) refl refl (λ t. refl) refl refl refl

  no_if : Begins FromSwitch (is_word (codes "if")) false
  unfolding spelled_by is_spelled is_kind
  no_if = let by = spelled_by Word (codes "if") in from_switch by false (from_loop by false (suits_word (codes "if") refl refl) refl refl (λ t. refl) refl refl refl) refl

  no_return : Begins FromIf (is_word (codes "return")) false
  unfolding spelled_by is_spelled is_kind
  no_return = let by = spelled_by Word (codes "return") in from_if by false (from_switch by false (from_loop by false (suits_word (codes "return") refl refl) refl refl (λ t. refl) refl refl refl) refl) refl

  no_continue : Begins FromReturn (is_word (codes "continue")) false
  unfolding spelled_by is_spelled is_kind
  no_continue = let by = spelled_by Word (codes "continue") in from_return by false (from_if by false (from_switch by false (from_loop by false (suits_word (codes "continue") refl refl) refl refl (λ t. refl) refl refl refl) refl) refl) refl

  no_break : Begins FromContinue (is_word (codes "break")) false
  unfolding spelled_by is_spelled is_kind
  no_break =
      let by = spelled_by Word (codes "break") in
      from_continue by false (from_return by false (from_if by false (from_switch by false (from_loop by false (suits_word (codes "break") refl refl) refl refl (λ t. refl) refl refl refl) refl) refl) refl) refl

  no_empty : Begins FromBreak (is_mark (codes ";")) false
  unfolding spelled_by is_spelled is_kind
  no_empty =
      let by = spelled_by Mark (codes ";") in
      from_break by false (from_continue by false (from_return by false (from_if by false (from_switch by false (from_loop by false suits_semicolon refl refl (λ t. refl) refl refl refl) refl) refl) refl) refl) refl

  no_block : Begins FromEmpty (is_mark (codes "{")) false
  unfolding spelled_by is_spelled is_kind
  no_block =
      let by = spelled_by Mark (codes "{") in
      from_empty by false (from_break by false (from_continue by false (from_return by false (from_if by false (from_switch by false (from_loop by false suits_brace refl refl (λ t. refl) refl refl refl) refl) refl) refl) refl) refl) refl

  -- ---- the readers from each test on

  read_from_loop : ReadsBy FromLoop most size StopsElse (choose starts_loop (read_loop size left read) (read_simple_statement size left))
  read_from_loop =
      choose_by Loop_ ExpressionStatement_ most size StopsElse starts_loop (read_loop size left read) (read_simple_statement size left) ((loop_step most size n left level read I).by tt) ((simple_step most size n left level).by tt)
      (λ t ps front rest is fits stop. loops t ps front rest is fits) (λ t ps front rest is fits stop. no_loop t ps front rest is fits)

  module _ (G : Reader Statement) where
    word_first : (text : List ℕ) (X Rest : Language Statement) (f : Reader Statement) → ReadsBy X most size StopsElse f → ReadsBy Rest most size StopsElse G
        → Begins X (is_word text) true → Begins Rest (is_word text) false → ReadsBy (Either X Rest) most size StopsElse (choose (is_word text) f G)
    word_first text X Rest f F R here there = choose_by X Rest most size StopsElse (is_word text) f G F R (λ t ps front rest is fits stop. here t ps front rest is fits) (λ t ps front rest is fits stop. there t ps front rest is fits)

    mark_first : (text : List ℕ) (X Rest : Language Statement) (f : Reader Statement) → ReadsBy X most size StopsElse f → ReadsBy Rest most size StopsElse G
        → Begins X (is_mark text) true → Begins Rest (is_mark text) false → ReadsBy (Either X Rest) most size StopsElse (choose (is_mark text) f G)
    mark_first text X Rest f F R here there = choose_by X Rest most size StopsElse (is_mark text) f G F R (λ t ps front rest is fits stop. here t ps front rest is fits) (λ t ps front rest is fits stop. there t ps front rest is fits)

  block_opens : Begins BlockS (is_mark (codes "{")) true
  unfolding spelled_by is_spelled is_kind
  block_opens = begins_both _ _ (is_mark (codes "{")) true (begins_block most size n left level read I (spelled_by Mark (codes "{")) true refl)

  statement_read : ReadsBy StatementL most size StopsElse (read_statement_by size left read)
  unfolding read_statement_by spelled_by is_spelled is_kind
  statement_read =
      mark_first _ (codes "{") BlockS FromEmpty _ (block_part.by tt)
      (mark_first _ (codes ";") Empty_ FromBreak _ ((empty_step most size n left level).by tt)
      (word_first _ (codes "break") Break_ FromContinue _ ((break_step most size n left level).by tt)
      (word_first _ (codes "continue") Continue_ FromReturn _ ((continue_step most size n left level).by tt)
      (word_first _ (codes "return") Return_ FromIf _ ((return_step most size n left level).by tt)
      (word_first _ (codes "if") If_ FromSwitch _ ((if_step most size n left level read I).by tt)
      (word_first _ (codes "switch") Switch_ FromLoop _ ((switch_step most size n left level read I).by tt) read_from_loop
      (begins_placed Word (codes "switch") (n + 1) _ (spelled_by Word (codes "switch")) true refl) no_switch)
      (begins_placed Word (codes "if") (n + 1) _ (spelled_by Word (codes "if")) true refl) no_if)
      (begins_placed Word (codes "return") (n + 1) _ (spelled_by Word (codes "return")) true refl) no_return)
      (begins_placed Word (codes "continue") (n + 1) _ (spelled_by Word (codes "continue")) true refl) no_continue)
      (begins_placed Word (codes "break") (n + 1) _ (spelled_by Word (codes "break")) true refl) no_break)
      (begins_placed Mark (codes ";") (n + 1) _ (spelled_by Mark (codes ";")) true refl) no_empty)
      block_opens no_block

  -- ---- as trees

  loop_to : (t : Statement) (ps : List Piece) (b : Loop_ t ps) → LoopFollowedL most size n left level read I b.first t b.pieces2 → StatementAt n t ps
  loop_to t ps b (this w) = while_to most size n left level read I b.first t b.pieces2 ps (b.whole ∙ ap (λ u. u ++ b.pieces2) b.left.wants) w
  loop_to t ps b (that (this d)) = do_to most size n left level read I b.first t b.pieces2 ps (b.whole ∙ ap (λ u. u ++ b.pieces2) b.left.wants) d
  loop_to t ps b (that (that f)) = for_to most size n left level read I b.first t b.pieces2 ps (b.whole ∙ ap (λ u. u ++ b.pieces2) b.left.wants) f

  statement_to : (t : Statement) (ps : List Piece) → StatementL t ps → StatementAt n t ps
  statement_to t ps (this b) =
      is_statement n t (statement.Block b.first) ps b.right.tree_is (ap (λ f. f.is) (form_Block b.first) ∙ b.left.grammar)
      (onto b.whole b.left.wants b.right.none ∙ append-nil (wants_of_block b.first n) ∙ sym (ap (λ f. f n) (wants_Block b.first)))
  statement_to t ps (that (this b)) = empty_to most size n left level t ps b
  statement_to t ps (that (that (this b))) = break_to most size n left level t ps b
  statement_to t ps (that (that (that (this b)))) = continue_to most size n left level t ps b
  statement_to t ps (that (that (that (that (this b))))) = return_to most size n left level t ps b
  statement_to t ps (that (that (that (that (that (this b)))))) = if_to most size n left level read I t ps b
  statement_to t ps (that (that (that (that (that (that (this b))))))) = switch_to most size n left level read I t ps b
  statement_to t ps (that (that (that (that (that (that (that (this b)))))))) = loop_to t ps b b.right
  statement_to t ps (that (that (that (that (that (that (that (that b)))))))) = simple_to most size n left level t ps b

  block_from : (block : Block) (ps : List Piece) → StatementAt n (statement.Block block) ps → BlockS (statement.Block block) ps
  block_from block ps is =
      subst (λ u. BlockS (statement.Block block) u) (append-nil (wants_of_block block n) ∙ sym (ap (λ f. f n) (wants_Block block)) ∙ sym is.wants)
      (in_both _ _ _ _ _ block (record { grammar = sym (ap (λ f. f.is) (form_Block block)) ∙ is.grammar; wants = refl }) (in_given (statement.Block block)))

  of_loop : (t : Statement) (bound : Option LoopBound) (ps qs : List Piece) → LoopFollowedL most size n left level read I bound t qs → ps ≡ wants_of_bound bound (n + 1) ++ qs → Loop_ t ps
  of_loop t bound ps qs following whole = record { first = bound; pieces1 = wants_of_bound bound (n + 1); pieces2 = qs; left = record { wants = refl }; right = following; whole = whole }

  statement_from : (t : Statement) (ps : List Piece) → StatementAt n t ps → StatementL t ps
  statement_from = cases_Statement (λ t. (ps : List Piece) → StatementAt n t ps → StatementL t ps)
      (λ block ps is. this (block_from block ps is))
      (λ place ps is. that (this (empty_from most size n left level place ps is)))
      (λ value ps is. that (that (that (that (that (that (that (that (simple_from most size n left level value ps is)))))))))
      (λ place ps is. that (that (this (break_from most size n left level place ps is))))
      (λ place ps is. that (that (that (this (continue_from most size n left level place ps is)))))
      (λ place value ps is. that (that (that (that (this (return_from most size n left level place value ps is))))))
      (λ place condition then otherwise ps is. that (that (that (that (that (this (if_from most size n left level read I place condition then otherwise ps is)))))))
      (λ place value sections ps is. that (that (that (that (that (that (this (switch_from most size n left level read I place value sections ps is))))))))
      (λ bound place condition body ps is. let w = while_from most size n left level read I bound place condition body ps is in that (that (that (that (that (that (that (this (of_loop _ bound ps w.0 (this w.1.0) w.1.1)))))))))
      (λ bound place body condition ps is. let d = do_from most size n left level read I bound place body condition ps is in that (that (that (that (that (that (that (this (of_loop _ bound ps d.0 (that (this d.1.0)) d.1.1)))))))))
      (λ bound place initial condition step body ps is. let f = for_from most size n left level read I bound place initial condition step body ps is in that (that (that (that (that (that (that (this (of_loop _ bound ps f.0 (that (that f.1.0)) f.1.1)))))))))

  pub statement_by_reads : ReadsBy (StatementAt n) most size StopsElse (read_statement_by size left read)
  statement_by_reads = by_as statement_to statement_from statement_read

-- ---- at every level

pub statement_reads : (most size left n : ℕ) → n + left ≡ most + 1 → 0 < left → ReadsBy (StatementAt n) most size StopsElse (read_statement size left)
unfolding read_statement
statement_reads most size zero n level positive = absurd (omega (arith, positive))
statement_reads most size (suc left) n level positive =
    statement_by_reads most size n left (omega (arith, level)) (read_statement size left) (λ more. statement_reads most size left (n + 1) (omega (arith, level)) more)

pub block_reads : (most size left n : ℕ) → n + left ≡ most + 1 → 0 < left → Step most size Always (BlockAt n) Anything (read_block size left)
unfolding read_block
block_reads most size zero n level positive = absurd (omega (arith, positive))
block_reads most size (suc left) n level positive =
    block_step most size n left (omega (arith, level)) (read_statement size left) (λ more. statement_reads most size left (n + 1) (omega (arith, level)) more)

-- A parse of a command whose arguments take one value each, against the rules on words.
use Rattle.std.proofs.Common.{◌==◌, eqb-true, lit<, suc, length, ◌≡◌, ◌∙◌, ◌+◌, ◌&&◌, ◌||◌, ℕ, Bool, true, false, not, cond, refl, sym, ap, List, [], ◌∷◌, ◌++◌, map, Option, Some, None, if◌then◌else◌, append_assoc, append-nil}
use Rattle.std.specs.Prelude.{min, option_and_then, fold, slice_get}
use Rattle.std.proofs.lemmas.Str.{chars-encodes, encode_ascii, IsUtf8-past_char}
use Rattle.std.specs.Str.{encode_utf8_all}
use lib.Utf8.{scalars}
use Rattle.std.specs.Option.{option_map_or}
use Rattle.std.specs.Str.{bytes_eq, chars, IsUtf8}
use Rattle.hy_words.specs.Words.{Values, Items, has_name, are_new, named, value_and, placed, valued, items_after, items_by, value_then, item_then, kind_after_one, kind_after_two, kind_of, Kind, positional, separator, option, short}
use Rattle.hy_words.proofs.ClapRules.{Knows, Places, id_known, is_option, long_known, long_unknown, option_built, plain_rule, rules_from, short_unknown}
use Rattle.std.proofs.lemmas.Slice.Eq.{bytes_eq-Decides}
use Rattle.clap.specs.Lexer.{usize_max}
use Rattle.clap.specs.Kinds.{Kinds, or_else}
use Rattle.clap.specs.Values.{reading_of}
use Rattle.clap.specs.Walk.{Held, Row, Rule, Text, Waiting, Walk, arg_by_id, arg_by_index, arg_by_long, arg_by_short, settled, to_positional, reacted, idle, walk_from, walked, has_row, with_values, without, at_row}
use Rattle.clap.specs.Walk as clap_walk
use Rattle.clap.specs.Simple.{Shape, new_shape}
use Rattle.clap.specs.Faults.{flags_fault, positional_fault, settle_fault, turn_fault, use_fault, walk_fault}
use Rattle.clap.specs.Lexer.{long_of, short_of}
use Rattle.clap.specs.declared.parser.matches.ValueSource.TheVariants.{CommandLine}
use Rattle.clap.specs.declared.builder.value_parser.ValueParser.TheVariants as vp
use Rattle.clap.specs.declared.error.kind.ErrorKind.{ErrorKind}
use Rattle.clap.specs.declared.error.kind.ErrorKind.TheVariants as kind

-- ---- faults as a guard

-- the answer where there is no fault, and else none
abbrev pub guard : {A : Type 0} → Kinds → Option A → Option A
guard [] answer = answer
guard (k ∷ ks) answer = None

pub guard-or_else : {A : Type 0} (f g : Kinds) (answer : Option A) → guard (or_else f g) answer ≡ guard f (guard g answer)
guard-or_else [] g answer = refl
guard-or_else (k ∷ ks) g answer = refl

-- ---- values as rows

abbrev pub row : Text × Text → Row
row v = record {
  id = v.0;
  values = v.1 ∷ [];
  count = None;
  source = Some CommandLine;
  reading = reading_of vp.String;
}

abbrev pub rows : Values → List Row
rows values = map row values

pub has_row-rows : (name : Text) (values : Values) → has_row name (rows values) ≡ has_name name values
has_row-rows name [] = refl
has_row-rows name (v ∷ values) = ap (λ b. bytes_eq v.0 name || b) (has_row-rows name values)

-- a value under a new name goes to the end
new_row : (name value : Text) (change : Row → List Row) (values : Values) → has_name name values ≡ false
    → at_row name change (row (name, value) ∷ []) (rows values) ≡ rows (values ++ (name, value) ∷ [])
new_row name value change [] new = refl
new_row name value change (v ∷ values) new = go (bytes_eq v.0 name) new (new_row name value change values)
  where
    go : (b : Bool) → (b || has_name name values) ≡ false
        → (has_name name values ≡ false → at_row name change (row (name, value) ∷ []) (rows values) ≡ rows (values ++ (name, value) ∷ []))
        → cond b (change (row v) ++ rows values) (row v ∷ at_row name change (row (name, value) ∷ []) (rows values)) ≡ row v ∷ rows (values ++ (name, value) ∷ [])
    go true e rest = cc
    go false e rest = ap (λ rs. row v ∷ rs) (rest e)

no_row : (name : Text) (values : Values) → has_name name values ≡ false → without name (rows values) ≡ rows values
no_row name [] new = refl
no_row name (v ∷ values) new = go (bytes_eq v.0 name) new (no_row name values)
  where
    go : (b : Bool) → (b || has_name name values) ≡ false → (has_name name values ≡ false → without name (rows values) ≡ rows values)
        → cond b ([] ++ rows values) (row v ∷ without name (rows values)) ≡ row v ∷ rows values
    go true e rest = cc
    go false e rest = ap (λ rs. row v ∷ rs) (rest e)

pub used_new : (name value : Text) (values : Values) → has_name name values ≡ false
    → with_values name (reading_of vp.String) CommandLine (value ∷ []) (without name (rows values)) ≡ rows (values ++ (name, value) ∷ [])
used_new name value values new =
    ap (with_values name (reading_of vp.String) CommandLine (value ∷ [])) (no_row name values new) ∙ new_row name value (clap_walk.more_values CommandLine (value ∷ [])) values new

-- ---- what the words give, after what was given before

abbrev pub with_new : Values → Values → Option (List Row)
with_new before values = if are_new before values then Some (rows (before ++ values)) else None

abbrev pub accepted : Values → Option Values → Option (List Row)
accepted before values = option_and_then (with_new before) values

pub accepted-value_and : (name value : Text) (before : Values) (values : Option Values)
    → accepted before (value_and name value values) ≡ (if has_name name before then None else accepted (before ++ (name, value) ∷ []) values)
accepted-value_and name value before None = go (has_name name before)
  where
    go : (b : Bool) → ◌≡◌ {A = Option (List Row)} None (cond b None None)
    go true = refl
    go false = refl
accepted-value_and name value before (Some values) = go (has_name name before)
  where
    go : (b : Bool) → cond (not b && are_new (before ++ (name, value) ∷ []) values) (Some (rows (before ++ ((name, value) ∷ values)))) None
        ≡ cond b None (with_new (before ++ (name, value) ∷ []) values)
    go true = refl
    go false = ap (λ vs. cond (are_new (before ++ (name, value) ∷ []) values) (Some (rows vs)) None) (sym (append_assoc before ((name, value) ∷ []) values))

-- ---- what the walk holds between two words

-- a value that is not yet used
pub data Pending : Type 0 where
  nothing : Pending
  holds : Text → Text → Pending

abbrev pub pending_of : Pending → Option (Text × List Text)
pending_of nothing = None
pending_of (holds name value) = Some (name, value ∷ [])

abbrev pub used_with : Pending → Values → Values
used_with nothing values = values
used_with (holds name value) values = values ++ (name, value) ∷ []

abbrev pub clashes : Pending → Values → Bool
clashes nothing values = false
clashes (holds name value) values = has_name name values

abbrev pub before_values : Pending → Option Values → Option Values
before_values nothing values = values
before_values (holds name value) values = value_and name value values

abbrev pub held : Values → Option (Text × List Text) → Held
held values pending = record { rows = rows values; pending = pending; skip = 0 }

abbrev pub expected : Pending → Values → Option Values → Option (List Row)
expected pending before values = if clashes pending before then None else accepted (used_with pending before) values

pub expected-is : (pending : Pending) (before : Values) (values : Option Values)
    → accepted before (before_values pending values) ≡ expected pending before values
expected-is nothing before values = refl
expected-is (holds name value) before values = accepted-value_and name value before values

module _ (rules : List Rule) where
  abbrev pub IsKnown : Pending → Type 0
  IsKnown nothing = Unit {0}
  IsKnown (holds name value) = Knows rules name

  pub settle_fault-pending : (pending : Pending) (before : Values) → IsKnown pending
      → settle_fault rules false (held before (pending_of pending)) ≡ (if clashes pending before then kind.ArgumentConflict ∷ [] else [])
  settle_fault-pending nothing before known = refl
  settle_fault-pending (holds name value) before known = rw (known.2, has_row-rows name before) (go (has_name name before))
    where
      go : (b : Bool) → or_else (cond (b && true) (kind.ArgumentConflict ∷ []) []) [] ≡ cond b (kind.ArgumentConflict ∷ []) []
      go true = refl
      go false = refl

  pub settled-pending : (pending : Pending) (before : Values) → IsKnown pending → clashes pending before ≡ false
      → settled rules (held before (pending_of pending)) ≡ held (used_with pending before) None
  settled-pending nothing before known new = refl
  settled-pending (holds name value) before known new = rw (known.2) (ap (λ rs. record { rows = rs; pending = None; skip = 0 }) (used_new name value before new))

  pub settle_fault-waiting : (name : Text) (before : Values) → Knows rules name
      → settle_fault rules false (held before (Some (name, []))) ≡ kind.InvalidValue ∷ []
  settle_fault-waiting name before known = rw (known.2) refl

-- ---- one word more

-- no word stops the walk
abbrev pub standing : Values → Option (Text × List Text) → Waiting → ℕ → Bool → Walk
standing before pending waiting place trailing = record {
  held = held before pending;
  waiting = waiting;
  position = place;
  is_trailing = trailing;
  stopped = None;
}

abbrev pub shape : Text → List Rule → Shape
shape name rules = record (new_shape name) {
  rules = rules;
  disable_help_flag = true;
  disable_help_subcommand = true;
  is_built = true;
}

bytes_eq-same : (n : Text) → bytes_eq n n ≡ true
bytes_eq-same n = (bytes_eq-Decides n n).1 refl

module _ (name : Text) (rules : List Rule) where
  -- the rows that the walk over the words ends with, where no step has a fault
  pub run : Walk → List Text → Option (List Row)
  run w [] = guard (settle_fault rules false w.held) (Some (settled rules w.held).rows)
  run w (word ∷ rest) = guard (turn_fault (shape name rules) [] w word) (run (walked rules [] w word) rest)

  pub run-is : (w : Walk) (words : List Text)
      → guard (or_else (walk_fault (shape name rules) [] w words) (settle_fault rules false (fold (walked rules []) w words).held))
      (Some (settled rules (fold (walked rules []) w words).held).rows) ≡ run w words
  unfolding run walk_fault
  run-is w [] = refl
  run-is w (word ∷ rest) =
      let end = (fold (walked rules []) w (word ∷ rest)).held in
      let turn = turn_fault (shape name rules) [] w word in
      let later = walk_fault (shape name rules) [] (walked rules [] w word) rest in
      let last = settle_fault rules false end in
      let answer : Option (List Row) = Some (settled rules end).rows in
      guard-or_else (or_else turn later) last answer ∙ guard-or_else turn later (guard last answer)
      ∙ ap (guard turn) (sym (guard-or_else later last answer) ∙ run-is (walked rules [] w word) rest)

  pub run-nil : (w : Walk) → run w [] ≡ guard (settle_fault rules false w.held) (Some (settled rules w.held).rows)
  unfolding run
  run-nil w = refl

  pub run-cons : (w : Walk) (word : Text) (rest : List Text)
      → run w (word ∷ rest) ≡ guard (turn_fault (shape name rules) [] w word) (run (walked rules [] w word) rest)
  unfolding run
  run-cons w word rest = refl

  -- ---- the end of the words

  guard-clash : {A : Type 0} (b : Bool) (k : ErrorKind) (answer : Option A) → guard (if b then k ∷ [] else []) answer ≡ (if b then None else answer)
  guard-clash true k answer = refl
  guard-clash false k answer = refl

  -- where values clash there is no answer, and else it is the one that they are followed by
  pub guard-pending : {A : Type 0} (pending : Pending) (before : Values) → IsKnown rules pending → (f : Kinds) (answer expected : Option A)
      → f ≡ settle_fault rules false (held before (pending_of pending))
      → (clashes pending before ≡ false → answer ≡ expected)
      → guard f answer ≡ (if clashes pending before then None else expected)
  guard-pending pending before known f answer expected is same =
      ap (λ g. guard g answer) (is ∙ settle_fault-pending rules pending before known) ∙ guard-clash (clashes pending before) kind.ArgumentConflict answer
      ∙ go (clashes pending before) same
    where
      go : (b : Bool) → (b ≡ false → answer ≡ expected) → cond b None answer ≡ cond b None expected
      go true e = refl
      go false e = e refl

  pub run-end : (pending : Pending) (before : Values) (waiting : Waiting) (place : ℕ) (trailing : Bool) → IsKnown rules pending
      → run (standing before (pending_of pending) waiting place trailing) [] ≡ expected pending before (Some [])
  run-end pending before waiting place trailing known =
      let h = held before (pending_of pending) in
      run-nil (standing before (pending_of pending) waiting place trailing)
      ∙ guard-pending pending before known (settle_fault rules false h) (Some (settled rules h).rows) (accepted (used_with pending before) (Some [])) refl
      (λ new. ap (λ (g : Held). Some g.rows) (settled-pending rules pending before known new) ∙ ap (λ vs. Some (rows vs)) (sym (append-nil (used_with pending before))))

  -- ---- a word that goes to a positional argument

  -- the word is no flag: it is the value that is waited for, or goes to a positional argument
  pub record IsPlainWord (word : Text) : Type 0 where
    pub no_separator : bytes_eq word (45 ∷ 45 ∷ []) ≡ false
    pub no_long : long_of word ≡ None
    pub no_short : short_of word ≡ None

  abbrev placed_fault : ℕ → Held → Kinds
  placed_fault place h = option_map_or (λ a. positional_fault rules false a h) (arg_by_index rules place) (kind.UnknownArgument ∷ [])

  abbrev placed_walk : Walk → Text → Walk
  placed_walk w word = to_positional rules (arg_by_index rules w.position) word w w.held

  turn-trailing : (before : Values) (pending : Option (Text × List Text)) (waiting : Waiting) (place : ℕ) (word : Text)
      → turn_fault (shape name rules) [] (standing before pending waiting place true) word ≡ placed_fault place (held before pending)
  turn-trailing before pending waiting place word = refl

  walked-trailing : (before : Values) (pending : Option (Text × List Text)) (waiting : Waiting) (place : ℕ) (word : Text)
      → walked rules [] (standing before pending waiting place true) word ≡ placed_walk (standing before pending waiting place true) word
  unfolding walked
  walked-trailing before pending waiting place word = refl

  turn-plain : (before : Values) (pending : Option (Text × List Text)) (place : ℕ) (word : Text) → IsPlainWord word
      → turn_fault (shape name rules) [] (standing before pending idle place false) word ≡ placed_fault place (held before pending)
  turn-plain before pending place word plain = rw (plain.no_separator, plain.no_long, plain.no_short) refl

  walked-plain : (before : Values) (pending : Option (Text × List Text)) (place : ℕ) (word : Text) → IsPlainWord word
      → walked rules [] (standing before pending idle place false) word ≡ placed_walk (standing before pending idle place false) word
  unfolding walked
  walked-plain before pending place word plain = rw (plain.no_separator, plain.no_long, plain.no_short) refl

  and-false : (b : Bool) → (b && false) ≡ false
  and-false true = refl
  and-false false = refl

  or-false : (b : Bool) → (b || false) ≡ b
  or-false true = refl
  or-false false = refl

  run-placed : (pending : Pending) (before : Values) (place : ℕ) (trailing : Bool) (n : Text) (word : Text) (rest : List Text) (values : Option Values)
      → IsKnown rules pending
      → turn_fault (shape name rules) [] (standing before (pending_of pending) idle place trailing) word ≡ placed_fault place (held before (pending_of pending))
      → walked rules [] (standing before (pending_of pending) idle place trailing) word ≡ placed_walk (standing before (pending_of pending) idle place trailing) word
      → arg_by_index rules place ≡ Some (plain_rule n None (Some place))
      → run (standing (used_with pending before) (Some (n, word ∷ [])) idle (min (place + 1) usize_max) trailing) rest
      ≡ expected (holds n word) (used_with pending before) values
      → run (standing before (pending_of pending) idle place trailing) (word ∷ rest) ≡ expected pending before (value_and n word values)
  run-placed pending before place trailing n word rest values known fault after at later =
      let w = standing before (pending_of pending) idle place trailing in
      let h = held before (pending_of pending) in
      let a = plain_rule n None (Some place) in
      let fault_is : turn_fault (shape name rules) [] w word ≡ settle_fault rules false h =
      fault ∙ ap (λ (o : Option Rule). option_map_or (λ b. positional_fault rules false b h) o (kind.UnknownArgument ∷ [])) at
      ∙ ap (λ (b : Bool). if b then [] else settle_fault rules false h) (and-false (clap_walk.is_pending a h.pending)) in
      run-cons w word rest
      ∙ guard-pending pending before known (turn_fault (shape name rules) [] w word) (run (walked rules [] w word) rest)
      (accepted (used_with pending before) (value_and n word values)) fault_is
      (λ new.
      let held_is : clap_walk.positional_held rules a word h ≡ held (used_with pending before) (Some (n, word ∷ [])) =
      ap (λ (b : Bool). clap_walk.pushed n word (if b then h else settled rules h)) (and-false (clap_walk.is_pending a h.pending))
      ∙ ap (λ (g : Held). clap_walk.pushed n word g) (settled-pending rules pending before known new) in
      let walk_is : walked rules [] w word ≡ standing (used_with pending before) (Some (n, word ∷ [])) idle (min (place + 1) usize_max) trailing =
      after ∙ ap (λ (o : Option Rule). to_positional rules o word w h) at
      ∙ ap (λ (g : Held). record { held = g; waiting = idle; position = min (place + 1) usize_max; is_trailing = trailing || false; stopped = None }) held_is
      ∙ ap (λ (b : Bool). standing (used_with pending before) (Some (n, word ∷ [])) idle (min (place + 1) usize_max) b) (or-false trailing) in
      ap (λ (v : Walk). run v rest) walk_is ∙ later ∙ sym (expected-is (holds n word) (used_with pending before) values))

  -- there is no positional argument left for the word
  run-surplus : (w : Walk) (word : Text) (rest : List Text) (h : Held) → turn_fault (shape name rules) [] w word ≡ placed_fault w.position h
      → arg_by_index rules w.position ≡ None → run w (word ∷ rest) ≡ None
  run-surplus w word rest h fault at =
      run-cons w word rest
      ∙ ap (λ (f : Kinds). guard f (run (walked rules [] w word) rest))
      (fault ∙ ap (λ (o : Option Rule). option_map_or (λ b. positional_fault rules false b h) o (kind.UnknownArgument ∷ [])) at)

  -- a word is refused at once
  run-refused : (w : Walk) (word : Text) (rest : List Text) (k : ErrorKind) (ks : Kinds) → turn_fault (shape name rules) [] w word ≡ k ∷ ks
      → run w (word ∷ rest) ≡ None
  run-refused w word rest k ks fault = run-cons w word rest ∙ ap (λ (f : Kinds). guard f (run (walked rules [] w word) rest)) fault

  -- ---- an option that lacks its value when the words that follow are positional

  run-lacking : (before : Values) (n : Text) (waiting : Waiting) (place : ℕ) (names : List Text) (words : List Text) → Knows rules n
      → Places rules place names → run (standing before (Some (n, [])) waiting place true) words ≡ None
  run-lacking before n waiting place names [] known places =
      let h = held before (Some (n, [])) in
      run-nil (standing before (Some (n, [])) waiting place true)
      ∙ ap (λ (f : Kinds). guard f (Some (settled rules h).rows)) (settle_fault-waiting rules n before known)
  run-lacking before n waiting place [] (word ∷ rest) known places =
      run-surplus (standing before (Some (n, [])) waiting place true) word rest (held before (Some (n, [])))
      (turn-trailing before (Some (n, [])) waiting place word) places
  run-lacking before n waiting place (m ∷ names) (word ∷ rest) known places =
      let h = held before (Some (n, [])) in
      let a = plain_rule m None (Some place) in
      run-refused (standing before (Some (n, [])) waiting place true) word rest kind.InvalidValue []
      (turn-trailing before (Some (n, [])) waiting place word
      ∙ ap (λ (o : Option Rule). option_map_or (λ b. positional_fault rules false b h) o (kind.UnknownArgument ∷ [])) places.0
      ∙ ap (λ (b : Bool). if b then [] else settle_fault rules false h) (and-false (clap_walk.is_pending a h.pending))
      ∙ settle_fault-waiting rules n before known)

  -- ---- an option

  pub record IsOptionWord (word n : Text) (value : Option Text) : Type 0 where
    pub no_separator : bytes_eq word (45 ∷ 45 ∷ []) ≡ false
    pub long : long_of word ≡ Some (n, value)

  use_fault-new : (n value : Text) (before : Values)
      → use_fault false (option_built n) (value ∷ []) (rows before) ≡ (if has_name n before then kind.ArgumentConflict ∷ [] else [])
  use_fault-new n value before = rw (has_row-rows n before) (go (has_name n before))
    where
      go : (b : Bool) → or_else (cond (b && true) (kind.ArgumentConflict ∷ []) []) [] ≡ cond b (kind.ArgumentConflict ∷ []) []
      go true = refl
      go false = refl

  turn-attached : (before : Values) (pending : Option (Text × List Text)) (waiting : Waiting) (place : ℕ) (word n value : Text)
      → IsOptionWord word n (Some value) → arg_by_long rules n ≡ Some (option_built n) → clap_walk.subcommand_met [] waiting word ≡ None
      → turn_fault (shape name rules) [] (standing before pending waiting place false) word
      ≡ or_else (or_else (settle_fault rules false (held before pending)) (use_fault false (option_built n) (value ∷ []) (settled rules (held before pending)).rows)) []
  turn-attached before pending waiting place word n value is at none = rw (none, is.no_separator, is.long, at) refl

  walked-attached : (before : Values) (pending : Option (Text × List Text)) (waiting : Waiting) (place : ℕ) (word n value : Text)
      → IsOptionWord word n (Some value) → arg_by_long rules n ≡ Some (option_built n) → clap_walk.subcommand_met [] waiting word ≡ None
      → walked rules [] (standing before pending waiting place false) word
      ≡ record { held = reacted rules (option_built n) (value ∷ []) (held before pending); waiting = idle; position = place; is_trailing = false; stopped = None }
  unfolding walked
  walked-attached before pending waiting place word n value is at none = rw (none, is.no_separator, is.long, at) refl

  turn-apart : (before : Values) (pending : Option (Text × List Text)) (waiting : Waiting) (place : ℕ) (word n : Text)
      → IsOptionWord word n None → arg_by_long rules n ≡ Some (option_built n) → clap_walk.subcommand_met [] waiting word ≡ None
      → turn_fault (shape name rules) [] (standing before pending waiting place false) word ≡ or_else (settle_fault rules false (held before pending)) []
  turn-apart before pending waiting place word n is at none = rw (none, is.no_separator, is.long, at) refl

  walked-apart : (before : Values) (pending : Option (Text × List Text)) (waiting : Waiting) (place : ℕ) (word n : Text)
      → IsOptionWord word n None → arg_by_long rules n ≡ Some (option_built n) → clap_walk.subcommand_met [] waiting word ≡ None
      → walked rules [] (standing before pending waiting place false) word
      ≡ record {
        held = record (settled rules (held before pending)) { pending = Some (n, []) };
        waiting = clap_walk.option n;
        position = place;
        is_trailing = false;
        stopped = None;
      }
  unfolding walked
  walked-apart before pending waiting place word n is at none = rw (none, is.no_separator, is.long, at) refl

  turn-unknown : (before : Values) (pending : Option (Text × List Text)) (waiting : Waiting) (place : ℕ) (word n : Text) (value : Option Text)
      → IsOptionWord word n value → arg_by_long rules n ≡ None → clap_walk.subcommand_met [] waiting word ≡ None
      → turn_fault (shape name rules) [] (standing before pending waiting place false) word ≡ kind.UnknownArgument ∷ []
  turn-unknown before pending waiting place word n value is at none = rw (none, is.no_separator, is.long, at) refl

  turn-separator : (before : Values) (pending : Option (Text × List Text)) (waiting : Waiting) (place : ℕ) (word : Text)
      → bytes_eq word (45 ∷ 45 ∷ []) ≡ true → clap_walk.subcommand_met [] waiting word ≡ None
      → turn_fault (shape name rules) [] (standing before pending waiting place false) word ≡ []
  turn-separator before pending waiting place word is none = rw (none, is) refl

  walked-separator : (before : Values) (pending : Option (Text × List Text)) (waiting : Waiting) (place : ℕ) (word : Text)
      → bytes_eq word (45 ∷ 45 ∷ []) ≡ true → clap_walk.subcommand_met [] waiting word ≡ None
      → walked rules [] (standing before pending waiting place false) word ≡ standing before pending waiting place true
  unfolding walked
  walked-separator before pending waiting place word is none = rw (none, is) refl

  -- the word is `-` with characters after it that are no short name
  pub record IsShortWord (word : Text) : Type 0 where
    pub no_separator : bytes_eq word (45 ∷ 45 ∷ []) ≡ false
    pub no_long : long_of word ≡ None
    pub byte : ℕ
    pub bytes : Text
    pub character : ℕ
    pub short : short_of word ≡ Some (byte ∷ bytes)
    pub first : slice_get (chars (byte ∷ bytes)) 0 ≡ Some character

  flags_fault-short : (flags : Text) (k x : ℕ) (h : Held) → slice_get (chars flags) 0 ≡ Some x → arg_by_short rules x ≡ None
      → flags_fault rules false (suc k) flags 0 h ≡ kind.UnknownArgument ∷ []
  unfolding flags_fault
  flags_fault-short flags k x h first none = rw (first, none) refl

  turn-short : (before : Values) (pending : Option (Text × List Text)) (waiting : Waiting) (place : ℕ) (word : Text)
      → (is : IsShortWord word) → arg_by_short rules is.character ≡ None → clap_walk.subcommand_met [] waiting word ≡ None
      → turn_fault (shape name rules) [] (standing before pending waiting place false) word ≡ kind.UnknownArgument ∷ []
  turn-short before pending waiting place word is at none =
      rw (none, is.no_separator, is.no_long, is.short, flags_fault-short (is.byte ∷ is.bytes) (length is.bytes) is.character (held before pending) is.first at) refl

  turn-value : (before : Values) (n : Text) (place : ℕ) (word : Text) → IsPlainWord word
      → turn_fault (shape name rules) [] (standing before (Some (n, [])) (clap_walk.option n) place false) word ≡ []
  turn-value before n place word plain = rw (plain.no_separator, plain.no_long, plain.no_short) refl

  walked-value : (before : Values) (n : Text) (place : ℕ) (word : Text) → IsPlainWord word → Knows rules n
      → walked rules [] (standing before (Some (n, [])) (clap_walk.option n) place false) word ≡ standing before (Some (n, word ∷ [])) idle place false
  unfolding walked
  walked-value before n place word plain known = rw (plain.no_separator, plain.no_long, plain.no_short, known.2, bytes_eq-same n) refl

  if-same : {A : Type 0} (b : Bool) (x y : Option A) → (b ≡ false → x ≡ y) → (if b then None else x) ≡ (if b then None else y)
  if-same true x y same = refl
  if-same false x y same = same refl

  -- an option with its value in one word
  run-attached : (pending : Pending) (before : Values) (place : ℕ) (word n value : Text) (rest : List Text) (values : Option Values)
      → IsKnown rules pending → IsOptionWord word n (Some value) → arg_by_long rules n ≡ Some (option_built n)
      → run (standing (used_with pending before ++ (n, value) ∷ []) None idle place false) rest ≡ accepted (used_with pending before ++ (n, value) ∷ []) values
      → run (standing before (pending_of pending) idle place false) (word ∷ rest) ≡ expected pending before (value_and n value values)
  run-attached pending before place word n value rest values known is at later =
      let w = standing before (pending_of pending) idle place false in
      let h = held before (pending_of pending) in
      let us = used_with pending before in
      let settling = settle_fault rules false h in
      let using = use_fault false (option_built n) (value ∷ []) (settled rules h).rows in
      let next = run (walked rules [] w word) rest in
      run-cons w word rest
      ∙ ap (λ (f : Kinds). guard f next) (turn-attached before (pending_of pending) idle place word n value is at refl)
      ∙ guard-or_else (or_else settling using) [] next ∙ guard-or_else settling using next
      ∙ guard-pending pending before known settling (guard using next) (accepted us (value_and n value values)) refl (λ new.
      let settled_is = settled-pending rules pending before known new in
      ap (λ (f : Kinds). guard f next) (ap (λ (g : Held). use_fault false (option_built n) (value ∷ []) g.rows) settled_is ∙ use_fault-new n value us)
      ∙ guard-clash (has_name n us) kind.ArgumentConflict next
      ∙ if-same (has_name n us) next (accepted (us ++ (n, value) ∷ []) values) (λ fresh.
      let held_is : reacted rules (option_built n) (value ∷ []) h ≡ held (us ++ (n, value) ∷ []) None =
      ap (λ (g : Held). record { rows = clap_walk.used (option_built n) (value ∷ []) g.rows; pending = None; skip = 0 }) settled_is
      ∙ ap (λ (rs : List Row). record { rows = rs; pending = None; skip = 0 }) (used_new n value us fresh) in
      ap (λ (v : Walk). run v rest) (walked-attached before (pending_of pending) idle place word n value is at refl
      ∙ ap (λ (g : Held). record { held = g; waiting = idle; position = place; is_trailing = false; stopped = None }) held_is)
      ∙ later)
      ∙ sym (accepted-value_and n value us values))

  -- an option whose value is the next word
  run-apart : (pending : Pending) (before : Values) (place : ℕ) (word n : Text) (rest : List Text) (values : Option Values)
      → IsKnown rules pending → IsOptionWord word n None → arg_by_long rules n ≡ Some (option_built n)
      → run (standing (used_with pending before) (Some (n, [])) (clap_walk.option n) place false) rest ≡ accepted (used_with pending before) values
      → run (standing before (pending_of pending) idle place false) (word ∷ rest) ≡ expected pending before values
  run-apart pending before place word n rest values known is at later =
      let w = standing before (pending_of pending) idle place false in
      let h = held before (pending_of pending) in
      let us = used_with pending before in
      let settling = settle_fault rules false h in
      let next = run (walked rules [] w word) rest in
      run-cons w word rest
      ∙ ap (λ (f : Kinds). guard f next) (turn-apart before (pending_of pending) idle place word n is at refl)
      ∙ guard-or_else settling [] next
      ∙ guard-pending pending before known settling next (accepted us values) refl (λ new.
      ap (λ (v : Walk). run v rest) (walked-apart before (pending_of pending) idle place word n is at refl
      ∙ ap (λ (g : Held). record {
        held = record g { pending = Some (n, []) };
        waiting = clap_walk.option n;
        position = place;
        is_trailing = false;
        stopped = None;
      }) (settled-pending rules pending before known new))
      ∙ later)

-- ---- the names of items

named-placed : (options : List Text) (n : Text) (names : List Text) (word : Text) (items : Items)
    → option_and_then (named options (n ∷ names)) (item_then (placed word) items) ≡ value_and n word (option_and_then (named options names) items)
named-placed options n names word None = refl
named-placed options n names word (Some items) = refl

named-surplus : (options : List Text) (word : Text) (items : Items) → option_and_then (named options []) (item_then (placed word) items) ≡ None
named-surplus options word None = refl
named-surplus options word (Some items) = refl

named-valued : (options names : List Text) (n value : Text) (items : Items) → is_option options n ≡ true
    → option_and_then (named options names) (item_then (valued n value) items) ≡ value_and n value (option_and_then (named options names) items)
named-valued options names n value None known = refl
named-valued options names n value (Some items) known = rw known refl

named-unknown : (options names : List Text) (n value : Text) (items : Items) → is_option options n ≡ false
    → option_and_then (named options names) (item_then (valued n value) items) ≡ None
named-unknown options names n value None known = refl
named-unknown options names n value (Some items) known = rw known refl

named-apart : (options names : List Text) (n : Text) (words : List Text) → is_option options n ≡ false
    → option_and_then (named options names) (items_after (Some n) words) ≡ None
named-apart options names n [] known = refl
named-apart options names n (word ∷ rest) known = go (kind_of word)
  where
    go : (k : Kind) → option_and_then (named options names) (value_then k n word (items_after None rest)) ≡ None
    go positional = named-unknown options names n word (items_after None rest) known
    go separator = refl
    go (option m value) = refl
    go short = refl

expected-None : (pending : Pending) (before : Values) → expected pending before None ≡ None
expected-None pending before = go (clashes pending before)
  where
    go : (b : Bool) → ◌≡◌ {A = Option (List Row)} (cond b None None) None
    go true = refl
    go false = refl

-- ---- the kinds of words, as a parse sees them

abbrev pub IsOfKind : Text → List Rule → Text → Kind → Type 0
IsOfKind name rules word positional = IsPlainWord name rules word
IsOfKind name rules word separator = bytes_eq word (45 ∷ 45 ∷ []) ≡ true
IsOfKind name rules word (option n value) = IsOptionWord name rules word n value
IsOfKind name rules word short = IsShortWord name rules word

first_character : (b : ℕ) (bytes : Text) → IsUtf8 (b ∷ bytes) → (x : ℕ) × (slice_get (chars (b ∷ bytes)) 0 ≡ Some x)
first_character b bytes text = go text.0 text.1.0 text.1.1
  where
    go : (cs : List ℕ) → scalars cs ≡ true → encode_utf8_all cs ≡ b ∷ bytes → (x : ℕ) × (slice_get (chars (b ∷ bytes)) 0 ≡ Some x)
    go [] scalar is = absurd (cc)
    go (c ∷ cs) scalar is = (c, ap (λ (xs : List ℕ). slice_get xs 0) (ap chars (sym is) ∙ chars-encodes (c ∷ cs) scalar))

-- what follows a hyphen is text
text_after : (b : ℕ) (bytes : Text) → (b == 45) ≡ true → IsUtf8 (b ∷ bytes) → IsUtf8 bytes
text_after b bytes e text =
    IsUtf8-past_char (b ∷ bytes) bytes 45 text (ap (λ (c : ℕ). c ∷ bytes) (eqb-true b 45 e) ∙ ap (λ (cs : List ℕ). cs ++ bytes) (sym (encode_ascii 45 (lit< tt))))

kind_is : (name : Text) (rules : List Rule) (word : Text) → IsUtf8 word → IsOfKind name rules word (kind_of word)
kind_is name rules [] text = record { no_separator = refl; no_long = refl; no_short = refl }
kind_is name rules (b ∷ []) text = go (b == 45) refl
  where
    go : (c : Bool) → (b == 45) ≡ c → IsOfKind name rules (b ∷ []) (cond c (kind_after_one []) positional)
    go true e = record { no_separator = rw e refl; no_long = rw e refl; no_short = rw e refl }
    go false e = record { no_separator = rw e refl; no_long = rw e refl; no_short = rw e refl }
kind_is name rules (b ∷ d ∷ []) text = go (b == 45) refl (d == 45) refl
  where
    go : (c : Bool) → (b == 45) ≡ c → (k : Bool) → (d == 45) ≡ k
        → IsOfKind name rules (b ∷ d ∷ []) (cond c (cond k (kind_after_two []) short) positional)
    go true e true f = rw (e, f) refl
    go true e false f =
        let first = first_character d [] (text_after b (d ∷ []) e text) in
        record {
          no_separator = rw (e, f) refl;
          no_long = rw (e, f) refl;
          byte = d;
          bytes = [];
          character = first.0;
          short = rw (e, f) refl;
          first = first.1;
        }
    go false e k f = record { no_separator = rw e refl; no_long = rw e refl; no_short = rw e refl }
kind_is name rules (b ∷ d ∷ x ∷ rest) text = go (b == 45) refl (d == 45) refl
  where
    go : (c : Bool) → (b == 45) ≡ c → (k : Bool) → (d == 45) ≡ k
        → IsOfKind name rules (b ∷ d ∷ x ∷ rest) (cond c (cond k (kind_after_two (x ∷ rest)) short) positional)
    go true e true f = record { no_separator = rw (e, f) refl; long = rw (e, f) refl }
    go true e false f =
        let first = first_character d (x ∷ rest) (text_after b (d ∷ x ∷ rest) e text) in
        record {
          no_separator = rw (e, f) refl;
          no_long = rw (e, f) refl;
          byte = d;
          bytes = x ∷ rest;
          character = first.0;
          short = rw (e, f) refl;
          first = first.1;
        }
    go false e k f = record { no_separator = rw e refl; no_long = rw e refl; no_short = rw e refl }

-- ---- every word in turn

abbrev pub AreText : List Text → Type 0
AreText [] = Unit {0}
AreText (word ∷ rest) = IsUtf8 word × AreText rest

module _ (name : Text) (names options : List Text) where
  abbrev rules : List Rule
  rules = rules_from 1 names options

  run-trailing : (words : List Text) (pending : Pending) (before : Values) (place : ℕ) (left : List Text)
      → IsKnown rules pending → Places rules place left
      → run name rules (standing before (pending_of pending) idle place true) words ≡ expected pending before (named options left (map placed words))
  run-trailing [] pending before place left known places = run-end name rules pending before idle place true known
  run-trailing (word ∷ rest) pending before place [] known places =
      run-surplus name rules (standing before (pending_of pending) idle place true) word rest (held before (pending_of pending))
      (turn-trailing name rules before (pending_of pending) idle place word) places
      ∙ sym (expected-None pending before)
  run-trailing (word ∷ rest) pending before place (n ∷ left) known places =
      run-placed name rules pending before place true n word rest (named options left (map placed rest)) known
      (turn-trailing name rules before (pending_of pending) idle place word) (walked-trailing name rules before (pending_of pending) idle place word) places.0
      (run-trailing rest (holds n word) (used_with pending before) (min (place + 1) usize_max) left (None, Some place, places.1) places.2)

  pub record Walks (words : List Text) : Type 0 where
    pub apart : (pending : Pending) (before : Values) (place : ℕ) (left : List Text) → IsKnown rules pending → Places rules place left
        → run name rules (standing before (pending_of pending) idle place false) words
        ≡ expected pending before (option_and_then (named options left) (items_after None words))
    pub valued : (before : Values) (n : Text) (place : ℕ) (left : List Text) → is_option options n ≡ true → Places rules place left
        → run name rules (standing before (Some (n, [])) (clap_walk.option n) place false) words
        ≡ accepted before (option_and_then (named options left) (items_after (Some n) words))

  walks-nil : Walks []
  walks-nil = record {
    apart = λ pending before place left known places. run-end name rules pending before idle place false known;
    valued = λ before n place left known places.
        let h = held before (Some (n, [])) in
        run-nil name rules (standing before (Some (n, [])) (clap_walk.option n) place false)
        ∙ ap (λ (f : Kinds). guard f (Some (settled rules h).rows)) (settle_fault-waiting rules n before (id_known 1 names options n known));
  }

  -- the first word stands where no value is due
  apart-cons : (word : Text) (rest : List Text) (k : Kind) → IsOfKind name rules word k → Walks rest
      → (pending : Pending) (before : Values) (place : ℕ) (left : List Text) → IsKnown rules pending → Places rules place left
      → run name rules (standing before (pending_of pending) idle place false) (word ∷ rest)
      ≡ expected pending before (option_and_then (named options left) (items_by k word rest (items_after None rest) (λ n. items_after (Some n) rest)))
  apart-cons word rest positional is later pending before place [] known places =
      run-surplus name rules (standing before (pending_of pending) idle place false) word rest (held before (pending_of pending))
      (turn-plain name rules before (pending_of pending) place word is) places
      ∙ sym (ap (expected pending before) (named-surplus options word (items_after None rest)) ∙ expected-None pending before)
  apart-cons word rest positional is later pending before place (n ∷ left) known places =
      run-placed name rules pending before place false n word rest (option_and_then (named options left) (items_after None rest)) known
      (turn-plain name rules before (pending_of pending) place word is) (walked-plain name rules before (pending_of pending) place word is) places.0
      (later.apart (holds n word) (used_with pending before) (min (place + 1) usize_max) left (None, Some place, places.1) places.2)
      ∙ ap (expected pending before) (sym (named-placed options n left word (items_after None rest)))
  apart-cons word rest separator is later pending before place left known places =
      let w = standing before (pending_of pending) idle place false in
      run-cons name rules w word rest
      ∙ ap (λ (f : Kinds). guard f (run name rules (walked rules [] w word) rest)) (turn-separator name rules before (pending_of pending) idle place word is refl)
      ∙ ap (λ (v : Walk). run name rules v rest) (walked-separator name rules before (pending_of pending) idle place word is refl)
      ∙ run-trailing rest pending before place left known places
  apart-cons word rest (option n value) is later pending before place left known places = go value is (is_option options n) refl
    where
      unknown : (o : Option Text) → IsOptionWord name rules word n o → is_option options n ≡ false
          → run name rules (standing before (pending_of pending) idle place false) (word ∷ rest) ≡ None
      unknown o is e = run-refused name rules (standing before (pending_of pending) idle place false) word rest kind.UnknownArgument []
          (turn-unknown name rules before (pending_of pending) idle place word n o is (long_unknown 1 names options n e) refl)

      go : (o : Option Text) → IsOptionWord name rules word n o → (b : Bool) → is_option options n ≡ b
          → run name rules (standing before (pending_of pending) idle place false) (word ∷ rest)
          ≡ expected pending before (option_and_then (named options left) (items_by (option n o) word rest (items_after None rest) (λ m. items_after (Some m) rest)))
      go (Some given) is true e =
          run-attached name rules pending before place word n given rest (option_and_then (named options left) (items_after None rest)) known is
          (long_known 1 names options n e)
          (later.apart nothing (used_with pending before ++ (n, given) ∷ []) place left tt places)
          ∙ ap (expected pending before) (sym (named-valued options left n given (items_after None rest) e))
      go (Some given) is false e =
          unknown (Some given) is e
          ∙ sym (ap (expected pending before) (named-unknown options left n given (items_after None rest) e) ∙ expected-None pending before)
      go None is true e =
          run-apart name rules pending before place word n rest (option_and_then (named options left) (items_after (Some n) rest)) known is
          (long_known 1 names options n e)
          (later.valued (used_with pending before) n place left e places)
      go None is false e =
          unknown None is e
          ∙ sym (ap (expected pending before) (named-apart options left n rest e) ∙ expected-None pending before)
  apart-cons word rest short is later pending before place left known places =
      run-refused name rules (standing before (pending_of pending) idle place false) word rest kind.UnknownArgument []
      (turn-short name rules before (pending_of pending) idle place word is (short_unknown 1 names options is.character) refl)
      ∙ sym (expected-None pending before)

  -- the first word stands where the value of an option is due
  valued-cons : (word : Text) (rest : List Text) (k : Kind) → IsOfKind name rules word k → Walks rest
      → (before : Values) (n : Text) (place : ℕ) (left : List Text) → is_option options n ≡ true → Places rules place left
      → run name rules (standing before (Some (n, [])) (clap_walk.option n) place false) (word ∷ rest)
      ≡ accepted before (option_and_then (named options left) (value_then k n word (items_after None rest)))
  valued-cons word rest positional is later before n place left known places =
      let w = standing before (Some (n, [])) (clap_walk.option n) place false in
      let found = id_known 1 names options n known in
      run-cons name rules w word rest
      ∙ ap (λ (f : Kinds). guard f (run name rules (walked rules [] w word) rest)) (turn-value name rules before n place word is)
      ∙ ap (λ (v : Walk). run name rules v rest) (walked-value name rules before n place word is found)
      ∙ later.apart (holds n word) before place left found places
      ∙ sym (expected-is (holds n word) before (option_and_then (named options left) (items_after None rest)))
      ∙ ap (accepted before) (sym (named-valued options left n word (items_after None rest) known))
  valued-cons word rest separator is later before n place left known places =
      let w = standing before (Some (n, [])) (clap_walk.option n) place false in
      run-cons name rules w word rest
      ∙ ap (λ (f : Kinds). guard f (run name rules (walked rules [] w word) rest))
      (turn-separator name rules before (Some (n, [])) (clap_walk.option n) place word is refl)
      ∙ ap (λ (v : Walk). run name rules v rest) (walked-separator name rules before (Some (n, [])) (clap_walk.option n) place word is refl)
      ∙ run-lacking name rules before n (clap_walk.option n) place left rest (id_known 1 names options n known) places
  valued-cons word rest (option m value) is later before n place left known places = go value is (is_option options m) refl
    where
      go : (o : Option Text) → IsOptionWord name rules word m o → (b : Bool) → is_option options m ≡ b
          → run name rules (standing before (Some (n, [])) (clap_walk.option n) place false) (word ∷ rest) ≡ None
      go (Some given) is true e =
          run-refused name rules (standing before (Some (n, [])) (clap_walk.option n) place false) word rest kind.InvalidValue []
          (turn-attached name rules before (Some (n, [])) (clap_walk.option n) place word m given is (long_known 1 names options m e) refl
          ∙ ap (λ (f : Kinds). or_else (or_else f (use_fault false (option_built m) (given ∷ []) (settled rules (held before (Some (n, [])))).rows)) [])
          (settle_fault-waiting rules n before (id_known 1 names options n known)))
      go None is true e =
          run-refused name rules (standing before (Some (n, [])) (clap_walk.option n) place false) word rest kind.InvalidValue []
          (turn-apart name rules before (Some (n, [])) (clap_walk.option n) place word m is (long_known 1 names options m e) refl
          ∙ ap (λ (f : Kinds). or_else f []) (settle_fault-waiting rules n before (id_known 1 names options n known)))
      go o is false e =
          run-refused name rules (standing before (Some (n, [])) (clap_walk.option n) place false) word rest kind.UnknownArgument []
          (turn-unknown name rules before (Some (n, [])) (clap_walk.option n) place word m o is (long_unknown 1 names options m e) refl)
  valued-cons word rest short is later before n place left known places =
      run-refused name rules (standing before (Some (n, [])) (clap_walk.option n) place false) word rest kind.UnknownArgument []
      (turn-short name rules before (Some (n, [])) (clap_walk.option n) place word is (short_unknown 1 names options is.character) refl)

  pub walks : (words : List Text) → AreText words → Walks words
  walks [] text = walks-nil
  walks (word ∷ rest) text =
      let later = walks rest text.1 in
      let is = kind_is name rules word text.0 in
      record {
        apart = apart-cons word rest (kind_of word) is later;
        valued = valued-cons word rest (kind_of word) is later;
      }

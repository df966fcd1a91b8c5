-- The request of a list of words: the command with its values, or none.
use Rattle.std.specs.Prelude.{ℕ, List, [], ◌∷◌, Option, Some, None, option_map, option_and_then, codes}
use Rattle.std.specs.String.{string_bytes}
use Rattle.hy_bits.specs.declared.turns.Role.{Role}
use Rattle.hy_bits.specs.declared.turns.Role.TheVariants.{P0, P1}
use Rattle.hy_words.specs.Words.{Text, given, value_of}
use Rattle.hy_words.specs.Commands.{command_named, syntax_of}
use Rattle.hy_words.specs.Readings.{bound_limit, default_layers, layer_limit, module_limit, number_within, role_in, seed_in, turns_in, work_limit}
use Rattle.hy_words.specs.declared.command.Command.{Command}
use Rattle.hy_words.specs.declared.command.Command.TheVariants as command
use Rattle.hy_words.specs.declared.requests.Exec.{Exec}
use Rattle.hy_words.specs.declared.requests.Request.{Request}
use Rattle.hy_words.specs.declared.requests.Request.TheVariants as request

-- ---- requests, with texts as lists of bytes

pub record Job : Type 0 where
  pub source : Text
  pub a : Text
  pub b : Text
  pub table : Text
  pub bundle : Text
  pub layers : ℕ
  pub bound : Option ℕ
  pub turns : List Role

pub data Asked : Type 0 where
  -- the job and its seed
  exec : Job → List ℕ → Asked
  -- source, table, bundle, layers, bound
  compile : Text → Text → Text → ℕ → Option ℕ → Asked
  -- bundle, a, b, seed, turns
  run : Text → Text → Text → List ℕ → List Role → Asked
  -- bundle
  check : Text → Asked
  -- source, a, b, bound
  plain : Text → Text → Text → Option ℕ → Asked
  -- number and job
  gen : ℕ → Job → Asked
  -- old, new
  migrate : Text → Text → Asked
  -- file, table, bundle
  import_ : Text → Text → Text → Asked
  -- bundle, module, file
  export : Text → ℕ → Text → Asked
  -- role, bundle, own, state, outbox, seed
  begin : Role → Text → Text → Text → Text → List ℕ → Asked
  -- state, inbox, outbox
  turn : Text → Text → Text → Asked
  -- bundle, module, file
  log : Text → ℕ → Text → Asked
  -- file
  confirm : Text → Asked

-- what a request is, its strings seen as their bytes
abbrev pub job_of : Exec → Job
job_of job = record {
  source = string_bytes job.source;
  a = string_bytes job.a;
  b = string_bytes job.b;
  table = string_bytes job.table;
  bundle = string_bytes job.bundle;
  layers = job.layers;
  bound = job.bound;
  turns = job.turns;
}

abbrev pub asked_by : Request → Asked
asked_by (request.Exec job seed) = exec (job_of job) seed
asked_by (request.Compile source table bundle layers bound) = compile (string_bytes source) (string_bytes table) (string_bytes bundle) layers bound
asked_by (request.Run bundle a b seed turns) = run (string_bytes bundle) (string_bytes a) (string_bytes b) seed turns
asked_by (request.Check bundle) = check (string_bytes bundle)
asked_by (request.Plain source a b bound) = plain (string_bytes source) (string_bytes a) (string_bytes b) bound
asked_by (request.Gen number job) = gen number (job_of job)
asked_by (request.Migrate old new) = migrate (string_bytes old) (string_bytes new)
asked_by (request.Import file table bundle) = import_ (string_bytes file) (string_bytes table) (string_bytes bundle)
asked_by (request.Export bundle number file) = export (string_bytes bundle) number (string_bytes file)
asked_by (request.Begin role bundle own state outbox seed) =
    begin role (string_bytes bundle) (string_bytes own) (string_bytes state) (string_bytes outbox) seed
asked_by (request.Turn state inbox outbox) = turn (string_bytes state) (string_bytes inbox) (string_bytes outbox)
asked_by (request.Log bundle number file) = log (string_bytes bundle) number (string_bytes file)
asked_by (request.Confirm file) = confirm (string_bytes file)

-- ---- values by their names

-- the value under each name, or none
abbrev pub Named : Type 0
Named = Text → Option Text

-- at least one layer
abbrev pub layers_by : Option Text → Option ℕ
layers_by None = Some default_layers
layers_by (Some text) = number_within 1 layer_limit text

-- no bound where none is given
abbrev pub bound_by : Option Text → Option (Option ℕ)
bound_by None = Some None
bound_by (Some text) = option_map (λ n. Some n) (number_within 0 bound_limit text)

-- `ab` where no turns are given
abbrev pub turns_by : Option Text → Option (List Role)
turns_by None = Some (P0 ∷ P1 ∷ [])
turns_by (Some text) = turns_in text

abbrev pub seed_by : Option Text → Option (List ℕ)
seed_by text = option_and_then seed_in text

abbrev pub role_by : Option Text → Option Role
role_by text = option_and_then role_in text

-- at least 1
abbrev pub number_by : Option Text → Option ℕ
number_by text = option_and_then (number_within 1 work_limit) text

abbrev pub module_by : Option Text → Option ℕ
module_by text = option_and_then (number_within 0 module_limit) text

-- ---- the request of values, which is none where a value is missing or isn't read

-- a function at a value, where both are there
infixl 10 ◌<*>◌
abbrev pub ◌<*>◌ : {A B : Type 0} → Option (A → B) → Option A → Option B
None <*> x = None
Some f <*> x = option_map f x

abbrev pub job_from : Text → Text → Text → Text → Text → ℕ → Option ℕ → List Role → Job
job_from source a b table bundle layers bound turns = record {
  source = source;
  a = a;
  b = b;
  table = table;
  bundle = bundle;
  layers = layers;
  bound = bound;
  turns = turns;
}

-- a job of generated work
abbrev pub default_job : Text → Text → Text → Text → Text → Job
default_job source a b table bundle = job_from source a b table bundle default_layers None (P0 ∷ P1 ∷ [])

abbrev pub job_in : Named → Option Job
job_in v = Some job_from <*> v (codes "source") <*> v (codes "a") <*> v (codes "b") <*> v (codes "table") <*> v (codes "bundle")
    <*> layers_by (v (codes "layers")) <*> bound_by (v (codes "bound")) <*> turns_by (v (codes "turns"))

abbrev pub default_job_in : Named → Option Job
default_job_in v = Some default_job <*> v (codes "source") <*> v (codes "a") <*> v (codes "b") <*> v (codes "table") <*> v (codes "bundle")

abbrev pub asked_in : Command → Named → Option Asked
asked_in command.Exec v = Some (λ p q. exec p q) <*> job_in v <*> seed_by (v (codes "seed"))
asked_in command.Compile v = Some (λ p q r s t. compile p q r s t) <*> v (codes "source") <*> v (codes "table") <*> v (codes "bundle")
    <*> layers_by (v (codes "layers")) <*> bound_by (v (codes "bound"))
asked_in command.Run v = Some (λ p q r s t. run p q r s t) <*> v (codes "bundle") <*> v (codes "a") <*> v (codes "b") <*> seed_by (v (codes "seed"))
    <*> turns_by (v (codes "turns"))
asked_in command.Check v = Some (λ p. check p) <*> v (codes "bundle")
asked_in command.Plain v = Some (λ p q r s. plain p q r s) <*> v (codes "source") <*> v (codes "a") <*> v (codes "b") <*> bound_by (v (codes "bound"))
asked_in command.Gen v = Some (λ p q. gen p q) <*> number_by (v (codes "number")) <*> default_job_in v
asked_in command.Migrate v = Some (λ p q. migrate p q) <*> v (codes "old") <*> v (codes "new")
asked_in command.Import v = Some (λ p q r. import_ p q r) <*> v (codes "file") <*> v (codes "table") <*> v (codes "bundle")
asked_in command.Export v = Some (λ p q r. export p q r) <*> v (codes "bundle") <*> module_by (v (codes "module")) <*> v (codes "file")
asked_in command.Begin v = Some (λ p q r s t u. begin p q r s t u) <*> role_by (v (codes "role")) <*> v (codes "bundle") <*> v (codes "own") <*> v (codes "state")
    <*> v (codes "outbox") <*> seed_by (v (codes "seed"))
asked_in command.Turn v = Some (λ p q r. turn p q r) <*> v (codes "state") <*> v (codes "inbox") <*> v (codes "outbox")
asked_in command.Log v = Some (λ p q r. log p q r) <*> v (codes "bundle") <*> module_by (v (codes "module")) <*> v (codes "file")
asked_in command.Confirm v = Some (λ p. confirm p) <*> v (codes "file")

-- the request of a command and the words after its name
abbrev pub asked_after : Command → List Text → Option Asked
asked_after command words = option_and_then (λ values. asked_in command (value_of values)) (given (syntax_of command) words)

-- the request of all the words: the program's name, the command's, and the words of the command
abbrev pub request_of : List Text → Option Asked
request_of (program ∷ name ∷ words) = option_and_then (λ command. asked_after command words) (command_named name)
request_of _ = None

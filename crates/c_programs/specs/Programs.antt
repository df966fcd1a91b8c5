-- Functions and programs (C11 6.9): what they declare, in the order of the text, and the typed program; or the first rule that is broken.
use Rattle.std.specs.Prelude.{◌≡◌, ℕ, ◌^◌, Bool, true, false, nat_le, if◌then◌else◌, Option, None, Some, Result, Ok, Err, List, [], ◌∷◌, ◌++◌, map, length, slice_get, codes}
use Rattle.std.specs.Str.{bytes_eq}
use Rattle.hy_bits.specs.declared.shape.Port.{Port}
use Rattle.hy_bits.specs.declared.shape.Shape.{Shape}
use Rattle.c_tree.specs.declared.token.Place.{Place}
use Rattle.c_tree.specs.declared.expressions.Identifier.{Identifier}
use Rattle.c_tree.specs.declared.expressions.Specifiers.{Specifiers}
use Rattle.c_tree.specs.declared.expressions.Dimension.{Dimension}
use Rattle.c_tree.specs.declared.statements.Declaration.{Declaration}
use Rattle.c_tree.specs.declared.programs.Function.{Function}
use Rattle.c_tree.specs.declared.programs.ExternalDeclaration.{ExternalDeclaration}
use Rattle.c_tree.specs.declared.programs.ExternalDeclaration.TheVariants as external
use Rattle.c_tree.specs.Programs.{ProgramTree}
use Rattle.c_meaning.specs.declared.types.CType.{CType, out-CType}
use Rattle.c_meaning.specs.declared.types.CType.TheOpen.{CType-F}
use Rattle.c_meaning.specs.declared.types.ValueKind.TheVariants as kind
use Rattle.c_meaning.specs.declared.programs.TypedFunction.{TypedFunction}
use Rattle.c_meaning.specs.declared.typed.TypedParts.{TypedParts}
use Rattle.c_meaning.specs.Types.{kind_of, shape_of, struct_shapes}
use Rattle.c_meaning.specs.SizeFolds.{program_size, saturated}
use Rattle.c_scopes.specs.Scopes.{outermost}
use Rattle.c_addresses.specs.Addresses.{addressed_in}
use Rattle.c_conversions.specs.declared.fault.TypeKind.{TypeKind}
use Rattle.c_conversions.specs.declared.fault.TypeKind.TheVariants.{Mismatch, NoEntry, Unroll, Memory}
use Rattle.c_conversions.specs.declared.fault.TypeFault.{TypeFault}
use Rattle.c_typing.specs.declared.environment.Entity.TheVariants as entity
use Rattle.c_typing.specs.declared.environment.Environment.{Environment}
use Rattle.c_typing.specs.declared.environment.QualifiedType.{QualifiedType}
use Rattle.c_typing.specs.Walks.{Checked, Breaks, Passes, Walk, after, along}
use Rattle.c_typing.specs.Specifiers.{with_entity, object_type}
use Rattle.c_expressions.specs.Typing.{types_specs}
use Rattle.c_objects.specs.declared.initializers.Storage.TheVariants.{Static}
use Rattle.c_objects.specs.Objects.{dimensioned_where, free_name, declaration_walk}
use Rattle.c_heads.specs.declared.context.Body.{Body}
use Rattle.c_bodies.specs.declared.context.Around.{Around}
use Rattle.c_heads.specs.Scopes.{scoped, tag_alone}
use Rattle.c_bodies.specs.Statements.{types_block}
use Rattle.c_programs.specs.declared.functions.Whole.{Whole}
use Rattle.c_programs.specs.Parameters.{few_cells, head_of}

-- ---- `typedef` (C11 6.7.8)

abbrev pub with_typedef : Identifier → QualifiedType → Environment → Environment
with_typedef name q env =
    let more = with_entity name.text (entity.TypeName (length env.typedefs)) env in
    record more { typedefs = env.typedefs ++ q ∷ [] }

abbrev pub typedef_walk : Specifiers → Identifier → List Dimension → Walk (Unit {0})
typedef_walk specs name dimensions env =
    after ((types_specs specs).walk env)
    (λ q env. after (object_type (types_specs specs).place q env)
    (λ q env. after (free_name name env)
    (λ _ env. after (dimensioned_where None dimensions q.ctype env)
    (λ c env. after (few_cells name c env) (λ _ env. Passes tt (with_typedef name (record { ctype = c; qualifier = q.qualifier }) env))))))

-- ---- functions (C11 6.9.1)

abbrev pub entry_name : List ℕ
entry_name = codes "mpc_main"

abbrev pub is_entry : Identifier → Bool
is_entry name = bytes_eq name.text entry_name

abbrev pub layer_is_array : CType-F CType → Bool
layer_is_array (CType-F.Array count element) = true
layer_is_array other = false

-- no result is an array
abbrev pub result_type : Specifiers → Walk CType
result_type specs env =
    after ((types_specs specs).walk env)
    (λ q env. if layer_is_array (out-CType q.ctype) then Breaks Mismatch (types_specs specs).place else Passes q.ctype env)

-- the result of `mpc_main` isn't void
abbrev pub entry_result : Identifier → CType → Walk (Unit {0})
entry_result name c env =
    elim (kind_of c) [
      | kind.Void ↦ if is_entry name then Breaks NoEntry name.place else Passes tt env
      | kind.Integer t ↦ Passes tt env
      | kind.Pointer ↦ Passes tt env
      | kind.Struct number ↦ Passes tt env
    ]

abbrev pub main_where : Bool → ℕ → Option ℕ → Option ℕ
main_where true k main = Some k
main_where false k main = main

-- a function is known from its name on
abbrev pub begun : Identifier → Environment → Environment
begun name env =
    let k = length env.functions in
    let more = with_entity name.text (entity.Function k) env in
    record more { main_function = main_where (is_entry name) k env.main_function }

abbrev pub nothing_around : Around
nothing_around = record { breaks = false; continues = false }

-- the parameters' scope is that of the body's block
abbrev pub whole_walk : Function → Body → Walk Whole
whole_walk f body env =
    after (head_of (is_entry f.name) f.parameters env)
    (λ head env. after (types_block body f.body nothing_around env) (λ block env. Passes (record { head = head; body = block }) env))

abbrev pub scoped_whole : Function → Body → Walk Whole
scoped_whole f body = scoped (whole_walk f body)

abbrev pub with_function : Identifier → CType → Whole → Environment → Environment
with_function name result whole env =
    record env { functions = env.functions ++ record { name = name.text; place = name.place; result = result; params = whole.head.parameters; body = whole.body } ∷ [] }

-- the ports of the entry, if it stands
abbrev pub Ports : Type 0
Ports = Option (List Port)

abbrev pub ports_where : Bool → List Port → Ports → Ports
ports_where true ports before = Some ports
ports_where false ports before = before

abbrev pub body_of : Option ℕ → Function → CType → Environment → Body
body_of bound f result env = record { result = result; bound = bound; base = length env.entities; addressed = addressed_in f }

abbrev pub function_rest : Option ℕ → Function → CType → Ports → Walk Ports
function_rest bound f result ports env =
    after (scoped_whole f (body_of bound f result env) env)
    (λ whole env. Passes (ports_where (is_entry f.name) whole.head.ports ports) (with_function f.name result whole env))

abbrev pub function_walk : Option ℕ → Function → Ports → Walk Ports
function_walk bound f ports env =
    after (result_type f.specs env)
    (λ result env. after (free_name f.name env)
    (λ _ env. after (entry_result f.name result env) (λ _ env. function_rest bound f result ports (begun f.name env))))

-- ---- external declarations (C11 6.9)

abbrev pub objects_walk : Declaration → Walk (Unit {0})
objects_walk declaration env = after (declaration_walk Static declaration env) (λ _ env. Passes tt env)

abbrev pub item_walk : Option ℕ → ExternalDeclaration → Ports → Walk Ports
item_walk bound (external.Typedef place specs name dimensions) ports env = after (typedef_walk specs name dimensions env) (λ _ env. Passes ports env)
item_walk bound (external.TagSpecifier tag) ports env = after (tag_alone tag env) (λ _ env. Passes ports env)
item_walk bound (external.Declaration fixed declaration) ports env = after (objects_walk declaration env) (λ _ env. Passes ports env)
item_walk bound (external.Function f) ports env = function_walk bound f ports env

-- ---- programs

abbrev pub nothing_declared : Environment
nothing_declared = record {
  names = outermost;
  entities = [];
  tag_names = outermost;
  tags = [];
  typedefs = [];
  structs = [];
  member_names = [];
  objects = [];
  functions = [];
  main_function = None;
  cells = 0;
}

abbrev pub most_visits : ℕ
most_visits = 2 ^ 20

-- the parts without their sizes
abbrev pub unsized : Environment → ℕ → List Port → Shape → TypedParts
unsized env main ports result = record {
  structs = env.structs;
  objects = env.objects;
  functions = env.functions;
  main_function = main;
  ports = ports;
  result = result;
  cells = env.cells;
  visits = 0;
  nodes = 0;
  gates = 0;
}

abbrev pub sized : TypedParts → TypedParts
sized parts = record parts {
  visits = saturated (program_size parts).visits;
  nodes = saturated (program_size parts).nodes;
  gates = saturated (program_size parts).gates;
}

-- the statements that are visited are few
abbrev pub few_visits : Place → TypedParts → Result TypedParts TypeFault
few_visits place parts = if nat_le parts.visits most_visits then Ok parts else Err (record { kind = Unroll; place = place })

-- the parts where the result's shape is known, of an entry at the place
abbrev pub shaped : Place → Environment → ℕ → List Port → Option Shape → Result TypedParts TypeFault
shaped place env main ports None = Err (record { kind = NoEntry; place = place })
shaped place env main ports (Some result) = few_visits place (sized (unsized env main ports result))

abbrev pub entered_at : Place → Environment → ℕ → List Port → Option TypedFunction → Result TypedParts TypeFault
entered_at end env main ports None = Err (record { kind = NoEntry; place = end })
entered_at end env main ports (Some f) = shaped f.place env main ports (shape_of (struct_shapes env.structs) f.result)

-- C11 5.1.2.2: without `mpc_main` there is no program
abbrev pub entered : Place → Environment → Option ℕ → Ports → Result TypedParts TypeFault
entered end env None ports = Err (record { kind = NoEntry; place = end })
entered end env (Some main) None = Err (record { kind = NoEntry; place = end })
entered end env (Some main) (Some ports) = entered_at end env main ports (slice_get env.functions main)

abbrev pub finished : Place → Checked Ports → Result TypedParts TypeFault
finished end (Breaks kind place) = Err (record { kind = kind; place = place })
finished end (Passes ports env) = entered end env env.main_function ports

-- the typed program's parts, where `bound` is that of loops that have none of their own; or the first rule that is broken
abbrev pub typing_of : ProgramTree → Option ℕ → Result TypedParts TypeFault
typing_of program bound = finished program.end (along (map (item_walk bound) program.items) None nothing_declared)

-- ---- what the code answers

-- where memory ran out nothing is told
abbrev pub tells_failure : TypeKind → TypeFault → Result TypedParts TypeFault → Type 0
tells_failure Memory fault typing = Unit {0}
tells_failure kind fault typing = typing ≡ Err fault

abbrev pub tells_parts : Result TypedParts TypeFault → Result TypedParts TypeFault → Type 0
tells_parts (Ok parts) typing = typing ≡ Ok parts
tells_parts (Err fault) typing = tells_failure fault.kind fault typing

-- Parameters (C11 6.7.6.3, 6.9.1): the objects that they declare, and the ports of those of `mpc_main`; or the first rule that is broken.
use Rattle.std.specs.Prelude.{ℕ, Bool, true, false, nat_le, if◌then◌else◌, is_none, Option, None, Some, List, [], ◌∷◌, ◌++◌, map}
use Rattle.hy_bits.specs.declared.shape.Port.{Port}
use Rattle.hy_bits.specs.declared.turns.Role.{Role}
use Rattle.c_tree.specs.declared.expressions.Identifier.{Identifier}
use Rattle.c_tree.specs.declared.expressions.Dimension.{Dimension}
use Rattle.c_tree.specs.declared.expressions.Expr.TheViews.{out-Dimension}
use Rattle.c_tree.specs.declared.statements.Pointer.{Pointer}
use Rattle.c_tree.specs.declared.programs.Parameter.{Parameter}
use Rattle.c_tree.specs.declared.programs.Parameters.{Parameters}
use Rattle.c_tree.specs.declared.programs.Parameters.TheVariants as parameters
use Rattle.c_meaning.specs.declared.types.CType.{CType, out-CType}
use Rattle.c_meaning.specs.declared.types.CType.TheVariants as ctype
use Rattle.c_meaning.specs.declared.types.CType.TheOpen.{CType-F}
use Rattle.c_meaning.specs.declared.types.Qualifier.{Qualifier}
use Rattle.c_meaning.specs.declared.types.Qualifier.TheVariants.{Unqualified}
use Rattle.c_meaning.specs.Types.{shape_of, struct_shapes}
use Rattle.c_meaning.specs.StatementRules.{most_cells, party_of}
use Rattle.c_conversions.specs.declared.fault.TypeKind.TheVariants.{NoEntry, Cells}
use Rattle.c_conversions.specs.CTypes.{counted_cells}
use Rattle.c_typing.specs.declared.environment.QualifiedType.{QualifiedType}
use Rattle.c_typing.specs.Walks.{Breaks, Passes, Walk, after, unless_none, along}
use Rattle.c_typing.specs.Specifiers.{object_type}
use Rattle.c_expressions.specs.Typing.{types_specs}
use Rattle.c_objects.specs.Objects.{dimensioned_where, pointer_form, pointed, free_name, object_of, counted_more, with_object, new_object}
use Rattle.c_programs.specs.declared.parameters.Head.{Head}

-- ---- the type of a parameter (C11 6.7.6.3p7)

-- the cells of the type are few
abbrev pub few_cells : Identifier → CType → Walk (Unit {0})
few_cells name c env = if nat_le (counted_cells env.structs c) most_cells then Passes tt env else Breaks Cells name.place

-- an array is adjusted to a pointer to its elements, const where the declaration is
abbrev pub layer_adjusted : Identifier → CType → Qualifier → CType-F CType → Walk QualifiedType
layer_adjusted name c qualifier (CType-F.Array count element) env =
    after (few_cells name element env) (λ _ env. Passes (record { ctype = ctype.Pointer qualifier element; qualifier = Unqualified }) env)
layer_adjusted name c qualifier other env = Passes (record { ctype = c; qualifier = qualifier }) env

abbrev pub adjusted : Identifier → Option Pointer → CType → Qualifier → Walk QualifiedType
adjusted name None c qualifier env = layer_adjusted name c qualifier (out-CType c) env
adjusted name (Some pointer) c qualifier env = Passes (pointed (Some pointer) c qualifier) env

-- ---- parameters of `mpc_main`

-- the first dimension is empty
abbrev pub is_open : List Dimension → Bool
is_open [] = false
is_open (d ∷ ds) = is_none (out-Dimension d).size

-- a name that tells whose the parameter is, no pointer, and all dimensions
abbrev pub entry_role : Identifier → Option Pointer → List Dimension → Walk Role
entry_role name None dimensions env = if is_open dimensions then Breaks NoEntry name.place else unless_none NoEntry name.place (party_of name.text) (λ role env. Passes role env) env
entry_role name (Some pointer) dimensions env = Breaks NoEntry name.place

abbrev pub port_of : Identifier → Role → CType → Walk Port
port_of name role c env =
    unless_none NoEntry name.place (shape_of (struct_shapes env.structs) c)
    (λ shape env. Passes (record { role = role; name = name.text; shape = shape }) env) env

-- an object that no name stands for
abbrev pub nameless : Identifier → CType → Qualifier → Walk (Unit {0})
nameless name c qualifier env =
    counted_more name (counted_cells env.structs c)
    (with_object (object_of name (record { ctype = c; qualifier = qualifier }) (counted_cells env.structs c) None) env)

-- an array is an object of its own, after the parameter that points to it
abbrev pub layer_own_array : Identifier → CType → Qualifier → CType-F CType → Walk (Unit {0})
layer_own_array name c qualifier (CType-F.Array count element) env = nameless name c qualifier env
layer_own_array name c qualifier other env = Passes tt env

abbrev pub own_array : Identifier → CType → Qualifier → Walk (Unit {0})
own_array name c qualifier env = layer_own_array name c qualifier (out-CType c) env

-- ---- one parameter

abbrev pub with_parameter : ℕ → Head → Head
with_parameter k head = record { parameters = head.parameters ++ k ∷ []; ports = head.ports }

abbrev pub with_port : Port → Head → Head
with_port port head = record { parameters = head.parameters; ports = head.ports ++ port ∷ [] }

-- a parameter of the type as it is written
abbrev pub plain_parameter : Parameter → Qualifier → CType → Head → Walk Head
plain_parameter p qualifier full head env =
    after (adjusted p.name p.pointer full qualifier env)
    (λ own env. after (new_object p.name own env) (λ k env. Passes (with_parameter k head) env))

-- what its name and its form say is told before its cells
abbrev pub entry_parameter : Parameter → Qualifier → CType → Head → Walk Head
entry_parameter p qualifier full head env =
    after (entry_role p.name p.pointer p.dimensions env)
    (λ role env. after (plain_parameter p qualifier full head env)
    (λ head env. after (port_of p.name role full env)
    (λ port env. after (own_array p.name full qualifier env) (λ _ env. Passes (with_port port head) env))))

abbrev pub parameter_in : Bool → Parameter → Qualifier → CType → Head → Walk Head
parameter_in true = entry_parameter
parameter_in false = plain_parameter

-- a parameter of `mpc_main`, or of another function
abbrev pub parameter_of : Bool → Parameter → Head → Walk Head
parameter_of is_entry p head env =
    after ((types_specs p.specs).walk env)
    (λ q env. after (object_type (types_specs p.specs).place q env)
    (λ q env. after (pointer_form p.pointer p.dimensions env)
    (λ _ env. after (free_name p.name env)
    (λ _ env. after (dimensioned_where (Some 1) p.dimensions q.ctype env) (λ full env. parameter_in is_entry p q.qualifier full head env)))))

abbrev pub no_parameters : Head
no_parameters = record { parameters = []; ports = [] }

abbrev pub head_of : Bool → Parameters → Walk Head
head_of is_entry parameters.Nothing env = Passes no_parameters env
head_of is_entry (parameters.Void place) env = Passes no_parameters env
head_of is_entry (parameters.List list) env = along (map (parameter_of is_entry) list) no_parameters env

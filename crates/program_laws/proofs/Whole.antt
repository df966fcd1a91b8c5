-- Programs (C11 6.9): where the typing of a program passes, its parts keep the rules of typed programs but those of ports.
use Rattle.std.proofs.Common.{◌≡◌, ◌&&◌, ℕ, suc, nat_le, Bool, true, false, if◌then◌else◌, Option, None, Some, Result, Ok, Err, List, [], ◌∷◌, map, length, slice_get, subst, refl, arith}
use Rattle.hy_bits.specs.declared.shape.Port.{Port}
use Rattle.hy_bits.specs.declared.shape.Shape.{Shape}
use Rattle.c_tree.specs.declared.token.Place.{Place}
use Rattle.c_tree.specs.declared.programs.ExternalDeclaration.{ExternalDeclaration}
use Rattle.c_tree.specs.Programs.{ProgramTree}
use Rattle.c_meaning.specs.declared.types.CType.{CType, out-CType}
use Rattle.c_meaning.specs.declared.types.CType.TheOpen.{CType-F}
use Rattle.c_meaning.specs.declared.types.Object.{Object}
use Rattle.c_meaning.specs.declared.types.StructType.{StructType}
use Rattle.c_meaning.specs.declared.programs.TypedFunction.{TypedFunction}
use Rattle.c_meaning.specs.declared.typed.TypedParts.{TypedParts}
use Rattle.c_meaning.specs.Types.{shape_of, struct_shapes}
use Rattle.c_meaning.specs.StatementRules.{IsObject, ObjectsFit, layer_is_object}
use Rattle.c_conversions.specs.declared.fault.TypeFault.{TypeFault}
use Rattle.c_typing.specs.declared.environment.Environment.{Environment}
use Rattle.c_typing.specs.Walks.{Checked, Breaks, Passes, along}
use Rattle.c_programs.specs.Programs.{Ports, item_walk, nothing_declared, most_visits, unsized, sized, shaped, entered_at, entered, finished, typing_of}
use Rattle.typing_laws.specs.Values.{layer_is_place}
use Rattle.typing_laws.specs.Passing.{Passing}
use Rattle.typing_laws.proofs.Environments.{grows-refl}
use Rattle.typing_laws.proofs.Postfix.{passing-after}
use Rattle.source_laws.specs.Spelled.{every}
use Rattle.body_laws.proofs.Bounds.{FewWhere}
use Rattle.marking_laws.specs.Marks.{IsDeclared}
use Rattle.program_laws.specs.Programs.{is_spelled_external, is_spelled_program, IsTypedBut}
use Rattle.program_laws.proofs.Functions.{IsGood, GoodAfter}
use Rattle.program_laws.proofs.Externals.{external-passing}

both : (a b : Bool) → (a && b) ≡ true → (a ≡ true) × (b ≡ true)
both true b h = (refl, h)
both false b h = absurd (cc)

-- ---- external declarations one after another

items-passing : (bound : Option ℕ) (items : List ExternalDeclaration) (ports : Ports) (env : Environment) → FewWhere bound → every (map is_spelled_external items) ≡ true → IsGood env → IsDeclared env
    → Passing GoodAfter (along (map (item_walk bound) items) ports env)
items-passing bound [] ports env few h good declared = (good, declared)
items-passing bound (x ∷ items) ports env few h good declared =
    let b = both (is_spelled_external x) (every (map is_spelled_external items)) h in
    passing-after GoodAfter GoodAfter (item_walk bound x ports env) (λ ports env. along (map (item_walk bound) items) ports env) (external-passing bound x ports env few b.0 good declared)
    (λ ports new g. items-passing bound items ports new few b.1 g.0 g.1)

nothing-good : IsGood nothing_declared
nothing-good = record {
  well = record {
    structs = tt;
    objects = λ k o e. absurd (cc);
    typedefs = λ k q e. absurd (cc);
    functions = λ k f e. absurd (cc);
    tags = λ k number e. absurd (cc);
    starts = λ k o e. absurd (cc);
    cells = refl;
    few = omega arith;
    enumerators = λ k w e. absurd (cc);
  };
  functions = λ structs objects gs go. tt;
  named = tt;
  bound = λ name c. absurd (omega (arith, c.1));
  outer = refl;
}

nothing-is-declared : IsDeclared nothing_declared
nothing-is-declared = record {
  numbers = tt;
  within = λ i k e. absurd (cc);
  apart = λ i j k e f. absurd (cc);
}

-- ---- objects

object-layer : (structs : List StructType) (c : CType) (y : CType-F CType) → layer_is_place structs c y → layer_is_object (length structs) c y ≡ true
object-layer structs c CType-F.Void h = h.0
object-layer structs c (CType-F.Int t) h = h.0
object-layer structs c (CType-F.Array count element) h = h.0
object-layer structs c (CType-F.Struct number) h = h.0
object-layer structs c (CType-F.Pointer q to) h = h.0

objects-fit : (structs : List StructType) (objects : List Object) → ((k : ℕ) (o : Object) → slice_get objects k ≡ Some o → IsObject structs o) → ObjectsFit structs objects
objects-fit structs [] h = tt
objects-fit structs (o ∷ objects) h = (h 0 o refl, objects-fit structs objects (λ k x e. h (suc k) x e))

-- ---- the end

module _ (env : Environment) (good : IsGood env) where
  object-is : (k : ℕ) (o : Object) → slice_get env.objects k ≡ Some o → IsObject env.structs o
  object-is k o e = record {
    typed = object-layer env.structs o.ctype (out-CType o.ctype) (good.well.objects k o e);
    cells = (good.well.starts k o e).0;
    start = (good.well.starts k o e).1;
  }

  typed-but : (main : ℕ) (ports : List Port) (f : TypedFunction) (result : Shape) → slice_get env.functions main ≡ Some f → shape_of (struct_shapes env.structs) f.result ≡ Some result → IsTypedBut (sized (unsized env main ports result))
  typed-but main ports f result found is = record {
    structs = good.well.structs;
    objects = objects-fit env.structs env.objects object-is;
    functions = good.functions env.structs env.objects (grows-refl env.structs) (grows-refl env.objects);
    main = (f, found, is);
    regions = good.named;
    cells = good.well.cells;
    few = good.well.few;
    visits = refl;
    nodes = refl;
    gates = refl;
  }

  visits-by : (fault : TypeFault) (made parts : TypedParts) (b : Bool) → ◌≡◌ {A = Result TypedParts TypeFault} (if b then Ok made else Err fault) (Ok parts) → made ≡ parts
  visits-by fault made parts true h = cc
  visits-by fault made parts false h = absurd (cc)

  shaped-by : (main : ℕ) (ports : List Port) (f : TypedFunction) (o : Option Shape) (parts : TypedParts) → slice_get env.functions main ≡ Some f → shape_of (struct_shapes env.structs) f.result ≡ o
      → shaped f.place env main ports o ≡ Ok parts → IsTypedBut parts
  shaped-by main ports f None parts found is h = absurd (cc)
  shaped-by main ports f (Some result) parts found is h =
      subst IsTypedBut (visits-by _ (sized (unsized env main ports result)) parts (nat_le (sized (unsized env main ports result)).visits most_visits) h) (typed-but main ports f result found is)

  entered-by : (end : Place) (main : ℕ) (ports : List Port) (o : Option TypedFunction) (parts : TypedParts) → slice_get env.functions main ≡ o → entered_at end env main ports o ≡ Ok parts → IsTypedBut parts
  entered-by end main ports None parts found h = absurd (cc)
  entered-by end main ports (Some f) parts found h = shaped-by main ports f (shape_of (struct_shapes env.structs) f.result) parts found refl h

  entry-by : (end : Place) (main : Option ℕ) (ports : Ports) (parts : TypedParts) → entered end env main ports ≡ Ok parts → IsTypedBut parts
  entry-by end None ports parts h = absurd (cc)
  entry-by end (Some main) None parts h = absurd (cc)
  entry-by end (Some main) (Some ports) parts h = entered-by end main ports (slice_get env.functions main) parts refl h

finished-by : (end : Place) (c : Checked Ports) (parts : TypedParts) → Passing GoodAfter c → finished end c ≡ Ok parts → IsTypedBut parts
finished-by end (Breaks kind place) parts good h = absurd (cc)
finished-by end (Passes ports env) parts good h = entry-by env good.0 end env.main_function ports parts h

-- where a program that is spelled is typed, with a few turns for loops that have no bound of their own, its parts keep the rules of typed programs but
-- those of ports
pub program-typed : (program : ProgramTree) (bound : Option ℕ) (parts : TypedParts) → is_spelled_program program ≡ true → FewWhere bound → typing_of program bound ≡ Ok parts → IsTypedBut parts
program-typed program bound parts h few typed =
    finished-by program.end (along (map (item_walk bound) program.items) None nothing_declared) parts (items-passing bound program.items None nothing_declared few h nothing-good nothing-is-declared) typed

-- A walk that breaks ends the typing of a program.
use Rattle.std.proofs.Common.{◌≡◌, ℕ, Option, Some, Result, List, slice_get, ap, sym, subst, ◌∙◌}
use Rattle.hy_bits.specs.declared.shape.Port.{Port}
use Rattle.hy_bits.specs.declared.shape.Shape.{Shape}
use Rattle.c_tree.specs.declared.token.Place.{Place}
use Rattle.c_meaning.specs.declared.programs.TypedFunction.{TypedFunction}
use Rattle.c_meaning.specs.declared.typed.TypedParts.{TypedParts}
use Rattle.c_meaning.specs.Types.{shape_of, struct_shapes}
use Rattle.c_conversions.specs.declared.fault.TypeFault.{TypeFault}
use Rattle.c_conversions.specs.declared.fault.TypeKind.{TypeKind}
use Rattle.c_conversions.specs.declared.fault.TypeKind.TheVariants as kind
use Rattle.c_typing.specs.declared.environment.Environment.{Environment}
use Rattle.c_typing.specs.Walks.{Checked, tells_fault}
use Rattle.c_programs.specs.Programs.{Ports, finished, entered, entered_at, shaped, tells_failure, tells_parts}

pub tells_finished : (k : TypeKind) (place end : Place) (c : Checked Ports) → tells_fault k place c → tells_failure k (record { kind = k; place = place }) (finished end c)
tells_finished kind.Unknown place end c h = ap (λ (x : Checked Ports). finished end x) h
tells_finished kind.Twice place end c h = ap (λ (x : Checked Ports). finished end x) h
tells_finished kind.Mismatch place end c h = ap (λ (x : Checked Ports). finished end x) h
tells_finished kind.NotConstant place end c h = ap (λ (x : Checked Ports). finished end x) h
tells_finished kind.NoBound place end c h = ap (λ (x : Checked Ports). finished end x) h
tells_finished kind.Recursion place end c h = ap (λ (x : Checked Ports). finished end x) h
tells_finished kind.PointerForm place end c h = ap (λ (x : Checked Ports). finished end x) h
tells_finished kind.NoEntry place end c h = ap (λ (x : Checked Ports). finished end x) h
tells_finished kind.Cells place end c h = ap (λ (x : Checked Ports). finished end x) h
tells_finished kind.Unroll place end c h = ap (λ (x : Checked Ports). finished end x) h
tells_finished kind.Memory place end c h = tt

-- an entry that stands, by the shape of its result
pub entered_is : (end : Place) (env : Environment) (m : Option ℕ) (ps : Ports) (main : ℕ) (ports : List Port) (f : TypedFunction) (shape : Option Shape) (r : Result TypedParts TypeFault)
    → m ≡ Some main → ps ≡ Some ports → slice_get env.functions main ≡ Some f → shape ≡ shape_of (struct_shapes env.structs) f.result
    → tells_parts r (shaped f.place env main ports shape) → tells_parts r (entered end env m ps)
entered_is end env m ps main ports f shape r of_main of_ports stands is tells =
    subst (λ (t : Result TypedParts TypeFault). tells_parts r t)
    (sym (ap (λ (m : Option ℕ). entered end env m ps) of_main
    ∙ ap (λ (ps : Ports). entered end env (Some main) ps) of_ports
    ∙ ap (λ (found : Option TypedFunction). entered_at end env main ports found) stands
    ∙ ap (λ (shape : Option Shape). shaped f.place env main ports shape) (sym is)))
    tells

-- Walks that break, and what follows walks that pass.
use Rattle.std.proofs.Common.{◌≡◌, List, [], ◌∷◌, ◌++◌, ap, sym, subst, ◌∙◌, refl}
use Rattle.c_tree.specs.declared.token.Place.{Place}
use Rattle.c_conversions.specs.declared.fault.TypeKind.{TypeKind}
use Rattle.c_conversions.specs.declared.fault.TypeKind.TheVariants as kind
use Rattle.c_typing.specs.Walks.{Checked, Breaks, Passes, Walk, after, tells_fault}

-- a walk that breaks ends what would follow it
pub tells_after : {A B : Type 0} (k : TypeKind) (place : Place) (c : Checked A) (next : A → Walk B) → tells_fault k place c → tells_fault k place (after c next)
tells_after kind.Unknown place c next h = ap (λ (x : Checked _). after x next) h
tells_after kind.Twice place c next h = ap (λ (x : Checked _). after x next) h
tells_after kind.Mismatch place c next h = ap (λ (x : Checked _). after x next) h
tells_after kind.NotConstant place c next h = ap (λ (x : Checked _). after x next) h
tells_after kind.NoBound place c next h = ap (λ (x : Checked _). after x next) h
tells_after kind.Recursion place c next h = ap (λ (x : Checked _). after x next) h
tells_after kind.PointerForm place c next h = ap (λ (x : Checked _). after x next) h
tells_after kind.NoEntry place c next h = ap (λ (x : Checked _). after x next) h
tells_after kind.Cells place c next h = ap (λ (x : Checked _). after x next) h
tells_after kind.Unroll place c next h = ap (λ (x : Checked _). after x next) h
tells_after kind.Memory place c next h = tt

-- the same fault of an equal walk
pub tells_same : {A : Type 0} (k : TypeKind) (place : Place) (c d : Checked A) → c ≡ d → tells_fault k place d → tells_fault k place c
tells_same k place c d is h = subst (tells_fault k place) (sym is) h

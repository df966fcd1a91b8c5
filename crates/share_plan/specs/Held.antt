-- Where the words of nodes stand, in each sharing that they are held in.
use Rattle.std.specs.Prelude.{ℕ, List, get_or, slice_set, Option, None, Some, unwrap_or}
use Rattle.choice_core.specs.declared.sharings.Sharing.{Sharing}
use Rattle.choice_core.specs.declared.sharings.Sharing.TheVariants.{Arithmetic, Boolean, Yao}
use Rattle.share_plan.specs.declared.held.Held.{Held}
use Rattle.plan_script.specs.Script.{Made, Script}

abbrev pub not_held : Held
not_held = record { arithmetic = None; boolean = None; yao = None; maker = None }

abbrev pub held_at : List Held → ℕ → Held
held_at held node = get_or held node not_held

-- where the word stands in a sharing
abbrev pub held_in : Sharing → Held → Option ℕ
held_in Arithmetic h = h.arithmetic
held_in Boolean h = h.boolean
held_in Yao h = h.yao

abbrev pub place_in : Sharing → Held → ℕ
place_in sharing h = unwrap_or (held_in sharing h) 0

-- held in a sharing too
abbrev pub hold_in : Sharing → ℕ → Held → Held
hold_in Arithmetic at h = record h { arithmetic = Some at }
hold_in Boolean at h = record h { boolean = Some at }
hold_in Yao at h = record h { yao = Some at }

-- made by a module in a sharing
abbrev pub make_in : Sharing → ℕ → Held → Held
make_in sharing at h = record (hold_in sharing at h) { maker = Some sharing }

-- a list of instructions, and where it has the words of the nodes
pub record Work : Type 0 where
  pub script : Script
  pub held : List Held

-- the word of a node, made last, is held in the sharing
abbrev pub holding : Sharing → (node : ℕ) → List Held → Made → Work
holding sharing node held m = record { script = m.script; held = slice_set held node (hold_in sharing m.at (held_at held node)) }

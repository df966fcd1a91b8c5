use Rattle.std.proofs.Common.{◌≡◌, ◌∷◌, ◌||◌, ◌+◌, Bool, if◌then◌else◌, refl, drop, sym, ap, ◌∙◌, List, subst, arith, rules}
use denote.Enum.Bare.{sameb}
use Rattle.hy_bits.specs.contracts.turns.Role.{the_type}
use Rattle.hy_bits.specs.declared.turns.Role.{Role}
use Rattle.hy_bits.specs.declared.turns.Role.TheVariants.{P0, P1}
use Rattle.hy_bits.specs.declared.shape.Port.{Port}
use Rattle.json_values.specs.Names.{holds}
use Rattle.json_values.specs.Walk.{is_among}
use Rattle.hy_bits.specs.Ports.{is_of}
use Rattle.json_values.specs.File.{names_of_role}
use Rattle.json_values.proofs.Sets.{inserted, port_there}
use Rattle.json_values.proofs.file.port_names.Goals as goal
use Rattle.json_values.proofs.file.port_names.Goals.{then-eq+in_ok-insert, else-eq}

is_of_same : (a b : Role) → sameb the_type a b ≡ is_of b a
is_of_same P0 P0 = refl
is_of_same P0 P1 = refl
is_of_same P1 P0 = refl
is_of_same P1 P1 = refl

pub loop-port-preserved : goal.loop-port-preserved
loop-port-preserved c = λ name.
    let ports = c.args.ports.now in
    let i = c.loop-port.port-index in
    let port = c.port-item.result in
    let whole = is_among name (names_of_role c.args.role ports) in
    let left = λ (ps : List Port). (holds name c.loop-port.names || is_among name (names_of_role c.args.role ps)) ≡ whole in
    let now = subst left (port_there ports i port (search (rules, arith)) c.port-item.is) (c.loop-port.invariant name) in
    let rest = names_of_role c.args.role (drop (i + 1) ports) in
    let own = λ (own : Bool). (holds name c.loop-port.names || is_among name (if own then port.name ∷ rest else rest)) ≡ whole in
    elim c.if-eq.branch [
      | then-eq+in_ok-insert w ↦
          ap (λ set. holds name set || is_among name rest) w.names-is
          ∙ inserted c.loop-port.names w.insert.new.self w.as_bytes.result rest whole name w.in_ok-insert.ensures.updates
          (subst (λ key. (holds name c.loop-port.names || is_among name (key ∷ rest)) ≡ whole) (sym w.as_bytes.ensures) (subst own (sym (is_of_same port.role c.args.role) ∙ sym w.if-eq.ensures) now))
      | else-eq w ↦
          ap (λ set. holds name set || is_among name rest) w.names-is
          ∙ subst own (sym (is_of_same port.role c.args.role) ∙ sym w.if-eq.ensures) now
    ]

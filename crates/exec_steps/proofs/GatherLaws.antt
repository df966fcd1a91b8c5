-- Ways that are gathered of two statements.
use Rattle.std.proofs.Common.{◌≡◌, ℕ, ◌+◌, ◌-◌, ◌*◌, List, refl, ap, ◌∙◌}
use Rattle.hy_bits.specs.declared.width.Width.TheVariants.{W1}
use Rattle.word_graph.specs.declared.entry.Node.{Node}
use Rattle.word_graph.specs.Meaning.{InputsFit}
use Rattle.word_nodes.specs.Nodes.{IsOfTwo, Stands, worth}
use Rattle.word_nodes.proofs.NodeLaws.{Extends-inputs, Stands-later, worth-later}
use Rattle.exec_state.specs.Leave.{exits_either, exits_then}
use Rattle.exec_steps.specs.declared.running.Running.{Running}
use Rattle.exec_steps.specs.declared.ways.Ways.{Ways}
use Rattle.exec_steps.specs.Running.{OnlyGrows}
use Rattle.exec_steps.specs.Ways.{WaysStand, exits_at}

abbrev either_of : ℕ → ℕ → ℕ
either_of x y = x + y - x * y

module _ (region : ℕ) (old one two new : Running) (first next : Ways) (b c r : Node) (s : WaysStand old.graph first) (t : WaysStand old.graph next)
    (f : OnlyGrows region old one) (g : OnlyGrows region one two) (h : OnlyGrows region two new) (sb : Stands one.graph W1 b) (sc : Stands two.graph W1 c) (sr : Stands new.graph W1 r) where
  abbrev all : Ways
  all = record { normal = next.normal; breaks = b; continues = c; returns = r }

  at_two : (n : Node) → Stands old.graph W1 n → Stands two.graph W1 n
  at_two n is = Stands-later g.extends W1 n (Stands-later f.extends W1 n is)

  pub gathered_stand : WaysStand new.graph (record { normal = next.normal; breaks = b; continues = c; returns = r })
  gathered_stand = record {
    normal = Stands-later h.extends W1 next.normal (at_two next.normal t.normal);
    breaks = Stands-later h.extends W1 b (Stands-later g.extends W1 b sb);
    continues = Stands-later h.extends W1 c sc;
    returns = sr;
  }

  pub gathered_exits : IsOfTwo either_of old.graph one.graph first.breaks next.breaks b → IsOfTwo either_of one.graph two.graph first.continues next.continues c → IsOfTwo either_of two.graph new.graph first.returns next.returns r →
      (ins : List ℕ) → InputsFit old.graph ins → exits_at new.graph ins (record { normal = next.normal; breaks = b; continues = c; returns = r }) ≡ exits_then (exits_at old.graph ins first) (exits_at old.graph ins next)
  gathered_exits is_b is_c is_r ins fit =
      let fit_one = Extends-inputs f.extends ins fit in
      let fit_two = Extends-inputs g.extends ins fit_one in
      let normal : worth new.graph ins next.normal ≡ worth old.graph ins next.normal =
      worth-later h.extends ins next.normal (at_two next.normal t.normal).within ∙ worth-later g.extends ins next.normal (Stands-later f.extends W1 next.normal t.normal).within ∙ worth-later f.extends ins next.normal t.normal.within in
      let breaks : worth new.graph ins b ≡ either_of (worth old.graph ins first.breaks) (worth old.graph ins next.breaks) =
      worth-later h.extends ins b (Stands-later g.extends W1 b sb).within ∙ worth-later g.extends ins b sb.within ∙ is_b ins fit in
      let continues : worth new.graph ins c ≡ either_of (worth old.graph ins first.continues) (worth old.graph ins next.continues) =
      worth-later h.extends ins c sc.within ∙ is_c ins fit_one
      ∙ ap (λ (n : ℕ). either_of n (worth one.graph ins next.continues)) (worth-later f.extends ins first.continues s.continues.within)
      ∙ ap (λ (n : ℕ). either_of (worth old.graph ins first.continues) n) (worth-later f.extends ins next.continues t.continues.within) in
      let of_two : (n : Node) → Stands old.graph W1 n → worth two.graph ins n ≡ worth old.graph ins n =
      λ n is. worth-later g.extends ins n (Stands-later f.extends W1 n is).within ∙ worth-later f.extends ins n is.within in
      let returns : worth new.graph ins r ≡ either_of (worth old.graph ins first.returns) (worth old.graph ins next.returns) =
      is_r ins fit_two
      ∙ ap (λ (n : ℕ). either_of n (worth two.graph ins next.returns)) (of_two first.returns s.returns)
      ∙ ap (λ (n : ℕ). either_of (worth old.graph ins first.returns) n) (of_two next.returns t.returns) in
      rw (normal, breaks, continues, returns) refl

-- of two statements of which one runs: the ways of jumps, and the guard of the normal end
module _ (region : ℕ) (old mid new : Running) (first second jumps : Ways) (n : Node) (s : WaysStand old.graph first) (t : WaysStand old.graph second) (f : OnlyGrows region old mid) (g : OnlyGrows region mid new) (sj : WaysStand mid.graph jumps) (sn : Stands new.graph W1 n) where
  pub either_stand : WaysStand new.graph (record { normal = n; breaks = jumps.breaks; continues = jumps.continues; returns = jumps.returns })
  either_stand = record {
    normal = sn;
    breaks = Stands-later g.extends W1 jumps.breaks sj.breaks;
    continues = Stands-later g.extends W1 jumps.continues sj.continues;
    returns = Stands-later g.extends W1 jumps.returns sj.returns;
  }

  pub either_exits : ((ins : List ℕ) → InputsFit old.graph ins → exits_at mid.graph ins jumps ≡ exits_then (exits_at old.graph ins first) (exits_at old.graph ins second)) → IsOfTwo either_of mid.graph new.graph first.normal second.normal n →
      (ins : List ℕ) → InputsFit old.graph ins → exits_at new.graph ins (record { normal = n; breaks = jumps.breaks; continues = jumps.continues; returns = jumps.returns }) ≡ exits_either (exits_at old.graph ins first) (exits_at old.graph ins second)
  either_exits is_j is_n ins fit =
      let j = is_j ins fit in
      let normal : worth new.graph ins n ≡ either_of (worth old.graph ins first.normal) (worth old.graph ins second.normal) =
      is_n ins (Extends-inputs f.extends ins fit)
      ∙ ap (λ (k : ℕ). either_of k (worth mid.graph ins second.normal)) (worth-later f.extends ins first.normal s.normal.within)
      ∙ ap (λ (k : ℕ). either_of (worth old.graph ins first.normal) k) (worth-later f.extends ins second.normal t.normal.within) in
      let breaks = worth-later g.extends ins jumps.breaks sj.breaks.within ∙ ap (λ e. e.breaks) j in
      let continues = worth-later g.extends ins jumps.continues sj.continues.within ∙ ap (λ e. e.continues) j in
      let returns = worth-later g.extends ins jumps.returns sj.returns.within ∙ ap (λ e. e.returns) j in
      rw (normal, breaks, continues, returns) refl

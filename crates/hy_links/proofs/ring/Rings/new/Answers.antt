use Rattle.std.proofs.Common.{◌≡◌, ◌+◌, Some, refl, ◌∙◌, ap, arith, inl, inr}
use Rattle.std.proofs.lemmas.List.{length_push}
use Rattle.std.proofs.lemmas.Bool.{cases_eq}
use Rattle.hy_links.proofs.Places.{slice_get-push_before, slice_get-push_at, alone_same}
use Rattle.hy_links.proofs.ring.Rings.new.Goals as goal

pub loop-list-init : goal.loop-list-init
loop-list-init c = rw c.in_ok-heads.ensures.items (refl, λ i h. absurd (omega arith))

pub loop-list-preserved : goal.loop-list-preserved
loop-list-preserved c =
    rw c.in_ok-push.ensures.items (
      length_push c.loop-list.heads.items c.alone.result ∙ ap (λ n. n + 1) c.loop-list.invariant.0,
      λ i h. elim (cases_eq i c.loop-list.list) [
        | inl e ↦ rw e (slice_get-push_at c.loop-list.heads.items c.loop-list.list c.alone.result c.loop-list.invariant.0 ∙ ap Some (alone_same c.alone.result c.loop-list.list c.alone.ensures.before c.alone.ensures.after))
        | inr ne ↦ slice_get-push_before c.loop-list.heads.items i c.alone.result (omega arith) ∙ c.loop-list.invariant.1 i (omega arith)
      ],
    )

pub returns : goal.returns
returns c = let end : c.loop-list.list ≡ c.args.lists = omega arith in record {
  heads = c.loop-list.invariant.0 ∙ end;
  each = λ i h. c.loop-list.invariant.1 i (omega arith);
  links = c.new.ensures.items;
}

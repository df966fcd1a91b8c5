use Rattle.hy_bits.specs.declared.width.Width.TheVariants.{W1, W8, W16, W32, W64}
use Rattle.word_nodes.proofs.NodeLaws.{Extends-then}
use Rattle.c_place.proofs.BoardLaws.{IsZero-later}
use Rattle.place_start.proofs.StepLaws.{IsZero-made}
use Rattle.place_start.proofs.starting.make_zeros.Goals as goal

pub returns-in_err-w8-clause-extends : goal.returns-in_err-w8-clause-extends
returns-in_err-w8-clause-extends c = Extends-then _ _ _ _ (c.in_ok-w1.ensures.extends 0) (c.in_err-w8.ensures.extends 0)

pub returns-in_err-w16-clause-extends : goal.returns-in_err-w16-clause-extends
returns-in_err-w16-clause-extends c = Extends-then _ _ _ _ (Extends-then _ _ _ _ (c.in_ok-w1.ensures.extends 0) (c.in_ok-w8.ensures.extends 0)) (c.in_err-w16.ensures.extends 0)

pub returns-in_err-w32-clause-extends : goal.returns-in_err-w32-clause-extends
returns-in_err-w32-clause-extends c =
    Extends-then _ _ _ _ (Extends-then _ _ _ _ (Extends-then _ _ _ _ (c.in_ok-w1.ensures.extends 0) (c.in_ok-w8.ensures.extends 0)) (c.in_ok-w16.ensures.extends 0)) (c.in_err-w32.ensures.extends 0)

pub returns-in_err-w64-clause-extends : goal.returns-in_err-w64-clause-extends
returns-in_err-w64-clause-extends c =
    Extends-then _ _ _ _ (Extends-then _ _ _ _ (Extends-then _ _ _ _ (Extends-then _ _ _ _ (c.in_ok-w1.ensures.extends 0) (c.in_ok-w8.ensures.extends 0)) (c.in_ok-w16.ensures.extends 0)) (c.in_ok-w32.ensures.extends 0)) (c.in_err-w64.ensures.extends 0)

pub returns-clause-zeros : goal.returns-clause-zeros
returns-clause-zeros c =
    let f5 = c.in_ok-w64.ensures.extends 0 in
    let f4 = Extends-then _ _ _ _ (c.in_ok-w32.ensures.extends 0) f5 in
    let f3 = Extends-then _ _ _ _ (c.in_ok-w16.ensures.extends 0) f4 in
    let f2 = Extends-then _ _ _ _ (c.in_ok-w8.ensures.extends 0) f3 in
    record {
      w1 = IsZero-later f2 W1 _ (IsZero-made (c.in_ok-w1.ensures.extends 0) W1 _ c.in_ok-w1.ensures.stands c.in_ok-w1.ensures.value);
      w8 = IsZero-later f3 W8 _ (IsZero-made (c.in_ok-w8.ensures.extends 0) W8 _ c.in_ok-w8.ensures.stands c.in_ok-w8.ensures.value);
      w16 = IsZero-later f4 W16 _ (IsZero-made (c.in_ok-w16.ensures.extends 0) W16 _ c.in_ok-w16.ensures.stands c.in_ok-w16.ensures.value);
      w32 = IsZero-later f5 W32 _ (IsZero-made (c.in_ok-w32.ensures.extends 0) W32 _ c.in_ok-w32.ensures.stands c.in_ok-w32.ensures.value);
      w64 = IsZero-made f5 W64 _ c.in_ok-w64.ensures.stands c.in_ok-w64.ensures.value;
    }

pub returns-clause-extends : goal.returns-clause-extends
returns-clause-extends c =
    Extends-then _ _ _ _ (Extends-then _ _ _ _ (Extends-then _ _ _ _ (Extends-then _ _ _ _ (c.in_ok-w1.ensures.extends 0) (c.in_ok-w8.ensures.extends 0)) (c.in_ok-w16.ensures.extends 0)) (c.in_ok-w32.ensures.extends 0)) (c.in_ok-w64.ensures.extends 0)

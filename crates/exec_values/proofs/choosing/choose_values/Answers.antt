use Rattle.c_place.proofs.BoardLaws.{IsPointer-later}
use Rattle.exec_values.proofs.choosing.choose_values.Goals as goal

pub returns-in_ok-chosen-in-Pointer-clause-alike : goal.returns-in_ok-chosen-in-Pointer-clause-alike
returns-in_ok-chosen-in-Pointer-clause-alike c =
    (c.in_ok-chosen-in-Pointer.ensures.pointer, rw c.in-Pointer.is (IsPointer-later c.in_ok-chosen-in-Pointer.ensures.extends _ (rw c.in-Pointer.is at c.requires.alike).0))

-- Reading the frame that was written.
use Rattle.std.proofs.Common.{◌≡◌, ℕ, ◌+◌, ◌^◌, ◌<◌, ◌≤◌, List, ◌++◌, length, take, Result, Ok, Err, IsOk, refl, ap, subst, ◌∙◌, inl, inr, append_assoc, length-append, arith}
use Rattle.share_core.specs.declared.frames.FrameFault.{FrameFault}
use Rattle.share_core.specs.declared.frames.FrameFault.TheVariants.{Short, Kind, Length}
use Rattle.share_core.specs.Bytes.{bytes, number}
use Rattle.share_core.specs.Frames.{frame_of, announced, Announces, IsAnswer}
use Rattle.share_core.proofs.ByteLaws.{length-bytes, number-bytes, take_front}

-- where the head is as wanted and the payload stands whole, the answer is Ok
pub answer-ok : (frame : List ℕ) (kind payload : ℕ) (answer : Result (Unit {0}) FrameFault) → Announces frame kind payload → payload + 5 ≤ length frame → IsAnswer frame kind payload answer → IsOk answer
answer-ok frame kind payload (Ok u) head whole is = refl
answer-ok frame kind payload (Err Short) head whole is = elim is [ inl short ↦ absurd (omega arith) | inr short ↦ absurd (omega arith) ]
answer-ok frame kind payload (Err Kind) head whole is = absurd (is.1 head.1)
answer-ok frame kind payload (Err Length) head whole is = absurd (is.2 head.2)

pub announced-frame : (kind : ℕ) (payload rest : List ℕ) → length payload < 2 ^ 32 → announced (frame_of kind payload ++ rest) ≡ length payload
announced-frame kind payload rest short =
    let head : List ℕ = bytes 4 (length payload) in
    let below : length payload < 256 ^ 4 = omega arith in
    ap number (ap (λ (xs : List ℕ). take 4 xs) (append_assoc head payload rest) ∙ take_front 4 head (payload ++ rest) (length-bytes 4 (length payload))) ∙ number-bytes 4 (length payload) below

pub length-frame : (kind : ℕ) (payload rest : List ℕ) → length payload + 5 ≤ length (frame_of kind payload ++ rest)
length-frame kind payload rest =
    omega (arith, length-append (bytes 4 (length payload) ++ payload) rest, length-append (bytes 4 (length payload)) payload, length-bytes 4 (length payload))

pub frame-answer : (read : List ℕ) (kind wanted : ℕ) (answer : Result (Unit {0}) FrameFault) → wanted < 2 ^ 32 → IsAnswer read kind wanted answer → (payload rest : List ℕ) → read ≡ frame_of kind payload ++ rest → length payload ≡ wanted → IsOk answer
frame-answer read kind wanted answer small is payload rest same long =
    let short : length payload < 2 ^ 32 = omega arith in
    let whole : wanted + 5 ≤ length (frame_of kind payload ++ rest) = omega (arith, length-frame kind payload rest) in
    let head : Announces (frame_of kind payload ++ rest) kind wanted = (omega (arith, length-frame kind payload rest), refl, announced-frame kind payload rest short ∙ long) in
    answer-ok (frame_of kind payload ++ rest) kind wanted answer head whole (subst (λ (xs : List ℕ). IsAnswer xs kind wanted answer) same is)

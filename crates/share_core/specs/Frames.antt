-- Frames: the head of five bytes before each message.
use Rattle.std.specs.Prelude.{◌≡◌, ◌≢◌, ◌⊎◌, ℕ, ◌+◌, ◌<◌, ◌≤◌, List, ◌∷◌, ◌++◌, length, take, drop, slice_index, Result, Ok, Err}
use Rattle.share_core.specs.declared.frames.FrameFault.{FrameFault}
use Rattle.share_core.specs.declared.frames.FrameFault.TheVariants.{Short, Kind, Length}
use Rattle.share_core.specs.Bytes.{bytes, number}

-- the code of the instruction's kind in one byte, the length of the payload in four, lowest byte first, and the payload
abbrev pub frame_of : ℕ → List ℕ → List ℕ
frame_of kind payload = kind ∷ bytes 4 (length payload) ++ payload

-- ---- reading

-- the bytes hold a whole head
abbrev pub HasHead : List ℕ → Type 0
HasHead frame = 5 ≤ length frame

-- what the head says: the kind, and the number of bytes after the head
abbrev pub kind_of : List ℕ → ℕ
kind_of frame = slice_index frame 0

abbrev pub announced : List ℕ → ℕ
announced frame = number (take 4 (drop 1 frame))

-- the head says that this frame comes
abbrev pub Announces : List ℕ → ℕ → ℕ → Type 0
Announces frame kind payload = HasHead frame × (kind_of frame ≡ kind) × (announced frame ≡ payload)

-- the answer to bytes that are to begin with a frame of this kind with so many bytes of payload
abbrev pub IsAnswer : List ℕ → ℕ → ℕ → Result (Unit {0}) FrameFault → Type 0
IsAnswer frame kind payload (Ok _) = Announces frame kind payload × (payload + 5 ≤ length frame)
IsAnswer frame kind payload (Err Short) = (length frame < 5) ⊎ (Announces frame kind payload × (length frame < payload + 5))
IsAnswer frame kind payload (Err Kind) = HasHead frame × (kind_of frame ≢ kind)
IsAnswer frame kind payload (Err Length) = HasHead frame × (kind_of frame ≡ kind) × (announced frame ≢ payload)

-- A line in the making, and a text over an output.
use Rattle.std.specs.Prelude.{List, ◌++◌, ◌≡◌, ℕ, ◌-◌, ◌≤◌, length, take, drop, replicate}
use Rattle.std.proofs.Common.{arith, length-take-le, take-append-drop}

infixl 60 ◌▸◌
-- the most bytes of a line
abbrev pub room : ℕ
room = 160

-- a text more, as far as the line has room for it
unfoldable pub ◌▸◌ : List ℕ → List ℕ → List ℕ
l ▸ w = l ++ take (room - length l) w

-- the zeros after a text of n bytes
abbrev pub padding : ℕ → List ℕ
padding n = replicate (room - n) 0

-- the bytes of a line are a text of n bytes and zeros
pub record IsPadded (n : ℕ) (bytes : List ℕ) : Type 0 where
  pub whole : length bytes ≡ room
  pub within : n ≤ room
  pub padded : drop n bytes ≡ padding n

-- so the text says what they are
pub padded_whole : {A : Type 0} (f : List ℕ → ℕ → A) (n : ℕ) (bytes : List ℕ) → IsPadded n bytes
    → f (take n bytes ++ padding (length (take n bytes))) (length (take n bytes)) ≡ f bytes n
padded_whole f n bytes h =
    let long : length (take n bytes) ≡ n = length-take-le n bytes (omega (arith, h.whole, h.within)) in
    rw (long, ← h.padded, take-append-drop)

-- a text over the front of an output, as far as both go: how long the text is, and the output then
abbrev pub put_call : List ℕ → List ℕ → ℕ × List ℕ
put_call w out = (length w, take (length out) w ++ drop (length w) out)

-- w over the front of an output that has room for it: where w ends, and the output then
pub record Over (w out : List ℕ) (end : ℕ) (exit : List ℕ) : Type 0 where
  pub ends : end ≡ length w
  pub bytes : exit ≡ w ++ drop (length w) out
  pub within : end ≤ length exit
  pub kept : length exit ≡ length out

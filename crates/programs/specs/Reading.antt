-- What a read leaves in the buffer that is lent to it. The bytes counted come from the system, and no contract knows them.
use Rattle.std.specs.Prelude.{List, Option, Some, None, Result, Ok, Err, ◌≡◌, ℕ, ◌<◌, ◌≤◌, length, take, drop, IfSome}
use Rattle.std.specs.Io.KnownBytes.{Consumes, IsAtEnd}
use Rattle.standard.specs.Bytes.{zeros}
use Rattle.standard.specs.Sizes.{ring_size}
use Rattle.programs.specs.declared.ring_input.RingInput.{RingInput}

-- `&xs[..n]` lies within xs, and has n bytes
abbrev pub IsPrefixLen : ℕ → List ℕ → Type 0
IsPrefixLen n xs = (n ≤ length xs) × (n ≡ length (take n xs))

-- what came of it: nothing where it failed
abbrev pub counted : {A E : Type 0} → Result A E → Option A
counted (Ok x) = Some x
counted (Err e) = None

-- n bytes were read: after them the buffer is as it was
pub record Filled (n : ℕ) (buf exit : List ℕ) : Type 0 where
  pub counts : IsPrefixLen n exit
  pub rest : drop n exit ≡ drop n buf

-- pieces, one after the other; where a read fails no piece counts
abbrev pub Gathered : Option ℕ → List ℕ → List ℕ → Type 0
Gathered r buf exit = IfSome r (λ n. Filled n buf exit)

-- a read that fails counts no byte and leaves the whole buffer as it was
abbrev pub Read : Option ℕ → List ℕ → List ℕ → Type 0
Read (Some n) buf exit = Filled n buf exit
Read None buf exit = exit ≡ buf

-- a ring is read over zeros, as far as the file goes
abbrev pub RingRead : Option RingInput → Type 0
RingRead r = IfSome r (λ ring. Filled ring.len (zeros ring_size) ring.ring)

-- where a reader's bytes are known: the n counted are the first of those that were left, and none is left if they are fewer than there was room for
abbrev pub ReadToEnd : Option (List ℕ) → Option (List ℕ) → ℕ → List ℕ → ℕ → Type 0
ReadToEnd old new room exit n = Consumes old new (take n exit) × (n < room → IsAtEnd new)

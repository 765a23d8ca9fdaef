-- What goes through the expansions stays a string of bytes, for any groups.
use Rattle.standard.proofs.Prelude.{List, [], ◌∷◌, ℕ, zero, suc, ◌+◌, ◌<◌, arith}
use Rattle.standard.specs.Bytes.{◌!◌, ◌⊕◌, Bytes}
use Rattle.standard.specs.Expansions.{xor_on, grouped, ungrouped}
use Rattle.standard.proofs.XorLaws.{xor_byte}
use Rattle.standard.proofs.BytesLaws.{bytes_append, bytes_cons, bytes_nil, bytes_part}

-- how many bytes groups of these sizes have, without and with what is put in
abbrev pub plain : List ℕ → ℕ
plain [] = 0
plain (n ∷ ns) = n + plain ns

abbrev pub full : List ℕ → ℕ
full [] = 0
full (n ∷ ns) = n + suc (full ns)

module _ {m : ℕ} {xs : List ℕ} (h : Bytes m xs) where
  xor_on_byte : (acc from n : ℕ) → acc < 256 → xor_on acc from n xs < 256
  xor_on_byte acc from zero a = a
  xor_on_byte acc from (suc n) a = xor_on_byte (acc ⊕ xs ! from) (suc from) n (xor_byte acc (xs ! from) a (h.bound from))

  pub bytes_grouped : (ns : List ℕ) (from : ℕ) → Bytes (full ns) (grouped ns from xs)
  bytes_grouped [] from = bytes_nil
  bytes_grouped (n ∷ ns) from =
      bytes_append (bytes_part from n h) (bytes_cons (xor_on_byte 0 from n (omega arith)) (bytes_grouped ns (from + n)))

  pub bytes_ungrouped : (ns : List ℕ) (from : ℕ) → Bytes (plain ns) (ungrouped ns from xs)
  bytes_ungrouped [] from = bytes_nil
  bytes_ungrouped (n ∷ ns) from = bytes_append (bytes_part from n h) (bytes_ungrouped ns (suc (from + n)))

-- How many texts open: as many as there are legal bodies, which are numbered.
use Rattle.standard.proofs.Prelude.{◌≡◌, refl, ap, ◌∙◌, List, ℕ, ◌+◌, ◌*◌, ◌/◌, ◌%◌, ◌^◌, ◌<◌, arith, le-leb}
use mathlib.Core.Logic.Iff
use Rattle.standard.specs.Bytes.{◌!◌, part, bytes_of, number, Bytes}
use Rattle.standard.specs.Seals.{form_of, body_of}
use Rattle.standard.specs.declared.Algorithm.{Algorithm}
use Rattle.standard.specs.declared.Algorithm.TheVariants.{Ta31, Ta51, Ta81, Ta91}
use Rattle.standard.proofs.BytesLaws.{spell, bytes_of_lem, bytes_append, bytes_cons, bytes_one, bytes_part, bytes_zero}
use Rattle.standard.proofs.InverseLaws.{Inverse}
use Rattle.standard.proofs.SealLaws.{body31_zeros, body51_number}
use Rattle.claims.specs.Entries.{Count, Legal}
use Rattle.claims.specs.TrueClaims.{how_many, HowMany}
use Rattle.claims.proofs.EntryClaims.{entries}
use Rattle.claims.proofs.NumberLaws.{numbered}
use Rattle.claims.proofs.OnlyLaws.{inverse_then, inverse_same, counted, counted_then}
use Rattle.claims.proofs.TermLaws.{legal_body}

-- ---- legal bodies

-- kind 1: a key, and zero bytes after it
keys : Inverse (Bytes 10) (Legal Ta31) (λ k. body_of Ta31 k 0) (part 0 10)
keys = record {
  to = λ k h. record { bytes = bytes_append (bytes_part 0 10 h) (bytes_cons (omega arith) bytes_zero); accepted = refl };
  from = λ b h. bytes_part 0 10 h.bytes;
  back = λ k h. spell h;
  forth = λ b h. let z = body31_zeros b ((legal_body Ta31 b).0 h) in cc (spell h.bytes, z.0, z.1);
}

-- kinds 2 and 5: the number is counted faster than the key
keys_and_numbers : Inverse (λ i. i < 32 * 256 ^ 10) (Legal Ta51) (λ i. body_of Ta51 (bytes_of 10 (i / 32)) (i % 32)) (λ b. number (part 0 10 b) * 32 + b ! 11)
keys_and_numbers = record {
  to = λ i h. record {
    bytes = bytes_append (bytes_part 0 10 (bytes_of_lem 10 (i / 32))) (bytes_cons (omega arith) (bytes_one (omega arith)));
    accepted = rw (le-leb (i % 32) 31 (omega arith));
  };
  from = λ b h. omega (arith, (numbered 10).from (part 0 10 b) (bytes_part 0 10 h.bytes), (body51_number b ((legal_body Ta51 b).0 h)).1);
  back = λ i h. let e = (numbered 10).back (i / 32) (omega arith) in rw e (omega arith);
  forth = λ b h.
      let n = body51_number b ((legal_body Ta51 b).0 h) in
      let k = number (part 0 10 b) in
      let q : (k * 32 + b ! 11) / 32 ≡ k = omega (arith, n.1) in
      let r : (k * 32 + b ! 11) % 32 ≡ b ! 11 = omega (arith, n.1) in
      let e = ap (λ (x : List ℕ). body_of Ta51 x (b ! 11)) ((numbered 10).forth (part 0 10 b) (bytes_part 0 10 h.bytes)) in
      rw (q, r) (e ∙ cc (spell h.bytes, n.0));
}

-- kinds 3, 4 and 6: any twelve bytes
twelve_bytes : (a : Algorithm) → ((b : List ℕ) → (form_of a).fault b ≡ 0) → Count (256 ^ 12) (Legal a)
twelve_bytes a e = counted (inverse_same (λ i. Iff.rfl) (λ b. (λ h. record { bytes = h; accepted = e b }, λ h. h.bytes)) (numbered 12))

bodies : (a : Algorithm) → Count (how_many a) (Legal a)
bodies Ta31 = counted (inverse_then (numbered 10) keys)
bodies Ta51 = counted keys_and_numbers
bodies Ta81 = twelve_bytes Ta81 (λ b. refl)
bodies Ta91 = twelve_bytes Ta91 (λ b. refl)

-- ---- texts

pub how_many_lem : HowMany
how_many_lem = record {
  texts = counted (numbered 15);
  bodies = bodies;
  opening = λ a s v hs. counted_then (bodies a) (entries a s v hs);
}

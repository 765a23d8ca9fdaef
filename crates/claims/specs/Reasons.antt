-- Sentences that are false as a reason: the conclusion may hold, but not for that reason. Each statement has a variant of which the reason
-- is so and the conclusion is not, or the conclusion without the reason.
use Rattle.std.specs.Prelude.{List, ◌++◌, ◌≡◌, ℕ, zero, suc, ◌-◌, ◌^◌, ◌<◌, ◌≤◌, length}
use Rattle.standard.specs.Bytes.{◌!◌, part, xors, Bytes}
use Rattle.standard.specs.Cores.{bl1}
use Rattle.standard.specs.Hurdle.{f, Halves, schedule, round_key, encrypt, decrypt}
use Rattle.standard.specs.Seals.{ta51_call}
use Rattle.standard.specs.declared.KeyNumber.{KeyNumber}
use Rattle.standard.specs.declared.UnsealedNumbered.{UnsealedNumbered}
use Rattle.standard.specs.declared.Version.{Version}
use Rattle.claims.specs.Entries.{Only, Count, ZeroAt, SameText}
use Rattle.claims.specs.Variants.{ta52_without_bits, BitsUnchecked}

-- 6c: "Unsealing has one result, so what opens was sealed." TA52 without the check of the three bits has one result, too, and gives back
-- every sealed entry with its flag clear; but under every sealing key of its length, and every version, a text opens by it that is the
-- sealed text of no entry
pub record OneResult : Type 0 where
  pub one : (t s : List ℕ) (v : Version) → Only (λ (u : UnsealedNumbered). ta52_without_bits t s v ≡ u) (ta52_without_bits t s v)
  pub back : (s : List ℕ) (v : Version) (ck : List ℕ) (n : KeyNumber) → length s ≡ 16 → Bytes 10 ck → n.0 ≤ 31
      → ta52_without_bits (ta51_call ck v s n).bytes s v ≡ record { refusal = 0; key = ck; number = n.0; failed_checks = 0 }
  pub not_sealed : BitsUnchecked

-- 3d: "There are fewer keys than texts, so each has its own text." If the zero byte stood at another place of the right block than at its
-- end, there would be as many inputs as texts, and with a second one in such a place fewer; and yet each text that an input gives would be
-- given by exactly 256 of them. Under every key; places count from 0 at the left
pub record FewerInputs : Type 0 where
  pub texts : Count (256 ^ 15) (Bytes 15)
  pub inputs : (p : ℕ) → p < 16 → Count (256 ^ 15) (ZeroAt p)
  pub shared : (k : List ℕ) (p : ℕ) → 8 ≤ p → p < 15 → (x : List ℕ) → ZeroAt p x → Count 256 (SameText (bl1 k) p x)
  pub fewer : (p q : ℕ) → p < q → q < 16 → Count (256 ^ 14) (λ x. ZeroAt p x × (x ! q ≡ 0))
  pub still_shared : (k : List ℕ) (p q : ℕ) → 8 ≤ p → p < q → q < 15 → (x : List ℕ) → ZeroAt p x → x ! q ≡ 0
      → Count 256 (λ y. SameText (bl1 k) p x y × (y ! q ≡ 0))

-- 2d: "The cipher can be undone because S is a permutation." Its rounds are undone whatever stands in the place of f, and under any round
-- keys: the same rounds with the round keys in reverse order do it. With f itself they are encryption and decryption

-- n rounds with g for f (right: `rounds`), and a block under sixteen
abbrev pub rounds_by : (List ℕ → List ℕ → List ℕ) → (ℕ → List ℕ) → ℕ → Halves → Halves
rounds_by g k zero h = h
rounds_by g k (suc n) h = let h' : Halves = rounds_by g k n h in (h'.1, xors 4 h'.0 (g h'.1 (k n)))

unfoldable pub crypt_by : (List ℕ → List ℕ → List ℕ) → (ℕ → List ℕ) → List ℕ → List ℕ
crypt_by g k b = let h : Halves = rounds_by g k 16 (part 0 4 b, part 4 4 b) in h.1 ++ h.0

pub record WhateverF : Type 0 where
  pub encrypts : (key b : List ℕ) → crypt_by f (λ i. round_key (schedule key) i) b ≡ encrypt key b
  pub decrypts : (key b : List ℕ) → crypt_by f (λ i. round_key (schedule key) (15 - i)) b ≡ decrypt key b
  pub undone : (g : List ℕ → List ℕ → List ℕ) (k : ℕ → List ℕ) (b : List ℕ) → length b ≡ 8 → crypt_by g (λ i. k (15 - i)) (crypt_by g k b) ≡ b

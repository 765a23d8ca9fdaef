-- The schedule is linear in the key: each Q is the key, rotated, ⊕ the zero key's Q. The round keys laid out are those of the Qs.
use Rattle.standard.proofs.Prelude.{◌≡◌, refl, sym, ap, ap₂, ◌∙◌, List, ℕ, zero, suc, ◌+◌, ◌*◌, ◌/◌, ◌%◌, ◌<◌, add-zero, mod-eq_of_lt, arith}
use Rattle.standard.proofs.Prelude.{xor_zero_r}
use Rattle.standard.specs.Bytes.{◌!◌, ◌⊕◌, table, part, zeros}
use Rattle.standard.specs.Hurdle.{D, a, rotl, Q, laid, schedule, round_key}
use Rattle.standard.specs.PrintedTables.{running_sum, turn}
use Rattle.standard.proofs.BytesLaws.{table_at, table_same}
use Rattle.standard.proofs.XorLaws.{xor_assoc}

pub turn_next : (i : ℕ) → turn (suc i) ≡ (turn i + a ! i) % 16
unfolding running_sum
turn_next i = omega arith

Q_step : (key : List ℕ) (i m : ℕ) → m < 16 → Q key (suc i) ! m ≡ Q key i ! ((m + a ! i) % 16) ⊕ D ! m
unfolding Q
Q_step key i m h =
    table_at 16 (λ j. rotl (a ! i) (Q key i) ! j ⊕ D ! j) m h
    ∙ ap (λ (x : ℕ). x ⊕ D ! m) (table_at 16 (λ j. Q key i ! ((j + a ! i) % 16)) m h)

turned_on : (m x t : ℕ) → ((m + x) % 16 + t) % 16 ≡ (m + (t + x) % 16) % 16
turned_on m x t = omega arith

pub Q_linear : (key : List ℕ) (i m : ℕ) → m < 16 → Q key i ! m ≡ key ! ((m + turn i) % 16) ⊕ Q (zeros 16) i ! m
unfolding running_sum Q
Q_linear key zero m h = sym (rw (table_at 16 (λ j. 0) m h, xor_zero_r, add-zero, mod-eq_of_lt h))
Q_linear key (suc i) m h =
    let m' : ℕ = (m + a ! i) % 16 in
    let k : m' < 16 = omega arith in
    Q_step key i m h
    ∙ ap (λ (x : ℕ). x ⊕ D ! m) (Q_linear key i m' k)
    ∙ xor_assoc (key ! ((m' + turn i) % 16)) (Q (zeros 16) i ! m') (D ! m)
    ∙ ap₂ (λ (n x : ℕ). key ! n ⊕ x) (turned_on m (a ! i) (turn i) ∙ ap (λ (n : ℕ). (m + n) % 16) (sym (turn_next i))) (sym (Q_step (zeros 16) i m h))

-- ---- the round keys laid out

-- the byte at n of the round keys laid out
abbrev pub byte_at : List ℕ → ℕ → ℕ
byte_at key n = Q key (n / 12) ! (4 + n % 12)

pub laid_table : (key : List ℕ) → schedule key ≡ table 192 (byte_at key)
unfolding laid
laid_table key = refl

pub round_key_lem : (key : List ℕ) (i : ℕ) → i < 16 → round_key (schedule key) i ≡ part 4 12 (Q key i)
round_key_lem key i h =
    ap (λ (l : List ℕ). round_key l i) (laid_table key) ∙ table_same 12 (λ j. table 192 (byte_at key) ! (i * 12 + j)) (λ j. Q key i ! (4 + j)) go
  where
    go : (j : ℕ) → j < 12 → table 192 (byte_at key) ! (i * 12 + j) ≡ Q key i ! (4 + j)
    go j k =
        let q : (i * 12 + j) / 12 ≡ i = omega arith in
        let r : (i * 12 + j) % 12 ≡ j = omega arith in
        table_at 192 (byte_at key) (i * 12 + j) (omega arith) ∙ ap₂ (λ (x y : ℕ). Q key x ! (4 + y)) q r

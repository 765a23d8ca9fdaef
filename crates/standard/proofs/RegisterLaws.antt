-- The register turns until the key is back, each step can be undone, and both forms of the cipher agree (02, 7).
use Rattle.standard.proofs.Prelude.{◌≡◌, refl, sym, ap, ap₂, ◌∙◌, List, ◌++◌, ℕ, zero, suc, ◌+◌, ◌-◌, ◌*◌, ◌/◌, ◌%◌, ◌≤◌, ◌<◌, add-zero}
use Rattle.standard.proofs.Prelude.{add-suc, mod-eq_of_lt, arith, xor_zero_r, leb, length, leb-true}
use Rattle.standard.specs.Bytes.{◌!◌, ◌⊕◌, part, xors, zeros}
use Rattle.standard.specs.Hurdle.{Halves, round, rounds, crypt, D, a, rotl, Q, schedule, round_key, encrypt, decrypt}
use Rattle.standard.specs.Register.{step, step_back, turned, State, start, onward, backward, encrypt_register, decrypt_register}
use Rattle.standard.specs.RegisterFacts.{StepBack, Returns, KeyAgain, BeginsAnew, SameCipher}
use Rattle.standard.specs.PrintedTables.{running_sum, turn}
use Rattle.standard.proofs.BytesLaws.{table_at, table_same, spelled, every_at}
use Rattle.standard.proofs.ScheduleLaws.{Q_linear, round_key_lem}
use Rattle.standard.proofs.XorLaws.{xor_cancel_r}

-- ---- the step and the step back

-- no rotation goes beyond sixteen
pub a_most : (i : ℕ) → i < 16 → a ! i ≤ 16
unfolding a
a_most i h = leb-true _ _ (every_at 16 (λ j. leb (a ! j) 16) refl i h)

-- a rotation by n and one by the rest of sixteen undo each other
rotated_back : (n m : ℕ) → n ≤ 16 → m < 16 → ((m + (16 - n)) % 16 + n) % 16 ≡ m
rotated_back n m h k = omega arith

rotated_forth : (n m : ℕ) → n ≤ 16 → m < 16 → ((m + n) % 16 + (16 - n)) % 16 ≡ m
rotated_forth n m h k = omega arith

rotl_at : (n : ℕ) (q : List ℕ) (m : ℕ) → m < 16 → rotl n q ! m ≡ q ! ((m + n) % 16)
rotl_at n q m h = table_at 16 (λ i. q ! ((i + n) % 16)) m h

xors_at : (p q : List ℕ) (m : ℕ) → m < 16 → xors 16 p q ! m ≡ p ! m ⊕ q ! m
xors_at p q m h = table_at 16 (λ i. p ! i ⊕ q ! i) m h

undone : (i : ℕ) (q : List ℕ) → i < 16 → length q ≡ 16 → step_back i (step i q) ≡ q
undone i q r h = table_same 16 (λ m. xors 16 (step i q) D ! ((m + (16 - a ! i)) % 16)) (λ m. q ! m) go ∙ spelled 16 q h
  where
    go : (m : ℕ) → m < 16 → xors 16 (step i q) D ! ((m + (16 - a ! i)) % 16) ≡ q ! m
    go m k =
        let n : ℕ = (m + (16 - a ! i)) % 16 in
        let l : n < 16 = omega arith in
        xors_at (step i q) D n l
        ∙ ap (λ (x : ℕ). x ⊕ D ! n) (xors_at (rotl (a ! i) q) D n l)
        ∙ xor_cancel_r (rotl (a ! i) q ! n) (D ! n)
        ∙ rotl_at (a ! i) q n l
        ∙ ap (λ (j : ℕ). q ! j) (rotated_back (a ! i) m (a_most i r) k)

redone : (i : ℕ) (q : List ℕ) → i < 16 → length q ≡ 16 → step i (step_back i q) ≡ q
redone i q r h = table_same 16 (λ m. rotl (a ! i) (step_back i q) ! m ⊕ D ! m) (λ m. q ! m) go ∙ spelled 16 q h
  where
    go : (m : ℕ) → m < 16 → rotl (a ! i) (step_back i q) ! m ⊕ D ! m ≡ q ! m
    go m k =
        let n : ℕ = (m + a ! i) % 16 in
        let l : n < 16 = omega arith in
        ap (λ (x : ℕ). x ⊕ D ! m)
        (rotl_at (a ! i) (step_back i q) m k
        ∙ rotl_at (16 - a ! i) (xors 16 q D) n l
        ∙ ap (λ (j : ℕ). xors 16 q D ! j) (rotated_forth (a ! i) m (a_most i r) k)
        ∙ xors_at q D m k)
        ∙ xor_cancel_r (q ! m) (D ! m)

pub step_back_lem : StepBack
step_back_lem = record { undone = undone; redone = redone }

-- ---- sixteen steps

-- the first sixteen registers are the schedule's Qs
pub turned_q : (key : List ℕ) (n : ℕ) → n ≤ 16 → turned key n ≡ Q key n
unfolding turned Q
turned_q key zero h = refl
turned_q key (suc n) h = ap₂ step (mod-eq_of_lt h) (turned_q key n (omega arith))

zero_back : Q (zeros 16) 16 ≡ zeros 16
unfolding Q D a
zero_back = refl

turn_whole : turn 16 ≡ 0
unfolding running_sum a
turn_whole = refl

Q_length : (key : List ℕ) (n : ℕ) → length key ≡ 16 → length (Q key n) ≡ 16
unfolding Q
Q_length key zero h = h
Q_length key (suc n) h = refl

Q_back : (key : List ℕ) → length key ≡ 16 → Q key 16 ≡ key
Q_back key h =
    sym (spelled 16 (Q key 16) (Q_length key 16 h)) ∙ table_same 16 (λ m. Q key 16 ! m) (λ m. key ! m) go ∙ spelled 16 key h
  where
    go : (m : ℕ) → m < 16 → Q key 16 ! m ≡ key ! m
    go m k =
        Q_linear key 16 m k
        ∙ ap₂ (λ (t : ℕ) (z : List ℕ). key ! ((m + t) % 16) ⊕ z ! m) turn_whole zero_back
        ∙ rw (table_at 16 (λ j. 0) m k, xor_zero_r, add-zero, mod-eq_of_lt k)

Q_undone : (key : List ℕ) (i : ℕ) → length key ≡ 16 → i < 16 → step_back i (Q key (suc i)) ≡ Q key i
unfolding Q
Q_undone key i l h = undone i (Q key i) h (Q_length key i l)

pub key_returns : Returns
key_returns key h = turned_q key 16 (omega arith) ∙ Q_back key h

-- ---- any number of steps

pub turn_more : (key : List ℕ) (n : ℕ) → length key ≡ 16 → turned key (16 + n) ≡ turned key n
unfolding turned
turn_more key zero h = key_returns key h
turn_more key (suc n) h =
    let e : (16 + n) % 16 ≡ n % 16 = omega arith in
    ap (turned key) (add-suc 16 n) ∙ ap₂ step e (turn_more key n h)

turns : (key : List ℕ) (k n : ℕ) → length key ≡ 16 → turned key (k * 16 + n) ≡ turned key n
turns key zero n h = ap (turned key) (omega arith)
turns key (suc k) n h =
    let e : suc k * 16 + n ≡ 16 + (k * 16 + n) = omega arith in
    ap (turned key) e ∙ turn_more key (k * 16 + n) h ∙ turns key k n h

pub begins_anew : BeginsAnew
begins_anew key n h =
    let e : n ≡ n / 16 * 16 + n % 16 = omega arith in
    ap (turned key) e ∙ turns key (n / 16) (n % 16) h

-- ---- both forms of the cipher

-- rounds under the same keys
rounds_same : (k k' : ℕ → List ℕ) (n : ℕ) (h : Halves) → ((i : ℕ) → i < n → k i ≡ k' i) → rounds k n h ≡ rounds k' n h
unfolding rounds
rounds_same k k' zero h e = refl
rounds_same k k' (suc n) h e = ap₂ round (e n (omega arith)) (rounds_same k k' n h (λ i l. e i (omega arith)))

abbrev key_of : List ℕ → ℕ → List ℕ
key_of key i = part 4 12 (Q key i)

onward_is : (n : ℕ) (key : List ℕ) (s : State) → s.register ≡ key → ((onward n s).register ≡ Q key n) × ((onward n s).halves ≡ rounds (key_of key) n s.halves)
unfolding onward Q rounds
onward_is zero key s e = (e, refl)
onward_is (suc n) key s e =
    let p = onward_is n key s e in
    (ap (step n) p.0, ap₂ (λ (q : List ℕ) (h : Halves). round (part 4 12 q) h) p.0 p.1)

backward_is : (n : ℕ) (key : List ℕ) (s : State) → length key ≡ 16 → s.register ≡ key → n ≤ 16
    → ((backward n s).register ≡ Q key (16 - n)) × ((backward n s).halves ≡ rounds (λ i. key_of key (15 - i)) n s.halves)
unfolding backward rounds
backward_is zero key s l e h = (e ∙ sym (Q_back key l), refl)
backward_is (suc n) key s l e h =
    let p = backward_is n key s l e (omega arith) in
    let e : 16 - n ≡ suc (15 - n) = omega arith in
    let q : step_back (15 - n) (backward n s).register ≡ Q key (15 - n) =
    ap (step_back (15 - n)) (p.0 ∙ ap (Q key) e) ∙ Q_undone key (15 - n) l (omega arith) in
    let e' : 15 - n ≡ 16 - suc n = omega arith in
    (q ∙ ap (Q key) e', ap₂ (λ (x : List ℕ) (y : Halves). round (part 4 12 x) y) q p.1)

pub key_again : KeyAgain
unfolding Q
key_again = record {
  encrypting = λ key b h. (onward_is 16 key (start key b) refl).0 ∙ Q_back key h;
  decrypting = λ key b h. (backward_is 16 key (start key b) h refl (omega arith)).0;
}

pub same_cipher : SameCipher
unfolding encrypt_register decrypt_register encrypt decrypt crypt
same_cipher = record {
  encrypting = λ key b.
      ap (λ (h : Halves). h.1 ++ h.0)
      ((onward_is 16 key (start key b) refl).1 ∙ sym (rounds_same (λ i. round_key (schedule key) i) (key_of key) 16 _ (λ i h. round_key_lem key i h)));
  decrypting = λ key b l.
      ap (λ (h : Halves). h.1 ++ h.0)
      ((backward_is 16 key (start key b) l refl (omega arith)).1
      ∙ sym (rounds_same (λ i. round_key (schedule key) (15 - i)) (λ i. key_of key (15 - i)) 16 _ (λ i h. round_key_lem key (15 - i) (omega arith))));
}

-- The bytes that a mask chooses: the loop that stores them, and how many they are.
use Rattle.standard.proofs.Prelude.{◌≡◌, refl, sym, ap, ap₂, ◌∙◌, subst, Bool, true, false, ◌&&◌, ◌⊎◌, inl, inr, List, ◌∷◌, ◌++◌, append-nil, ℕ, suc, ◌+◌, ◌-◌, ◌^◌, ◌≤◌, ◌<◌}
use Rattle.standard.proofs.Prelude.{add-zero, zero-add, add-one, arith, ltb, length, take, drop, set, drop_of_length-le, take_all, drop-drop, eq-eqb, ne_eqb, ltb-true, ltb-false}
use lib.Count.{ones}
use lib.Seq.{get_or-drop, length-take-le, paste-suc}
use Rattle.standard.proofs.BytesLaws.{and_split}
use Rattle.standard.proofs.KeysLaws.{length_chosen}
use Rattle.standard.specs.Bytes.{◌!◌, byte, bit}
use Rattle.standard.specs.Keys.{chosen_of, chosen}

-- ---- a copy over the front of a list: one store more, and its end where the string or the list ends

copy_next : (d s : List ℕ) (j : ℕ) → j < length d → j < length s → set (take j s ++ drop j d) j (s ! j) ≡ take (j + 1) s ++ drop (j + 1) d
copy_next d s j l m = rw add-one (simp zero-add at (paste-suc d 0 s j 0 (rw zero-add l) m))

copied_whole : (d s : List ℕ) (j : ℕ) → j ≡ length s → j ≤ length d → take j s ++ drop j d ≡ take (length d) s ++ drop (length s) d
copied_whole d s j e h =
    ap₂ ◌++◌ (take_all j s (omega arith) ∙ sym (take_all (length d) s (omega arith))) (ap (λ (k : ℕ). drop k d) e)

copied_full : (d s : List ℕ) (j : ℕ) → j ≡ length d → j ≤ length s → take j s ++ drop j d ≡ take (length d) s ++ drop (length s) d
copied_full d s j e h =
    ap₂ ◌++◌ (ap (λ (k : ℕ). take k s) e) (drop_of_length-le d {i = j} (omega arith) ∙ sym (drop_of_length-le d {i = length s} (omega arith)))

-- ---- the loop

-- k of the chosen bytes stand at the front of a part that was d, and those below Bi are to be looked at
pub record Gathered (m : ℕ) (o d : List ℕ) (i k : ℕ) (out : List ℕ) : Type 0 where
  pub bytes : out ≡ take k (chosen m o) ++ drop k d
  pub left : drop k (chosen m o) ≡ chosen_of i m o
  pub stored : k + length (chosen_of i m o) ≡ length (chosen m o)
  pub room : k ≤ length d

pub gather_none : (m : ℕ) (o d : List ℕ) → Gathered m o d 16 0 d
unfolding chosen
gather_none m o d = record { bytes = refl; left = refl; stored = rw zero-add; room = omega arith }

module _ {m i k : ℕ} {o d out : List ℕ} (given : Gathered m o d i k out) where
  module _ (p : 0 < i) where
    g : Gathered m o d (suc (i - 1)) k out
    g = subst (λ (n : ℕ). Gathered m o d n k out) (omega arith) given

    -- where the code finds B(i − 1)
    place : o ! (15 - (i - 1)) ≡ byte 16 o (i - 1)
    place = ap (◌!◌ o) (omega arith)

    module _ (b : bit (i - 1) m ≡ 1) where
      next : drop k (chosen m o) ≡ byte 16 o (i - 1) ∷ chosen_of (i - 1) m o
      next = rw (eq-eqb (bit (i - 1) m) 1 b) at g.left

      more : k + suc (length (chosen_of (i - 1) m o)) ≡ length (chosen m o)
      more = rw (eq-eqb (bit (i - 1) m) 1 b) at g.stored

      here : chosen m o ! k ≡ o ! (15 - (i - 1))
      here = sym (rw add-zero at (get_or-drop k (chosen m o) 0 0)) ∙ ap (λ (l : List ℕ). l ! 0) next ∙ sym place

      pub gather_more : k < length d → Gathered m o d (i - 1) (k + 1) (set out k (o ! (15 - (i - 1))))
      gather_more h = record {
        bytes = rw (g.bytes, ← here) (copy_next d (chosen m o) k h (omega (arith, more)));
        left = sym (drop-drop 1 k (chosen m o)) ∙ ap (drop 1) next;
        stored = omega (arith, more);
        room = omega arith;
      }

    pub gather_past : (bit (i - 1) m ≡ 1 → ⊥) → Gathered m o d (i - 1) k out
    gather_past b = record {
      bytes = g.bytes;
      left = rw (ne_eqb (bit (i - 1) m) 1 b) at g.left;
      stored = rw (ne_eqb (bit (i - 1) m) 1 b) at g.stored;
      room = g.room;
    }

  -- all bytes are looked at, or the part is full
  pub gather_all : i ≡ 0 → out ≡ take (length d) (chosen m o) ++ drop (length (chosen m o)) d
  gather_all z =
      let all : k + length (chosen_of 0 m o) ≡ length (chosen m o) = ap (λ (n : ℕ). k + length (chosen_of n m o)) (sym z) ∙ given.stored in
      given.bytes ∙ copied_whole d (chosen m o) k (omega (arith, all)) given.room

  pub gather_full : k ≡ length d → out ≡ take (length d) (chosen m o) ++ drop (length (chosen m o)) d
  gather_full q = given.bytes ∙ copied_full d (chosen m o) k q (omega (arith, given.stored))

-- the turn at byte j from the left, whose bit is 15 - j
at_next : {m : ℕ} {o d : List ℕ} (j k : ℕ) (out : List ℕ) → Gathered m o d (16 - j - 1) k out → Gathered m o d (16 - (j + 1)) k out
at_next {m} {o} {d} j k out x = subst (λ (n : ℕ). Gathered m o d n k out) (omega arith) x

module _ {m j k k' : ℕ} {o d out out' : List ℕ} (h : j < 16) (given : Gathered m o d (16 - j) k out) where
  pub turn_stored : bit (15 - j) m ≡ 1 → k < length d → k' ≡ k + 1 → out' ≡ set out k (o ! j) → Gathered m o d (16 - (j + 1)) k' out'
  turn_stored b r e f =
      let b' : bit (16 - j - 1) m ≡ 1 = subst (λ (n : ℕ). bit n m ≡ 1) (omega arith) b in
      let x = at_next j (k + 1) (set out k (o ! (15 - (16 - j - 1)))) (gather_more given (omega arith) b' r) in
      rw (e, f) (subst (λ (n : ℕ). Gathered m o d (16 - (j + 1)) (k + 1) (set out k (o ! n))) (omega arith) x)

  pub turn_passed : (bit (15 - j) m ≡ 1 → ⊥) → k' ≡ k → out' ≡ out → Gathered m o d (16 - (j + 1)) k' out'
  turn_passed b e f =
      rw (e, f) (at_next j k out (gather_past given (omega arith) (λ z. b (subst (λ (n : ℕ). bit n m ≡ 1) (omega arith) z))))

-- a test that bytes are left and the part has room
pub going : (i k n : ℕ) → ltb 0 i && ltb k n ≡ true → (0 < i) × (k < n)
going i k n t = let s = and_split _ _ t in (ltb-true 0 i s.0, ltb-true k n s.1)

pub ended : (i k n : ℕ) → k ≤ n → ltb 0 i && ltb k n ≡ false → (i ≡ 0) ⊎ (k ≡ n)
ended i k n h f = go (ltb 0 i) refl
  where
    go : (t : Bool) → ltb 0 i ≡ t → (i ≡ 0) ⊎ (k ≡ n)
    go true e = inr (omega (arith, h, ltb-false k n (rw e at f)))
    go false e = inl (omega (arith, ltb-false 0 i e))

-- ---- a part as long as its mask has ones becomes the chosen bytes

pub part_filled : (m : ℕ) (o p r : List ℕ) → m < 2 ^ 16 → length p ≡ ones m
    → r ≡ take (length p) (chosen m o) ++ drop (length (chosen m o)) p → r ≡ chosen m o
part_filled m o p r h e f =
    let l : length (chosen m o) ≡ length p = length_chosen m o h ∙ sym e in
    f ∙ ap₂ ◌++◌ (take_all (length p) (chosen m o) (omega (arith, l))) (drop_of_length-le p {i = length (chosen m o)} (omega (arith, l)))
    ∙ append-nil (chosen m o)

-- the front of what it is taken from
pub front_filled : (m : ℕ) (o out r : List ℕ) → m < 2 ^ 16 → ones m ≤ length out
    → r ≡ take (length (take (ones m) out)) (chosen m o) ++ drop (length (chosen m o)) (take (ones m) out) → r ≡ chosen m o
front_filled m o out r h l f = part_filled m o (take (ones m) out) r h (length-take-le (ones m) out l) f

-- and the whole of it
pub whole_filled : (m : ℕ) (o out r : List ℕ) → m < 2 ^ 16 → length out ≡ ones m
    → r ≡ take (length (take (ones m) out)) (chosen m o) ++ drop (length (chosen m o)) (take (ones m) out) → r ++ drop (ones m) out ≡ chosen m o
whole_filled m o out r h l f =
    ap₂ ◌++◌ (front_filled m o out r h (omega (arith, l)) f) (drop_of_length-le out {i = ones m} (omega (arith, l))) ∙ append-nil (chosen m o)

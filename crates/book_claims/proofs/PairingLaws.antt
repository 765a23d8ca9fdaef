-- Pairings of entries f 0, .. f (m - 1) with records g 0, .. g (n - 1): string by string, as many entries can have a record as there are of
-- that string on both sides.
use Rattle.standard.proofs.Prelude.{◌≡◌, refl, sym, ap, ◌∙◌, subst, Bool, true, false, ◌&&◌, true≢false, ◌⊎◌, inl, inr, List, ℕ, zero, suc, ◌≤◌, ◌<◌}
use Rattle.standard.proofs.Prelude.{arith, eqb, ltb, eqb-true, eq-eqb, ltb-true, ltb-false, lt-ltb, zero-le}
use Rattle.standard.specs.Bytes.{same}
use Rattle.standard.proofs.BytesLaws.{and_split, and_join, same_eq, same_refl}
use Rattle.book_claims.specs.Marking.{count, copies, has_record, pairs, Pairing, WholePairing}
use Rattle.book_claims.proofs.CountingLaws.{count_hit, count_miss, count_missing, count_before, count_one, count_reaches}
use Rattle.book_claims.proofs.CountingLaws.{find, find_some, count_into, count_less}

pub eq_same : {x y : List ℕ} → x ≡ y → same x y ≡ true
eq_same {x} {y} e = ap (same x) (sym e) ∙ same_refl x

-- ---- string by string

-- entries that pass and are x
abbrev of_string : (ℕ → List ℕ) → (ℕ → Bool) → List ℕ → ℕ → Bool
of_string f p x i = p i && same (f i) x

module _ (f : ℕ → List ℕ) (p : ℕ → Bool) where
  string_split : (x : List ℕ) (i : ℕ) → of_string f p x i ≡ true → (p i ≡ true) × (f i ≡ x)
  string_split x i e = let s = and_split (p i) (same (f i) x) e in (s.0, same_eq (f i) x s.1)

  string_join : (x : List ℕ) (i : ℕ) → p i ≡ true → f i ≡ x → of_string f p x i ≡ true
  string_join x i e d = and_join e (eq_same d)

  string_few : (m : ℕ) (x : List ℕ) → count m (of_string f p x) ≤ copies m f x
  string_few m x = count_less m (of_string f p x) (λ i. same (f i) x) (λ i h e. (and_split (p i) (same (f i) x) e).1)

-- ---- of an entry that passes p, the record of the same string that passes q and has as many before it that do

module _ (f : ℕ → List ℕ) (p : ℕ → Bool) (n : ℕ) (g : ℕ → List ℕ) (q : ℕ → Bool) where
  abbrev is_counterpart : ℕ → ℕ → Bool
  is_counterpart i k = of_string g q (f i) k && eqb (count k (of_string g q (f i))) (count i (of_string f p (f i)))

  abbrev counterpart : ℕ → ℕ
  counterpart i = find n (is_counterpart i)

  record Counterpart (i k : ℕ) : Type 0 where
    below : k < n
    passes : q k ≡ true
    equal : g k ≡ f i
    rank : count k (of_string g q (f i)) ≡ count i (of_string f p (f i))

  has_counterpart : (i : ℕ) → count i (of_string f p (f i)) < count n (of_string g q (f i)) → Counterpart i (counterpart i)
  has_counterpart i h =
      let r = count_reaches (of_string g q (f i)) n (count i (of_string f p (f i))) h in
      let s = find_some n (is_counterpart i) r.0 r.1 (and_join r.2 (eq-eqb _ _ r.3)) in
      let t = and_split (of_string g q (f i) (counterpart i)) _ s.1 in
      let u = string_split g q (f i) (counterpart i) t.0 in
      record { below = s.0; passes = u.0; equal = u.1; rank = eqb-true _ _ t.1 }

  -- of one entry only
  counterpart_once : (i j k : ℕ) → p i ≡ true → p j ≡ true → Counterpart i k → Counterpart j k → i ≡ j
  counterpart_once i j k a b s t =
      let e : f j ≡ f i = sym t.equal ∙ s.equal in
      let c : count i (of_string f p (f i)) ≡ count j (of_string f p (f i)) =
      sym s.rank ∙ subst (λ (x : List ℕ). count k (of_string g q x) ≡ count j (of_string f p x)) e t.rank in
      count_one (of_string f p (f i)) i j (string_join f p (f i) i a refl) (string_join f p (f i) j b e) c

-- no more entries pass p than q if that is so of those of each string
by_string : (m : ℕ) (f : ℕ → List ℕ) (p q : ℕ → Bool) → ((x : List ℕ) → count m (of_string f p x) ≤ count m (of_string f q x)) → count m p ≤ count m q
by_string m f p q each =
    let other : (i : ℕ) → i < m → p i ≡ true → Counterpart f p m f q i (counterpart f p m f q i) =
    λ i h e. has_counterpart f p m f q i (omega (arith, count_before (of_string f p (f i)) i m h (string_join f p (f i) i e refl), each (f i))) in
    count_into m p m q (counterpart f p m f q)
    (record {
      within = λ i h e. (other i h e).below;
      passes = λ i h e. (other i h e).passes;
      once = λ i k h l a b d. counterpart_once f p m f q i k (counterpart f p m f q i) a b (other i h a) (rw (← d) at (other k l b));
    })

-- ---- the entries of one string that have a record

module _ (f : ℕ → List ℕ) (n : ℕ) (g : ℕ → List ℕ) (x : List ℕ) where
  abbrev having : ℕ → Bool
  having = of_string f (has_record f g n) x

  -- entry m is x: it has a record exactly if fewer before it are x than records are
  having_hit : (m : ℕ) → f m ≡ x → copies m f x < copies n g x → having m ≡ true
  having_hit m e h = string_join f (has_record f g n) x m (rw e (lt-ltb (copies m f x) (copies n g x) h)) e

  having_at : (m : ℕ) → having m ≡ true → copies m f x < copies n g x
  having_at m e =
      let s = string_split f (has_record f g n) x m e in
      rw s.1 at (ltb-true (copies m f (f m)) (copies n g (f m)) s.0)

  -- at most as many as records are x ..
  having_most : (m : ℕ) → count m having ≤ copies n g x
  having_most zero = zero-le
  having_most (suc m) = go (having m) refl (having_most m)
    where
      go : (t : Bool) → having m ≡ t → count m having ≤ copies n g x → count (suc m) having ≤ copies n g x
      go true e ih = omega (arith, count_hit m having e, having_at m e, string_few f (has_record f g n) m x)
      go false e ih = omega (arith, count_miss m having e, ih)

  -- .. and as many as entries are x, or as records are
  abbrev Enough : ℕ → Type 0
  Enough m = (copies m f x ≤ count m having) ⊎ (copies n g x ≤ count m having)

  having_least : (m : ℕ) → Enough m
  having_least zero = inl zero-le
  having_least (suc m) = go (same (f m) x) refl (ltb (copies m f x) (copies n g x)) refl (having m) refl (having_least m)
    where
      go : (s : Bool) → same (f m) x ≡ s → (t : Bool) → ltb (copies m f x) (copies n g x) ≡ t → (u : Bool) → having m ≡ u → Enough m → Enough (suc m)
      go s a t b true c (inr h) = inr (omega (arith, h, count_hit m having c))
      go s a t b false c (inr h) = inr (omega (arith, h, count_miss m having c))
      go true a t b true c (inl h) = inl (omega (arith, h, count_hit m having c, count_hit m (λ i. same (f i) x) a))
      go false a t b true c (inl h) = inl (omega (arith, h, count_hit m having c, count_miss m (λ i. same (f i) x) a))
      go false a t b false c (inl h) = inl (omega (arith, h, count_miss m having c, count_miss m (λ i. same (f i) x) a))
      go true a true b false c (inl h) =
          absurd (true≢false (sym (having_hit m (same_eq (f m) x a) (ltb-true _ _ b)) ∙ c))
      go true a false b false c (inl h) = inr (omega (arith, h, count_miss m having c, ltb-false (copies m f x) (copies n g x) b))

  having_all : (m k : ℕ) → k ≤ copies m f x → k ≤ copies n g x → k ≤ count m having
  having_all m k a b = go (having_least m)
    where
      go : Enough m → k ≤ count m having
      go (inl h) = omega (arith, a, h)
      go (inr h) = omega (arith, b, h)

-- ---- a pairing counts no more

module _ {m : ℕ} {f : ℕ → List ℕ} {n : ℕ} {g : ℕ → List ℕ} {given : ℕ → Bool} {σ : ℕ → ℕ} where
  given_few : Pairing m f n g given σ → (x : List ℕ) → count m (of_string f given x) ≤ copies n g x
  given_few a x =
      count_into m (of_string f given x) n (λ j. same (g j) x) σ
      (record {
        within = λ i h e. a.within i h (string_split f given x i e).0;
        passes = λ i h e. let s = string_split f given x i e in eq_same (a.equal i h s.0 ∙ s.1);
        once = λ i k h l b c. a.once i k h l (string_split f given x i b).0 (string_split f given x k c).0;
      })

  pub pairing_most : Pairing m f n g given σ → count m given ≤ pairs m f n g
  pairing_most a =
      by_string m f given (has_record f g n)
      (λ x. having_all f n g x m (count m (of_string f given x)) (string_few f given m x) (given_few a x))

  -- ---- and as many where no record is left

  module _ (a : WholePairing m f n g given σ) (x : List ℕ) where
    -- the entry for which record j counts
    abbrev is_for : ℕ → ℕ → Bool
    is_for j k = given k && eqb (σ k) j

    -- if an entry of the string is given none, all records of the string count
    all_count : (i : ℕ) → i < m → given i ≡ false → f i ≡ x → copies n g x ≤ count m (of_string f given x)
    all_count i h e d =
        let is-for : (j : ℕ) → j < n → same (g j) x ≡ true → (find m (is_for j) < m) × (given (find m (is_for j)) ≡ true) × (σ (find m (is_for j)) ≡ j) =
        λ j l c.
        let k = a.none_left i j h l e (same_eq (g j) x c ∙ sym d) in
        let s = find_some m (is_for j) k.0 k.1 (and_join k.2 (eq-eqb _ _ k.3)) in
        let t = and_split (given (find m (is_for j))) _ s.1 in
        (s.0, t.0, eqb-true _ _ t.1) in
        count_into n (λ j. same (g j) x) m (of_string f given x) (λ j. find m (is_for j))
        (record {
          within = λ j l c. (is-for j l c).0;
          passes = λ j l c.
              let k = is-for j l c in
              string_join f given x (find m (is_for j)) k.1
              (sym (a.pairing.equal (find m (is_for j)) k.0 k.1) ∙ ap g k.2 ∙ same_eq (g j) x c);
          once = λ i j l k b c d. sym (is-for i l b).2 ∙ ap σ d ∙ (is-for j k c).2;
        })

    given_all : count m (of_string f (has_record f g n) x) ≤ count m (of_string f given x)
    given_all = go (ltb (count m (of_string f given x)) (copies m f x)) refl
      where
        go : (t : Bool) → ltb (count m (of_string f given x)) (copies m f x) ≡ t
            → count m (of_string f (has_record f g n) x) ≤ count m (of_string f given x)
        go false e = omega (arith, ltb-false (count m (of_string f given x)) (copies m f x) e, string_few f (has_record f g n) m x)
        go true e =
            let s = count_missing m (of_string f given x) (λ i. same (f i) x) (ltb-true _ _ e) in
            let d = same_eq (f s.0) x s.3 in
            omega (arith, having_most f n g x m, all_count s.0 s.1 (not_given (given s.0) refl s.2 s.3) d)
          where
            not_given : {i : ℕ} (t : Bool) → given i ≡ t → of_string f given x i ≡ false → same (f i) x ≡ true → given i ≡ false
            not_given false e a b = e
            not_given true e a b = absurd (true≢false (sym (and_join e b) ∙ a))

  pub pairing_number : WholePairing m f n g given σ → count m given ≡ pairs m f n g
  pairing_number a = omega (arith, pairing_most a.pairing, by_string m f (has_record f g n) given (given_all a))

-- ---- the pairing by rank: entry and record are the same, and as many before the one are as before the other

module _ (m : ℕ) (f : ℕ → List ℕ) (n : ℕ) (g : ℕ → List ℕ) where
  abbrev any : ℕ → Bool
  any i = true

  abbrev pub paired : ℕ → ℕ
  paired = counterpart f any n g any

  by_rank : (i : ℕ) → has_record f g n i ≡ true → Counterpart f any n g any i (paired i)
  by_rank i e = has_counterpart f any n g any i (ltb-true (copies i f (f i)) (copies n g (f i)) e)

  -- where an entry has no record, a record of the same bytes counts for an entry before it
  rank_taken : (i j : ℕ) → i < m → j < n → has_record f g n i ≡ false → g j ≡ f i
      → (k : ℕ) × (k < m) × (has_record f g n k ≡ true) × (paired k ≡ j)
  rank_taken i j h l e d =
      let before = count_before (λ k. same (g k) (f i)) j n l (eq_same d) in
      let most = ltb-false (copies i f (f i)) (copies n g (f i)) e in
      let r = count_reaches (λ k. same (f k) (f i)) i (copies j g (f i)) (omega (arith, before, most)) in
      let k = r.0 in
      let x : f k ≡ f i = same_eq (f k) (f i) r.2 in
      let has : has_record f g n k ≡ true = rw x (lt-ltb (copies k f (f i)) (copies n g (f i)) (omega (arith, r.3, before))) in
      let c = by_rank k has in
      let rank : copies (paired k) g (f i) ≡ copies k f (f i) = rw x at c.rank in
      (k, omega (arith, h, r.1), has, count_one (λ k. same (g k) (f i)) (paired k) j (eq_same (c.equal ∙ x)) (eq_same d) (rank ∙ r.3))

  pub ranked : WholePairing m f n g (has_record f g n) paired
  ranked = record {
    pairing = record {
      within = λ i h e. (by_rank i e).below;
      equal = λ i h e. (by_rank i e).equal;
      once = λ i k h l a b d. counterpart_once f any n g any i k (paired i) refl refl (by_rank i a) (rw (← d) at (by_rank k b));
    };
    none_left = rank_taken;
  }

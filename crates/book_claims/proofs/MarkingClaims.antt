-- Marking a hand-in against a model: in any order, with copies, and when it is full.
use Rattle.standard.proofs.Prelude.{◌≡◌, refl, sym, ap, ap₂, ◌∙◌, subst, Bool, true, false, ◌↔◌, List, ◌++◌, ℕ, suc, ◌+◌, ◌*◌, ◌/◌, ◌≤◌, ◌<◌, arith}
use Rattle.standard.proofs.Prelude.{mul-suc, mul-le-mul_left, eqb, ltb, length, length-append, eqb-true, eq-eqb, lt-ltb}
use Rattle.standard.specs.Books.{sealed_form}
use Rattle.standard.specs.Bytes.{same}
use Rattle.standard.specs.Lists.{record_at}
use Rattle.standard.specs.ShufflesFacts.{Reordering, reordered}
use Rattle.standard.specs.Sizes.{plain_size, sealed_size}
use Rattle.standard.proofs.BookLaws.{joined_same, each_self}
use Rattle.standard.proofs.BytesLaws.{part_left, part_seam, same_eq, same_refl}
use Rattle.book_claims.specs.Marking.{copies, has_record, pairs, matched, Pairing, MostPaired, AnyOrder, CopiesAddNothing, FullMark}
use Rattle.book_claims.proofs.BookClaims.{order_changed}
use Rattle.book_claims.proofs.SealedFormLaws.{sealed_bytes, form_opens}
use Rattle.book_claims.proofs.CountingLaws.{count_hit, count_miss, count_same, count_all, count_before, count_reordered, count_full, find, find_some}
use Rattle.book_claims.proofs.CountingLaws.{OneToOne, one_to_one_onto}
use Rattle.book_claims.proofs.ReorderedLaws.{whole, reordered_length, reordered_at, reordered_whole}
use Rattle.book_claims.proofs.PairingLaws.{pairing_most, pairing_number, paired, ranked}

-- ---- pairings

pub most_paired : MostPaired
most_paired m f n g = record {
  number = λ given σ a. pairing_number a;
  most = λ given σ a. pairing_most a;
  some = (has_record f g n, paired m f n g, ranked m f n g);
}

-- ---- entries and records in another order

-- as many copies of each string
copies_reordered : (n : ℕ) (g g' : ℕ → List ℕ) (π : ℕ → ℕ) → Reordering n π → ((i : ℕ) → i < n → g' i ≡ g (π i))
    → (x : List ℕ) → copies n g' x ≡ copies n g x
copies_reordered n g g' π ρ e x =
    count_same n (λ i. same (g' i) x) (λ i. same (g (π i)) x) (λ i h. ap (λ (y : List ℕ). same y x) (e i h))
    ∙ count_reordered n π ρ (λ i. same (g i) x)

-- the records enter by their copies alone
pairs_same : (m : ℕ) (f : ℕ → List ℕ) (n n' : ℕ) (g g' : ℕ → List ℕ) → ((x : List ℕ) → copies n g x ≡ copies n' g' x) → pairs m f n g ≡ pairs m f n' g'
pairs_same m f n n' g g' e = count_same m (has_record f g n) (has_record f g' n') (λ i h. ap (ltb (copies i f (f i))) (e (f i)))

-- a pairing of the entries, in another order
pairing_reordered : (m : ℕ) (f f' : ℕ → List ℕ) (n : ℕ) (g : ℕ → List ℕ) (given : ℕ → Bool) (σ π : ℕ → ℕ) → Reordering m π
    → ((i : ℕ) → i < m → f' i ≡ f (π i)) → Pairing m f n g given σ → Pairing m f' n g (λ i. given (π i)) (λ i. σ (π i))
pairing_reordered m f f' n g given σ π ρ e a = record {
  within = λ i h t. a.within (π i) (ρ.within i h) t;
  equal = λ i h t. a.equal (π i) (ρ.within i h) t ∙ sym (e i h);
  once = λ i k h l s t d. sym (ρ.back i h) ∙ ap ρ.inverse (a.once (π i) (π k) (ρ.within i h) (ρ.within k l) s t d) ∙ ρ.back k l;
}

turned : (n : ℕ) (π : ℕ → ℕ) (ρ : Reordering n π) → Reordering n ρ.inverse
turned n π ρ = record { inverse = π; within = ρ.within_back; within_back = ρ.within; back = ρ.forth; forth = ρ.back }

pairs_fewer : (m : ℕ) (f f' : ℕ → List ℕ) (n : ℕ) (g : ℕ → List ℕ) (π : ℕ → ℕ) → Reordering m π → ((i : ℕ) → i < m → f' i ≡ f (π i))
    → pairs m f n g ≤ pairs m f' n g
pairs_fewer m f f' n g π ρ e =
    let c = count_reordered m π ρ (has_record f g n) in
    let p = pairing_most (pairing_reordered m f f' n g (has_record f g n) (paired m f n g) π ρ e (ranked m f n g).pairing) in
    omega (arith, c, p)

pairs_reordered : (m : ℕ) (f f' : ℕ → List ℕ) (n : ℕ) (g : ℕ → List ℕ) (π : ℕ → ℕ) → Reordering m π → ((i : ℕ) → i < m → f' i ≡ f (π i))
    → pairs m f' n g ≡ pairs m f n g
pairs_reordered m f f' n g π ρ e =
    let there = pairs_fewer m f f' n g π ρ e in
    let back = pairs_fewer m f' f n g ρ.inverse (turned m π ρ) (λ i h. ap f (sym (ρ.forth i h)) ∙ sym (e (ρ.inverse i) (ρ.within_back i h))) in
    omega (arith, there, back)

-- ---- books

-- how many entries have a record, with the numbers of both by name
matched_as : (w m n : ℕ) (model handIn : List ℕ) → length model / w ≡ m → length handIn / w ≡ n
    → matched w model handIn ≡ pairs m (record_at w model) n (record_at w handIn)
unfolding matched
matched_as w m n model handIn e d = ap₂ (λ (k l : ℕ). pairs k (record_at w model) l (record_at w handIn)) e d

pub any_order : AnyOrder
any_order = record {
  of_hand_in = λ w n hw model handIn e π ρ.
      let m = length model / w in
      matched_as w m n model (reordered n w π handIn) refl (reordered_whole w n hw handIn π)
      ∙ pairs_same m (record_at w model) n n (record_at w (reordered n w π handIn)) (record_at w handIn)
      (copies_reordered n (record_at w handIn) (record_at w (reordered n w π handIn)) π ρ (reordered_at w n hw handIn π))
      ∙ sym (matched_as w m n model handIn refl (whole w n hw handIn e));
  of_model = λ w n hw model handIn e π ρ.
      let k = length handIn / w in
      matched_as w n k (reordered n w π model) handIn (reordered_whole w n hw model π) refl
      ∙ pairs_reordered n (record_at w model) (record_at w (reordered n w π model)) k (record_at w handIn) π ρ (reordered_at w n hw model π)
      ∙ sym (matched_as w n k model handIn (whole w n hw model e) refl);
}

-- ---- one record more

-- an entry that is the record had one already, and of the others there are as many as before
pairs_more : (m : ℕ) (f : ℕ → List ℕ) (n : ℕ) (g g' : ℕ → List ℕ) → ((i : ℕ) → i < n → g' i ≡ g i) → copies m f (g' n) ≤ copies n g (g' n)
    → pairs m f (suc n) g' ≡ pairs m f n g
pairs_more m f n g g' e few = count_same m (has_record f g' (suc n)) (has_record f g n) (λ i h. at i h (same (g' n) (f i)) refl)
  where
    first : (x : List ℕ) → copies n g' x ≡ copies n g x
    first x = count_same n (λ i. same (g' i) x) (λ i. same (g i) x) (λ i h. ap (λ (y : List ℕ). same y x) (e i h))

    at : (i : ℕ) → i < m → (t : Bool) → same (g' n) (f i) ≡ t → has_record f g' (suc n) i ≡ has_record f g n i
    at i h false d = ap (ltb (copies i f (f i))) (count_miss n (λ k. same (g' k) (f i)) d ∙ first (f i))
    at i h true d =
        let x = same_eq (g' n) (f i) d in
        let l : copies i f (f i) < copies n g (f i) =
        omega (arith, rw x at few, count_before (λ k. same (f k) (f i)) i m h (same_refl (f i))) in
        let l' : copies i f (f i) < copies (suc n) g' (f i) = omega (arith, l, count_hit n (λ k. same (g' k) (f i)) d, first (f i)) in
        lt-ltb _ _ l' ∙ sym (lt-ltb _ _ l)

pub copies_add_nothing : CopiesAddNothing
copies_add_nothing w n hw model handIn x e hx few =
    let m = length model / w in
    let g = record_at w handIn in
    let g' = record_at w (handIn ++ x) in
    let long : length (handIn ++ x) ≡ w * suc n = length-append handIn x ∙ ap₂ ◌+◌ e hx ∙ sym (mul-suc w n) in
    let last : g' n ≡ x = part_seam (w * n) w handIn x e hx in
    let first : (i : ℕ) → i < n → g' i ≡ g i =
    λ i h. part_left (w * i) w handIn x (omega (arith, e, mul-le-mul_left w h, mul-suc w i)) in
    matched_as w m (suc n) model (handIn ++ x) refl (whole w (suc n) hw (handIn ++ x) long)
    ∙ pairs_more m (record_at w model) n g g' first (rw last few)
    ∙ sym (matched_as w m n model handIn refl (whole w n hw handIn e))

-- ---- full

-- if each of n entries has a record of n, each record is an entry's
module _ (n : ℕ) (f g : ℕ → List ℕ) (all : pairs n f n g ≡ n) where
  has_all : (i : ℕ) → i < n → has_record f g n i ≡ true
  has_all = count_full n (has_record f g n) (omega (arith, all))

  abbrev σ : ℕ → ℕ
  σ = paired n f n g

  one_to_one : OneToOne n (λ i. true) n (λ i. true) σ
  one_to_one =
      let a = (ranked n f n g).pairing in
      record { within = λ i h e. a.within i h (has_all i h); passes = λ i h e. refl; once = λ i k h l b c. a.once i k h l (has_all i h) (has_all k l) }

  abbrev entry_of : ℕ → ℕ
  entry_of j = find n (λ i. eqb (σ i) j)

  entry_of_lem : (j : ℕ) → j < n → (entry_of j < n) × (σ (entry_of j) ≡ j)
  entry_of_lem j h =
      let r = one_to_one_onto n σ one_to_one j h in
      let s = find_some n (λ i. eqb (σ i) j) r.0 r.1 (eq-eqb _ _ r.2) in
      (s.0, eqb-true _ _ s.1)

  full_reordering : Reordering n entry_of
  full_reordering =
      let a = (ranked n f n g).pairing in record {
        inverse = σ;
        within = λ j h. (entry_of_lem j h).0;
        within_back = λ i h. a.within i h (has_all i h);
        back = λ j h. (entry_of_lem j h).1;
        forth = λ i h.
            let j = entry_of_lem (σ i) (a.within i h (has_all i h)) in
            a.once (entry_of (σ i)) i j.0 h (has_all (entry_of (σ i)) j.0) (has_all i h) j.1;
      }

  full_at : (j : ℕ) → j < n → g j ≡ f (entry_of j)
  full_at j h = let k = entry_of_lem j h in ap g (sym k.1) ∙ (ranked n f n g).pairing.equal (entry_of j) k.0 (has_all (entry_of j) k.0)

-- each entry has a record if there are as many copies of each string
pairs_all : (n : ℕ) (f g : ℕ → List ℕ) → ((x : List ℕ) → copies n g x ≡ copies n f x) → pairs n f n g ≡ n
pairs_all n f g e =
    count_same n (has_record f g n) (λ i. true)
    (λ i h. lt-ltb (copies i f (f i)) (copies n g (f i)) (rw (e (f i)) (count_before (λ l. same (f l) (f i)) i n h (same_refl (f i)))))
    ∙ count_all n

module _ (w n : ℕ) (hw : 0 < w) (model : List ℕ) (hm : length model ≡ w * n) where
  abbrev Full : List ℕ → Type 0
  Full handIn = (matched w model handIn ≡ n) × (length handIn ≡ length model)

  reordering : (handIn : List ℕ) → Full handIn → (π : ℕ → ℕ) × Reordering n π × (handIn ≡ reordered n w π model)
  reordering handIn h =
      let hb : length handIn ≡ w * n = h.1 ∙ hm in
      let all = sym (matched_as w n n model handIn (whole w n hw model hm) (whole w n hw handIn hb)) ∙ h.0 in
      let f = record_at w model in
      let g = record_at w handIn in
      let π = entry_of n f g all in
      (π, full_reordering n f g all, sym (each_self n w handIn hb) ∙ joined_same n g (λ i. f (π i)) (full_at n f g all))

  reordered_full : (π : ℕ → ℕ) → Reordering n π → Full (reordered n w π model)
  reordered_full π ρ = (
    matched_as w n n model (reordered n w π model) (whole w n hw model hm) (reordered_whole w n hw model π)
        ∙ pairs_all n (record_at w model) (record_at w (reordered n w π model))
        (copies_reordered n (record_at w model) (record_at w (reordered n w π model)) π ρ (reordered_at w n hw model π)),
    reordered_length w n hw model π ∙ sym hm,
  )

  full_exactly : (handIn : List ℕ) → Full handIn ↔ ((π : ℕ → ℕ) × Reordering n π × (handIn ≡ reordered n w π model))
  full_exactly handIn = (reordering handIn, λ h. subst Full (sym h.2) (reordered_full h.0 h.1))

pub full_mark : FullMark
full_mark = record {
  exactly = λ r p handIn hr wf. full_exactly sealed_size (length p / plain_size) (omega arith) (sealed_form r p) (sealed_bytes r hr p wf).len handIn;
  opens = λ r p hr wf π ρ.
      let s = sealed_bytes r hr p wf in
      order_changed r (sealed_form r p) p (length p / plain_size) π hr s.bound s.len ρ
      (form_opens r hr p (sealed_form r p) (record { formed = wf; is = refl }));
}

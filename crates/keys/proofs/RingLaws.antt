-- The ring from its two halves, and the recipe on strings that have their lengths.
use Rattle.standard.proofs.Prelude.{◌≡◌, refl, ap₂, ◌∙◌, List, ◌++◌, ℕ}
use Rattle.std.specs.Prelude.{Ok}
use Rattle.standard.proofs.RefusalLaws.{taken}
use Rattle.standard.specs.Answers.{exactly}
use Rattle.standard.specs.Bytes.{part}
use Rattle.standard.specs.Keys.{ta41, half1, half2, ring, ring_of, ring_call}
use Rattle.standard.specs.Mixing.{tb4, tb7}
use Rattle.standard.specs.declared.RingInputs.{RingInputs}

four_keys : (d o c g : List ℕ)
    → part 0 26 (part 0 10 d ++ part 0 16 o) ++ part 0 26 (part 0 10 c ++ part 0 16 g) ≡ part 0 10 d ++ part 0 16 o ++ part 0 10 c ++ part 0 16 g
four_keys d o c g = refl

module _ (x : RingInputs) (d o g : List ℕ) (ed : d ≡ tb4 (half1 x).key (half2 x).key) (eo : o ≡ ta41 x.root x.rso)
    (eg : g ≡ tb7 x.group_key) where
  keys_are : part 0 10 d ++ part 0 16 o ++ part 0 10 x.c ++ part 0 16 g ≡ ring x
  unfolding ring
  keys_are = rw (ed, eo, eg)

  pub ring_made_lem : (front back r : List ℕ) → front ≡ part 0 10 d ++ part 0 16 o → back ≡ part 0 10 x.c ++ part 0 16 g
      → r ≡ part 0 26 front ++ part 0 26 back → r ≡ ring x
  ring_made_lem front back r f b e = e ∙ ap₂ (λ (y z : List ℕ). part 0 26 y ++ part 0 26 z) f b ∙ four_keys d o x.c g ∙ keys_are

pub ring_taken : (root rs rso rand1 rand2 c gk : List ℕ) (sides rm km : ℕ) {root' rs' rso' rand1' rand2' c' gk' : List ℕ}
    → Ok root' ≡ exactly 16 root → Ok rs' ≡ exactly 10 rs → Ok rso' ≡ exactly 10 rso → Ok rand1' ≡ exactly 10 rand1 → Ok rand2' ≡ exactly 10 rand2 → Ok c' ≡ exactly 10 c → Ok gk' ≡ exactly 12 gk
    → ring_of (record {
      root = root';
      rs = rs';
      rso = rso';
      rand1 = rand1';
      rand2 = rand2';
      c = c';
      group_key = gk';
      sides = sides;
      response_mask = rm;
      key_mask = km;
    }) ≡ ring_call root rs rso rand1 rand2 c gk sides rm km
unfolding ring_of ring_call
ring_taken root rs rso rand1 rand2 c gk sides rm km e1 e2 e3 e4 e5 e6 e7 =
    let t1 = taken 16 root e1 in
    let t2 = taken 10 rs e2 in
    let t3 = taken 10 rso e3 in
    let t4 = taken 10 rand1 e4 in
    let t5 = taken 10 rand2 e5 in
    let t6 = taken 10 c e6 in
    let t7 = taken 12 gk e7 in
    rw (t1.1, t2.1, t3.1, t4.1, t5.1, t6.1, t7.1) (rw (t1.0, t2.0, t3.0, t4.0, t5.0, t6.0, t7.0))

-- The recipe's inputs, read off a sitting of the right length.
use Rattle.standard.proofs.Prelude.{◌≡◌, refl, ap, ◌∙◌, List, ℕ, ◌+◌, ◌*◌, length, eq-eqb}
use Rattle.standard.proofs.KeysLaws.{ring_long}
use Rattle.standard.specs.Bytes.{◌!◌, part}
use Rattle.standard.specs.Keys.{ring_of, ring_call}
use Rattle.standard.specs.Programs.{sitting_ring}
use Rattle.standard.specs.Sizes.{sitting_size}
use Rattle.standard.specs.declared.RingInputs.{RingInputs}

module _ (s : List ℕ) where
  abbrev pub inputs : RingInputs
  inputs = record {
    root = part 0 16 s;
    rs = part 16 10 s;
    rso = part 26 10 s;
    rand1 = part 36 10 s;
    rand2 = part 46 10 s;
    c = part 56 10 s;
    group_key = part 66 12 s;
    sides = s ! 78;
    response_mask = 256 * s ! 79 + s ! 80;
    key_mask = 256 * s ! 81 + s ! 82;
  }

  sitting_long : length s ≡ sitting_size
      → ring_call (part 0 16 s) (part 16 10 s) (part 26 10 s) (part 36 10 s) (part 46 10 s) (part 56 10 s) (part 66 12 s) (s ! 78)
      (256 * s ! 79 + s ! 80) (256 * s ! 81 + s ! 82)
      ≡ sitting_ring s
  unfolding sitting_ring
  sitting_long h = rw (eq-eqb _ _ h)

  recipe : length s ≡ sitting_size → ring_of inputs ≡ sitting_ring s
  recipe h =
      ring_long (part 0 16 s) (part 16 10 s) (part 26 10 s) (part 36 10 s) (part 46 10 s) (part 56 10 s) (part 66 12 s) (s ! 78)
      (256 * s ! 79 + s ! 80) (256 * s ! 81 + s ! 82) refl
      ∙ sitting_long h

  pub sitting_recipe : length s ≡ sitting_size → (x : RingInputs) → x.root ≡ part 0 16 s → x.rs ≡ part 16 10 s → x.rso ≡ part 26 10 s
      → x.rand1 ≡ part 36 10 s → x.rand2 ≡ part 46 10 s → x.c ≡ part 56 10 s → x.group_key ≡ part 66 12 s → x.sides ≡ s ! 78
      → x.response_mask ≡ 256 * s ! 79 + s ! 80 → x.key_mask ≡ 256 * s ! 81 + s ! 82 → ring_of x ≡ sitting_ring s
  sitting_recipe h x e1 e2 e3 e4 e5 e6 e7 e8 e9 e10 =
      let same : x ≡ inputs = λ i. record {
        root = e1 i;
        rs = e2 i;
        rso = e3 i;
        rand1 = e4 i;
        rand2 = e5 i;
        c = e6 i;
        group_key = e7 i;
        sides = e8 i;
        response_mask = e9 i;
        key_mask = e10 i;
      } in
      ap ring_of same ∙ recipe h

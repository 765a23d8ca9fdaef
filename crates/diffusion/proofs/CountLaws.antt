-- Flips and the bits that change, under round keys laid out first; sums and extremes that go on from turn to turn; and the ways in which
-- the call returns.
use Rattle.standard.proofs.Prelude.{◌≡◌, refl, sym, ap, ◌∙◌, List, [], ◌++◌, ℕ, ◌+◌, ◌*◌, ◌/◌, ◌^◌, ◌<◌, add-one}
use Rattle.standard.proofs.Prelude.{arith, length, length-append}
use Prim.Native.Nat.{min, max}
use mathlib.Core.List.{foldl, foldl-append}
use Rattle.std.specs.Int.{w64, from_be_bytes}
use Rattle.std.specs.Int.Count.{ones}
use Rattle.std.proofs.lemmas.Nat.{ones_cat}
use Rattle.hurdle.specs.Lanes.{lanes}
use Rattle.standard.proofs.BytesLaws.{table_add}
use Rattle.standard.proofs.DiffusionLaws.{length_changes, least_from}
use Rattle.standard.proofs.RefusalLaws.{not_zero}
use Rattle.standard.specs.Answers.{refusal_number}
use Rattle.standard.specs.Bytes.{◌!◌, table, part}
use Rattle.standard.specs.Diffusion.{bits_set, change, record_changes, total, least, greatest, diffusion_call}
use Rattle.standard.specs.Hurdle.{schedule, encrypt}
use Rattle.standard.specs.Lists.{record_at, each, length_tests}
use Rattle.standard.specs.Refusals.{first}
use Rattle.standard.specs.Sizes.{diffusion_size}
use Rattle.standard.specs.declared.Refusal.{Refusal}
use Rattle.diffusion.specs.ChangeCounts.{change_with, none, Counted}
use Rattle.diffusion.specs.declared.figures.Figures.{Figures}

-- ---- a flip, and what it changes

-- the bits of a word are those of its bytes
pub word_ones : (f : ℕ → ℕ) → ((i : ℕ) → f i < 256) → ones (from_be_bytes w64 (table 8 f)) ≡ bits_set (table 8 f)
word_ones f h =
    ap ones (horner (f 0) (f 1) (f 2) (f 3) (f 4) (f 5) (f 6) (f 7))
    ∙ rw (
      ones_cat 8 _ (f 7) (h 7),
      ones_cat 8 _ (f 6) (h 6),
      ones_cat 8 _ (f 5) (h 5),
      ones_cat 8 _ (f 4) (h 4),
      ones_cat 8 _ (f 3) (h 3),
      ones_cat 8 _ (f 2) (h 2),
      ones_cat 8 _ (f 1) (h 1),
    )
    (omega arith)
  where
    horner : (a b c d e g i j : ℕ)
        → a * 256 ^ 7 + b * 256 ^ 6 + c * 256 ^ 5 + d * 256 ^ 4 + e * 256 ^ 3 + g * 256 ^ 2 + i * 256 ^ 1 + j
        ≡ ((((((a * 2 ^ 8 + b) * 2 ^ 8 + c) * 2 ^ 8 + d) * 2 ^ 8 + e) * 2 ^ 8 + g) * 2 ^ 8 + i) * 2 ^ 8 + j
    horner a b c d e g i j = omega arith

-- a record's changes are those under its key's round keys
pub record_under : (r keys block : List ℕ) → keys ≡ schedule (part 0 16 r) → block ≡ part 16 8 r
    → table 64 (change_with keys block) ≡ record_changes r
unfolding record_changes change_with change encrypt
record_under r keys block e f = rw (e, f) refl

-- ---- figures that go on

pub counted_none : {a : Figures} → Counted a [] a
counted_none = record { total = refl; least = refl; greatest = refl; most = omega arith }

module _ {a b c : Figures} where
  -- over further changes
  pub counted_more : {cs ds : List ℕ} → Counted a cs b → Counted b ds c → Counted a (cs ++ ds) c
  counted_more {cs} {ds} h k = record {
    total = k.total ∙ ap (λ (n : ℕ). foldl ◌+◌ n ds) h.total ∙ sym (foldl-append ◌+◌ a.total cs ds);
    least = k.least ∙ ap (λ (n : ℕ). foldl min n ds) h.least ∙ sym (foldl-append min a.least cs ds);
    greatest = k.greatest ∙ ap (λ (n : ℕ). foldl max n ds) h.greatest ∙ sym (foldl-append max a.greatest cs ds);
    most = rw length-append (omega (arith, h.most, k.most));
  }

  -- four entries of a table more
  pub counted_four : (f : ℕ → ℕ) (q : ℕ) {cs : List ℕ} → cs ≡ lanes (λ j. f (4 * q + j))
      → Counted a (table (4 * q) f) b → Counted b cs c → Counted a (table (4 * (q + 1)) f) c
  counted_four f q e h k =
      let next : 4 * (q + 1) ≡ 4 * q + 4 = omega arith in
      rw (next, table_add (4 * q) 4 f) (counted_more h (rw e at k))

  -- a record more
  pub counted_record : (xs : List ℕ) (i : ℕ) (x : List ℕ) → x ≡ record_at diffusion_size xs i
      → Counted a (each i diffusion_size record_changes xs) b → Counted b (record_changes x) c
      → Counted a (each (i + 1) diffusion_size record_changes xs) c
  counted_record xs i x e h k = rw add-one (counted_more h (rw e at k))

-- ---- the ways in which the call returns

module _ (xs : List ℕ) where
  abbrev n : ℕ
  n = length xs / diffusion_size

  pub list_refused : (refusal : Refusal) → refusal_number refusal ≡ first (length_tests diffusion_size (length xs))
      → record { refusal = refusal_number refusal; flips = 0; total = 0; least = 0; greatest = 0 } ≡ diffusion_call xs
  unfolding diffusion_call total least greatest
  list_refused refusal e = rw (← e, not_zero refusal)

  module _ (z : 0 ≡ first (length_tests diffusion_size (length xs))) {f : Figures} (k : Counted none (each n diffusion_size record_changes xs) f) where
    pub none_counted : n ≡ 0 → record { refusal = 0; flips = 64 * n; total = f.total; least = 0; greatest = f.greatest } ≡ diffusion_call xs
    unfolding diffusion_call total least greatest
    none_counted h = rw (← z, k.total, k.greatest, h)

    pub all_counted : (n ≡ 0 → ⊥) → ((i : ℕ) → xs ! i < 256)
        → record { refusal = 0; flips = 64 * n; total = f.total; least = f.least; greatest = f.greatest } ≡ diffusion_call xs
    unfolding diffusion_call total greatest
    all_counted h b = rw (← z, k.total, k.least, k.greatest, length_changes xs n, least_from xs b n (omega (arith, h)))

-- Sealing and opening, in the terms of the definitions.
use Rattle.standard.proofs.Prelude.{◌≡◌, refl, Bool, true, false, eqb, List, ◌++◌, ℕ, ◌+◌, ◌*◌, ◌/◌, ◌≤◌, ◌<◌, arith, length, drop}
use Rattle.identity.specs.declared.IdentityStrings.{IdentityStrings}
use Rattle.lists.proofs.WalkLaws.{end_fits, first_fit, Wrote, wrote_none, wrote_one, wrote_from}
use Rattle.lists.specs.Walks.{replace_at, replace_from}
use Rattle.records.specs.RecordForms.{sealed_with, opened_with}
use Rattle.standard.proofs.AnswerLaws.{pass_most}
use Rattle.standard.proofs.RunLaws.{inspection_most}
use Rattle.standard.specs.Books.{common_key, seal_record, open_record}
use Rattle.standard.specs.Identity.{bc}
use Rattle.standard.specs.Lists.{each}
use Rattle.standard.specs.Bytes.{choose}
use Rattle.standard.specs.Runs.{identity_runs, first_pass, second_pass}
use Rattle.standard.specs.Seals.{seal, unseal}
use Rattle.standard.specs.declared.Kind.{Kind}
use Rattle.books.specs.BothDirections.{size_of, output_size_of, fault_at, inspection_of, inspection_at, record_of, made_of, convert_of, convert_at}
use Rattle.books.specs.declared.direction.Direction.{Direction}
use Rattle.books.specs.declared.direction.Direction.TheVariants.{Sealing, Opening}

-- ---- sizes

pub sizes : (d : Direction) → (0 < size_of d) × (size_of d ≤ 21) × (output_size_of d ≤ 21)
sizes Sealing = omega arith
sizes Opening = omega arith

pub places_fit : (d : Direction) (i most : ℕ) → size_of d * (i + 4) ≤ most → i + 4 ≤ most
places_fit Sealing i most h = omega (arith, h)
places_fit Opening i most h = omega (arith, h)

-- ---- the cipher runs: two for an inspection at most

pub inspections_most : (d : Direction) (x : List ℕ) → inspection_of d x ≤ 2
inspections_most Sealing x = omega arith
inspections_most Opening x = inspection_most x

pub inspections_few : (r : List ℕ) (d : Direction) (xs : List ℕ) (n : ℕ) → first_pass n (fault_at r d xs) (inspection_at d xs) ≤ 2 * n
inspections_few r d xs n = pass_most (fault_at r d xs) (inspection_at d xs) 2 n (λ j. inspections_most d _)

-- they fit where a book of n records does
pub runs_fit : (d : Direction) (n size : ℕ) → size_of d * n ≤ size → 4 * n ≤ size
runs_fit Sealing n size h = omega (arith, h)
runs_fit Opening n size h = omega (arith, h)

pub both_fit : (r : List ℕ) (d : Direction) (xs : List ℕ) (n size : ℕ) → size_of d * n ≤ size
    → first_pass n (fault_at r d xs) (inspection_at d xs) + second_pass n ≤ size + 1
both_fit r d xs n size h = go (eqb n 0)
  where
    go : (t : Bool) → first_pass n (fault_at r d xs) (inspection_at d xs) + (choose t 0 1 + 2 * n) ≤ size + 1
    go true = omega (arith, inspections_few r d xs n, runs_fit d n size h)
    go false = omega (arith, inspections_few r d xs n, runs_fit d n size h)

-- ---- what is converted

pub made_length : (d : Direction) (k : Kind) (b x o : List ℕ) → length (made_of d k b x o) ≡ output_size_of d
unfolding sealed_with opened_with
made_length Sealing k b x o = refl
made_length Opening k b x o = refl

pub converted_length : (r b : List ℕ) (d : Direction) (x : List ℕ) → length (convert_of r b d x) ≡ output_size_of d
converted_length r b d x = made_length d _ b x _

-- ---- the pass that writes: the first i records of xs stand converted in an output that was o

module _ (r b : List ℕ) (d : Direction) (xs o : List ℕ) where
  abbrev pub Converted : ℕ → List ℕ → Type 0
  Converted i out = Wrote (size_of d) (output_size_of d) (convert_of r b d) xs o i out

  pub converted_none : Converted 0 o
  converted_none = wrote_none (size_of d) (output_size_of d) (convert_of r b d) (converted_length r b d) xs o

  pub converted_one : (i n : ℕ) → i < n → output_size_of d * n ≤ length o → (out : List ℕ) → Converted i out
      → {exit : List ℕ} → exit ≡ replace_at (output_size_of d) i (convert_at r b d xs i) out → Converted (i + 1) exit
  converted_one i n h room out k e =
      wrote_one (size_of d) (output_size_of d) (convert_of r b d) (converted_length r b d) xs o i (end_fits (output_size_of d) i n _ h room) out k e

  pub converted_x4 : (k n : ℕ) → k < n / 4 → output_size_of d * n ≤ length o → (out : List ℕ) → Converted (4 * k) out
      → {exit : List ℕ} → exit ≡ replace_from (output_size_of d) (4 * k) (λ j. convert_at r b d xs (4 * k + j)) 4 out → Converted (4 * (k + 1)) exit
  converted_x4 k n h room out q e =
      let next : 4 * (k + 1) ≡ 4 * k + 4 = omega arith in
      let fits = first_fit (output_size_of d) (4 * k + 4) n _ (omega (arith, h)) room in
      rw next (wrote_from (size_of d) (output_size_of d) (convert_of r b d) (converted_length r b d) xs o (4 * k) 4 fits out q e)

-- from the cipher run of the ring's common key they are the records of the definitions
pub all_converted : (r : List ℕ) (d : Direction) (xs o : List ℕ) (n : ℕ) {s : IdentityStrings} {i : ℕ} {out : List ℕ}
    → s ≡ record { bytes = bc (common_key r); runs = identity_runs } → i ≡ n → Converted r s.bytes d xs o i out
    → out ≡ each n (size_of d) (record_of r d) xs ++ drop (output_size_of d * n) o
unfolding sealed_with opened_with seal_record open_record seal unseal
all_converted r Sealing xs o n made e h = rw (made, e) at h.bytes
all_converted r Opening xs o n made e h = rw (made, e) at h.bytes

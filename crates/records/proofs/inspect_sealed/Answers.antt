use Rattle.std.proofs.Common.{◌≡◌, refl, sym, ◌∙◌, ap, Bool, true, false, not, List, [], ◌∷◌, ℕ, Some}
use Rattle.standard.specs.Books.{sealing_key, open_fault, inspection_runs}
use Rattle.standard.specs.Bytes.{◌!◌, part, choose}
use Rattle.standard.specs.Refusals.{flag_set, first}
use Rattle.standard.specs.Runs.{text_runs}
use Rattle.standard.specs.Seals.{clear, clears, fails, form, kind_of, opened}
use Rattle.standard.specs.declared.Kind.{Kind}
use Rattle.texts.specs.declared.text.Flag.{Flag}
use Rattle.records.proofs.inspect_sealed.Goals as goal

-- of a known kind the flag decides, of the text opened under the core's key
by_flag : (r t : List ℕ) {b : ℕ} {k : Kind} {key text : List ℕ} {flag : Flag} → b ≡ t ! 0 → Some k ≡ kind_of b
    → key ≡ (form k).key (sealing_key k r) (part 4 2 t) → text ≡ part 6 15 t
    → flag ≡ record { set = not (clear (form k) (opened key text)); runs = text_runs }
    → ◌≡◌ {A = ℕ × ℕ} (choose flag.set flag_set 0, flag.runs) (open_fault r t, inspection_runs t)
unfolding open_fault inspection_runs fails
by_flag r t {k = k} first_byte known key text flag =
    rw (flag, key, text, sym (known ∙ ap kind_of first_byte)) (go (clears (form k) (sealing_key k r) (part 4 2 t) (part 6 15 t)))
  where
    go : (a : Bool) → ◌≡◌ {A = ℕ × ℕ} (choose (not a) flag_set 0, text_runs) (first ((a, flag_set) ∷ []), text_runs)
    go true = refl
    go false = refl

pub returns-then-flag : goal.returns-then-flag
returns-then-flag c =
    rw c.if-flag.true at
    (by_flag c.args.ring.now c.args.rec.now c.byte_at.ensures c.in-Some.ensures c.core_key.ensures c.part.ensures c.flag_of-flag.ensures)

pub returns-else-flag : goal.returns-else-flag
returns-else-flag c =
    rw c.if-flag.false at
    (by_flag c.args.ring.now c.args.rec.now c.byte_at.ensures c.in-Some.ensures c.core_key.ensures c.part.ensures c.flag_of-flag.ensures)

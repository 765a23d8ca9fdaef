-- One text, one entry: the checks, a text, a record, a book. Each is `of_image` of two maps that are inverse.
use Rattle.standard.proofs.Prelude.{◌≡◌, refl, sym, ap, ◌∙◌, Bool, true, false, ◌↔◌, List, [], ◌∷◌, ◌++◌, ℕ, ◌≤◌, arith, eqb, length, take, drop}
use Rattle.standard.proofs.Prelude.{take_at, eqb-true, eqb-false, eq-eqb, le-leb}
use mathlib.Core.Logic.Iff
use Rattle.standard.specs.Books.{plain_fault, seal_record, open_fault, open_record, book_call, open_book}
use Rattle.standard.specs.Bytes.{part, same, Bytes}
use Rattle.standard.proofs.BytesLaws.{Passed}
use Rattle.standard.specs.BooksFacts.{IsSealedForm}
use Rattle.standard.specs.SealsFacts.{seal_body}
use Rattle.standard.specs.Lists.{answer, records_call}
use Rattle.standard.specs.Seals.{sealing_size, form_of, failed, seal, unseal, unseal_call}
use Rattle.standard.specs.Sizes.{ring_size, plain_size, sealed_size}
use Rattle.standard.specs.declared.Algorithm.{Algorithm}
use Rattle.standard.specs.declared.Bytes15.{Bytes15}
use Rattle.standard.specs.declared.Version.{Version}
use Rattle.standard.proofs.BytesLaws.{spelled, spell, part_left}
use Rattle.standard.proofs.CallPairLaws.{sealed_by, opens}
use Rattle.standard.proofs.CheckLaws.{clear_same}
use Rattle.standard.proofs.Demand3Laws.{demand3}
use Rattle.standard.proofs.InverseLaws.{Inverse, reversed}
use Rattle.standard.proofs.RecordLaws.{Plain, Sealed, record_law}
use Rattle.standard.proofs.SealLaws.{Body, form_law, sealing}
use Rattle.claims.specs.Entries.{OfOne, Legal, Opens}
use Rattle.claims.specs.TrueClaims.{ChecksExactly, OneText, SealingUndone, EntriesApart, TextsApart, OneRecord, OneBook, RecordAlone}
use Rattle.claims.proofs.OnlyLaws.{of_image, apart, of_one_same, inverse_same}
use Rattle.claims.proofs.TermLaws.{pair, legal_body, sealing_size_lem, unsealing_size, text_by, body_by, opens_clear}

-- ---- texts

seals_to : (a : Algorithm) (s : List ℕ) (v : Version) (t : List ℕ) → length s ≡ sealing_size a → (b : List ℕ)
    → (Body (form_of a) b × (seal (form_of a) s (pair v) b ≡ t)) ↔ (Legal a b × (seal_body a b v s ≡ record { refusal = 0; bytes = t }))
seals_to a s v t hs b = (
  λ h. let l = (legal_body a b).1 h.0 in (l, sealed_by a s v hs b h.0 ∙ ap (λ (x : List ℕ). record { refusal = 0; bytes = x }) h.1),
  λ h. ((legal_body a b).0 h.0, ap (λ (x : Bytes15). x.bytes) (sym (sealed_by a s v hs b ((legal_body a b).0 h.0)) ∙ h.1)),
)

-- under a sealing key of the length that the calls take
taken : (a : Algorithm) (s : List ℕ) (v : Version) (t : List ℕ) → length s ≡ sealing_size a
    → OfOne (Opens a s v t) (λ b. Legal a b × (seal_body a b v s ≡ record { refusal = 0; bytes = t })) (unseal_call a t s v).body
taken a s v t hs =
    of_one_same (Iff.symm (opens_clear a s v t hs)) (seals_to a s v t hs)
    (λ o. sym (body_by a s v t hs o.bytes.len)) (of_image (sealing a s (pair v)) t)

pub one_text : OneText
one_text a s v t = record {
  exactly = (
    λ o. (taken a s v t (unsealing_size a s v t o.accepted)).exactly.0 o,
    λ b. (taken a s v t (sealing_size_lem a s v b.0 (ap (λ (x : Bytes15). x.refusal) b.1.1))).exactly.1 b,
  );
  one = λ o. (taken a s v t (unsealing_size a s v t o.accepted)).one o;
}

-- sealing and unsealing, in the terms of the calls
pub entries : (a : Algorithm) (s : List ℕ) (v : Version) → length s ≡ sealing_size a
    → Inverse (Legal a) (Opens a s v) (seal (form_of a) s (pair v)) (unseal (form_of a) s (pair v))
entries a s v hs = inverse_same (λ b. Iff.symm (legal_body a b)) (λ t. Iff.symm (opens_clear a s v t hs)) (sealing a s (pair v))

pub sealing_undone : SealingUndone
sealing_undone a s v b hs hb = opens a s v hs b ((legal_body a b).0 hb)

pub entries_apart : EntriesApart
entries_apart a s v b c hs hb hc e =
    apart (entries a s v hs) b c hb hc (sym (text_by a s v hs b hb) ∙ ap (λ (x : Bytes15). x.bytes) e ∙ text_by a s v hs c hc)

pub texts_apart : TextsApart
texts_apart a s v t u ht hu e =
    let hs = unsealing_size a s v t ht.accepted in
    apart (reversed (entries a s v hs)) t u ht hu (sym (body_by a s v t hs ht.bytes.len) ∙ e ∙ body_by a s v u hs hu.bytes.len)

-- ---- the checks of BL2's output

passes : (a : Algorithm) (u : List ℕ) → Bytes 15 u → (failed (form_of a) u ≡ 0) ↔ Passed 15 (λ w. same ((form_of a).found w) ((form_of a).wanted w)) u
passes a u h = (
  λ e. record { bytes = h; passed = sym (clear_same a u) ∙ eq-eqb _ 0 e },
  λ p. eqb-true _ 0 (clear_same a u ∙ p.passed),
)

expands_to : (a : Algorithm) (u : List ℕ) → Bytes 15 u → (b : List ℕ)
    → (Body (form_of a) b × (part 0 15 ((form_of a).input b) ≡ u)) ↔ (Legal a b × ((form_of a).input b ≡ u ++ 0 ∷ []))
expands_to a u h b = (
  λ e. ((legal_body a b).1 e.0, (form_law a).ends b ∙ ap (λ (x : List ℕ). x ++ 0 ∷ []) e.1),
  λ e. ((legal_body a b).0 e.0, ap (part 0 15) e.1 ∙ part_left 0 15 u (0 ∷ []) (omega (arith, h.len)) ∙ spell h),
)

pub checks_exactly : ChecksExactly
checks_exactly a u h = of_one_same (Iff.symm (passes a u h)) (expands_to a u h) (λ z. refl) (of_image (form_law a).checks u)

-- ---- records

plain_parts : (r t p : List ℕ) → (Plain p × (seal_record r p ≡ t)) ↔ (Bytes plain_size p × (plain_fault p ≡ 0) × (seal_record r p ≡ t))
plain_parts r t p = (
  λ h. (h.0.bytes, eqb-true _ 0 h.0.passed, h.1),
  λ h. (record { bytes = h.0; passed = eq-eqb _ 0 h.1 }, h.2),
)

sealed_parts : (r t : List ℕ) → Bytes sealed_size t → (open_fault r t ≡ 0) ↔ Sealed r t
sealed_parts r t h = (λ e. record { bytes = h; passed = eq-eqb _ 0 e }, λ p. eqb-true _ 0 p.passed)

pub one_record_lem : OneRecord
one_record_lem r t hr h = of_one_same (Iff.symm (sealed_parts r t h)) (plain_parts r t) (λ z. refl) (of_image (record_law r hr) t)

-- ---- books

pub one_book : OneBook
one_book r s out hr bs room =
    let d = demand3 r hr s bs out room in
    let is : (p : List ℕ) → IsSealedForm r p s → take (open_book r s out).0.written (open_book r s out).1 ≡ p =
    λ p q. rw (d.writes p q) (take_at p (drop (length p) out) (length p) refl) in
    record {
      exactly = d.opens;
      one = λ e. let q = d.opens.0 e in record { has = rw (is q.0 q.1) q.1; only = λ p h. sym (is p h) };
    }

-- a record is a book of one
alone : (r t out : List ℕ) → length r ≡ ring_size → length t ≡ sealed_size → plain_size ≤ length out → (z : Bool) → eqb (open_fault r t) 0 ≡ z
    → ((open_book r t out).0.refusal ≡ open_fault r t) × (open_fault r t ≡ 0 → (open_book r t out).1 ≡ open_record r t ++ drop plain_size out)
unfolding open_book book_call records_call answer
alone r t out hr ht room true e =
    rw (ht, eq-eqb _ _ hr, le-leb _ _ room, spelled sealed_size t ht, e) (sym (eqb-true _ 0 e), λ z. refl)
alone r t out hr ht room false e =
    rw (ht, eq-eqb _ _ hr, le-leb _ _ room, spelled sealed_size t ht, e) (ap (open_fault r) (spelled sealed_size t ht), λ z. absurd (eqb-false _ 0 e z))

pub record_alone : RecordAlone
record_alone r t out hr ht room = alone r t out hr ht room (eqb (open_fault r t) 0) refl

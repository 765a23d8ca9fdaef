-- What of a record does not depend on its kind byte, and what of a ring not on C.
use Rattle.standard.proofs.Prelude.{◌≡◌, refl, List, ℕ}
use Rattle.standard.specs.Books.{ring_key, record_kind, plain_fault, seal_record, open_fault, open_record}
use Rattle.standard.specs.Seals.{kind_of}
use Rattle.standard.specs.declared.RingKey.{RingKey}
use Rattle.standard.specs.declared.RingKey.TheVariants.{D, O, G}
use Rattle.book_claims.specs.RecordSentences.{KindByteFree, SameOAndG, with_c, CommonKeyFree}

-- kinds 3 and 4 have one form and one key
pub kind_byte_free : KindByteFree
unfolding kind_of plain_fault seal_record open_fault open_record
kind_byte_free r = record { opens = λ x. refl; plain = λ x. refl; seals = λ x. refl; sealed = λ x. refl }

-- kinds 2 and 5, and kinds 3 and 6, have one form, and then one key
pub same_o_and_g : SameOAndG
unfolding kind_of plain_fault seal_record open_fault open_record
same_o_and_g r e = (
  record { opens = λ x. rw e; plain = λ x. rw e; seals = λ x. refl; sealed = λ x. rw e },
  record { opens = λ x. rw e; plain = λ x. rw e; seals = λ x. refl; sealed = λ x. rw e },
)

-- ---- C

-- no sealing key has a byte of C
sealing_keys : (u : RingKey) (c r : List ℕ) → ring_key u (with_c c r) ≡ ring_key u r
sealing_keys D c r = refl
sealing_keys O c r = refl
sealing_keys G c r = refl

pub common_key_free : CommonKeyFree
unfolding open_fault open_record
common_key_free r c t =
    let same = sealing_keys (record_kind t).under c r in
    record { opens = rw same; kind = refl; rest = rw same }

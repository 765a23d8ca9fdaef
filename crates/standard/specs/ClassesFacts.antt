-- A whole class of challenges (02, 2): its records are those of single calls, stated. The proof is in proofs/FactLaws.
use Rattle.std.specs.Prelude.{List, ◌++◌, ◌≡◌, ℕ, ◌/◌, ◌^◌, ◌<◌, length}
use Rattle.standard.specs.Bytes.{part}
use Rattle.standard.specs.Classes.{ta12_class_call}
use Rattle.standard.specs.Keys.{ta12_call}
use Rattle.standard.specs.Lists.{record_at}
use Rattle.standard.specs.Sizes.{challenge_size, authentication_size}
use Rattle.standard.specs.declared.Authentication.{Authentication}

-- wherever the class is accepted: the single TA12 call answers 0 to challenge i, and record i of what the class writes is the response and
-- then the key that it answers, four bytes and ten. Masks of sixteen bits choose just as many, so these are the response and the key whole
pub record SingleCalls : Type 0 where
  pub answers : (ks xs : List ℕ) (rm km : ℕ) (out : List ℕ) → (ta12_class_call ks xs rm km out).0.refusal ≡ 0
      → (i : ℕ) → i < length xs / challenge_size
      → let a : Authentication = ta12_call ks (record_at challenge_size xs i) rm km in
      (a.refusal ≡ 0)
      × (record_at authentication_size (ta12_class_call ks xs rm km out).1 i ≡ part 0 4 a.response ++ part 0 10 a.key)
  pub whole : (ks xs : List ℕ) (rm km : ℕ) (out : List ℕ) → rm < 2 ^ 16 → km < 2 ^ 16 → (ta12_class_call ks xs rm km out).0.refusal ≡ 0
      → (i : ℕ) → i < length xs / challenge_size
      → let a : Authentication = ta12_call ks (record_at challenge_size xs i) rm km in
      record_at authentication_size (ta12_class_call ks xs rm km out).1 i ≡ a.response ++ a.key

-- The register (02, 7): what the request asks for, stated. The proofs are in proofs/RegisterLaws.
use Rattle.std.specs.Prelude.{List, ◌≡◌, ℕ, ◌%◌, ◌<◌, length}
use Rattle.standard.specs.Hurdle.{encrypt, decrypt}
use Rattle.standard.specs.Register.{step, step_back, turned, start, onward, backward, encrypt_register, decrypt_register}

-- each of step and step back undoes the other, in each round
pub record StepBack : Type 0 where
  pub undone : (i : ℕ) (q : List ℕ) → i < 16 → length q ≡ 16 → step_back i (step i q) ≡ q
  pub redone : (i : ℕ) (q : List ℕ) → i < 16 → length q ≡ 16 → step i (step_back i q) ≡ q

-- sixteen steps lead back to the key
abbrev pub Returns : Type 0
Returns = (key : List ℕ) → length key ≡ 16 → turned key 16 ≡ key

-- and so does the cipher's own register, after the sixteen rounds of encryption and after those of decryption
pub record KeyAgain : Type 0 where
  pub encrypting : (key b : List ℕ) → length key ≡ 16 → (onward 16 (start key b)).register ≡ key
  pub decrypting : (key b : List ℕ) → length key ≡ 16 → (backward 16 (start key b)).register ≡ key

-- n steps are those of n modulo 16
abbrev pub BeginsAnew : Type 0
BeginsAnew = (key : List ℕ) (n : ℕ) → length key ≡ 16 → turned key n ≡ turned key (n % 16)

-- either form gives what the other gives, for every block under every key
pub record SameCipher : Type 0 where
  pub encrypting : (key b : List ℕ) → encrypt_register key b ≡ encrypt key b
  pub decrypting : (key b : List ℕ) → length key ≡ 16 → decrypt_register key b ≡ decrypt key b

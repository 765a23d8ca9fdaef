-- What unsealing answers, read off BL2's output.
use Rattle.standard.proofs.Prelude.{◌≡◌, ap, ◌∙◌, List, ℕ, length}
use Rattle.standard.specs.Hurdle.{schedule}
use Rattle.standard.specs.Seals.{sealing_size, form_of, failed, with8, opened, unseal, fails}
use Rattle.standard.specs.Seals.{unseal_call}
use Rattle.standard.specs.declared.Algorithm.{Algorithm}
use Rattle.standard.specs.declared.Version.{Version}
use Rattle.standard.proofs.CallPairLaws.{unsealed_by}
use Rattle.claims.proofs.ComputedCipher.{bl2_chained, bl2_chained_lem}
use Rattle.claims.proofs.TermLaws.{pair}

-- what unsealing answers to a text that BL2 takes to u
pub answered : (k : Algorithm) (t s : List ℕ) (v : Version) (u : List ℕ) → length t ≡ 15 → length s ≡ sealing_size k
    → bl2_chained (schedule ((form_of k).key s (pair v))) (with8 t) ≡ u
    → unseal_call k t s v ≡ record { refusal = 0; body = (form_of k).shrink u; failed_checks = failed (form_of k) u }
unfolding unseal fails opened
answered k t s v u ht hs e =
    unsealed_by k s v hs t ht
    ∙ ap (λ (x : List ℕ). record { refusal = 0; body = (form_of k).shrink x; failed_checks = failed (form_of k) x })
    (bl2_chained_lem ((form_of k).key s (pair v)) (with8 t) ∙ e)

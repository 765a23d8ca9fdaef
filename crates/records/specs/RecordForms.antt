-- What a record becomes, from the output b of the cipher run that gives a ring's identity strings and the core's output.
use Rattle.std.specs.Prelude.{List, ◌∷◌, ◌++◌, ℕ}
use Rattle.standard.specs.Bytes.{◌!◌, part}
use Rattle.standard.specs.Identity.{encrypt_identity, decrypt_identity}
use Rattle.standard.specs.Seals.{form}
use Rattle.standard.specs.declared.Kind.{Kind}

-- the head with its identity encrypted, then the sealed text; and the head with its identity recovered, then the body of BL2's output
unfoldable pub sealed_with : (b p text : List ℕ) → List ℕ
sealed_with b p text = p ! 0 ∷ part 0 3 (encrypt_identity b (part 1 3 p)) ++ part 4 2 p ++ part 0 15 text

unfoldable pub opened_with : Kind → (b t u : List ℕ) → List ℕ
opened_with k b t u = t ! 0 ∷ part 0 3 (decrypt_identity b (part 1 3 t)) ++ part 4 2 t ++ part 0 12 ((form k).shrink u)

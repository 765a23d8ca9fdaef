-- BL2 under round keys laid out first, and the cores' outputs with their cipher runs.
use Rattle.std.specs.Prelude.{ℕ, List, [], ◌∷◌, ◌++◌}
use Rattle.standard.specs.Bytes.{◌!◌, ◌⊕◌, part, xors}
use Rattle.standard.specs.Hurdle.{decrypt_with}
use Rattle.standard.specs.Runs.{text_runs}
use Rattle.cores.specs.declared.CoreOutput.{CoreOutput}

-- BL2 under round keys laid out first
unfoldable pub bl2_with : List ℕ → List ℕ → List ℕ
bl2_with keys y =
    let r : List ℕ = decrypt_with keys (part 8 8 y) in
    let w : List ℕ = part 0 7 y ++ (y ! 7 ⊕ r ! 7) ∷ [] in
    part 0 8 (decrypt_with keys w) ++ xors 7 r (part 0 7 y)

-- an output of BL1, sixteen bytes, or of BL2, fifteen, with the cipher runs that it took
abbrev pub counted : {n : ℕ} → List ℕ → CoreOutput n
counted o = record { output = o; runs = text_runs }

-- The bytes of which `Noticed` claims nothing: examples for each.
use Rattle.std.specs.Prelude.{List, ◌⊎◌, ◌≡◌, ℕ, ◌<◌, ◌≤◌}
use Rattle.standard.specs.Seals.{sealing_size}
use Rattle.standard.specs.declared.Algorithm.{Algorithm}
use Rattle.claims.specs.Entries.{Opens, upward, version7}
use Rattle.claims.specs.TrueClaims.{changed, noticed_from}

-- 9c: "Of some text a change of each other byte goes unnoticed: of the first for kind 1, of the first three for kinds 2 and 5, of the first
-- two for kinds 3, 4 and 6, and of the last eight for all." For each kind and each other byte there is a text that opens, and a change of
-- that byte with which it opens still: under D 00 01 .. 09, or O or G 00 01 .. 0f, and with version 7. The change is byte i ⊕ d, where d is
-- not 0
pub record Unnoticed (a : Algorithm) (i d : ℕ) (t : List ℕ) : Type 0 where
  pub change : d ≡ 0 → ⊥
  pub before : Opens a (upward 0 (sealing_size a)) version7 t
  pub after : Opens a (upward 0 (sealing_size a)) version7 (changed 15 i d t)

abbrev pub Sharp : Type 0
Sharp = (a : Algorithm) (i : ℕ) → i < 15 → (i < noticed_from a) ⊎ (7 ≤ i) → (d : ℕ) × (t : List ℕ) × Unnoticed a i d t

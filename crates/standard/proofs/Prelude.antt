-- The words of the logic that most proofs use, passed on, so that a proof brings them in by one line.
pub use mathlib.Core.Path.{◌≡◌, refl, sym, ap, ap₂, ◌∙◌, subst}
pub use mathlib.Core.Bool.{Bool, true, false, not, ◌&&◌, true≢false}
pub use mathlib.Core.Logic.{◌⊎◌, inl, inr, ◌↔◌}
pub use mathlib.Core.List.{List, [], ◌∷◌, ◌++◌, append-nil}
pub use Prim.Native.Nat.{ℕ, zero, suc, ◌+◌, ◌-◌, ◌*◌, ◌/◌, ◌%◌, ◌^◌, ◌≤◌, ◌<◌, zero-le}
pub use native.Mathlib.Nat.{add-zero, zero-add, add-suc, add-mul, add-sub_cancel_left, mul-zero, one-mul, mul-suc, mul_comm, mul-le-mul_left}
pub use native.Mathlib.Nat.{mul-div_cancel_left, div-one, mod-lt, mod-eq_of_lt, suc_inj, suc-ne-zero, zero-lt-suc, le_of_suc-le-suc, eq-or-lt_of_le}
pub use native.Mathlib.Numerals.{add-one}
pub use native.Mathlib.Omega.{arith}
pub use lib.Bits.{xor_comm, xor_self, xor_zero_r}
pub use lib.Dec.{eqb, leb, ltb}
pub use lib.ListN.{length, take, drop, set, length-append, length-set, length-take, length-drop, drop_of_length-le}
pub use lib.Pow.{pow-add, pow_pos, shl_exact}
pub use lib.Seq.{take_all, take_at, drop_at, drop-drop}
pub use borrow.Author.Rules.{rules}
pub use borrow.Author.Tests.{eqb-true, eqb-false, eq-eqb, ne_eqb, leb-true, le-leb, lt-leb, ltb-true, ltb-false, lt-ltb, le-ltb, not-true, not-false}

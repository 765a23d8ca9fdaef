-- Lines that grow at the end, and texts written into an output one after the other.
use Rattle.standard.proofs.Prelude.{Bool, true, false, ltb, ap₂, ◌*◌, zero-le, drop-drop, lt-ltb, le-ltb, ltb-true, ltb-false}
use Rattle.standard.proofs.Prelude.{◌≡◌, refl, sym, ap, ◌∙◌, List, [], ◌∷◌, ◌++◌, append-nil, ℕ, zero, suc, ◌+◌, ◌-◌, ◌/◌, ◌≤◌, ◌<◌, add-one}
use Rattle.standard.proofs.Prelude.{arith, length, take, drop, length-append, length-drop, length-take, take_all, take_at, drop_at}
use mathlib.Core.List.{append_assoc}
use native.Mathlib.Nat.{sub-zero, zero-sub}
use native.Mathlib.Numerals.{unary_clauses}
use Prim.Native.Nat.{min}
use borrow.Rule.Slice.PartMut.{put_mid}
use lib.ListN.{replicate, length-replicate, drop_of_length-le}
use lib.Seq.{length-take-le, take-nil, take-suc}
use Rattle.std.proofs.lemmas.List.{drop-replicate, take_min}
use Rattle.standard.specs.Bytes.{◌!◌, choose}
use Rattle.standard.specs.Lines.{hex_byte, hex}
use Rattle.standard.specs.Lists.{joined, record_at}
use Rattle.std.specs.Simd.{first_chunks}
use lib.ListN.{get_or}
use Rattle.standard.proofs.BytesLaws.{part_lent}
use native.Mathlib.Nat.{mul-zero, mul-le-mul_left, mul-div-le}
use Rattle.standard.specs.Lines.{text_call, TextAnswer}
use Rattle.lines.proofs.TextLaws.{hex_step, digits_none, digits_last, digits_more}
use Rattle.lines.specs.LineStates.{room, ◌▸◌, padding, IsPadded, Over, put_call}

-- ---- one text after the other

pub line_none : (l : List ℕ) → l ≡ l ▸ []
unfolding ◌▸◌
line_none l = simp (take-nil, append-nil) refl

-- a byte more; a full line stays as it is
pub line_push : (l : List ℕ) (b : ℕ) → l ▸ (b ∷ []) ≡ choose (ltb (length l) room) (l ++ (b ∷ [])) l
unfolding ◌▸◌
line_push l b = go (ltb (length l) room) refl
  where
    go : (t : Bool) → ltb (length l) room ≡ t → l ++ take (room - length l) (b ∷ []) ≡ choose t (l ++ (b ∷ [])) l
    go true e = ap (λ (w : List ℕ). l ++ w) (take_all (room - length l) (b ∷ []) (omega (arith, ltb-true (length l) room e)))
    go false e =
        let none : room - length l ≡ 0 = omega (arith, ltb-false (length l) room e) in
        ap (λ (n : ℕ). l ++ take n (b ∷ [])) none ∙ append-nil l

-- of a line's room the first bytes, as many as are said
pub front_whole : (bytes : List ℕ) (n : ℕ) {m : ℕ} {w l : List ℕ} → length bytes ≡ room → m ≡ min n room → w ≡ take m bytes → l ≡ [] ▸ w → l ≡ take n bytes
unfolding ◌▸◌
front_whole bytes n {m} whole least cut e =
    let all : take room (take m bytes) ≡ take m bytes = take_all room (take m bytes) (simp length-take (omega (arith, whole))) in
    let of_n : take m bytes ≡ take n bytes = ap (λ (k : ℕ). take k bytes) least ∙ ap (λ (k : ℕ). take (min n k) bytes) (sym whole) ∙ take_min n bytes in
    e ∙ ap (take room) cut ∙ all ∙ of_n

take_append : (n : ℕ) (v w : List ℕ) → take n (v ++ w) ≡ take n v ++ take (n - length v) w
take_append zero v w = simp zero-sub refl
take_append (suc n) [] w = simp sub-zero refl
take_append (suc n) (x ∷ v) w = simp unary_clauses (ap (λ (r : List ℕ). x ∷ r) (take_append n v w))

pub line_append : (l v w : List ℕ) → l ▸ (v ++ w) ≡ l ▸ v ▸ w
unfolding ◌▸◌
line_append l v w =
    let left : room - length l - length v ≡ room - length (l ++ take (room - length l) v) = simp (length-append, length-take) (omega arith) in
    ap (λ (t : List ℕ). l ++ t) (take_append (room - length l) v w)
    ∙ sym (append_assoc l (take (room - length l) v) (take (room - length l - length v) w))
    ∙ ap (λ (n : ℕ). (l ++ take (room - length l) v) ++ take n w) left

pub line_cons : (l : List ℕ) (b : ℕ) (w : List ℕ) → l ▸ (b ∷ w) ≡ l ▸ (b ∷ []) ▸ w
line_cons l b w = line_append l (b ∷ []) w

pub ruleset text_steps = (line_none, line_cons, line_append)

-- w after v, where v is there
pub line_after : (l v w : List ℕ) {r t : List ℕ} → r ≡ l ▸ v → t ≡ r ▸ w → t ≡ l ▸ (v ++ w)
line_after l v w e f = f ∙ ap (λ (k : List ℕ). k ▸ w) e ∙ sym (line_append l v w)

-- a turn of a loop over s that writes the text g of each byte, which makes the text f of s
pub line_next : (f : List ℕ → List ℕ) (g : ℕ → List ℕ) → ((s : List ℕ) (b : ℕ) → f (s ++ (b ∷ [])) ≡ f s ++ g b)
    → (l s : List ℕ) (i : ℕ) {r t : List ℕ} → i < length s → r ≡ l ▸ f (take i s) → t ≡ r ▸ g (s ! i) → t ≡ l ▸ f (take (i + 1) s)
line_next f g step l s i h p q =
    line_after l (f (take i s)) (g (s ! i)) p q
    ∙ ap (λ (t : List ℕ). l ▸ t) (sym (step (take i s) (s ! i)) ∙ ap f (sym (take-suc s i 0 h) ∙ ap (λ (k : ℕ). take k s) (sym (add-one i))))

-- such a turn where each byte gives two digits, and before the first one
pub hex_none : (l : List ℕ) → l ≡ l ▸ hex []
unfolding hex
hex_none l = line_none l

pub hex_next : (l s : List ℕ) (i : ℕ) (r t : List ℕ) → i < length s → r ≡ l ▸ hex (take i s) → t ≡ r ▸ hex_byte (s ! i) → t ≡ l ▸ hex (take (i + 1) s)
hex_next l s i r t h p q = line_next hex hex_byte hex_step l s i h p q

-- what a number's digits in a line follow from
pub ruleset digits_steps = (line_none, line_append, digits_none, digits_last, digits_more)

pub ruleset hex_steps = (hex_none, hex_next)

-- a text for which a line has room
pub line_whole : (w : List ℕ) {l : List ℕ} → l ≡ [] ▸ w → length w ≤ room → l ≡ w
unfolding ◌▸◌
line_whole w e h = e ∙ take_all room w h

-- ---- a text written after the first n bytes of a line, into the room that is left there

module _ (bytes w exit : List ℕ) (n : ℕ) (h : IsPadded n bytes)
    (copied : exit ≡ take (length (take (room - n) (drop n bytes))) w ++ drop (length w) (take (room - n) (drop n bytes)))
    {m : ℕ} (e : m ≡ min (n + length w) room) where
  front : List ℕ
  front = take n bytes ++ take (room - n) w

  left : take (room - n) (drop n bytes) ≡ padding n
  left = take_all (room - n) (drop n bytes) (simp length-drop (omega (arith, h.whole))) ∙ h.padded

  front_length : length front ≡ m
  unfolding front
  front_length = simp (length-append, length-take) (omega (arith, h.whole, h.within, e))

  written : put_mid n (room - n) bytes exit ≡ front ++ drop (length w) (padding n)
  unfolding front
  written =
      let none = drop_of_length-le (drop n bytes) {i = room - n} (simp length-drop (omega (arith, h.whole))) in
      rw (copied, left, length-replicate, none, append-nil, ← append_assoc) refl

  pub written_text : take m (put_mid n (room - n) bytes exit) ≡ take n bytes ▸ w
  unfolding ◌▸◌ front
  written_text =
      ap (take m) written ∙ take_at front (drop (length w) (padding n)) m front_length
      ∙ ap (λ (k : ℕ). take n bytes ++ take (room - k) w) (sym (length-take-le n bytes (omega (arith, h.whole, h.within))))

  pub written_padded : IsPadded m (put_mid n (room - n) bytes exit)
  written_padded = record {
    whole = ap length written ∙ simp (length-append, length-drop, length-replicate) (omega (arith, front_length, e, h.within));
    within = omega (arith, e);
    padded =
        ap (drop m) written ∙ drop_at front (drop (length w) (padding n)) m front_length
        ∙ drop-replicate (length w) (room - n) 0
        ∙ ap (λ (k : ℕ). replicate k 0) (omega (arith, e));
  }

-- ---- texts over an output

-- a lent part that goes to the end, `&mut xs[at..]`: it is the whole rest
module _ (at : ℕ) (xs : List ℕ) where
  pub lent_rest : take (length xs - at) (drop at xs) ≡ drop at xs
  lent_rest = take_all (length xs - at) (drop at xs) (simp length-drop (omega arith))

  pub lent_none : drop (length xs - at) (drop at xs) ≡ []
  lent_none = drop_of_length-le (drop at xs) {i = length xs - at} (simp length-drop (omega arith))

-- an output that is too short for the text, and one that is not
pub text_short : (w out : List ℕ) {n : ℕ} → n ≡ length w → length out < n → (record { refusal = 12; written = 0 }, out) ≡ text_call w out
unfolding text_call
text_short w out e h = rw (lt-ltb (length out) (length w) (omega arith))

pub text_whole : (w out : List ℕ) → length w ≤ length out → (record { refusal = 0; written = length w }, w ++ drop (length w) out) ≡ text_call w out
unfolding text_call
text_whole w out h = rw (le-ltb (length out) (length w) h)

take_taken : (m : ℕ) (xs : List ℕ) → take (length (take m xs)) xs ≡ take m xs
take_taken zero xs = refl
take_taken (suc m) [] = refl
take_taken (suc m) (x ∷ xs) = ap (λ (r : List ℕ). x ∷ r) (take_taken m xs)

-- the copy of a line's text
pub text_copied : (bytes out : List ℕ) (m : ℕ) {n : ℕ} {exit : List ℕ} → n ≡ length (take m bytes) → n ≤ length out
    → exit ≡ take (length out) (take n bytes) ++ drop (length (take n bytes)) out → (record { refusal = 0; written = n }, exit) ≡ text_call (take m bytes) out
text_copied bytes out m {n} e h f =
    rw (f, text, take_all (length out) (take m bytes) (omega arith), e) (text_whole (take m bytes) out (omega arith))
  where
    text : take n bytes ≡ take m bytes
    text = ap (λ (k : ℕ). take k bytes) e ∙ take_taken m bytes

pub put_whole : (w out : List ℕ) → length w ≤ length out → put_call w out ≡ (length w, w ++ drop (length w) out)
put_whole w out h = rw (take_all (length out) w h)

-- what `write` answers, where there is room, is what `put` does
pub put_answered : (w out : List ℕ) {r : TextAnswer} {exit : List ℕ} → length w ≤ length out → (r, exit) ≡ text_call w out → (r.written, exit) ≡ put_call w out
put_answered w out h e =
    let t = e ∙ sym (text_whole w out h) in
    ap (λ (x : TextAnswer × List ℕ). (x.0.written, x.1)) t ∙ sym (put_whole w out h)

-- ---- texts over an output, one after the other

over : (w out : List ℕ) {end : ℕ} {exit : List ℕ} → length w ≤ length out → end ≡ length w → exit ≡ w ++ drop (length w) out → Over w out end exit
over w out {end} {exit} h e f = record { ends = e; bytes = f; within = omega (arith, e, kept); kept = kept }
  where
    kept : length exit ≡ length out
    kept = ap length f ∙ simp (length-append, length-drop) (omega arith)

pub written_over : (w out : List ℕ) {r : TextAnswer} {exit : List ℕ} → length w ≤ length out → (r, exit) ≡ text_call w out → Over w out r.written exit
written_over w out h e =
    let t = e ∙ sym (text_whole w out h) in
    over w out h (ap (λ (x : TextAnswer × List ℕ). x.0.written) t) (ap (λ (x : TextAnswer × List ℕ). x.1) t)

pub over_none : (out : List ℕ) → Over [] out 0 out
over_none out = record { ends = refl; bytes = refl; within = zero-le; kept = refl }

-- a text over an output, as the call that writes it answers
pub over_answered : (w out : List ℕ) {end : ℕ} {exit : List ℕ} → Over w out end exit → (record { refusal = 0; written = end }, exit) ≡ text_call w out
unfolding text_call
over_answered w out p = rw (p.ends, p.bytes, le-ltb (length out) (length w) (omega (arith, p.ends, p.within, p.kept)))

-- w, put into the rest of the output after v, where the output's length goes by another name
pub over_next : (v w out₀ : List ℕ) {at n k : ℕ} {out exit : List ℕ} → length (v ++ w) ≤ length out₀ → Over v out₀ at out → k ≡ length out
    → (n, exit) ≡ put_call w (take (k - at) (drop at out)) → Over (v ++ w) out₀ (at + n) (put_mid at (k - at) out exit)
over_next v w out₀ {at} {n} {k} {out} {exit} h p l q =
    let rest = drop (length v) out₀ in
    let front : take at out ≡ v = ap₂ take p.ends p.bytes ∙ take_at v rest (length v) refl in
    let after : take (k - at) (drop at out) ≡ rest = rw l (lent_rest at out ∙ ap₂ drop p.ends p.bytes ∙ drop_at v rest (length v) refl) in
    let whole : take (length rest) w ≡ w = take_all (length rest) w (simp length-drop (omega (arith, h, length-append v w))) in
    let there : exit ≡ w ++ drop (length w) rest = rw (after, whole) at (ap (λ (x : ℕ × List ℕ). x.1) q) in
    over (v ++ w) out₀ h (ap₂ ◌+◌ p.ends (ap (λ (x : ℕ × List ℕ). x.0) q) ∙ sym (length-append v w))
    (rw (l, front, lent_none at out, append-nil, there, drop-drop, append_assoc, length-append))

-- ---- the lines g 0, g 1, .. one after the other

pub joined_most : (g : ℕ → List ℕ) → ((j : ℕ) → length (g j) ≤ room) → (n : ℕ) → length (joined n g) ≤ room * n
joined_most g h zero = omega arith
joined_most g h (suc n) = simp length-append (omega (arith, joined_most g h n, h n))

-- a turn of a loop that puts line i after those before it
pub lines_next : (g : ℕ → List ℕ) (i : ℕ) (out₀ : List ℕ) {at n k : ℕ} {line out exit : List ℕ} → line ≡ g i
    → length (joined (suc i) g) ≤ length out₀ → Over (joined i g) out₀ at out → k ≡ length out
    → (n, exit) ≡ put_call line (take (k - at) (drop at out)) → Over (joined (i + 1) g) out₀ (at + n) (put_mid at (k - at) out exit)
lines_next g i out₀ e h p l q = rw (add-one i) (over_next (joined i g) (g i) out₀ h p l (rw e at q))

-- the records of w bytes that a list was cut into, one by one
chunk_at : (w k : ℕ) (xs : List ℕ) (i : ℕ) (d : List ℕ) → w * k ≤ length xs → i < k → get_or (first_chunks w k xs) i d ≡ record_at w xs i
chunk_at w zero xs i d h l = absurd (omega arith)
chunk_at w (suc k) xs zero d h l = rw mul-zero (part_lent 0 w xs (omega (arith, h)))
chunk_at w (suc k) xs (suc i) d h l =
    let rest : length xs - w ≡ length (drop w xs) = sym (length-drop w xs) in
    let most : w * (i + 1) ≤ w * k = mul-le-mul_left w (omega arith) in
    chunk_at w k (drop w xs) i d (omega (arith, h, rest)) (omega arith)
    ∙ sym (part_lent (w * i) w (drop w xs) (omega (arith, h, rest, most)))
    ∙ ap (take w) (drop-drop (w * i) w xs ∙ ap (λ (n : ℕ). drop n xs) (omega arith))
    ∙ part_lent (w * suc i) w xs (omega (arith, h, most))

pub row_at : (w : ℕ) (xs : List ℕ) (i : ℕ) (d : List ℕ) {rows : List (List ℕ)} → rows ≡ first_chunks w (length xs / w) xs → i < length xs / w
    → get_or rows i d ≡ record_at w xs i
row_at w xs i d cut h = ap (λ (rows : List (List ℕ)). get_or rows i d) cut ∙ chunk_at w (length xs / w) xs i d (mul-div-le (length xs) w) h

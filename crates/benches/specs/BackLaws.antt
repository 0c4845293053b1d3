-- There and back: bytes in form, taken apart and written again, are the same bytes. So a slice of no steps leaves every byte as it is.
use Rattle.std.specs.Prelude.{◌≡◌, true, length, get_or, take, drop, replicate}
use Rattle.std.proofs.Math.Path.{refl, ap}
use Rattle.std.proofs.Common.{sym, ◌∙◌, length-drop, take-append-drop, drop-cons, drop-drop}
use Prim.Native.Nat.{ℕ, zero, suc, ◌+◌, ◌-◌, ◌*◌, ◌≤◌, ◌<◌}
use mathlib.Core.List.{List, [], ◌∷◌, ◌++◌, reverse, reverse-cons, append-nil, append_assoc}
use native.Mathlib.Omega.{arith}
use Rattle.std.proofs.lemmas.List.{length-reverse}
use Rattle.numbers.specs.Bytes.{u16_at, u32_at, u16_bytes, u32_bytes}
use Rattle.numbers.specs.BytesLaws.{u16_written, u32_written}
use Rattle.rules.specs.Sizes.{most_cells, head_size, part_size, bench_size}
use Rattle.rules.specs.Row.{Row}
use Rattle.rules.specs.Steps.{Bench}
use Rattle.rules.specs.Bench.{hand_byte, clumps_of, parts, bench_bytes, saved_opened, saved_hand, saved_clumps, saved_carried, saved_cells, saved_edge, clump_at, clumps_to, bench_of, all_zero, in_form}
use Rattle.benches.specs.Saved.{head_bytes}
use Rattle.benches.specs.ZeroLaws.{zeros_are}
use Rattle.benches.specs.MadeLaws.{clump_cells, clump_edge}
use Rattle.benches.specs.FormLaws.{Formed, formed, by_hand, bench_with, bench_without}
use Rattle.benches.specs.StoreLaws.{parts_snoc, bench_bytes_lem}

-- ---- what saved bytes stand for

pub clumps_count : (R : Row) (s : List ℕ) (k : ℕ) → length (clumps_to R s k) ≡ k
unfolding clumps_to
clumps_count R s zero = refl
clumps_count R s (suc k) = ap suc (clumps_count R s k)

module _ (R : Row) (s : List ℕ) (f : Formed R s) where
  pub bench_opened : (bench_of R s).opened ≡ saved_opened s
  bench_opened =
      by_hand R s f.hand_bit
      (λ e. ap (λ (b : Bench). b.opened) (bench_without R s e))
      (λ e. ap (λ (b : Bench). b.opened) (bench_with R s e (omega (arith, f.hand_clump))))

  pub bench_carried : (bench_of R s).carried ≡ saved_carried s
  bench_carried =
      by_hand R s f.hand_bit
      (λ e. ap (λ (b : Bench). b.carried) (bench_without R s e))
      (λ e. ap (λ (b : Bench). b.carried) (bench_with R s e (omega (arith, f.hand_clump))))

  pub bench_hand : hand_byte (bench_of R s).hand ≡ saved_hand s
  bench_hand =
      by_hand R s f.hand_bit
      (λ e. ap (λ (b : Bench). hand_byte b.hand) (bench_without R s e) ∙ sym e)
      (λ e. ap (λ (b : Bench). hand_byte b.hand) (bench_with R s e (omega (arith, f.hand_clump))) ∙ sym e)

  last_clump : (n : ℕ) → 1 ≤ n → reverse (clumps_to R s (n - 1)) ++ (clump_at R s (n - 1) ∷ []) ≡ reverse (clumps_to R s n)
  unfolding clumps_to
  last_clump zero h = absurd (omega arith)
  last_clump (suc n) h =
      let e : suc n - 1 ≡ n = omega arith in
      rw (e, reverse-cons)

  pub bench_clumps : clumps_of (bench_of R s) ≡ reverse (clumps_to R s (saved_clumps s))
  unfolding clumps_of
  bench_clumps =
      by_hand R s f.hand_bit
      (λ e. ap clumps_of (bench_without R s e) ∙ append-nil (reverse (clumps_to R s (saved_clumps s))))
      (λ e. ap clumps_of (bench_with R s e (omega (arith, f.hand_clump))) ∙ last_clump (saved_clumps s) (omega (arith, f.hand_clump)))

  pub bench_count : length (clumps_of (bench_of R s)) ≡ saved_clumps s
  bench_count = ap length bench_clumps ∙ length-reverse (clumps_to R s (saved_clumps s)) ∙ clumps_count R s (saved_clumps s)

-- ---- the bytes, piece by piece

module _ (s : List ℕ) (small : (i : ℕ) → get_or s i 0 < 256) where
  piece : (k n : ℕ) → take n (drop k s) ++ drop (k + n) s ≡ drop k s
  piece k n = rw (← drop-drop n k s) (take-append-drop n (drop k s))

  u16_piece : (k : ℕ) → k + 2 ≤ length s → u16_bytes (u16_at s k) ++ drop (k + 2) s ≡ drop k s
  u16_piece k h = ap (λ (l : List ℕ). l ++ drop (k + 2) s) (u16_written s k small h) ∙ piece k 2

  u32_piece : (k : ℕ) → k + 4 ≤ length s → u32_bytes (u32_at s k) ++ drop (k + 4) s ≡ drop k s
  u32_piece k h = ap (λ (l : List ℕ). l ++ drop (k + 4) s) (u32_written s k small h) ∙ piece k 4

  module _ (whole : length s ≡ bench_size) where
    head_piece : get_or s 0 0 ∷ get_or s 1 0 ∷ (u16_bytes (saved_opened s) ++ (saved_hand s ∷ (u16_bytes (saved_clumps s) ++ (u32_bytes (saved_carried s) ++ drop head_size s)))) ≡ s
    head_piece =
        ap (λ (l : List ℕ). get_or s 0 0 ∷ get_or s 1 0 ∷ (u16_bytes (saved_opened s) ++ (saved_hand s ∷ (u16_bytes (saved_clumps s) ++ l)))) (u32_piece 7 (omega arith))
        ∙ ap (λ (l : List ℕ). get_or s 0 0 ∷ get_or s 1 0 ∷ (u16_bytes (saved_opened s) ++ (saved_hand s ∷ l))) (u16_piece 5 (omega arith))
        ∙ ap (λ (l : List ℕ). get_or s 0 0 ∷ get_or s 1 0 ∷ (u16_bytes (saved_opened s) ++ l)) (sym (drop-cons s 4 0 (omega arith)))
        ∙ ap (λ (l : List ℕ). get_or s 0 0 ∷ get_or s 1 0 ∷ l) (u16_piece 2 (omega arith))
        ∙ ap (λ (l : List ℕ). get_or s 0 0 ∷ l) (sym (drop-cons s 1 0 (omega arith)))
        ∙ sym (drop-cons s 0 0 (omega arith))

    parts_piece :
        (R : Row) (k : ℕ) → k ≤ most_cells → ((j : ℕ) → j < k → 1 ≤ saved_cells s j) →
        parts (reverse (clumps_to R s k)) ++ drop (head_size + part_size * k) s ≡ drop head_size s
    unfolding clumps_to parts
    parts_piece R zero h all = refl
    parts_piece R (suc k) h all =
        let at = head_size + part_size * k in
        let next : head_size + part_size * suc k ≡ at + 2 + 4 = omega arith in
        let c = clump_at R s k in
        let before = parts (reverse (clumps_to R s k)) in
        rw (next, parts_snoc (clumps_to R s k) c, clump_cells R s k (all k (omega arith)), clump_edge R s k)
        (append_assoc before (u16_bytes (saved_cells s k) ++ u32_bytes (saved_edge s k)) (drop (at + 2 + 4) s)
        ∙ ap (λ (l : List ℕ). before ++ (u16_bytes (saved_cells s k) ++ l)) (u32_piece (at + 2) (omega arith))
        ∙ ap (λ (l : List ℕ). before ++ l) (u16_piece at (omega arith))
        ∙ parts_piece R k (omega arith) (λ j l. all j (omega arith)))

    -- past the clumps there are only zeros
    zeros_piece :
        (n : ℕ) → all_zero (drop (head_size + part_size * n) s) ≡ true → n ≤ most_cells →
        replicate (part_size * most_cells - part_size * n) 0 ≡ drop (head_size + part_size * n) s
    zeros_piece n z h =
        let long : length (drop (head_size + part_size * n) s) ≡ part_size * most_cells - part_size * n = omega (arith, length-drop (head_size + part_size * n) s) in
        sym (zeros_are (drop (head_size + part_size * n) s) z ∙ ap (λ (k : ℕ). replicate k 0) long)

    marked : (opened hand clumps carried : ℕ) (l : List ℕ) → get_or s 0 0 ≡ 0x42 → get_or s 1 0 ≡ 0x4e →
        head_bytes opened hand clumps carried ++ l ≡ get_or s 0 0 ∷ get_or s 1 0 ∷ (u16_bytes opened ++ (hand ∷ (u16_bytes clumps ++ (u32_bytes carried ++ l))))
    unfolding head_bytes
    marked opened hand clumps carried l b n = rw (b, n)

    written_again : (R : Row) → Formed R s → bench_bytes (bench_of R s) ≡ s
    unfolding head_bytes clumps_of parts
    written_again R f =
        let n = saved_clumps s in
        let head = head_bytes (saved_opened s) (saved_hand s) n (saved_carried s) in
        let clumps = parts (reverse (clumps_to R s n)) in
        bench_bytes_lem (bench_of R s)
        ∙ rw (bench_opened R s f, bench_hand R s f, bench_carried R s f, bench_count R s f, bench_clumps R s f)
        (append_assoc head clumps (replicate (part_size * most_cells - part_size * n) 0)
        ∙ ap (λ (l : List ℕ). head ++ (clumps ++ l)) (zeros_piece n f.zeros f.few)
        ∙ ap (λ (l : List ℕ). head ++ l) (parts_piece R n f.few f.have_cells)
        ∙ marked (saved_opened s) (saved_hand s) n (saved_carried s) (drop head_size s) f.mark_b f.mark_n
        ∙ head_piece)

-- what is read from bytes in form is written as those bytes
pub there_and_back : (R : Row) (s : List ℕ) → length s ≡ bench_size → ((i : ℕ) → get_or s i 0 < 256) → in_form R s ≡ true → bench_bytes (bench_of R s) ≡ s
there_and_back R s whole small h = written_again s small whole R (formed R s h)

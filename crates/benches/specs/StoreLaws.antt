-- The bytes of a bench: head, clumps, zeros; and what is left in the buffer by writing them one after the other.
use Rattle.std.specs.Prelude.{◌≡◌, Bool, true, false, cond, get_or, set, take, drop, replicate}
use Rattle.std.proofs.Math.Path.{refl}
use Rattle.std.proofs.Common.{sym, ap, ◌∙◌, add-one, take_at, drop-drop, take-suc}
use Prim.Native.Nat.{ℕ, zero, suc, ◌+◌, ◌-◌, ◌*◌, ◌≤◌, ◌<◌}
use mathlib.Core.List.{List, [], ◌∷◌, ◌++◌, reverse, reverse-cons, append_assoc, append-nil}
use native.Mathlib.Omega.{arith}
use Rattle.std.proofs.Math.Nat.{sub-zero, zero-sub, suc-sub-suc}
use Rattle.std.proofs.Math.ListN.{length, length-append}
use Rattle.std.proofs.Math.Seq.{drop-append-add, take-append-add, take-length}
use mir.Val.{bool_byte}
use Rattle.numbers.specs.Bytes.{u16_bytes, u32_bytes}
use Rattle.rules.specs.Sizes.{most_cells, head_size, part_size, bench_size}
use Rattle.rules.specs.Steps.{Clump, Bench}
use Rattle.rules.specs.Bench.{hand_byte, clumps_of, parts, padded, bench_bytes, fresh}
use Rattle.benches.specs.Saved.{head_bytes, parts_to, none, Written}

pub bool_byte_lem : (b : Bool) → bool_byte b ≡ cond b 1 0
bool_byte_lem true = refl
bool_byte_lem false = refl

pub drop_zeros : (k n : ℕ) → ◌≡◌ {A = List ℕ} (drop k (replicate n 0)) (replicate (n - k) 0)
drop_zeros zero n = rw sub-zero
drop_zeros (suc k) zero = rw zero-sub
drop_zeros (suc k) (suc n) = rw suc-sub-suc (drop_zeros k n)

-- a number written over a list from a place on
abbrev pub put16 : ℕ → ℕ → List ℕ → List ℕ
put16 at x l = take at l ++ (u16_bytes x ++ drop (at + 2) l)

abbrev pub put32 : ℕ → ℕ → List ℕ → List ℕ
put32 at x l = take at l ++ (u32_bytes x ++ drop (at + 4) l)

-- ---- the head

pub head_length : (opened hand clumps carried : ℕ) → length (head_bytes opened hand clumps carried) ≡ head_size
unfolding head_bytes
head_length opened hand clumps carried = refl

-- eleven bytes written over zeros
pub head_stored :
    (opened hand clumps carried : ℕ) →
    put32 7 carried (put16 5 clumps (set (put16 2 opened (set (set (replicate bench_size 0) 0 0x42) 1 0x4e)) 4 hand))
    ≡ head_bytes opened hand clumps carried ++ replicate (part_size * most_cells) 0
unfolding head_bytes
head_stored opened hand clumps carried = refl

-- ---- the clumps

pub parts_append : (cs ds : List Clump) → parts (cs ++ ds) ≡ parts cs ++ parts ds
unfolding parts
parts_append [] ds = refl
parts_append (c ∷ cs) ds = ap (λ (t : List ℕ). u16_bytes c.cells ++ (u32_bytes c.edge ++ t)) (parts_append cs ds)

-- the clump that is written last
pub parts_snoc : (cs : List Clump) (c : Clump) → parts (reverse (c ∷ cs)) ≡ parts (reverse cs) ++ (u16_bytes c.cells ++ u32_bytes c.edge)
unfolding parts
parts_snoc cs c = rw reverse-cons (parts_append (reverse cs) (c ∷ []))

pub parts_length : (cs : List Clump) → length (parts cs) ≡ part_size * length cs
unfolding parts
parts_length [] = refl
parts_length (c ∷ cs) = omega (arith, parts_length cs)

module _ (cells edges : List ℕ) where
  pub parts_to_length : (k : ℕ) → length (parts_to cells edges k) ≡ part_size * k
  unfolding parts_to
  parts_to_length zero = refl
  parts_to_length (suc k) = omega (arith, length-append (parts_to cells edges k) (u16_bytes (get_or cells k 0) ++ u32_bytes (get_or edges k 0)), parts_to_length k)

  pub parts_to_are :
      (cs : List Clump) (k : ℕ) → k ≤ length cs →
      ((i : ℕ) → i < k → get_or cells i 0 ≡ (get_or cs i none).cells) →
      ((i : ℕ) → i < k → get_or edges i 0 ≡ (get_or cs i none).edge) →
      parts_to cells edges k ≡ parts (take k cs)
  unfolding parts_to parts
  parts_to_are cs zero h c e = refl
  parts_to_are cs (suc k) h c e =
      rw (take-suc cs k none h, parts_append, parts_to_are cs k (omega arith) (λ i l. c i (omega arith)) (λ i l. e i (omega arith)), c k (omega arith), e k (omega arith))

-- a clump written over what stands after the clumps before it
module _ (p rest : List ℕ) (x y : ℕ) where
  cells_put : put16 (length p) x (p ++ rest) ≡ p ++ (u16_bytes x ++ drop 2 rest)
  cells_put = rw (take_at p rest (length p) refl, drop-append-add p rest 2)

  edge_put : put32 (length p + 2) y (p ++ (u16_bytes x ++ drop 2 rest)) ≡ (p ++ (u16_bytes x ++ u32_bytes y)) ++ drop 6 rest
  edge_put =
      let e : length p + 2 + 4 ≡ length p + 6 = omega arith in
      rw (e, take-append-add p (u16_bytes x ++ drop 2 rest) 2, drop-append-add p (u16_bytes x ++ drop 2 rest) 6, drop-drop 4 2 rest) (simp append_assoc)

  pub part_put : (at : ℕ) → length p ≡ at → put32 (at + 2) y (put16 at x (p ++ rest)) ≡ (p ++ (u16_bytes x ++ u32_bytes y)) ++ drop 6 rest
  part_put at h = rw (← h) (ap (λ (l : List ℕ). put32 (length p + 2) y l) cells_put ∙ edge_put)

-- after k clumps, written over what stands behind a head
unfoldable pub stored : List ℕ → List ℕ → List ℕ → List ℕ → ℕ → List ℕ
stored cells edges head tail k = (head ++ parts_to cells edges k) ++ drop (part_size * k) tail

module _ (cells edges head tail : List ℕ) where
  pub stored_none : stored cells edges head tail 0 ≡ head ++ tail
  unfolding stored parts_to
  stored_none = rw append-nil

  -- the numbers of one clump more are written
  pub stored_more :
      (k x y : ℕ) (before between after : List ℕ) → length head ≡ head_size → before ≡ stored cells edges head tail k →
      get_or cells k 0 ≡ x → get_or edges k 0 ≡ y →
      between ≡ put16 (head_size + part_size * k) x before → after ≡ put32 (head_size + part_size * k + 2) y between →
      after ≡ stored cells edges head tail (k + 1)
  unfolding stored parts_to
  stored_more k x y before between after h is x_is y_is first second =
      let front : length (head ++ parts_to cells edges k) ≡ head_size + part_size * k = omega (arith, length-append head (parts_to cells edges k), parts_to_length cells edges k) in
      let e : part_size * k + 6 ≡ part_size * (k + 1) = omega arith in
      second
      ∙ ap (λ (b : List ℕ). put32 (head_size + part_size * k + 2) y b) (first ∙ ap (λ (b : List ℕ). put16 (head_size + part_size * k) x b) is)
      ∙ part_put (head ++ parts_to cells edges k) (drop (part_size * k) tail) x y (head_size + part_size * k) front
      ∙ rw (drop-drop 6 (part_size * k) tail, e, add-one, x_is, y_is) (simp append_assoc)

-- ---- the bench

pub bench_bytes_lem :
    (b : Bench) →
    bench_bytes b ≡ (head_bytes b.opened (hand_byte b.hand) (length (clumps_of b)) b.carried ++ parts (clumps_of b)) ++ replicate (part_size * most_cells - part_size * length (clumps_of b)) 0
unfolding bench_bytes padded head_bytes
bench_bytes_lem b =
    let front = head_bytes b.opened (hand_byte b.hand) (length (clumps_of b)) b.carried ++ parts (clumps_of b) in
    let e : bench_size - length front ≡ part_size * most_cells - part_size * length (clumps_of b) = omega (arith, parts_length (clumps_of b)) in
    ap (λ (n : ℕ). front ++ replicate n 0) e

-- what is handed over is written
pub written :
    (opened : ℕ) (held : Bool) (clumps carried : ℕ) (cells edges : List ℕ) (b : Bench) →
    Written opened held clumps carried cells edges b →
    stored cells edges (head_bytes opened (cond held 1 0) clumps carried) (replicate (part_size * most_cells) 0) clumps ≡ bench_bytes b
unfolding stored
written opened held clumps carried cells edges b w =
    let whole : take clumps (clumps_of b) ≡ clumps_of b = rw w.clumps_is (take-length (clumps_of b)) in
    let parts_is : parts_to cells edges clumps ≡ parts (clumps_of b) =
    parts_to_are cells edges (clumps_of b) clumps (omega (arith, w.clumps_is)) w.cells_are w.edges_are ∙ ap parts whole in
    rw (parts_is, drop_zeros (part_size * clumps) (part_size * most_cells), w.opened_is, w.hand_is, w.carried_is, w.clumps_is) (sym (bench_bytes_lem b))

pub fresh_bytes : head_bytes 0 0 0 0 ++ replicate (part_size * most_cells) 0 ≡ bench_bytes fresh
unfolding bench_bytes padded head_bytes fresh clumps_of parts
fresh_bytes = refl
